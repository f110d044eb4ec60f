-- Lists of posts after one was written, put in or taken out.
use Rattle.std.proofs.Common.{◌≡◌, ◌≢◌, ℕ, ◌+◌, ◌-◌, ◌<◌, ◌==◌, Bool, true, false, cond, List, [], ◌∷◌, ◌++◌, Option, Some, None, Result, Err, refl, sym, ap, ◌∙◌, subst, eq-eqb, ne_eqb, arith}
use Rattle.std.specs.Prelude.{◌||◌}
use Rattle.std.specs.Ordering.{match_ordering}
use Rattle.std.specs.declared.cmp.Ordering.{Ordering}
use Rattle.std.specs.declared.cmp.Ordering.TheVariants.{Less, Equal, Greater}
use Rattle.std.specs.List.{AllByRecursion}
use Rattle.std.specs.Map.{lookup, set_value, remove_entry}
use Rattle.atomic_table.specs.Seated.{TableId}
use Rattle.zs_posts.specs.declared.key.Key.{Key}
use Rattle.zs_posts.specs.Keys.{is_key, key_order}
use Rattle.zs_posts.specs.Passes.{LentSeen}
use Rattle.zs_posts.specs.Posts.{PostSeen, MapSeen, Rows, post_at, changed, raised, lowered, lowered_by}
use Rattle.zs_posts.specs.Lending.{lent_of, lents_for, lend, returned, with_post, is_full, is_overdrawn, IsLent}

module _ {V : Type 0} where
  pub none_some : {v : V} → None ≡ Some v → ⊥
  none_some e = cc

  pub out : {v w : V} → Some v ≡ Some w → v ≡ w
  out e = cc

pub why_out : {A E : Type 0} {why reason : E} → ◌≡◌ {A = Result A E} (Err why) (Err reason) → why ≡ reason
why_out e = cc

module _ {K V : Type 0} (test : K → Bool) where
  -- a value that is found at the first entry, and behind it
  first : (e : K × V) (es : List (K × V)) (v : V) → test e.0 ≡ true → Some v ≡ lookup test (e ∷ es) → v ≡ e.1
  first e es v here is = out (is ∙ ap (λ (b : Bool). cond b (Some e.1) (lookup test es)) here)

  pub later : (e : K × V) (es : List (K × V)) (o : Option V) → test e.0 ≡ false → o ≡ lookup test (e ∷ es) → o ≡ lookup test es
  later e es o here is = is ∙ ap (λ (b : Bool). cond b (Some e.1) (lookup test es)) here

  pub absent : (e : K × V) (es : List (K × V)) → test e.0 ≡ true → None ≡ lookup test (e ∷ es) → ⊥
  absent e es here is = none_some (is ∙ ap (λ (b : Bool). cond b (Some e.1) (lookup test es)) here)

  -- what holds of all entries
  pub all_set : (P : V → Type 0) (es : List (K × V)) (w : V) → P w → AllByRecursion (λ e. P e.1) es → AllByRecursion (λ e. P e.1) (set_value test es w)
  all_set P [] w new all = all
  all_set P (e ∷ es) w new all = go (test e.0) (all_set P es w new all.1)
    where
      go : (b : Bool) → AllByRecursion (λ e. P e.1) (set_value test es w) → AllByRecursion (λ e. P e.1) (cond b ((e.0, w) ∷ es) (e ∷ set_value test es w))
      go true rest = (new, all.1)
      go false rest = (all.0, rest)

  pub all_without : (P : K × V → Type 0) (es : List (K × V)) → AllByRecursion P es → AllByRecursion P (remove_entry test es)
  all_without P [] all = all
  all_without P (e ∷ es) all = go (test e.0) (all_without P es all.1)
    where
      go : (b : Bool) → AllByRecursion P (remove_entry test es) → AllByRecursion P (cond b es (e ∷ remove_entry test es))
      go true rest = all.1
      go false rest = (all.0, rest)

  pub all_found : (P : V → Type 0) (es : List (K × V)) (v : V) → AllByRecursion (λ e. P e.1) es → Some v ≡ lookup test es → P v
  all_found P [] v all is = absurd (none_some (sym is))
  all_found P (e ∷ es) v all is = go (test e.0) refl (all_found P es v all.1)
    where
      go : (b : Bool) → test e.0 ≡ b → (Some v ≡ lookup test es → P v) → P v
      go true here rest = subst P (sym (first e es v here is)) all.0
      go false here rest = rest (later e es (Some v) here is)

module _ {H : Type 0} where
  -- a post that is written over another one, which it is but for a change
  pub written : (change : PostSeen H → PostSeen H) (key : Key) (p new : PostSeen H) (rows : Rows H) → Some p ≡ post_at key rows → new ≡ change p → set_value (is_key key) rows new ≡ changed change key rows
  written change key p new [] found is = refl
  written change key p new (e ∷ rows) found is = go (is_key key e.0) refl (written change key p new rows)
    where
      go : (b : Bool) → is_key key e.0 ≡ b → (Some p ≡ post_at key rows → new ≡ change p → set_value (is_key key) rows new ≡ changed change key rows)
          → cond b ((e.0, new) ∷ rows) (e ∷ set_value (is_key key) rows new) ≡ cond b ((e.0, change e.1) ∷ rows) (e ∷ changed change key rows)
      go true here rest = ap (λ (q : PostSeen H). (e.0, q) ∷ rows) (is ∙ ap change (first (is_key key) e rows p here found))
      go false here rest = ap (λ more. e ∷ more) (rest (later (is_key key) e rows (Some p) here found) is)

  -- a change that leaves the post of the key as it is, if there is one
  pub unchanged : (change : PostSeen H → PostSeen H) (key : Key) (rows : Rows H) → ((p : PostSeen H) → Some p ≡ post_at key rows → change p ≡ p) → changed change key rows ≡ rows
  unchanged change key [] same = refl
  unchanged change key (e ∷ rows) same = go (is_key key e.0) refl (unchanged change key rows)
    where
      go : (b : Bool) → is_key key e.0 ≡ b → (((p : PostSeen H) → Some p ≡ post_at key rows → change p ≡ p) → changed change key rows ≡ rows)
          → cond b ((e.0, change e.1) ∷ rows) (e ∷ changed change key rows) ≡ e ∷ rows
      go true here rest = ap (λ (q : PostSeen H). (e.0, q) ∷ rows) (same e.1 (sym (ap (λ (b : Bool). cond b (Some e.1) (post_at key rows)) here)))
      go false here rest = ap (λ more. e ∷ more) (rest (λ p is. same p (is ∙ sym (ap (λ (b : Bool). cond b (Some e.1) (post_at key rows)) here))))

  pub unchanged_none : (change : PostSeen H → PostSeen H) (key : Key) (rows : Rows H) → None ≡ post_at key rows → changed change key rows ≡ rows
  unchanged_none change key rows none = unchanged change key rows (λ p is. absurd (none_some (none ∙ sym is)))

  pub unwritten : (key : Key) (p new : PostSeen H) (rows : Rows H) → Some p ≡ post_at key rows → new ≡ p → set_value (is_key key) rows new ≡ rows
  unwritten key p new rows found is =
      written (λ q. q) key p new rows found is ∙ unchanged (λ q. q) key rows (λ q at. refl)

  -- one change after another
  pub changed_twice : (change then : PostSeen H → PostSeen H) (key : Key) (rows : Rows H) → changed then key (changed change key rows) ≡ changed (λ p. then (change p)) key rows
  changed_twice change then key [] = refl
  changed_twice change then key (e ∷ rows) = go (is_key key e.0) refl (changed_twice change then key rows)
    where
      go : (b : Bool) → is_key key e.0 ≡ b → changed then key (changed change key rows) ≡ changed (λ p. then (change p)) key rows
          → changed then key (cond b ((e.0, change e.1) ∷ rows) (e ∷ changed change key rows)) ≡ cond b ((e.0, then (change e.1)) ∷ rows) (e ∷ changed (λ p. then (change p)) key rows)
      go true here rest = ap (λ (b : Bool). cond b ((e.0, then (change e.1)) ∷ rows) ((e.0, change e.1) ∷ changed then key rows)) here
      go false here rest = ap (λ (b : Bool). cond b ((e.0, then e.1) ∷ changed change key rows) (e ∷ changed then key (changed change key rows))) here ∙ ap (λ more. e ∷ more) rest

  -- what holds of each post still holds where the change keeps it
  pub all_changed : (P : PostSeen H → Type 0) (change : PostSeen H → PostSeen H) (key : Key) (rows : Rows H) → ((p : PostSeen H) → P p → P (change p)) → AllByRecursion (λ e. P e.1) rows → AllByRecursion (λ e. P e.1) (changed change key rows)
  all_changed P change key [] keeps all = all
  all_changed P change key (e ∷ rows) keeps all = go (is_key key e.0) (all_changed P change key rows keeps all.1)
    where
      go : (b : Bool) → AllByRecursion (λ e. P e.1) (changed change key rows) → AllByRecursion (λ e. P e.1) (cond b ((e.0, change e.1) ∷ rows) (e ∷ changed change key rows))
      go true rest = (keeps e.1 all.0, all.1)
      go false rest = (all.0, rest)

  -- the post of a pass has it back
  back_again : (key : Key) (p : PostSeen H) → lowered_by (lent_of key p) (raised p) ≡ p
  back_again key p =
      ap (λ (b : Bool). cond b (lowered (raised p)) (raised p)) (eq-eqb p.number p.number refl) ∙ ap (λ (n : ℕ). record p { out = n }) (let e : p.out + 1 - 1 ≡ p.out = omega arith in e)

  pub lent_back : (key : Key) (p : PostSeen H) (rows : Rows H) → Some p ≡ post_at key rows → returned (lent_of key p) (lend key rows) ≡ rows
  lent_back key p rows found =
      changed_twice raised (lowered_by (lent_of key p)) key rows
      ∙ unchanged (λ q. lowered_by (lent_of key p) (raised q)) key rows (λ q is. let same : q ≡ p = out (is ∙ sym found) in subst (λ (x : PostSeen H). lowered_by (lent_of key p) (raised x) ≡ x) (sym same) (back_again key p))

  abbrev pub map_seen : TableId → Rows H → MapSeen H
  map_seen room rows = record { room = room; rows = rows }

  -- a map whose rows have changed
  pub seen_changed : (room : TableId) (rows now : Rows H) (seen : MapSeen H) (change : Rows H → Rows H) → map_seen room rows ≡ seen → now ≡ change rows → map_seen room now ≡ map_seen seen.room (change seen.rows)
  seen_changed room rows now seen change is changes =
      ap (map_seen room) changes ∙ ap (λ (m : MapSeen H). map_seen m.room (change m.rows)) is

  pub seen_changed_in : (room : TableId) (rows now : Rows H) (seen : MapSeen H) (change : TableId → Rows H → Rows H) → map_seen room rows ≡ seen → now ≡ change room rows → map_seen room now ≡ map_seen seen.room (change seen.room seen.rows)
  seen_changed_in room rows now seen change is changes =
      ap (map_seen room) changes ∙ ap (λ (m : MapSeen H). map_seen m.room (change m.room m.rows)) is

  -- what one key lends
  pub none_lent : (room : TableId) (key : Key) (rows now : Rows H) → None ≡ post_at key rows → now ≡ rows → IsLent room (key ∷ []) rows [] now
  none_lent room key rows now none same = record {
    lents_are = ap (λ (o : Option (PostSeen H)). lents_for key o ++ []) none;
    rows_are = same ∙ sym (unchanged_none raised key rows none);
    fits = sym (ap (λ (o : Option (PostSeen H)). is_full o || false) none);
    of_room = tt;
  }

  pub one_lent : (room : TableId) (key : Key) (rows now : Rows H) (p : PostSeen H) (lent : LentSeen) → Some p ≡ post_at key rows → p.room ≡ room → lent ≡ lent_of key p → p.out < 4294967295 → now ≡ lend key rows → IsLent room (key ∷ []) rows (lent ∷ []) now
  one_lent room key rows now p lent found of its below is = record {
    lents_are = ap (λ (l : LentSeen). l ∷ []) its ∙ ap (λ (o : Option (PostSeen H)). lents_for key o ++ []) found;
    rows_are = is;
    fits = sym (ap (λ (o : Option (PostSeen H)). is_full o || false) found) ∙ ap (λ b. b || false) (let apart : p.out ≢ 4294967295 = omega arith in ne_eqb p.out 4294967295 apart);
    of_room = (ap (λ (l : LentSeen). l.room) its ∙ of, tt);
  }

  pub full_drawn : (key : Key) (rows : Rows H) (p : PostSeen H) → Some p ≡ post_at key rows → p.out ≡ 4294967295 → is_overdrawn (key ∷ []) rows ≡ true
  full_drawn key rows p found full = sym (ap (λ (o : Option (PostSeen H)). is_full o || false) found) ∙ ap (λ b. b || false) (eq-eqb p.out 4294967295 full)

  -- a post that gets a pass back stays in its room
  pub kept_room : (lent : LentSeen) (p : PostSeen H) → (lowered_by lent p).room ≡ p.room
  kept_room lent p = go (p.number == lent.number)
    where
      go : (b : Bool) → (cond b (lowered p) p).room ≡ p.room
      go true = refl
      go false = refl

  -- a post that is put in
  pub all_put : (P : PostSeen H → Type 0) (key : Key) (p : PostSeen H) (rows : Rows H) → P p → AllByRecursion (λ e. P e.1) rows → AllByRecursion (λ e. P e.1) (with_post key p rows)
  all_put P key p [] new all = (new, tt)
  all_put P key p (e ∷ rows) new all = go (key_order key e.0) (all_put P key p rows new all.1)
    where
      go : (o : Ordering) → AllByRecursion (λ e. P e.1) (with_post key p rows) → AllByRecursion (λ e. P e.1) (match_ordering o ((key, p) ∷ e ∷ rows) ((e.0, p) ∷ rows) (e ∷ with_post key p rows))
      go Less rest = (new, all)
      go Equal rest = (new, all.1)
      go Greater rest = (all.0, rest)
