-- Posts that wait, beside those under their keys.
use Rattle.std.proofs.Common.{◌≡◌, ◌≢◌, ℕ, zero, suc, ◌+◌, ◌<◌, ◌≤◌, ◌==◌, Bool, true, false, cond, List, [], ◌∷◌, ◌++◌, length, take, drop, get_or, Option, Some, None, Result, Ok, Err, refl, sym, ap, ◌∙◌, subst, ne_eqb, eqb-true, arith, length-drop}
use Rattle.std.specs.Prelude.{◌&&◌, IfOk, OnOk, OnErr, IfNone, slice_get, remove}
use Rattle.std.proofs.Math.Seq.{take-suc}
use Rattle.std.specs.Ordering.{match_ordering}
use Rattle.std.specs.declared.cmp.Ordering.{Ordering}
use Rattle.std.specs.declared.cmp.Ordering.TheVariants.{Less, Equal, Greater}
use Rattle.std.specs.List.{AllByRecursion}
use Rattle.std.specs.Map.{lookup, remove_entry}
use Rattle.std.specs.Option.{option_map_or, option_to_list}
use Rattle.atomic_table.specs.Seated.{TableId}
use Rattle.zs_posts.specs.declared.key.Key.{Key}
use Rattle.zs_posts.specs.declared.key.Name.{Name}
use Rattle.zs_posts.specs.Keys.{is_key, key_order}
use Rattle.zs_posts.specs.Passes.{LentSeen}
use Rattle.zs_posts.specs.Posts.{PostSeen, MapSeen, Rows, post_at, changed, raised, lowered_by, is_spent, spent_at}
use Rattle.zs_posts.specs.Lending.{fresh, with_post, without, lend, lend_all, returned, returned_all}
use Rattle.zs_posts.specs.Settled.{IsSettled, if_spent, without_spent, first_of, without_first}
use Rattle.zs_posts.proofs.Changes.{none_some, out, later, all_changed, all_put, all_without}
use Rattle.zs_posts.proofs.InTurn.{all_append}

module _ {K V : Type 0} (test : K → Bool) where
  pub length_without : (es : List (K × V)) (v : V) → Some v ≡ lookup test es → length (remove_entry test es) + 1 ≡ length es
  length_without [] v is = absurd (some_none is)
    where
      some_none : {v : V} → Some v ≡ None → ⊥
      some_none e = cc
  length_without (e ∷ es) v is = go (test e.0) refl (length_without es v)
    where
      go : (b : Bool) → test e.0 ≡ b → (Some v ≡ lookup test es → length (remove_entry test es) + 1 ≡ length es) → length (cond b es (e ∷ remove_entry test es)) + 1 ≡ length (e ∷ es)
      go true here rest = omega arith
      go false here rest = let shorter : length (remove_entry test es) + 1 ≡ length es = rest (later test e es (Some v) here is) in omega arith

  pub length_less : (es : List (K × V)) → length (remove_entry test es) ≤ length es
  length_less [] = omega arith
  length_less (e ∷ es) = go (test e.0) (length_less es)
    where
      go : (b : Bool) → length (remove_entry test es) ≤ length es → length (cond b es (e ∷ remove_entry test es)) ≤ length (e ∷ es)
      go true less = omega arith
      go false less = omega arith

and_false : (a : Bool) → a && false ≡ false
and_false true = refl
and_false false = refl

and_both : (a b : Bool) → a && b ≡ true → (a ≡ true) × (b ≡ true)
and_both true b both = (refl, both)
and_both false b both = absurd (false_true both)
  where
    false_true : false ≡ true → ⊥
    false_true e = cc

module _ {H : Type 0} where
  abbrev NotSpent : Key × PostSeen H → Type 0
  NotSpent e = is_spent e.1 ≡ false

  pub length_changed : (change : PostSeen H → PostSeen H) (key : Key) (rows : Rows H) → length (changed change key rows) ≡ length rows
  length_changed change key [] = refl
  length_changed change key (e ∷ rows) = go (is_key key e.0) (length_changed change key rows)
    where
      go : (b : Bool) → length (changed change key rows) ≡ length rows → length (cond b ((e.0, change e.1) ∷ rows) (e ∷ changed change key rows)) ≡ length (e ∷ rows)
      go true same = refl
      go false same = omega arith

  pub length_lent : (keys : List Key) (rows : Rows H) → length (lend_all keys rows) ≡ length rows
  length_lent [] rows = refl
  length_lent (key ∷ keys) rows = length_lent keys (lend key rows) ∙ length_changed raised key rows

  pub length_returned : (lents : List LentSeen) (rows : Rows H) → length (returned_all lents rows) ≡ length rows
  length_returned [] rows = refl
  length_returned (lent ∷ lents) rows = length_changed (lowered_by lent) lent.key (returned_all lents rows) ∙ length_returned lents rows

  pub length_put : (key : Key) (p : PostSeen H) (rows : Rows H) → length (with_post key p rows) ≤ length rows + 1
  length_put key p [] = omega arith
  length_put key p (e ∷ rows) = go (key_order key e.0) (length_put key p rows)
    where
      go : (o : Ordering) → length (with_post key p rows) ≤ length rows + 1 → length (match_ordering o ((key, p) ∷ e ∷ rows) ((e.0, p) ∷ rows) (e ∷ with_post key p rows)) ≤ length (e ∷ rows) + 1
      go Less more = omega arith
      go Equal more = omega arith
      go Greater more = omega arith

  all_spent : (o : Option (PostSeen H)) → AllByRecursion (λ p. is_spent p ≡ true) (if_spent o)
  all_spent None = tt
  all_spent (Some p) = go (is_spent p) refl
    where
      go : (b : Bool) → is_spent p ≡ b → AllByRecursion (λ q. is_spent q ≡ true) (cond b (p ∷ []) [])
      go true is = (is, tt)
      go false is = tt

  -- where the post of one key has changed alone
  settled_rows : (change : PostSeen H → PostSeen H) (key : Key) (rows : Rows H) → AllByRecursion NotSpent rows → AllByRecursion NotSpent (without_spent key (changed change key rows))
  settled_rows change key [] all = tt
  settled_rows change key (e ∷ rows) all = go (is_key key e.0) refl (settled_rows change key rows all.1)
    where
      here : (b : Bool) → is_spent (change e.1) ≡ b → AllByRecursion NotSpent (cond b rows ((e.0, change e.1) ∷ rows))
      here true is = all.1
      here false is = (is, all.1)

      behind : (b : Bool) → AllByRecursion NotSpent (cond b (without key (changed change key rows)) (changed change key rows)) → AllByRecursion NotSpent (cond b (e ∷ without key (changed change key rows)) (e ∷ changed change key rows))
      behind true rest = (all.0, rest)
      behind false rest = (all.0, rest)

      changed_at : Bool → Rows H
      changed_at b = cond b ((e.0, change e.1) ∷ rows) (e ∷ changed change key rows)

      go : (b : Bool) → is_key key e.0 ≡ b → AllByRecursion NotSpent (without_spent key (changed change key rows)) → AllByRecursion NotSpent (without_spent key (cond b ((e.0, change e.1) ∷ rows) (e ∷ changed change key rows)))
      go true is rest =
          let one = here (is_spent (change e.1)) refl in
          subst (λ (b : Bool). AllByRecursion NotSpent (cond (option_map_or is_spent (cond b (Some (change e.1)) (post_at key rows)) false) (cond b rows ((e.0, change e.1) ∷ without key rows)) ((e.0, change e.1) ∷ rows))) (sym is) one
      go false is rest =
          let more = changed change key rows in
          subst (λ (b : Bool). AllByRecursion NotSpent (cond (option_map_or is_spent (cond b (Some e.1) (post_at key more)) false) (cond b more (e ∷ without key more)) (e ∷ more))) (sym is) (behind (spent_at key more) rest)

  pub settles : (change : PostSeen H → PostSeen H) (key : Key) (rows : Rows H) (ready : List (PostSeen H)) → IsSettled rows ready
      → IsSettled (without_spent key (changed change key rows)) (ready ++ if_spent (post_at key (changed change key rows)))
  settles change key rows ready is = record {
    no_other = settled_rows change key rows is.no_other;
    each = all_append (λ p. is_spent p ≡ true) ready (if_spent (post_at key (changed change key rows))) is.each (all_spent (post_at key (changed change key rows)));
  }

  -- a pass more leaves no post spent
  raised_not : (p : PostSeen H) → is_spent p ≡ false → is_spent (raised p) ≡ false
  raised_not p is = let some_out : p.out + 1 ≢ 0 = omega arith in ap (λ b. p.ended && b) (ne_eqb (p.out + 1) 0 some_out) ∙ and_false p.ended

  pub lent_not : (keys : List Key) (rows : Rows H) → AllByRecursion NotSpent rows → AllByRecursion NotSpent (lend_all keys rows)
  lent_not [] rows all = all
  lent_not (key ∷ keys) rows all = lent_not keys (lend key rows) (all_changed (λ p. is_spent p ≡ false) raised key rows raised_not all)

  pub opened_not : (key : Key) (name : Name) (handler : Option H) (gate room : TableId) (number : ℕ) (rows : Rows H) → AllByRecursion NotSpent rows → AllByRecursion NotSpent (with_post key (fresh name handler gate room number) rows)
  opened_not key name handler gate room number rows all = all_put (λ p. is_spent p ≡ false) key (fresh name handler gate room number) rows refl all

  pub without_not : (key : Key) (rows : Rows H) → AllByRecursion NotSpent rows → AllByRecursion NotSpent (without key rows)
  without_not key rows all = all_without (is_key key) NotSpent rows all

  pub all_without_first : (key : Key) (ready : List (PostSeen H)) → AllByRecursion (λ p. is_spent p ≡ true) ready → AllByRecursion (λ p. is_spent p ≡ true) (without_first key ready)
  all_without_first key [] all = all
  all_without_first key (p ∷ ps) all = go (is_key key p.name.key) (all_without_first key ps all.1)
    where
      go : (b : Bool) → AllByRecursion (λ q. is_spent q ≡ true) (without_first key ps) → AllByRecursion (λ q. is_spent q ≡ true) (cond b ps (p ∷ without_first key ps))
      go true rest = all.1
      go false rest = (all.0, rest)

  pub spent_is : (p : PostSeen H) → is_spent p ≡ true → (p.ended ≡ true) × (p.out ≡ 0)
  spent_is p is = let both = and_both p.ended (p.out == 0) is in (both.0, eqb-true p.out 0 both.1)

  -- the posts after the post of one key has changed
  pub settled_now : (change : PostSeen H → PostSeen H) (key : Key) (rows mid now : Rows H) (ready items : List (PostSeen H)) → IsSettled rows ready → mid ≡ changed change key rows
      → now ≡ without_spent key mid → items ≡ ready ++ if_spent (post_at key mid) → IsSettled now items
  settled_now change key rows mid now ready items is changes left came =
      let s = settles change key rows ready is in
      record {
        no_other = subst (AllByRecursion NotSpent) (sym (left ∙ ap (without_spent key) changes)) s.no_other;
        each = subst (AllByRecursion (λ p. is_spent p ≡ true)) (sym (came ∙ ap (λ rs. ready ++ if_spent (post_at key rs)) changes)) s.each;
      }

  -- after a turn was lent its passes, or nothing was
  pub after_turn : {A E : Type 0} (result : Result A E) (keys : List Key) (old new : MapSeen H) (ready : List (PostSeen H)) → IfOk result (λ _. new.rows ≡ lend_all keys old.rows) → OnErr result (new ≡ old)
      → IsSettled old.rows ready → (length new.rows ≡ length old.rows) × IsSettled new.rows ready
  after_turn (Ok a) keys old new ready lent none is =
      (ap length lent ∙ length_lent keys old.rows, record { no_other = subst (AllByRecursion NotSpent) (sym lent) (lent_not keys old.rows is.no_other); each = is.each })
  after_turn (Err e) keys old new ready lent none is =
      (ap (λ m. length m.rows) none, subst (λ (m : MapSeen H). IsSettled m.rows ready) (sym none) is)

  -- after a post was opened, or none was
  pub after_opening : {A E : Type 0} (result : Result A E) (name : Name) (handler : Option H) (old new : MapSeen H) (ready : List (PostSeen H))
      → OnOk result ((gate : TableId) × (number : ℕ) × (new ≡ record { room = old.room; rows = with_post name.key (fresh name handler gate old.room number) old.rows })) → OnErr result (new ≡ old)
      → IsSettled old.rows ready → (length new.rows ≤ length old.rows + 1) × IsSettled new.rows ready
  after_opening (Ok a) name handler old new ready opened none is =
      let p = fresh name handler opened.0 old.room opened.1 in
      let rows = ap (λ m. m.rows) opened.2 in
      (subst (λ rs. length rs ≤ length old.rows + 1) (sym rows) (length_put name.key p old.rows), record { no_other = subst (AllByRecursion NotSpent) (sym rows) (opened_not name.key name handler opened.0 old.room opened.1 old.rows is.no_other); each = is.each })
  after_opening (Err e) name handler old new ready opened none is =
      let same = ap (λ m. length m.rows) none in (omega (arith, same), subst (λ (m : MapSeen H). IsSettled m.rows ready) (sym none) is)

-- a queue that gives nothing out is empty
pub none_waits : {A : Type 0} (result : Option A) (old new : List A) → old ≡ option_to_list result ++ new → new ≡ drop 1 old → IfNone result (old ≡ [])
none_waits (Some a) old new items rest = tt
none_waits None old new items rest = shorter old (items ∙ rest)
  where
    shorter : {A : Type 0} (xs : List A) → xs ≡ drop 1 xs → xs ≡ []
    shorter [] e = refl
    shorter (x ∷ xs) e = absurd (omega (arith, ap length e, length-drop 1 (x ∷ xs)))

pub none_beside : {A : Type 0} (P Q : Type 0) (result : Option A) → P → IfNone result Q → IfNone result (P × Q)
none_beside P Q (Some a) p q = tt
none_beside P Q None p q = (p, q)

module _ {H : Type 0} (key : Key) where
  abbrev pub IsOther : PostSeen H → Type 0
  IsOther p = is_key key p.name.key ≡ false

  at_place : (ready : List (PostSeen H)) (i : ℕ) (p : PostSeen H) → i < length ready → p ≡ get_or ready i p → slice_get ready i ≡ Some p
  at_place [] i p within is = absurd (omega arith)
  at_place (q ∷ ready) zero p within is = ap Some (sym is)
  at_place (q ∷ ready) (suc i) p within is = at_place ready i p (omega arith) is

  first_at : (ready : List (PostSeen H)) (i : ℕ) (p : PostSeen H) → AllByRecursion IsOther (take i ready) → slice_get ready i ≡ Some p → is_key key p.name.key ≡ true
      → (first_of key ready ≡ slice_get ready i) × (without_first key ready ≡ take i ready ++ drop (suc i) ready)
  first_at [] i p before is here = absurd (none_some is)
  first_at (q ∷ ready) zero p before is here =
      let its : is_key key q.name.key ≡ true = subst (λ (x : PostSeen H). is_key key x.name.key ≡ true) (sym (out is)) here in
      (ap (λ b. cond b (Some q) (first_of key ready)) its, ap (λ b. cond b ready (q ∷ without_first key ready)) its)
  first_at (q ∷ ready) (suc i) p before is here =
      let rest = first_at ready i p before.1 is here in
      (ap (λ b. cond b (Some q) (first_of key ready)) before.0 ∙ rest.0, ap (λ b. cond b ready (q ∷ without_first key ready)) before.0 ∙ ap (λ more. q ∷ more) rest.1)

  pub found_at : (ready : List (PostSeen H)) (i : ℕ) (p : PostSeen H) → AllByRecursion IsOther (take i ready) → i < length ready → p ≡ get_or ready i p → is_key key p.name.key ≡ true
      → (first_of key ready ≡ slice_get ready i) × (without_first key ready ≡ remove ready i)
  found_at ready i p before within is here = first_at ready i p before (at_place ready i p within is) here

  pub one_more : (ready : List (PostSeen H)) (i : ℕ) (p : PostSeen H) → AllByRecursion IsOther (take i ready) → i < length ready → p ≡ get_or ready i p → is_key key p.name.key ≡ false → AllByRecursion IsOther (take (i + 1) ready)
  one_more ready i p before within is other =
      let next : suc i ≡ i + 1 = omega arith in
      subst (λ n. AllByRecursion IsOther (take n ready)) next
      (subst (AllByRecursion IsOther) (sym (take-suc ready i p within)) (all_append IsOther (take i ready) (get_or ready i p ∷ []) before (subst (λ (x : PostSeen H). is_key key x.name.key ≡ false) is other, tt)))

  pub none_found : (ready : List (PostSeen H)) (n : ℕ) → length ready ≤ n → AllByRecursion IsOther (take n ready) → first_of key ready ≡ None
  none_found [] n all others = refl
  none_found (p ∷ ready) zero all others = absurd (omega arith)
  none_found (p ∷ ready) (suc n) all others = ap (λ b. cond b (Some p) (first_of key ready)) others.0 ∙ none_found ready n (omega arith) others.1

  pub none_left : (ready : List (PostSeen H)) → first_of key ready ≡ None → without_first key ready ≡ ready
  none_left [] none = refl
  none_left (p ∷ ready) none = go (is_key key p.name.key) refl (none_left ready)
    where
      go : (b : Bool) → is_key key p.name.key ≡ b → (first_of key ready ≡ None → without_first key ready ≡ ready) → cond b ready (p ∷ without_first key ready) ≡ p ∷ ready
      go true is rest = absurd (none_some (sym none ∙ ap (λ (b : Bool). cond b (Some p) (first_of key ready)) is))
      go false is rest = ap (λ more. p ∷ more) (rest (sym (ap (λ (b : Bool). cond b (Some p) (first_of key ready)) is) ∙ none))
