-- Lending under one list of keys and then another, and taking all back.
use Rattle.std.proofs.Common.{◌≡◌, Bool, true, false, List, [], ◌∷◌, ◌++◌, Option, Some, None, refl, sym, ap, ◌∙◌, subst, append_assoc}
use Rattle.std.specs.Prelude.{◌||◌}
use Rattle.std.specs.List.{AllByRecursion}
use Rattle.atomic_table.specs.Seated.{TableId}
use Rattle.zs_posts.specs.declared.key.Key.{Key}
use Rattle.zs_posts.specs.Passes.{LentSeen}
use Rattle.zs_posts.specs.Posts.{PostSeen, MapSeen, Rows, post_at, raised}
use Rattle.zs_posts.specs.Lending.{lents_for, lend, lend_all, lents_of, is_full, is_overdrawn, returned, returned_all, IsLent}
use Rattle.zs_posts.proofs.Changes.{unchanged_none, lent_back, map_seen}

or_assoc : (a b c : Bool) → a || (b || c) ≡ (a || b) || c
or_assoc true b c = refl
or_assoc false b c = refl

pub all_append : {A : Type 0} (P : A → Type 0) (xs ys : List A) → AllByRecursion P xs → AllByRecursion P ys → AllByRecursion P (xs ++ ys)
all_append P [] ys all more = more
all_append P (x ∷ xs) ys all more = (all.0, all_append P xs ys all.1 more)

pub all_parts : {A : Type 0} (P : A → Type 0) (xs ys : List A) → AllByRecursion P (xs ++ ys) → AllByRecursion P xs × AllByRecursion P ys
all_parts P [] ys all = (tt, all)
all_parts P (x ∷ xs) ys all = let more = all_parts P xs ys all.1 in ((all.0, more.0), more.1)

module _ {H : Type 0} where
  pub lend_append : (keys more : List Key) (rows : Rows H) → lend_all (keys ++ more) rows ≡ lend_all more (lend_all keys rows)
  lend_append [] more rows = refl
  lend_append (key ∷ keys) more rows = lend_append keys more (lend key rows)

  pub lents_append : (keys more : List Key) (rows : Rows H) → lents_of (keys ++ more) rows ≡ lents_of keys rows ++ lents_of more (lend_all keys rows)
  lents_append [] more rows = refl
  lents_append (key ∷ keys) more rows =
      ap (λ rest. lents_for key (post_at key rows) ++ rest) (lents_append keys more (lend key rows))
      ∙ sym (append_assoc (lents_for key (post_at key rows)) (lents_of keys (lend key rows)) (lents_of more (lend_all keys (lend key rows))))

  pub drawn_append : (keys more : List Key) (rows : Rows H) → is_overdrawn (keys ++ more) rows ≡ is_overdrawn keys rows || is_overdrawn more (lend_all keys rows)
  drawn_append [] more rows = refl
  drawn_append (key ∷ keys) more rows =
      ap (λ b. is_full (post_at key rows) || b) (drawn_append keys more (lend key rows))
      ∙ or_assoc (is_full (post_at key rows)) (is_overdrawn keys (lend key rows)) (is_overdrawn more (lend_all keys (lend key rows)))

  pub returned_append : (lents more : List LentSeen) (rows : Rows H) → returned_all (lents ++ more) rows ≡ returned_all lents (returned_all more rows)
  returned_append [] more rows = refl
  returned_append (lent ∷ lents) more rows = ap (returned lent) (returned_append lents more rows)

  one_back : (key : Key) (rows : Rows H) → returned_all (lents_for key (post_at key rows)) (lend key rows) ≡ rows
  one_back key rows = go (post_at key rows) refl
    where
      go : (o : Option (PostSeen H)) → post_at key rows ≡ o → returned_all (lents_for key o) (lend key rows) ≡ rows
      go None is = unchanged_none raised key rows (sym is)
      go (Some p) is = lent_back key p rows (sym is)

  back_all : (keys : List Key) (rows : Rows H) → returned_all (lents_of keys rows) (lend_all keys rows) ≡ rows
  back_all [] rows = refl
  back_all (key ∷ keys) rows =
      returned_append (lents_for key (post_at key rows)) (lents_of keys (lend key rows)) (lend_all keys (lend key rows))
      ∙ (ap (returned_all (lents_for key (post_at key rows))) (back_all keys (lend key rows)) ∙ one_back key rows)

  module _ {room : TableId} {keys : List Key} {old mid : Rows H} {lents : List LentSeen} (before : IsLent room keys old lents mid) where
    -- what was lent and comes back leaves the rows as they were
    pub undone : returned_all lents mid ≡ old
    undone = ap (λ ls. returned_all ls mid) before.lents_are ∙ (ap (returned_all (lents_of keys old)) before.rows_are ∙ back_all keys old)

    pub lent_then : {more : List Key} {new : Rows H} {further : List LentSeen} → IsLent room more mid further new → IsLent room (keys ++ more) old (lents ++ further) new
    lent_then {more} {new} {further} after = record {
      lents_are = (λ i. before.lents_are i ++ after.lents_are i) ∙ (ap (λ rows. lents_of keys old ++ lents_of more rows) before.rows_are ∙ sym (lents_append keys more old));
      rows_are = after.rows_are ∙ (ap (lend_all more) before.rows_are ∙ sym (lend_append keys more old));
      fits = drawn_append keys more old ∙ (ap (λ b. b || is_overdrawn more (lend_all keys old)) before.fits ∙ (ap (is_overdrawn more) (sym before.rows_are) ∙ after.fits));
      of_room = all_append (λ l. l.room ≡ room) lents further before.of_room after.of_room;
    }

    -- the second list of keys can't all be lent to
    pub drawn_then : (more : List Key) → is_overdrawn more mid ≡ true → is_overdrawn (keys ++ more) old ≡ true
    drawn_then more full = drawn_append keys more old ∙ (ap (λ b. b || is_overdrawn more (lend_all keys old)) before.fits ∙ (ap (is_overdrawn more) (sym before.rows_are) ∙ full))

  -- the first list of keys can't
  pub drawn_first : (keys more : List Key) (old : Rows H) → is_overdrawn keys old ≡ true → is_overdrawn (keys ++ more) old ≡ true
  drawn_first keys more old full = drawn_append keys more old ∙ ap (λ b. b || is_overdrawn more (lend_all keys old)) full

module _ {H : Type 0} where
  -- a map whose passes came back is as it was
  pub map_undone : (old mid now new : MapSeen H) (keys : List Key) (lents : List LentSeen) → IsLent old.room keys old.rows lents mid.rows → mid.room ≡ old.room → now ≡ mid → new ≡ map_seen now.room (returned_all lents now.rows) → new ≡ old
  map_undone old mid now new keys lents lent room same is =
      is ∙ (ap (λ (m : MapSeen H). map_seen m.room (returned_all lents m.rows)) same ∙ (λ i. map_seen (room i) (undone lent i)))
