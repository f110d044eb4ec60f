-- The newest of two entries is the greater one, where entries of one timestamp are equal.
use Rattle.std.proofs.Common.{◌≡◌, ◌⊎◌, inl, inr, ◌∷◌, Bool, true, false, Option, Some, None, refl, sym, ◌∙◌, ap, cond, true≢false}
use Rattle.std.specs.Prelude.{◌==◌, ◌&&◌, ◌||◌, nat_lt}
use Rattle.std.specs.Ordering.{nat_cmp, ordering_then, is_lt}
use Rattle.std.specs.Cmp.Lexicographic.{slice_cmp}
use Rattle.std.specs.declared.cmp.Ordering.{Ordering}
use Rattle.std.specs.declared.cmp.Ordering.TheVariants.{Less, Equal, Greater}
use Rattle.std.proofs.lemmas.Bool.{eqb-true}
use Rattle.zs_query.specs.Marks.{is_earlier}
use Rattle.zs_store.specs.Entry.{EntrySeen, kind_rank, is_below, greater}
use Rattle.zs_store.specs.Store.{best}
use Rattle.zs_store.proofs.Newer.{not_below_itself, greater_turned, when_not_below, either}
use Rattle.zs_store.proofs.Stores.{out}
use Rattle.zs_store.proofs.Joins.{best_append}
use Rattle.zs_replica_gets.specs.Newest.{IsNotEarlier, NewestIsBest}

-- an entry that is below another and has no earlier timestamp has the same one
same_time : (a b : EntrySeen) → is_earlier a.timestamp b.timestamp ≡ false → is_below a b ≡ true → a.timestamp ≡ b.timestamp
same_time a b later below =
    go (nat_lt a.timestamp.time b.timestamp.time) (a.timestamp.time == b.timestamp.time) refl (nat_lt a.timestamp.id b.timestamp.id) (a.timestamp.id == b.timestamp.id) refl later below
  where
    rest : Ordering
    rest = slice_cmp nat_cmp (kind_rank a.kind ∷ a.bytes) (kind_rank b.kind ∷ b.bytes)

    go : (x y : Bool) → (a.timestamp.time == b.timestamp.time) ≡ y → (z u : Bool) → (a.timestamp.id == b.timestamp.id) ≡ u → (x || (y && z)) ≡ false
        → is_lt (ordering_then (cond x Less (cond y Equal Greater)) (ordering_then (cond z Less (cond u Equal Greater)) (slice_cmp nat_cmp (kind_rank a.kind ∷ a.bytes) (kind_rank b.kind ∷ b.bytes)))) ≡ true
        → a.timestamp ≡ b.timestamp
    go true y is z u also later below = absurd (true≢false later)
    go false false is z u also later below = absurd (true≢false (sym below))
    go false true is true u also later below = absurd (true≢false later)
    go false true is false false also later below = absurd (true≢false (sym below))
    go false true is false true also later below =
        let time = eqb-true a.timestamp.time b.timestamp.time is in
        let id = eqb-true a.timestamp.id b.timestamp.id also in
        λ i. record { time = time i; id = id i }

greater_first : (a b : EntrySeen) → is_earlier a.timestamp b.timestamp ≡ false → (a.timestamp ≡ b.timestamp → a ≡ b) → greater a b ≡ a
greater_first a b later same = go (is_below a b) refl
  where
    go : (x : Bool) → is_below a b ≡ x → greater a b ≡ a
    go false is = when_not_below a b is
    go true is =
        let equal : a ≡ b = same (same_time a b later is) in
        absurd (true≢false (sym is ∙ ap (is_below a) (sym equal) ∙ not_below_itself a))

-- of what may stand at a key
pick : (o p : Option EntrySeen) (entry : EntrySeen) → (o ≡ Some entry) ⊎ (p ≡ Some entry) → IsNotEarlier entry o → IsNotEarlier entry p
    → ((a b : EntrySeen) → o ≡ Some a → p ≡ Some b → a.timestamp ≡ b.timestamp → a ≡ b) → either o p ≡ Some entry
pick None p entry (inl is) first second same = absurd (let never : None ≡ Some entry = is in cc)
pick None p entry (inr is) first second same = is
pick (Some a) None entry (inl is) first second same = is
pick (Some a) None entry (inr is) first second same = absurd (let never : None ≡ Some entry = is in cc)
pick (Some a) (Some b) entry (inl is) first second same =
    let its : a ≡ entry = out is in
    ap Some (greater_first a b (ap (λ (e : EntrySeen). is_earlier e.timestamp b.timestamp) its ∙ second) (same a b refl refl)) ∙ is
pick (Some a) (Some b) entry (inr is) first second same =
    let its : b ≡ entry = out is in
    ap Some (greater_turned a b ∙ greater_first b a (ap (λ (e : EntrySeen). is_earlier e.timestamp a.timestamp) its ∙ first) (λ times. sym (same a b refl refl (sym times)))) ∙ is

pub newest_is_best : NewestIsBest
newest_is_best key xs ys replies newest same =
    best_append key xs ys ∙ pick (best key xs) (best key ys) newest.entry newest.had newest.over_own newest.over_others same
