-- What holds of a token after any calls.
use Rattle.std.proofs.Common.{◌≡◌, ◌≤◌, Bool, true, false, List, [], ◌∷◌, None, refl, sym, subst, arith}
use Rattle.std.specs.Option.{option_to_list}
use Rattle.zs_cancel.specs.Tokens.{Token, Call, Ascends}
use Rattle.zs_cancel.specs.Tokens.Call.{add, remove, begin, finish, nothing}
use Rattle.zs_cancel.specs.Runs.{Leads, given_handlers, begin_count, told_outcomes}
use Rattle.zs_cancel.proofs.Numbers.{ascends_push, ascends_without}

-- either no handlers were given yet, or they were given once
record Lives {J : Type 0} (calls : List (Call J)) (t : Token J) : Type 0 where
  ascends : Ascends 0 t.handlers t.next
  before : t.taken ≡ false → (begin_count calls ≡ 0) × (given_handlers calls ≡ []) × (t.outcome ≡ None)
  after : t.taken ≡ true → (begin_count calls ≡ 1) × Ascends 0 (given_handlers calls) t.next
  told : told_outcomes calls ≡ option_to_list t.outcome

differ : {A : Type 0} (b : Bool) → b ≡ true → b ≡ false → A
differ b on off = grind (arith, on, off)

by_cases : {A : Type 0} (b : Bool) → (b ≡ false → A) → (b ≡ true → A) → A
by_cases false off on = off refl
by_cases true off on = on refl

module _ {J : Type 0} where
  lives : (calls : List (Call J)) (t : Token J) → Leads calls t → Lives calls t
  lives [] t is = subst (Lives []) (sym is) (record {
    ascends = omega arith;
    before = λ _. (refl, refl, refl);
    after = λ on. differ false on refl;
    told = refl;
  })
  lives (add job ∷ calls) t (old, leads, (fresh, is)) =
      let l = lives calls old leads in
      subst (Lives (add job ∷ calls)) (sym is) (record {
        ascends = ascends_push 0 old.handlers old.next (record { number = old.next; job = job }) l.ascends refl;
        before = l.before;
        after = λ on. differ old.taken on fresh;
        told = l.told;
      })
  lives (remove number ∷ calls) t (old, leads, is) =
      let l = lives calls old leads in
      subst (Lives (remove number ∷ calls)) (sym is) (record {
        ascends = ascends_without number 0 old.handlers old.next l.ascends;
        before = l.before;
        after = l.after;
        told = l.told;
      })
  lives (begin handlers ∷ calls) t (old, leads, (fresh, same, is)) =
      let l = lives calls old leads in
      let none = l.before fresh in
      subst (Lives (begin handlers ∷ calls)) (sym is) (record {
        ascends = omega arith;
        before = λ off. differ true refl off;
        after = λ _. (omega (arith, none.0), rw (none.1, same) l.ascends);
        told = l.told;
      })
  lives (finish outcome ∷ calls) t (old, leads, (taken, none, is)) =
      let l = lives calls old leads in
      subst (Lives (finish outcome ∷ calls)) (sym is) (record {
        ascends = l.ascends;
        before = λ off. differ old.taken taken off;
        after = l.after;
        told = rw (l.told, none) refl;
      })
  lives (nothing ∷ calls) t (old, leads, is) =
      let l = lives calls old leads in
      subst (Lives (nothing ∷ calls)) (sym is) (record { ascends = l.ascends; before = l.before; after = l.after; told = l.told })

  module _ (calls : List (Call J)) (t : Token J) (leads : Leads calls t) where
    -- the handlers are given once at most
    pub begins_once : begin_count calls ≤ 1
    begins_once =
        let l = lives calls t leads in
        by_cases t.taken (λ off. omega (arith, (l.before off).0)) (λ on. omega (arith, (l.after on).0))

    -- in ascending number
    pub given-ascends : Ascends 0 (given_handlers calls) t.next
    given-ascends =
        let l = lives calls t leads in
        by_cases t.taken (λ off. rw (l.before off).1 (omega arith)) (λ on. (l.after on).1)

    -- the outcomes that were told are the one that stands
    pub told_is : told_outcomes calls ≡ option_to_list t.outcome
    told_is = (lives calls t leads).told
