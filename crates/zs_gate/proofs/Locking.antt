-- Each step of a lock keeps its rule.
use Rattle.std.proofs.Common.{◌≡◌, ◌≢◌, ◌==◌, ℕ, ◌<◌, [], ◌∷◌, length, set, Option, Some, refl, sym, ap, ◌∙◌, subst, arith, length-set, get_or-set_same}
use Rattle.std.specs.Prelude.{slice_index}
use mathlib.Core.Option.{some, none}
use mathlib.Core.Logic.{dite}
use native.Mathlib.Decide.{ℕ_discrete}
use lib.ListN.{get_elem?}
use prog.Atomic.{either}
use Rattle.atomic_table.specs.Table.{Me, step, keeps, takes, gives, rest, put_back, Allows}
use Rattle.atomic_table.proofs.Lists.{set_here, exchanged}
use Rattle.zs_gate.specs.Locks.{IsLocked, TakesValue, PutsValue}

pub exchange_leaves : (n : ℕ) → either (n == 0) 1 n ≢ 0
exchange_leaves n = exchanged n 0 1 (λ k. k ≢ 0) (λ _ z. absurd (omega arith)) (λ ne. ne)

module _ {T K : Type 0} (holds : K → T → Type 0) (key : K) where
  module _ (slots id : ℕ) (me : Me (Option T) K) where
    pub take_allowed : (f : ℕ → ℕ) → ((n : ℕ) → f n ≢ 0) → me ≡ (key, []) → Allows (IsLocked holds key) slots id me 0 f (TakesValue holds (step slots 0 0 0 none) me)
    take_allowed f never is s kept homes at small =
        let found = slice_index s.words 0 in
        let one : 0 < length s.words = omega (arith, kept.0) in
        let here : slice_index (set s.words 0 (f found)) 0 ≡ f found = get_or-set_same s.words 0 (f found) 0 one in
        let gone : slice_index (set s.words 0 (f found)) 0 ≢ 0 = λ z. never found (sym here ∙ z) in
        let words = length-set s.words 0 (f found) ∙ kept.0 in
        dite (ℕ_discrete found 0)
        (λ free.
        let home = kept.2 free in (
          me.0,
          takes 0 (Some home.0),
          home.1,
          (words, length-set s.homes 0 none ∙ kept.1, λ z. absurd (gone z)),
          (refl, (λ _. (home.0, ap (λ m. (0, Some home.0) ∷ m.1) is, subst (λ k. holds k home.0) (ap (λ m. m.0) (sym is)) home.2)), (λ out. absurd (out free))),
        ))
        (λ out. (me.0, keeps, tt, (words, kept.1, λ z. absurd (gone z)), (refl, (λ free. absurd (out free)), (λ _. refl))))

    pub put_allowed : (value : T) → me.1 ≡ (0, Some value) ∷ [] → holds key value → Allows (IsLocked holds key) slots id me 0 (λ _. 0) (PutsValue (step slots 0 0 0 none) me)
    put_allowed value is fact s kept homes at small =
        let there : 0 < length s.homes = omega (arith, kept.1) in
        let back : put_back s.homes me.1 ≡ set s.homes 0 (some (Some value)) = ap (put_back s.homes) is in (
          me.0,
          gives,
          tt,
          (length-set s.words 0 0 ∙ kept.0, ap length back ∙ length-set s.homes 0 (some (Some value)) ∙ kept.1, λ _. (value, ap (λ hs. get_elem? hs 0) back ∙ set_here s.homes 0 (some (Some value)) there, fact)),
          ap rest is,
        )
