-- Effects that are taken one after the other.
use Rattle.std.proofs.Common.{◌≡◌, ℕ, ◌+◌, ◌<◌, List, [], ◌∷◌, ◌++◌, length, take, get_or, refl, ap, ◌∙◌}
use Rattle.std.proofs.lemmas.List.{take_more}
use Rattle.zs_events.specs.declared.turn.Effect.{Effect}
use Rattle.zs_store.specs.Store.{Write}
use Rattle.zs_keeping.specs.Keeping.{with_effect, with_effects}

one_behind : (id : ℕ) (effects : List Effect) (effect : Effect) (store : List Write)
    → with_effects id (effects ++ effect ∷ []) store ≡ with_effect id effect (with_effects id effects store)
one_behind id [] effect store = refl
one_behind id (first ∷ effects) effect store = one_behind id effects effect (with_effect id first store)

pub one_more : (id : ℕ) (effects : List Effect) (i : ℕ) (effect : Effect) (store : List Write) → i < length effects
    → with_effects id (take (i + 1) effects) store ≡ with_effect id (get_or effects i effect) (with_effects id (take i effects) store)
one_more id effects i effect store within =
    ap (λ fx. with_effects id fx store) (take_more effects i effect within) ∙ one_behind id (take i effects) (get_or effects i effect) store
