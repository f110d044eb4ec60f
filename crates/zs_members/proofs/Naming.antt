-- What stands behind a front.
use Rattle.std.proofs.Common.{◌≡◌, ◌≢◌, ℕ, ◌==◌, Bool, true, false, cond, List, [], ◌∷◌, ◌++◌, drop, Option, Some, None, refl, sym, ap, ◌∙◌, arith}
use Rattle.std.specs.Prelude.{MatchOption, option_map}
use Rattle.std.specs.Str.Pattern.{FindsTextPrefix, StripsPrefix}
use Rattle.std.proofs.lemmas.Bool.Decides.{nat_tests}
use denote.Ref.{Bor}
use Rattle.zs_members.specs.Names.{behind}

behind_front : (front rest : List ℕ) → behind front (front ++ rest) ≡ Some rest
behind_front [] rest = refl
behind_front (p ∷ ps) rest =
    let same : (p == p) ≡ true = grind (arith, nat_tests) in
    rw same (behind_front ps rest)

behind_none : (front text : List ℕ) → ((rest : List ℕ) → text ≢ front ++ rest) → None ≡ behind front text
behind_none [] text lacks = absurd (lacks text refl)
behind_none (p ∷ ps) [] lacks = refl
behind_none (p ∷ ps) (b ∷ bs) lacks =
    elim (p == b) as (λ t. (p == b) ≡ t → None ≡ cond t (behind ps bs) None) [
      | true ↦ λ e. behind_none ps bs (λ rest is. let same : p ≡ b = grind (arith, nat_tests) in lacks rest cc)
      | false ↦ λ e. refl
    ] refl

pub stripped : (front text : List ℕ) (result : Option (Bor (List ℕ)))
    → MatchOption result (FindsTextPrefix front text None) (λ rest. StripsPrefix (FindsTextPrefix front) text rest.now)
    → option_map (λ rest. rest.now) result ≡ behind front text
stripped front text None h = behind_none front text h
stripped front text (Some rest) h =
    sym (ap (behind front) h.1.1 ∙ behind_front front (drop h.0 text) ∙ ap Some (sym h.2))
