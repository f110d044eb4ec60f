-- What the calls of std that read a field say in the words of the symbols.
use Rattle.std.proofs.Common.{ℕ, ◌≡◌, ◌≢◌, ◌==◌, true, false, List, [], ◌∷◌, ◌++◌, Option, Some, None, drop, refl, sym, ap, ◌∙◌, arith, cond, option_map, Bor}
use Rattle.std.specs.Option.{MatchOption}
use Rattle.std.specs.Str.{is_utf8, IsUtf8}
use Rattle.std.specs.Str.Pattern.{FindsTextPrefix, StripsPrefix}
use Rattle.std.proofs.lemmas.Str.{IsUtf8-from_is_utf8, is_utf8-from_IsUtf8}
use Rattle.std.proofs.lemmas.Bool.Decides.{nat_tests}
use Rattle.zs_parts.specs.Symbols.{after_prefix}

after-front : (front rest : List ℕ) → after_prefix front (front ++ rest) ≡ Some rest
after-front [] rest = refl
after-front (p ∷ ps) rest =
    let same : (p == p) ≡ true = grind (arith, nat_tests) in
    rw same (after-front ps rest)

after-none : (front text : List ℕ) → ((rest : List ℕ) → text ≢ front ++ rest) → None ≡ after_prefix front text
after-none [] text lacks = absurd (lacks text refl)
after-none (p ∷ ps) [] lacks = refl
after-none (p ∷ ps) (b ∷ bs) lacks =
    elim (p == b) as (λ t. (p == b) ≡ t → None ≡ cond t (after_prefix ps bs) None) [
      | true ↦ λ e. after-none ps bs (λ rest is. let same : p ≡ b = grind (arith, nat_tests) in lacks rest cc)
      | false ↦ λ e. refl
    ] refl

pub prefix-stripped : (front text : List ℕ) (result : Option (Bor (List ℕ)))
    → MatchOption result (FindsTextPrefix front text None) (λ rest. StripsPrefix (FindsTextPrefix front) text rest.now)
    → option_map (λ rest. rest.now) result ≡ after_prefix front text
prefix-stripped front text None h = after-none front text h
prefix-stripped front text (Some rest) h =
    sym (ap (after_prefix front) h.1.1 ∙ after-front front (drop h.0 text) ∙ ap Some (sym h.2))

pub not_utf8 : (bs : List ℕ) → ¬ (IsUtf8 bs) → is_utf8 bs ≡ false
not_utf8 bs h =
    elim (is_utf8 bs) as (λ t. is_utf8 bs ≡ t → t ≡ false)
    [ true ↦ λ e. absurd (h (IsUtf8-from_is_utf8 bs e)) | false ↦ λ e. refl ] refl

-- whether a line is text, as the test of the definitions
pub ruleset utf8_tests = (is_utf8-from_IsUtf8, not_utf8)
