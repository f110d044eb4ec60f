-- Whether bytes are text, as the test of the definitions.
use Rattle.std.proofs.Common.{ℕ, ◌≡◌, true, false, List, refl}
use Rattle.std.specs.Str.{is_utf8, IsUtf8}
use Rattle.std.proofs.lemmas.Str.{IsUtf8-from_is_utf8, is_utf8-from_IsUtf8}

pub not_utf8 : (bs : List ℕ) → ¬ (IsUtf8 bs) → is_utf8 bs ≡ false
not_utf8 bs h =
    elim (is_utf8 bs) as (λ t. is_utf8 bs ≡ t → t ≡ false)
    [ true ↦ λ e. absurd (h (IsUtf8-from_is_utf8 bs e)) | false ↦ λ e. refl ] refl

pub ruleset utf8_tests = (is_utf8-from_IsUtf8, not_utf8)
