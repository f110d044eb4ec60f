use Rattle.std.proofs.Common.{◌≡◌, ◌∙◌, ℕ, true, zero, length, sym, ap, arith}
use Rattle.std.specs.Prelude.{◌==◌}
use Rattle.std.specs.Str.{chars}
use Rattle.std.proofs.lemmas.Bool.Decides.{nat_tests}
use Rattle.std.proofs.lemmas.List.{nil_from_length}
use Rattle.std.proofs.lemmas.Str.{chars-nil}
use Rattle.zs_making.proofs.wires.text_of.Goals as goal

no_length : (n : ℕ) → true ≡ (n == 0) → n ≡ 0
no_length n is = grind (arith, nat_tests, is)

-- a text without a byte has no character
pub returns-then-is_empty : goal.returns-then-is_empty
returns-then-is_empty c =
    let text = c.args.text.now in
    c.empty.ensures ∙ sym (ap chars (nil_from_length text (no_length (length text) c.if-is_empty.ensures)) ∙ chars-nil)
