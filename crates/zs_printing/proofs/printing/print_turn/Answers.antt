use Rattle.std.proofs.Common.{ℕ, ◌≡◌, ◌++◌, List, Result, Ok, Err, IfOk, encode_utf8_all, ap, ◌∙◌}
use Rattle.std.specs.Str.{IsUtf8, chars}
use Rattle.std.proofs.lemmas.Str.{encodes-chars}
use Rattle.zs_printing.specs.Printing.{turn_text}
use Rattle.zs_printing.proofs.printing.print_turn.Goals as goal

-- a text that is made of these bytes prints them
text-kept : {E : Type 0} (made : Result (List ℕ) E) (bytes wanted : List ℕ) → IsUtf8 bytes → bytes ≡ wanted
    → IfOk made (λ text. text ≡ chars bytes) → IfOk made (λ text. encode_utf8_all text ≡ wanted)
text-kept (Ok text) bytes wanted utf8 same h = ap encode_utf8_all h ∙ encodes-chars bytes utf8 ∙ same
text-kept (Err e) bytes wanted utf8 same h = tt

pub returns : goal.returns
returns c =
    let same : c.as_str.result.now ≡ turn_text c.args.number c.args.turn.now =
    c.as_str.ensures.value ∙ c.in_ok-append_turn.ensures
    ∙ ap (λ (text : List ℕ). text ++ turn_text c.args.number c.args.turn.now) c.new-text.ensures.bytes in
    text-kept c.of.result c.as_str.result.now (turn_text c.args.number c.args.turn.now) c.as_str.utf8 same c.of.ensures
