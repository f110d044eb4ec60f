use Rattle.std.proofs.Common.{◌≡◌, ◌≤◌, ℕ, List, [], ◌∷◌, length, refl, ap, ◌∙◌, ◌==◌, encode_utf8_all, arith}
use Rattle.std.proofs.lemmas.Bool.Decides.{nat_tests}
use Rattle.std.proofs.lemmas.Str.{length-le-encodes}
use Rattle.zs_events.specs.Kinds.{is_nothing}
use Rattle.zs_making.proofs.keys.is_nothing.Goals as goal

-- no characters have no bytes, and others have some
nothing : (text : List ℕ) → (length (encode_utf8_all text) == 0) ≡ is_nothing text
nothing [] = refl
nothing (c ∷ text) = let long : length (c ∷ text) ≤ length (encode_utf8_all (c ∷ text)) = length-le-encodes (c ∷ text) in grind (arith, nat_tests, long)

pub returns : goal.returns
returns c = c.is_empty.ensures ∙ ap (λ (bytes : List ℕ). length bytes == 0) c.as_str.ensures.bytes ∙ nothing c.args.text.now
