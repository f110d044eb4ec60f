-- Texts and the characters that they spell.
use Rattle.std.proofs.Common.{◌≡◌, ℕ, List, [], ◌∷◌, length, refl, arith}
use Rattle.std.specs.Prelude.{encode_utf8_all, ◌==◌, ◌↔◌, IsTrue}
use Rattle.std.proofs.lemmas.Str.{length-le-encodes}
use Rattle.std.proofs.lemmas.Bool.Decides.{nat_tests}

-- a text has no byte exactly where it has no character
pub empty-encodes : (cs bytes : List ℕ) → bytes ≡ encode_utf8_all cs → IsTrue (length bytes == 0) ↔ (cs ≡ [])
empty-encodes [] bytes e = (λ _. refl, λ _. rw e refl)
empty-encodes (c ∷ cs) bytes e = grind (arith, nat_tests, length-le-encodes (c ∷ cs))
