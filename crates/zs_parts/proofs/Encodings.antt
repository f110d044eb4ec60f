-- The encoding that a text names.
use Rattle.std.proofs.Common.{ℕ, ◌≡◌, List, [], ◌∷◌, refl}
use Rattle.zs_sample.specs.Encoding.{encoding_of}
use Rattle.zs_events.specs.Updates.{default_encoding}

pub encoding-empty : (text : List ℕ) → text ≡ [] → encoding_of text ≡ default_encoding
encoding-empty [] h = refl
encoding-empty (c ∷ cs) h = cc

pub encoding-named : (text : List ℕ) → (text ≡ [] → ⊥) → encoding_of text ≡ text
encoding-named [] h = absurd (h refl)
encoding-named (c ∷ cs) h = refl

pub ruleset encodings = (encoding-empty, encoding-named)
