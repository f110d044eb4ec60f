-- Selectors: a key and parameters in a text, with a `?` between them.
use Rattle.std.specs.Prelude.{ℕ, ◌==◌, if◌then◌else◌, List, ◌∷◌, ◌++◌, length, codes}
use Rattle.std.specs.List.{before_first, after_first}
use Rattle.zs_keys.specs.Key.{Key}
use Rattle.zs_wire.specs.Parameters.{trimmed_text}

-- a key, and the text of the parameters
pub record Selected : Type 0 where
  pub key : Key
  pub parameters : List ℕ

-- the text of the key in a selector's text: what stands before the first `?`
abbrev pub key_part : List ℕ → List ℕ
key_part text = before_first (λ byte. byte == 0x3f) text

-- the parameters in a selector's text: what stands behind the first `?`, without the signs that parameters lose at their end
abbrev pub parameters_part : List ℕ → List ℕ
parameters_part text = trimmed_text (after_first (λ byte. byte == 0x3f) text)

-- what a selector prints: a `?` stands only before parameters that are not empty
abbrev pub selector_text : Selected → List ℕ
selector_text selector =
    if length selector.parameters == 0 then selector.key.text else selector.key.text ++ 0x3f ∷ selector.parameters

-- what a selector prints for those who look for faults
abbrev pub debug_text : Selected → List ℕ
debug_text selector = codes "sel\"" ++ (selector_text selector ++ codes "\"")
