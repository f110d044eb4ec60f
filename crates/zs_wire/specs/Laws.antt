-- Laws of the definitions on parameters, by which a reader may check them.
use Rattle.std.specs.Prelude.{◌≡◌, ℕ, ◌+◌, ◌<◌, ◌==◌, Bool, false, not, ◌&&◌, List, length, Some, IsTrue, bytes_eq}
use Rattle.std.specs.List.{list_all}
use Rattle.zs_wire.specs.Parameters.{value_of, contains_name, text_with, text_without}

-- a text that may be read back as a name: it has no `;` and no `=`
abbrev pub is_name : List ℕ → Bool
is_name text = list_all (λ byte. not (byte == 0x3b) && not (byte == 0x3d)) text

-- a text that may be read back as a value: it has no `;`
abbrev pub is_value : List ℕ → Bool
is_value text = list_all (λ byte. not (byte == 0x3b)) text

-- what was inserted is found, but for a pair of two empty texts: it leaves an empty piece
abbrev pub GivesInserted : List ℕ → List ℕ → List ℕ → Type 0
GivesInserted name value text =
    IsTrue (is_name name) → IsTrue (is_value value) → 0 < length name + length value → value_of name (text_with name value text) ≡ Some value

-- each other name has the value that it had, but for the empty name: its pair leaves an empty piece where the value is empty too
abbrev pub InsertKeepsOther : List ℕ → List ℕ → List ℕ → List ℕ → Type 0
InsertKeepsOther name value text other =
    IsTrue (is_name name) → IsTrue (is_value value) → 0 < length other → bytes_eq name other ≡ false
    → value_of other (text_with name value text) ≡ value_of other text

-- a removed name is there no more
abbrev pub RemovesAll : List ℕ → List ℕ → Type 0
RemovesAll name text = contains_name name (text_without name text) ≡ false

-- each other name has the value that it had
abbrev pub RemoveKeepsOther : List ℕ → List ℕ → List ℕ → Type 0
RemoveKeepsOther name text other =
    0 < length other → bytes_eq name other ≡ false → value_of other (text_without name text) ≡ value_of other text
