use Rattle.std.specs.Prelude.{ℕ, ◌==◌, List, [], ◌∷◌, ◌++◌, codes}
use Rattle.std.specs.List.{before_first}
use Rattle.zs_sample.specs.declared.encoding.Name.{Name}
use Rattle.zs_sample.specs.declared.encoding.Name.TheVariants.{ZenohBytes, ZenohString, TextPlain, ApplicationJson, Other}

-- the characters of an encoding's name
abbrev pub name_chars : Name → List ℕ
name_chars ZenohBytes = codes "zenoh/bytes"
name_chars ZenohString = codes "zenoh/string"
name_chars TextPlain = codes "text/plain"
name_chars ApplicationJson = codes "application/json"
name_chars (Other text) = text

-- the encoding that a text names: the empty text is the default
abbrev pub encoding_of : List ℕ → List ℕ
encoding_of [] = codes "zenoh/bytes"
encoding_of (c ∷ cs) = c ∷ cs

-- a name with a schema in place of what it had behind its first `;`
abbrev pub with_schema : List ℕ → List ℕ → List ℕ
with_schema name schema = before_first (λ c. c == 0x3b) name ++ 0x3b ∷ schema
