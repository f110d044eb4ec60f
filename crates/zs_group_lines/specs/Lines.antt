-- What a line asks of its side, by its fields.
use Rattle.std.specs.Prelude.{ℕ, List, [], ◌∷◌, ◌++◌, Option, None, Some, codes, bytes_eq, if◌then◌else◌}
use Rattle.std.specs.Str.{chars}
use Rattle.zs_members.specs.Names.{is_name}
use Rattle.zs_group_lines.specs.declared.line.GroupLine.{GroupLine}
use Rattle.zs_group_lines.specs.declared.line.GroupLine.TheVariants.{Join, Leave, View}

-- the key of a token that stands for a name
abbrev pub key_of : List ℕ → List ℕ
key_of name = chars (codes "group/" ++ name)

abbrev pub line_of_one : List ℕ → Option GroupLine
line_of_one word = if bytes_eq word (codes "view") then Some View else None

abbrev pub line_named : List ℕ → List ℕ → Option GroupLine
line_named word name =
    if bytes_eq word (codes "join") then Some (Join (key_of name)) else
    if bytes_eq word (codes "leave") then Some (Leave (key_of name)) else None

abbrev pub line_of_two : List ℕ → List ℕ → Option GroupLine
line_of_two word name = if is_name name then line_named word name else None

-- what the fields say, if they are of one of these forms
abbrev pub line_of : List (List ℕ) → Option GroupLine
line_of [] = None
line_of (word ∷ []) = line_of_one word
line_of (word ∷ name ∷ []) = line_of_two word name
line_of (word ∷ name ∷ more ∷ fields) = None
