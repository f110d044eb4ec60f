-- Texts of parameters, as the bytes of their UTF-8: pairs of a name and a value, with `;` between two of them.
--
-- `;`, `=` and `|` are ASCII, and no byte of a longer character is below 128. So a text has the same signs whether it is
-- read by bytes or by characters.
use Rattle.std.specs.Prelude.{ℕ, ◌-◌, ◌==◌, Bool, not, ◌||◌, if◌then◌else◌, List, [], ◌∷◌, ◌++◌, length, take, map, filter, find, fold, bytes_eq, Option, None, Some, is_some, codes}
use Rattle.std.specs.List.{slice_split, suffix_len, before_first, after_first, join_with_byte}
use Rattle.std.specs.Option.{option_map}

-- a sign that a text loses at its end: `;`, `=` or `|`
abbrev pub is_end_sign : ℕ → Bool
is_end_sign byte = byte == 0x3b || byte == 0x3d || byte == 0x7c

-- the text without all such signs at its end
abbrev pub trimmed_text : List ℕ → List ℕ
trimmed_text text = take (length text - suffix_len is_end_sign text) text

-- what stands between the `;` of a text, without the empty pieces
abbrev pub pieces : List ℕ → List (List ℕ)
pieces text = filter (λ piece. not (length piece == 0)) (slice_split (λ byte. byte == 0x3b) text)

-- a piece cut at its first `=` into name and value: without `=` the value is empty
abbrev pub pair_of : List ℕ → List ℕ × List ℕ
pair_of piece = (before_first (λ byte. byte == 0x3d) piece, after_first (λ byte. byte == 0x3d) piece)

-- the pairs of name and value in a text
abbrev pub pairs : List ℕ → List (List ℕ × List ℕ)
pairs text = map pair_of (pieces text)

-- the pair has this name
abbrev pub has_name : List ℕ → List ℕ × List ℕ → Bool
has_name name pair = bytes_eq pair.0 name

-- the value of the first pair with this name
abbrev pub value_of : List ℕ → List ℕ → Option (List ℕ)
value_of name text = option_map (λ pair. pair.1) (find (has_name name) (pairs text))

-- a pair has this name
abbrev pub contains_name : List ℕ → List ℕ → Bool
contains_name name text = is_some (value_of name text)

-- the pairs with other names
abbrev pub other_pairs : List ℕ → List ℕ → List (List ℕ × List ℕ)
other_pairs name text = filter (λ pair. not (has_name name pair)) (pairs text)

-- how a pair is written: the name alone where the value is empty
abbrev pub piece_of : List ℕ × List ℕ → List ℕ
piece_of pair = if length pair.1 == 0 then pair.0 else pair.0 ++ (0x3d ∷ pair.1)

-- the text of these pairs
abbrev pub joined_text : List (List ℕ × List ℕ) → List ℕ
joined_text list = join_with_byte 0x3b (map piece_of list)

-- the text once a pair is inserted: it takes the place of all pairs with its name, behind the others
abbrev pub text_with : List ℕ → List ℕ → List ℕ → List ℕ
text_with name value text = joined_text (other_pairs name text ++ (name, value) ∷ [])

-- the text once the pairs with a name are removed: where there are none, the text as it is
abbrev pub text_without : List ℕ → List ℕ → List ℕ
text_without name text = if contains_name name text then joined_text (other_pairs name text) else text

-- the text once pairs are inserted, one behind the other
abbrev pub text_with_all : List (List ℕ × List ℕ) → List ℕ → List ℕ
text_with_all list text = fold (λ so_far pair. text_with pair.0 pair.1 so_far) text list

-- the name of the range of time that a query asks for
abbrev pub time_name : List ℕ
time_name = codes "_time"

-- the name that says that a query takes replies on any key
abbrev pub any_key_name : List ℕ
any_key_name = codes "_anyke"

-- the text once the range of time is this one, or none
abbrev pub text_at_time : Option (List ℕ) → List ℕ → List ℕ
text_at_time None text = text_without time_name text
text_at_time (Some range) text = text_with time_name range text
