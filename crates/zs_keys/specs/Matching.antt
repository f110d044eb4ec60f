-- Which key expressions have a key in common, and which include another.
use Rattle.std.specs.Prelude.{ℕ, Bool, true, false, not, ◌&&◌, ◌||◌, List, [], ◌∷◌, ◌==◌, bytes_eq, if◌then◌else◌}
use Rattle.std.specs.List.{filter, list_all}
use Rattle.zs_keys.specs.Text.{chunks, is_star, is_double_star, is_verbatim}

-- f is true of the list, or of what is left of it behind some first elements that a wild one may stand for
abbrev pub some_rest : {X : Type 0} → (X → Bool) → (List X → Bool) → List X → Bool
some_rest free f [] = f []
some_rest free f (y ∷ ys) = f (y ∷ ys) || (free y && some_rest free f ys)

-- x, which is not wild, stands before what f tests: it pairs with the first of the list, or a wild one there is dropped
-- or stands for x
abbrev pub pairs_first : {X : Type 0} → (X → Bool) → (X → Bool) → (X → X → Bool) → X → (List X → Bool) → List X → Bool
pairs_first wild free same x f [] = false
pairs_first wild free same x f (y ∷ ys) =
    if wild y then pairs_first wild free same x f ys || (free x && f (y ∷ ys)) else (same x y && f ys)

-- the lists match: a wild element of the left or of the right list is dropped, or it stands for the first element of
-- the other list, if it is a free one, and goes on; other first elements pair
unfoldable pub meets : {X : Type 0} → (X → Bool) → (X → Bool) → (X → Bool) → (X → X → Bool) → List X → List X → Bool
meets wild wild' free same [] ys = list_all wild' ys
meets wild wild' free same (x ∷ xs) ys =
    if wild x then some_rest free (meets wild wild' free same xs) ys
    else pairs_first wild' free same x (meets wild wild' free same xs) ys

-- the units of a chunk: its characters, with `$` for each `$*`. It is right in canonical chunks alone, where a `*` stands
-- only behind a `$` and each `$` before one
abbrev pub units : List ℕ → List ℕ
units chunk = filter (λ byte. not (byte == 0x2a)) chunk

-- `$*`, which stands for any number of units
abbrev pub is_any : ℕ → Bool
is_any unit = unit == 0x24

-- two lists of units have a text in common
abbrev pub units_meet : List ℕ → List ℕ → Bool
units_meet left right = meets is_any is_any (λ _. true) (λ a b. a == b) left right

-- each text of the right units is one of the left
abbrev pub units_include : List ℕ → List ℕ → Bool
units_include left right = meets is_any (λ _. false) (λ _. true) (λ a b. a == b) left right

-- a wild chunk may stand for it
abbrev pub is_free : List ℕ → Bool
is_free chunk = not (is_verbatim chunk)

-- two chunks other than `**` have a chunk in common
abbrev pub chunk_meets : List ℕ → List ℕ → Bool
chunk_meets left right =
    if is_verbatim left || is_verbatim right then bytes_eq left right
    else (is_star left || is_star right || units_meet (units left) (units right))

-- the right chunk is not `**`, and each chunk that it stands for is one of the left, which is not `**`
abbrev pub chunk_includes : List ℕ → List ℕ → Bool
chunk_includes left right =
    not (is_double_star right)
    && (bytes_eq left right
    || (is_free left && is_free right
    && (is_star left || (not (is_star right) && units_include (units left) (units right)))))

-- two key expressions have a key in common
abbrev pub intersects : List ℕ → List ℕ → Bool
intersects left right = meets is_double_star is_double_star is_free chunk_meets (chunks left) (chunks right)

-- each key of the right one is a key of the left
abbrev pub includes : List ℕ → List ℕ → Bool
includes left right = meets is_double_star (λ _. false) is_free chunk_includes (chunks left) (chunks right)
