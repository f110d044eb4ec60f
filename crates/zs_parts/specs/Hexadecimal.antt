-- Numbers in hexadecimal digits.
use Rattle.std.specs.Prelude.{ℕ, ◌+◌, ◌-◌, ◌*◌, nat_le, ◌==◌, ◌&&◌, List, [], ◌∷◌, length, Option, Some, None, if◌then◌else◌}
use Rattle.std.specs.Option.{option_and_then}

-- the value of a digit of either case
abbrev pub digit_of : ℕ → Option ℕ
digit_of b =
    if nat_le 48 b && nat_le b 57 then Some (b - 48) else
    if nat_le 97 b && nat_le b 102 then Some (b - 87) else
    if nat_le 65 b && nat_le b 70 then Some (b - 55) else None

-- the number that these digits end, where those before them make n
abbrev pub hex_from : ℕ → List ℕ → Option ℕ
hex_from n [] = Some n
hex_from n (b ∷ bs) = option_and_then (λ digit. hex_from (16 * n + digit) bs) (digit_of b)

-- a number in hexadecimal digits: `0`, or at most 32 digits that do not begin with one
abbrev pub hex_of : List ℕ → Option ℕ
hex_of [] = None
hex_of (b ∷ []) = hex_from 0 (b ∷ [])
hex_of (b ∷ c ∷ bs) = if b == 48 then None else if nat_le (length (b ∷ c ∷ bs)) 32 then hex_from 0 (b ∷ c ∷ bs) else None
