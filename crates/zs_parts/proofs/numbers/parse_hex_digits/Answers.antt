use Rattle.std.proofs.Common.{ℕ, ◌+◌, ◌*◌, ◌<◌, ◌^◌, arith, lit<}
use Rattle.std.proofs.Math.Nat.{pow-le-pow_right}
use Rattle.std.proofs.lemmas.Grind.{pow_more}
use Rattle.zs_parts.proofs.numbers.parse_hex_digits.Goals as goal

-- a digit more, where there were fewer than 32
digit_more : (n i d : ℕ) → n < 16 ^ i → i < 32 → d < 16 → 16 * n + d < 2 ^ 128
digit_more n i d small short digit =
    omega (arith, pow_more 16 i, pow-le-pow_right {n = 16} (lit< tt) {i = i + 1} {j = 32} (omega arith))

pub overflow_mul-number : goal.overflow_mul-number
overflow_mul-number c =
    omega (arith, digit_more c.loop-digit.number c.loop-digit.digit-index 0 c.loop-digit.invariant.small (omega arith) (lit< tt))

pub overflow_add-number : goal.overflow_add-number
overflow_add-number c =
    omega (arith, digit_more c.loop-digit.number c.loop-digit.digit-index c.from.result c.loop-digit.invariant.small (omega arith) (omega (arith, c.in_ok-parse_hex_digit.ensures.small)))
