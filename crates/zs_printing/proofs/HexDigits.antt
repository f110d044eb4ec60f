-- Numbers in hexadecimal digits, a digit at a time.
use Rattle.std.proofs.Common.{ℕ, zero, suc, ◌≡◌, ◌+◌, ◌-◌, ◌/◌, ◌%◌, ◌<◌, ◌≤◌, true, false, List, [], ◌∷◌, ◌++◌, refl, arith, append_assoc}
use Rattle.std.specs.Prelude.{nat_lt}
use Rattle.std.proofs.lemmas.List.{append-nil}
use Rattle.std.proofs.lemmas.Bool.Decides.{nat_tests}
use Rattle.zs_printing.specs.Words.{hex_digit, hex_digits}

pub digits-none : (places n : ℕ) → places ≡ 0 → hex_digits places n ≡ []
unfolding hex_digits
digits-none zero n none = refl
digits-none (suc places) n none = absurd (omega arith)

pub digits-last : (places n : ℕ) → 0 < places → n < 16 → hex_digits places n ≡ hex_digit (n % 16) ∷ []
unfolding hex_digits
digits-last zero n some small = absurd (omega arith)
digits-last (suc places) n some small =
    let less : nat_lt n 16 ≡ true = grind (arith, nat_tests) in
    rw less refl

pub digits-more : (places n : ℕ) → 0 < places → 16 ≤ n
    → hex_digits places n ≡ hex_digits (places - 1) (n / 16) ++ hex_digit (n % 16) ∷ []
unfolding hex_digits
digits-more zero n some large = absurd (omega arith)
digits-more (suc places) n some large =
    let not_less : nat_lt n 16 ≡ false = grind (arith, nat_tests) in
    let one_less : suc places - 1 ≡ places = omega arith in
    rw (not_less, one_less) refl

pub ruleset digit_steps = (append_assoc, append-nil, digits-none, digits-last, digits-more)
