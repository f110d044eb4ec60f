-- How the signs at the end of a text are counted, and where it may be cut before them.
use Rattle.std.proofs.Common.{◌≡◌, ℕ, ◌+◌, ◌-◌, ◌<◌, ◌≤◌, true, false, List, length, take, get_or, arith, IsCharBoundary}
use Rattle.std.specs.List.{suffix_len}
use Rattle.std.proofs.lemmas.List.Sums.{suffix_len-take_yes, suffix_len-take_no}
use Rattle.std.proofs.lemmas.Str.{IsCharBoundary-before_ascii, IsCharBoundary-end}
use Rattle.zs_wire.specs.Parameters.{is_end_sign}

sign-small : (byte : ℕ) → is_end_sign byte ≡ true → byte < 128
sign-small byte h = grind arith

-- one sign more
pub sign_more : (text : List ℕ) (n : ℕ) → 0 < n → n ≤ length text → is_end_sign (get_or text (n - 1) 0) ≡ true
    → suffix_len is_end_sign (take n text) ≡ 1 + suffix_len is_end_sign (take (n - 1) text)
sign_more text n some within h = suffix_len-take_yes is_end_sign text n 0 some within h

pub sign_none : (text : List ℕ) (n : ℕ) → 0 < n → n ≤ length text → is_end_sign (get_or text (n - 1) 0) ≡ false
    → suffix_len is_end_sign (take n text) ≡ 0
sign_none text n some within h = suffix_len-take_no is_end_sign text n 0 some within h

-- a text may be cut before a sign
pub boundary_before : (text : List ℕ) (n : ℕ) → 0 < n → n ≤ length text → is_end_sign (get_or text (n - 1) 0) ≡ true → IsCharBoundary text (n - 1)
boundary_before text n some within h = IsCharBoundary-before_ascii text (n - 1) (omega arith) (sign-small _ h)

pub ruleset trimming = (sign_more, sign_none, boundary_before, IsCharBoundary-end)
