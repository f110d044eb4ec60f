-- The bytes of a character: the first tells how many follow, and those that follow begin no character.
use Rattle.std.proofs.Common.{◌≡◌, ℕ, ◌+◌, ◌/◌, ◌%◌, ◌<◌, ◌≤◌, ◌⊎◌, inl, inr, Bool, true, false, ◌&&◌, List, [], ◌∷◌, length, refl, sym, arith}
use Rattle.std.specs.Prelude.{nat_lt}
use Rattle.std.specs.Str.{continuation_len}
use Rattle.std.specs.Char.{IsScalar}
use Rattle.std.specs.List.{list_all}
use Rattle.std.proofs.lemmas.Bool.Decides.{nat_tests}
use Rattle.std.proofs.Math.Utf8.{encode}
use Rattle.zs_keys.proofs.Bools.{split}

-- a byte behind the first of a character
abbrev pub follows : ℕ → Bool
follows b = nat_lt 127 b && nat_lt b 192

-- b and then t are the bytes of c
pub record Encodes (c b : ℕ) (t : List ℕ) : Type 0 where
  pub is : encode c ≡ b ∷ t
  pub lead : ((c < 128) × (b ≡ c) × (t ≡ [])) ⊎ ((128 ≤ c) × (192 ≤ b))
  pub rest : list_all follows t ≡ true
  pub len : length t ≡ continuation_len b

next_follows : (n : ℕ) → follows (128 + n % 64) ≡ true
next_follows n = grind (arith, nat_tests)

len-one : (b : ℕ) → 192 ≤ b → b < 224 → continuation_len b ≡ 1
len-one b h k = grind (arith, nat_tests)

len-two : (b : ℕ) → 224 ≤ b → b < 240 → continuation_len b ≡ 2
len-two b h k = grind (arith, nat_tests)

len-three : (b : ℕ) → 240 ≤ b → continuation_len b ≡ 3
len-three b h = grind (arith, nat_tests)

is_below : (a b : ℕ) → nat_lt a b ≡ true → a < b
is_below a b h = grind (arith, nat_tests)

is_above : (a b : ℕ) → nat_lt a b ≡ false → b ≤ a
is_above a b h = grind (arith, nat_tests)

pub encoding : (c : ℕ) → IsScalar c → (b : ℕ) × (t : List ℕ) × Encodes c b t
unfolding encode
encoding c s = split (nat_lt c 128)
    (λ h. (
      c,
      [],
      record {
        is = rw h refl;
        lead = inl (is_below c 128 h, refl, refl);
        rest = refl;
        len = grind (arith, nat_tests);
      },
    ))
    (λ h.
    let high = is_above c 128 h in
    split (nat_lt c 2048)
    (λ k.
    let low = is_below c 2048 k in (
      192 + c / 64,
      (128 + c % 64) ∷ [],
      record {
        is = rw (h, k) refl;
        lead = inr (high, omega arith);
        rest = rw (next_follows c) refl;
        len = sym (len-one (192 + c / 64) (omega arith) (omega arith));
      },
    ))
    (λ k. split (nat_lt c 65536)
    (λ l.
    let low = is_below c 65536 l in (
      224 + c / 4096,
      (128 + (c / 64) % 64) ∷ (128 + c % 64) ∷ [],
      record {
        is = rw (h, k, l) refl;
        lead = inr (high, omega arith);
        rest = rw (next_follows (c / 64), next_follows c) refl;
        len = sym (len-two (224 + c / 4096) (omega arith) (omega arith));
      },
    ))
    (λ l. (
      240 + c / 262144,
      (128 + (c / 4096) % 64) ∷ (128 + (c / 64) % 64) ∷ (128 + c % 64) ∷ [],
      record {
        is = rw (h, k, l) refl;
        lead = inr (high, omega arith);
        rest = rw (next_follows (c / 4096), next_follows (c / 64), next_follows c) refl;
        len = sym (len-three (240 + c / 262144) (omega arith));
      },
    ))))
