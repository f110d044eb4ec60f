-- A text is canonical by its bytes where it is by its characters.
use Rattle.std.proofs.Common.{◌≡◌, ℕ, ◌<◌, ◌≤◌, ◌⊎◌, inl, inr, ◌==◌, Bool, true, false, ◌&&◌, ◌||◌, not, List, [], ◌∷◌, ◌++◌, map, refl, sym, ◌∙◌, ap, arith}
use Rattle.std.specs.Prelude.{bytes_eq, codes, IsUtf8, chars}
use Rattle.std.specs.Str.{all_scalars}
use Rattle.std.specs.List.{list_all}
use Rattle.std.proofs.Math.Utf8.{encode}
use Rattle.std.proofs.lemmas.Bool.Decides.{nat_tests}
use Rattle.std.proofs.lemmas.Str.{encodes-chars, scalars-chars}
use Rattle.zs_keys.specs.Text.{chunks, is_star, is_double_star, may_follow, may_run, is_chunk, has_ordered_stars, is_canonical}
use Rattle.zs_keys.proofs.Bools.{and_first, and_second}
use Rattle.zs_keys.proofs.Encoding.{follows, Encodes, encoding}
use Rattle.zs_keys.proofs.CharacterChunks.{bytes, scalar-first, scalar-rest, same-by_bytes, star-by_bytes, run-by_bytes, sign_apart, follows-no, chunks-of_bytes, chunks-scalar}

large-no : (n b : ℕ) → n < 128 → 128 ≤ b → (b == n) ≡ false
large-no n b small large = grind (arith, nat_tests)

and-same : (p q r s : Bool) → p ≡ q → r ≡ s → (p && r) ≡ (q && s)
and-same p q r s h k = rw (h, k) refl

-- the bytes behind the first of a character may stand there
behind-first : (e c : List ℕ)
    → ((b x : ℕ) → (b == 0x24) ≡ (x == 0x24) → (b == 0x2a) ≡ (x == 0x2a) → may_run b e ≡ may_run x c)
    → (b x : ℕ) (t : List ℕ) → list_all follows t ≡ true → (b == 0x24) ≡ false → (b == 0x2a) ≡ false
    → (x == 0x24) ≡ false → (x == 0x2a) ≡ false → may_run b (t ++ e) ≡ may_run x c
behind-first e c ih b x [] f h k h' k' = ih b x (h ∙ sym h') (k ∙ sym k')
behind-first e c ih b x (d ∷ t) f h k h' k' =
    let first = and_first (follows d) (list_all follows t) f in
    let dollar = follows-no 0x24 d (omega arith) first in
    let star = follows-no 0x2a d (omega arith) first in
    rw (h, k, star, follows-no 0x23 d (omega arith) first, follows-no 0x3f d (omega arith) first)
    (behind-first e c ih d x t (and_second (follows d) (list_all follows t) f) dollar star h' k')

follow-same : (a a' b x : ℕ) (t : List ℕ) → (a == 0x24) ≡ (a' == 0x24) → (a == 0x2a) ≡ (a' == 0x2a) → Encodes x b t
    → may_follow a b ≡ may_follow a' x
follow-same a a' b x t h k e =
    rw (
      h,
      k,
      sign_apart 0x2a b x t (omega arith) e,
      sign_apart 0x24 b x t (omega arith) e,
      sign_apart 0x23 b x t (omega arith) e,
      sign_apart 0x3f b x t (omega arith) e,
    ) refl

run-bytes : (a a' : ℕ) (c : List ℕ) → (a == 0x24) ≡ (a' == 0x24) → (a == 0x2a) ≡ (a' == 0x2a) → all_scalars c ≡ true
    → may_run a (bytes c) ≡ may_run a' c
run-bytes a a' [] h k s = rw h refl
run-bytes a a' (x ∷ c) h k s =
    let (b, t, e) = encoding x (scalar-first x c s) in
    let ih : (d y : ℕ) → (d == 0x24) ≡ (y == 0x24) → (d == 0x2a) ≡ (y == 0x2a) → may_run d (bytes c) ≡ may_run y c =
    λ d y f g. run-bytes d y c f g (scalar-rest x c s) in
    rw e.is
    (and-same (may_follow a b) (may_follow a' x) (may_run b (t ++ bytes c)) (may_run x c) (follow-same a a' b x t h k e)
    (rest-same x b t c e ih e.lead))
  where
    rest-same : (x b : ℕ) (t c : List ℕ) → Encodes x b t
        → ((d y : ℕ) → (d == 0x24) ≡ (y == 0x24) → (d == 0x2a) ≡ (y == 0x2a) → may_run d (bytes c) ≡ may_run y c)
        → (((x < 128) × (b ≡ x) × (t ≡ [])) ⊎ ((128 ≤ x) × (192 ≤ b))) → may_run b (t ++ bytes c) ≡ may_run x c
    rest-same x b t c e ih (inl (low, same, none)) = rw (none, same) (ih x x refl refl)
    rest-same x b t c e ih (inr (large, high)) =
        behind-first (bytes c) c ih b x t e.rest (large-no 0x24 b (omega arith) (omega arith)) (large-no 0x2a b (omega arith) (omega arith))
        (large-no 0x24 x (omega arith) large) (large-no 0x2a x (omega arith) large)

chunk-test : (l : List ℕ) (b : ℕ) (bs : List ℕ) → l ≡ b ∷ bs
    → is_chunk l ≡ (is_star l || is_double_star l || (not (bytes_eq l (codes "$*")) && may_run 0x2f l))
chunk-test l b bs is = rw is refl

chunk-same : (l c : List ℕ) (b x : ℕ) (bs xs : List ℕ) → l ≡ b ∷ bs → c ≡ x ∷ xs → is_star l ≡ is_star c
    → is_double_star l ≡ is_double_star c → bytes_eq l (codes "$*") ≡ bytes_eq c (codes "$*") → may_run 0x2f l ≡ may_run 0x2f c
    → is_chunk l ≡ is_chunk c
chunk-same l c b x bs xs is is' s r d m = chunk-test l b bs is ∙ rw (s, r, d, m) (sym (chunk-test c x xs is'))

any-bytes : bytes (codes "$*") ≡ codes "$*"
unfolding encode
any-bytes = refl

any-by_bytes : (c : List ℕ) → bytes_eq (bytes c) (codes "$*") ≡ bytes_eq c (codes "$*")
any-by_bytes c = ap (λ (x : List ℕ). bytes_eq (bytes c) x) (sym any-bytes) ∙ same-by_bytes c (codes "$*")

test-by_bytes : (c : List ℕ) → all_scalars c ≡ true → is_chunk (bytes c) ≡ is_chunk c
test-by_bytes [] s = refl
test-by_bytes (x ∷ c) s =
    let (b, t, e) = encoding x (scalar-first x c s) in
    chunk-same (bytes (x ∷ c)) (x ∷ c) b x (t ++ bytes c) c (rw e.is refl) refl (star-by_bytes (x ∷ c)) (run-by_bytes (x ∷ c))
    (any-by_bytes (x ∷ c)) (run-bytes 0x2f 0x2f (x ∷ c) refl refl s)

tests-by_bytes : (cs : List (List ℕ)) → list_all all_scalars cs ≡ true
    → list_all is_chunk (map (λ c. bytes c) cs) ≡ list_all is_chunk cs
tests-by_bytes [] s = refl
tests-by_bytes (c ∷ cs) s =
    and-same (is_chunk (bytes c)) (is_chunk c) (list_all is_chunk (map (λ d. bytes d) cs)) (list_all is_chunk cs)
    (test-by_bytes c (and_first (all_scalars c) (list_all all_scalars cs) s))
    (tests-by_bytes cs (and_second (all_scalars c) (list_all all_scalars cs) s))

order-by_bytes : (cs : List (List ℕ)) → has_ordered_stars (map (λ c. bytes c) cs) ≡ has_ordered_stars cs
order-by_bytes [] = refl
order-by_bytes (c ∷ []) = refl
order-by_bytes (c ∷ d ∷ cs) = rw (run-by_bytes c, run-by_bytes d, star-by_bytes d, order-by_bytes (d ∷ cs)) refl

canonical-by_bytes : (cs : List ℕ) → all_scalars cs ≡ true → is_canonical (bytes cs) ≡ is_canonical cs
canonical-by_bytes cs s =
    rw (chunks-of_bytes cs s, tests-by_bytes (chunks cs) (chunks-scalar cs s), order-by_bytes (chunks cs)) refl

-- the same of a text and its characters
pub canonical-by_characters : (text : List ℕ) → IsUtf8 text → is_canonical (chars text) ≡ is_canonical text
canonical-by_characters text utf8 =
    sym (canonical-by_bytes (chars text) (scalars-chars text utf8)) ∙ rw (encodes-chars text utf8) refl
