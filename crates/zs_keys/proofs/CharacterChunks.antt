-- Matching key expressions by their bytes is matching them by their characters.
use Rattle.std.proofs.Common.{◌≡◌, ℕ, ◌<◌, ◌≤◌, ◌⊎◌, inl, inr, ◌==◌, Bool, true, false, not, ◌&&◌, List, [], ◌∷◌, ◌++◌, map, refl, sym, ◌∙◌, ap, arith}
use Rattle.std.specs.Prelude.{encode_utf8_all, bytes_eq, codes, IsUtf8, chars, nat_lt}
use Rattle.std.specs.Str.{all_scalars}
use Rattle.std.specs.Char.{IsScalar}
use Rattle.std.specs.Cmp.Lexicographic.{bytes_decides}
use Rattle.std.specs.List.{list_all}
use Rattle.std.proofs.Math.Utf8.{encode, scalar}
use Rattle.std.proofs.lemmas.Bool.Decides.{nat_tests}
use Rattle.std.proofs.lemmas.Str.{encodes_same, encodes-chars, scalars-chars}
use Rattle.zs_keys.specs.Text.{chunks, is_star, is_double_star, is_verbatim}
use Rattle.zs_keys.specs.Matching.{meets, units, is_free, chunk_meets, chunk_includes, intersects, includes}
use Rattle.zs_keys.specs.Rules.{meets-wild-end, meets-wild, meets-end-wild, meets-wild_right, meets-left_end, meets-right_end, meets-pair}
use Rattle.zs_keys.proofs.Bools.{split, and_first, and_second, both, both_ways, not_true}
use Rattle.zs_keys.proofs.PrefixLemmas.{chunks-some}
use Rattle.zs_keys.proofs.Encoding.{follows, Encodes, encoding}
use Rattle.zs_keys.proofs.Characters.{units-by_bytes, included-by_bytes}

abbrev pub bytes : List ℕ → List ℕ
bytes cs = encode_utf8_all cs

pub scalar-first : (x : ℕ) (u : List ℕ) → all_scalars (x ∷ u) ≡ true → IsScalar x
scalar-first x u s = and_first (scalar x) (all_scalars u) s

pub scalar-rest : (x : ℕ) (u : List ℕ) → all_scalars (x ∷ u) ≡ true → all_scalars u ≡ true
scalar-rest x u s = and_second (scalar x) (all_scalars u) s

-- equal texts have equal bytes, and no others
pub same-by_bytes : (c d : List ℕ) → bytes_eq (bytes c) (bytes d) ≡ bytes_eq c d
same-by_bytes c d = both_ways (bytes_eq (bytes c) (bytes d)) (bytes_eq c d)
    (λ h. (bytes_decides c d).1 (encodes_same c d ((bytes_decides (bytes c) (bytes d)).0 h)))
    (λ h. (bytes_decides (bytes c) (bytes d)).1 (ap (λ (x : List ℕ). bytes x) ((bytes_decides c d).0 h)))

star-bytes : bytes (codes "*") ≡ codes "*"
unfolding encode
star-bytes = refl

run-bytes : bytes (codes "**") ≡ codes "**"
unfolding encode
run-bytes = refl

pub star-by_bytes : (c : List ℕ) → is_star (bytes c) ≡ is_star c
star-by_bytes c = ap (λ (x : List ℕ). bytes_eq (bytes c) x) (sym star-bytes) ∙ same-by_bytes c (codes "*")

pub run-by_bytes : (c : List ℕ) → is_double_star (bytes c) ≡ is_double_star c
run-by_bytes c = ap (λ (x : List ℕ). bytes_eq (bytes c) x) (sym run-bytes) ∙ same-by_bytes c (codes "**")

-- a sign of the language is one byte, and no other character has that byte
pub sign_apart : (n b c : ℕ) (t : List ℕ) → n < 128 → Encodes c b t → (b == n) ≡ (c == n)
sign_apart n b c t small e = lead e.lead
  where
    lead : (((c < 128) × (b ≡ c) × (t ≡ [])) ⊎ ((128 ≤ c) × (192 ≤ b))) → (b == n) ≡ (c == n)
    lead (inl (low, same, none)) = rw same refl
    lead (inr (large, high)) =
        let one : (b == n) ≡ false = grind (arith, nat_tests) in
        let two : (c == n) ≡ false = grind (arith, nat_tests) in
        one ∙ sym two

sign-encoding : (n c : ℕ) → n < 128 → (c == n) ≡ true → encode c ≡ n ∷ []
unfolding encode
sign-encoding n c small h =
    let is : c ≡ n = grind (arith, nat_tests) in
    let low : nat_lt n 128 ≡ true = grind (arith, nat_tests) in
    rw is (rw low refl)

verbatim-by_bytes : (c : List ℕ) → all_scalars c ≡ true → is_verbatim (bytes c) ≡ is_verbatim c
verbatim-by_bytes [] s = refl
verbatim-by_bytes (x ∷ c) s =
    let (b, t, e) = encoding x (scalar-first x c s) in
    rw e.is (sign_apart 0x40 b x t (omega arith) e)

-- a byte that follows is no sign
pub follows-no : (n b : ℕ) → n < 128 → follows b ≡ true → (b == n) ≡ false
follows-no n b small h = grind (arith, nat_tests)

all-no : (n : ℕ) (t : List ℕ) → n < 128 → list_all follows t ≡ true → list_all (λ b. not (b == n)) t ≡ true
all-no n [] small h = refl
all-no n (b ∷ t) small h =
    rw (follows-no n b small (and_first (follows b) (list_all follows t) h))
    (all-no n t small (and_second (follows b) (list_all follows t) h))

encoding-no : (n x : ℕ) → n < 128 → IsScalar x → (x == n) ≡ false → list_all (λ b. not (b == n)) (encode x) ≡ true
encoding-no n x small s h =
    let (b, t, e) = encoding x s in
    rw (e.is, sign_apart n b x t small e, h) (all-no n t small e.rest)

filter-front : (l e : List ℕ) → list_all (λ b. not (b == 0x2a)) l ≡ true → units (l ++ e) ≡ l ++ units e
filter-front [] e h = refl
filter-front (b ∷ l) e h =
    rw (and_first (not (b == 0x2a)) (list_all (λ a. not (a == 0x2a)) l) h)
    (ap (λ (x : List ℕ). b ∷ x) (filter-front l e (and_second (not (b == 0x2a)) (list_all (λ a. not (a == 0x2a)) l) h)))

units-of_bytes : (c : List ℕ) → all_scalars c ≡ true → units (bytes c) ≡ bytes (units c)
units-of_bytes [] s = refl
units-of_bytes (x ∷ c) s = split (x == 0x2a)
    (λ h. rw (sign-encoding 0x2a x (omega arith) h, h) (units-of_bytes c (scalar-rest x c s)))
    (λ h. rw h (filter-front (encode x) (bytes c) (encoding-no 0x2a x (omega arith) (scalar-first x c s) h)
    ∙ ap (λ (y : List ℕ). encode x ++ y) (units-of_bytes c (scalar-rest x c s))))

units-scalar : (c : List ℕ) → all_scalars c ≡ true → all_scalars (units c) ≡ true
units-scalar [] s = refl
units-scalar (x ∷ c) s = split (x == 0x2a)
    (λ h. rw h (units-scalar c (scalar-rest x c s)))
    (λ h. rw h (both (scalar x) (all_scalars (units c)) (scalar-first x c s) (units-scalar c (scalar-rest x c s))))

chunk-by_bytes : (c d : List ℕ) → all_scalars c ≡ true → all_scalars d ≡ true → chunk_meets (bytes c) (bytes d) ≡ chunk_meets c d
chunk-by_bytes c d s k =
    rw (
      verbatim-by_bytes c s,
      verbatim-by_bytes d k,
      same-by_bytes c d,
      star-by_bytes c,
      star-by_bytes d,
      units-of_bytes c s,
      units-of_bytes d k,
      units-by_bytes (units c) (units d) (units-scalar c s) (units-scalar d k),
    ) refl

-- bytes without a `/` go before the first chunk
chunks-front : (l e c : List ℕ) (cs : List (List ℕ)) → list_all (λ b. not (b == 0x2f)) l ≡ true → chunks e ≡ c ∷ cs
    → chunks (l ++ e) ≡ (l ++ c) ∷ cs
chunks-front [] e c cs h is = is
chunks-front (b ∷ l) e c cs h is =
    let no : (b == 0x2f) ≡ false = not_true (b == 0x2f) (and_first (not (b == 0x2f)) (list_all (λ a. not (a == 0x2f)) l) h) in
    rw (no, chunks-front l e c cs (and_second (not (b == 0x2f)) (list_all (λ a. not (a == 0x2f)) l) h) is) refl

pub chunks-of_bytes : (cs : List ℕ) → all_scalars cs ≡ true → chunks (bytes cs) ≡ map (λ c. bytes c) (chunks cs)
chunks-of_bytes [] s = refl
chunks-of_bytes (x ∷ xs) s =
    let (c, rest, is) = chunks-some xs in
    let ih : chunks (bytes xs) ≡ bytes c ∷ map (λ d. bytes d) rest = chunks-of_bytes xs (scalar-rest x xs s) ∙ rw is refl in
    split (x == 0x2f)
    (λ h. rw (sign-encoding 0x2f x (omega arith) h, h) (ap (λ (ds : List (List ℕ)). [] ∷ ds) (chunks-of_bytes xs (scalar-rest x xs s))))
    (λ h. rw (h, is)
    (chunks-front (encode x) (bytes xs) (bytes c) (map (λ d. bytes d) rest)
    (encoding-no 0x2f x (omega arith) (scalar-first x xs s) h) ih))

-- each chunk of a text is one of characters
pub chunks-scalar : (cs : List ℕ) → all_scalars cs ≡ true → list_all all_scalars (chunks cs) ≡ true
chunks-scalar [] s = refl
chunks-scalar (x ∷ xs) s =
    let (c, rest, is) = chunks-some xs in
    let ih : (all_scalars c && list_all all_scalars rest) ≡ true = rw is at (chunks-scalar xs (scalar-rest x xs s)) in
    split (x == 0x2f)
    (λ h. rw h (chunks-scalar xs (scalar-rest x xs s)))
    (λ h. rw (h, is)
    (both (all_scalars (x ∷ c)) (list_all all_scalars rest)
    (both (scalar x) (all_scalars c) (scalar-first x xs s) (and_first (all_scalars c) (list_all all_scalars rest) ih))
    (and_second (all_scalars c) (list_all all_scalars rest) ih)))

-- lists whose elements are seen another way match where those do
module _ {X : Type 0} (wild wild' free ok : X → Bool) (same : X → X → Bool) (see : X → X)
    (see-wild : (x : X) → wild (see x) ≡ wild x)
    (see-wild' : (x : X) → wild' (see x) ≡ wild' x)
    (see-free : (x : X) → ok x ≡ true → free (see x) ≡ free x)
    (see-same : (x y : X) → ok x ≡ true → ok y ≡ true → same (see x) (see y) ≡ same x y) where
  abbrev M : List X → List X → Bool
  M = meets wild wild' free same

  pub seen : (p q : List X) → list_all ok p ≡ true → list_all ok q ≡ true → M (map see p) (map see q) ≡ M p q
  seen [] [] s k = refl
  seen [] (y ∷ ys) s k =
      let rest = and_second (ok y) (list_all ok ys) k in
      split (wild' y)
      (λ w. meets-end-wild wild wild' free same (see y) (map see ys) (see-wild' y ∙ w)
      ∙ seen [] ys s rest ∙ sym (meets-end-wild wild wild' free same y ys w))
      (λ w. meets-left_end wild wild' free same (see y) (map see ys) (see-wild' y ∙ w)
      ∙ sym (meets-left_end wild wild' free same y ys w))
  seen (x ∷ xs) [] s k =
      let rest = and_second (ok x) (list_all ok xs) s in
      split (wild x)
      (λ w. meets-wild-end wild wild' free same (see x) (map see xs) (see-wild x ∙ w)
      ∙ seen xs [] rest k ∙ sym (meets-wild-end wild wild' free same x xs w))
      (λ w. meets-right_end wild wild' free same (see x) (map see xs) (see-wild x ∙ w)
      ∙ sym (meets-right_end wild wild' free same x xs w))
  seen (x ∷ xs) (y ∷ ys) s k =
      let okx = and_first (ok x) (list_all ok xs) s in
      let oky = and_first (ok y) (list_all ok ys) k in
      let drop = seen xs (y ∷ ys) (and_second (ok x) (list_all ok xs) s) k in
      let turn = seen (x ∷ xs) ys s (and_second (ok y) (list_all ok ys) k) in
      let next = seen xs ys (and_second (ok x) (list_all ok xs) s) (and_second (ok y) (list_all ok ys) k) in
      split (wild x)
      (λ w. meets-wild wild wild' free same (see x) (see y) (map see xs) (map see ys) (see-wild x ∙ w)
      ∙ rw (drop, turn, see-free y oky) (sym (meets-wild wild wild' free same x y xs ys w)))
      (λ w. split (wild' y)
      (λ v. meets-wild_right wild wild' free same (see x) (see y) (map see xs) (map see ys) (see-wild x ∙ w) (see-wild' y ∙ v)
      ∙ rw (drop, turn, see-free x okx) (sym (meets-wild_right wild wild' free same x y xs ys w v)))
      (λ v. meets-pair wild wild' free same (see x) (see y) (map see xs) (map see ys) (see-wild x ∙ w) (see-wild' y ∙ v)
      ∙ rw (next, see-same x y okx oky) (sym (meets-pair wild wild' free same x y xs ys w v))))

free-by_bytes : (c : List ℕ) → all_scalars c ≡ true → is_free (bytes c) ≡ is_free c
free-by_bytes c s = ap (λ (b : Bool). not b) (verbatim-by_bytes c s)

intersects-by_bytes : (cs ds : List ℕ) → all_scalars cs ≡ true → all_scalars ds ≡ true
    → intersects (bytes cs) (bytes ds) ≡ intersects cs ds
intersects-by_bytes cs ds s k =
    rw (chunks-of_bytes cs s, chunks-of_bytes ds k)
    (seen is_double_star is_double_star is_free all_scalars chunk_meets (λ c. bytes c) run-by_bytes run-by_bytes free-by_bytes
    chunk-by_bytes (chunks cs) (chunks ds) (chunks-scalar cs s) (chunks-scalar ds k))

-- the same of texts and their characters
pub intersects-by_characters : (left right : List ℕ) → IsUtf8 left → IsUtf8 right
    → intersects (chars left) (chars right) ≡ intersects left right
intersects-by_characters left right u v =
    sym (intersects-by_bytes (chars left) (chars right) (scalars-chars left u) (scalars-chars right v))
    ∙ rw (encodes-chars left u, encodes-chars right v) refl

inclusion-by_bytes : (c d : List ℕ) → all_scalars c ≡ true → all_scalars d ≡ true
    → chunk_includes (bytes c) (bytes d) ≡ chunk_includes c d
inclusion-by_bytes c d s k =
    rw (
      run-by_bytes d,
      same-by_bytes c d,
      verbatim-by_bytes c s,
      verbatim-by_bytes d k,
      star-by_bytes c,
      star-by_bytes d,
      units-of_bytes c s,
      units-of_bytes d k,
      included-by_bytes (units c) (units d) (units-scalar c s) (units-scalar d k),
    ) refl

includes-by_bytes : (cs ds : List ℕ) → all_scalars cs ≡ true → all_scalars ds ≡ true
    → includes (bytes cs) (bytes ds) ≡ includes cs ds
includes-by_bytes cs ds s k =
    rw (chunks-of_bytes cs s, chunks-of_bytes ds k)
    (seen is_double_star (λ _. false) is_free all_scalars chunk_includes (λ c. bytes c) run-by_bytes (λ _. refl) free-by_bytes
    inclusion-by_bytes (chunks cs) (chunks ds) (chunks-scalar cs s) (chunks-scalar ds k))

pub includes-by_characters : (left right : List ℕ) → IsUtf8 left → IsUtf8 right
    → includes (chars left) (chars right) ≡ includes left right
includes-by_characters left right u v =
    sym (includes-by_bytes (chars left) (chars right) (scalars-chars left u) (scalars-chars right v))
    ∙ rw (encodes-chars left u, encodes-chars right v) refl
