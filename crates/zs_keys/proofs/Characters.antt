-- Matching units by their bytes is matching them by their characters.
use Rattle.std.proofs.Common.{◌≡◌, ℕ, ◌<◌, ◌≤◌, ◌⊎◌, inl, inr, ◌==◌, Bool, true, false, not, ◌&&◌, ◌||◌, List, [], ◌∷◌, ◌++◌, length, refl, sym, ◌∙◌, ap, arith}
use Rattle.std.specs.Prelude.{encode_utf8_all}
use Rattle.std.specs.Str.{all_scalars, continuation_len}
use Rattle.std.specs.Char.{IsScalar}
use Rattle.std.specs.Cmp.{nat_eq_equiv}
use Rattle.std.specs.List.{list_all}
use Rattle.std.proofs.Math.Utf8.{encode, scalar}
use Rattle.std.proofs.lemmas.Bool.Decides.{nat_tests}
use Rattle.std.proofs.lemmas.Str.{encodes_same}
use Rattle.zs_keys.specs.Matching.{meets, some_rest, is_any}
use Rattle.zs_keys.specs.Rules.{meets-wild-end, meets-wild, meets-end-wild, meets-left_end, meets-right_end, meets-pair}
use Rattle.zs_keys.proofs.Symmetry.{meets_comm, same_unit_comm}
use Rattle.zs_keys.proofs.Bools.{split, or_cases, and_first, and_second, both_ways, not_true}
use Rattle.zs_keys.proofs.Behind.{behind-wild, behind-later, behind-here}
use Rattle.zs_keys.proofs.Encoding.{follows, Encodes, encoding}

abbrev bytes : List ℕ → List ℕ
bytes cs = encode_utf8_all cs

byte-equal : (b d : ℕ) → (b == d) ≡ true → b ≡ d
byte-equal b d h = grind (arith, nat_tests)

-- a byte that follows is no `$`, and no byte that begins a character
follows-plain : (b : ℕ) → follows b ≡ true → is_any b ≡ false
follows-plain b h = grind (arith, nat_tests)

lead-plain : (c b : ℕ) (t : List ℕ) → Encodes c b t → is_any c ≡ false → is_any b ≡ false
lead-plain c b t e h = lead e.lead
  where
    lead : (((c < 128) × (b ≡ c) × (t ≡ [])) ⊎ ((128 ≤ c) × (192 ≤ b))) → is_any b ≡ false
    lead (inl (small, same, none)) = rw same h
    lead (inr (large, high)) = grind (arith, nat_tests)

lead-apart : (c b d : ℕ) (t : List ℕ) → Encodes c b t → follows d ≡ true → (b == d) ≡ false
lead-apart c b d t e h = lead e.lead
  where
    lead : (((c < 128) × (b ≡ c) × (t ≡ [])) ⊎ ((128 ≤ c) × (192 ≤ b))) → (b == d) ≡ false
    lead (inl (small, same, none)) = grind (arith, nat_tests)
    lead (inr (large, high)) = grind (arith, nat_tests)

dollar-encoding : (c : ℕ) → is_any c ≡ true → encode c ≡ 0x24 ∷ []
unfolding encode
dollar-encoding c h = let is : c ≡ 0x24 = grind (arith, nat_tests) in rw is refl

scalar-first : (x : ℕ) (u : List ℕ) → all_scalars (x ∷ u) ≡ true → IsScalar x
scalar-first x u s = and_first (scalar x) (all_scalars u) s

scalar-rest : (x : ℕ) (u : List ℕ) → all_scalars (x ∷ u) ≡ true → all_scalars u ≡ true
scalar-rest x u s = and_second (scalar x) (all_scalars u) s

dollar-bytes : (x : ℕ) (u : List ℕ) → is_any x ≡ true → bytes (x ∷ u) ≡ 0x24 ∷ bytes u
dollar-bytes x u w = rw (dollar-encoding x w) refl

lead-bytes : (x l : ℕ) (t u : List ℕ) → Encodes x l t → bytes (x ∷ u) ≡ l ∷ (t ++ bytes u)
lead-bytes x l t u e = rw e.is refl

-- what is said of a character that is no `$`, and of each byte that follows, is said of all its bytes
follow-all : (test : ℕ → Bool) → ((b : ℕ) → follows b ≡ true → test b ≡ false) → (t : List ℕ) → list_all follows t ≡ true
    → list_all (λ b. not (test b)) t ≡ true
follow-all test f [] h = refl
follow-all test f (b ∷ t) h =
    rw (f b (and_first (follows b) (list_all follows t) h)) (follow-all test f t (and_second (follows b) (list_all follows t) h))

bytes-apart : (x y : ℕ) → (x == y) ≡ false → x ≡ y → ⊥
bytes-apart x y t is = grind (arith, nat_tests)

module _ (wild' : ℕ → Bool) (right-follows : (b : ℕ) → follows b ≡ true → wild' b ≡ false)
    (right-lead : (c b : ℕ) (t : List ℕ) → Encodes c b t → wild' c ≡ false → wild' b ≡ false) where
  abbrev B : List ℕ → List ℕ → Bool
  B = meets is_any wild' (λ _. true) (λ a b. a == b)

  abbrev S : List ℕ → List ℕ → Bool
  S p q = some_rest (λ _. true) (B p) q

  -- a match that stops inside a character also stops behind it
  skip-one : (u : List ℕ) (b : ℕ) (rest : List ℕ) → all_scalars u ≡ true → follows b ≡ true → B (bytes u) (b ∷ rest) ≡ true
      → S (bytes u) rest ≡ true
  skip-one [] b rest s f h =
      let no = meets-left_end is_any wild' (λ _. true) (λ a c. a == c) b rest (right-follows b f) in cc
  skip-one (x ∷ u) b rest s f h = split (is_any x)
      (λ w.
      let h' : B (0x24 ∷ bytes u) (b ∷ rest) ≡ true = rw (dollar-bytes x u w) at h in
      rw (dollar-bytes x u w) (or_cases (B (bytes u) (b ∷ rest)) (B (0x24 ∷ bytes u) rest)
      (sym (meets-wild is_any wild' (λ _. true) (λ a c. a == c) 0x24 b (bytes u) rest refl) ∙ h')
      (λ m. behind-here is_any wild' (λ a c. a == c) (0x24 ∷ bytes u) rest
      (behind-wild is_any wild' (λ a c. a == c) 0x24 (bytes u) rest refl
      ∙ skip-one u b rest (scalar-rest x u s) f m))
      (λ m. behind-here is_any wild' (λ a c. a == c) (0x24 ∷ bytes u) rest m)))
      (λ w.
      let (l, t, e) = encoding x (scalar-first x u s) in
      let h' : B (l ∷ (t ++ bytes u)) (b ∷ rest) ≡ true = rw (lead-bytes x l t u e) at h in
      let pair = sym (meets-pair is_any wild' (λ _. true) (λ a c. a == c) l b (t ++ bytes u) rest (lead-plain x l t e w) (right-follows b f)) ∙ h' in
      let equal = and_first (l == b) (B (t ++ bytes u) rest) pair in
      let apart = lead-apart x l b t e f in
      cc)

  skip-all : (u t q : List ℕ) → all_scalars u ≡ true → list_all follows t ≡ true → S (bytes u) (t ++ q) ≡ S (bytes u) q
  skip-all u [] q s f = refl
  skip-all u (b ∷ t) q s f =
      both_ways (S (bytes u) (b ∷ (t ++ q))) (S (bytes u) (t ++ q))
      (λ h. or_cases (B (bytes u) (b ∷ (t ++ q))) (S (bytes u) (t ++ q)) h
      (skip-one u b (t ++ q) s (and_first (follows b) (list_all follows t) f))
      (λ k. k))
      (behind-later is_any wild' (λ a c. a == c) (bytes u) b (t ++ q))
      ∙ skip-all u t q s (and_second (follows b) (list_all follows t) f)

  -- a `$*` against a character: it is dropped, or goes on behind the character
  skip-character : (u : List ℕ) (y : ℕ) (v : List ℕ) → all_scalars u ≡ true → all_scalars (y ∷ v) ≡ true
      → S (bytes u) (bytes (y ∷ v)) ≡ (B (bytes u) (bytes (y ∷ v)) || S (bytes u) (bytes v))
  skip-character u y v s k =
      let (l, t, e) = encoding y (scalar-first y v k) in
      rw (lead-bytes y l t v e, skip-all u t (bytes v) s e.rest) refl

  -- bytes that pair are equal, where none is a `$`
  fits : (t s p q : List ℕ) → length t ≡ length s → list_all follows t ≡ true → list_all follows s ≡ true
      → B (t ++ p) (s ++ q) ≡ true → t ≡ s
  fits [] [] p q l f g h = refl
  fits [] (d ∷ s) p q l f g h = absurd (omega (arith, l))
  fits (b ∷ t) [] p q l f g h = absurd (omega (arith, l))
  fits (b ∷ t) (d ∷ s) p q l f g h =
      let pair = sym (meets-pair is_any wild' (λ _. true) (λ a c. a == c) b d (t ++ p) (s ++ q)
      (follows-plain b (and_first (follows b) (list_all follows t) f))
      (right-follows d (and_first (follows d) (list_all follows s) g))) ∙ h in
      let equal : b ≡ d = byte-equal b d (and_first (b == d) (B (t ++ p) (s ++ q)) pair) in
      let rest : t ≡ s = fits t s p q (omega (arith, l)) (and_second (follows b) (list_all follows t) f)
      (and_second (follows d) (list_all follows s) g) (and_second (b == d) (B (t ++ p) (s ++ q)) pair) in
      rw (equal, rest) refl

  characters-pair : (x y : ℕ) (p q : List ℕ) → IsScalar x → IsScalar y → is_any x ≡ false → wild' y ≡ false
      → B (encode x ++ p) (encode y ++ q) ≡ true → x ≡ y
  characters-pair x y p q sx sy wx wy h =
      let (b, t, e) = encoding x sx in
      let (d, s, g) = encoding y sy in
      let h' : B (b ∷ (t ++ p)) (d ∷ (s ++ q)) ≡ true = rw (e.is, g.is) at h in
      let pair = sym (meets-pair is_any wild' (λ _. true) (λ a c. a == c) b d (t ++ p) (s ++ q)
      (lead-plain x b t e wx) (right-lead y d s g wy)) ∙ h' in
      let equal : b ≡ d = byte-equal b d (and_first (b == d) (B (t ++ p) (s ++ q)) pair) in
      let long : length t ≡ length s = e.len ∙ ap continuation_len equal ∙ sym g.len in
      let rest = fits t s p q long e.rest g.rest (and_second (b == d) (B (t ++ p) (s ++ q)) pair) in
      let whole : bytes (x ∷ []) ≡ bytes (y ∷ []) = rw (e.is, g.is, equal, rest) refl in
      let one : x ∷ [] ≡ y ∷ [] = encodes_same (x ∷ []) (y ∷ []) whole in
      cc

  same-front : (l p q : List ℕ) → list_all (λ b. not (is_any b)) l ≡ true → list_all (λ b. not (wild' b)) l ≡ true
      → B (l ++ p) (l ++ q) ≡ B p q
  same-front [] p q h k = refl
  same-front (b ∷ l) p q h k =
      meets-pair is_any wild' (λ _. true) (λ a c. a == c) b b (l ++ p) (l ++ q)
      (not_true (is_any b) (and_first (not (is_any b)) (list_all (λ a. not (is_any a)) l) h))
      (not_true (wild' b) (and_first (not (wild' b)) (list_all (λ a. not (wild' a)) l) k))
      ∙ rw (nat_eq_equiv.refl b) (same-front l p q (and_second (not (is_any b)) (list_all (λ a. not (is_any a)) l) h)
      (and_second (not (wild' b)) (list_all (λ a. not (wild' a)) l) k))

  encoding-plain : (x : ℕ) → IsScalar x → is_any x ≡ false → list_all (λ b. not (is_any b)) (encode x) ≡ true
  encoding-plain x s w =
      let (b, t, e) = encoding x s in rw (e.is, lead-plain x b t e w) (follow-all is_any follows-plain t e.rest)

  encoding-right : (x : ℕ) → IsScalar x → wild' x ≡ false → list_all (λ b. not (wild' b)) (encode x) ≡ true
  encoding-right x s w =
      let (b, t, e) = encoding x s in rw (e.is, right-lead x b t e w) (follow-all wild' right-follows t e.rest)

  character-step : (x y : ℕ) (p q : List ℕ) → IsScalar x → IsScalar y → is_any x ≡ false → wild' y ≡ false
      → B (encode x ++ p) (encode y ++ q) ≡ ((x == y) && B p q)
  character-step x y p q sx sy wx wy = split (x == y)
      (λ t. let is : y ≡ x = sym (byte-equal x y t) in
      rw (t, is) (same-front (encode x) p q (encoding-plain x sx wx) (encoding-right x sx (rw is at wy))))
      (λ t. both_ways (B (encode x ++ p) (encode y ++ q)) ((x == y) && B p q)
      (λ h. let is = characters-pair x y p q sx sy wx wy h in absurd (bytes-apart x y t is))
      (λ h. let no : false ≡ true = rw t at h in cc))

  -- a `$*` on the left
  wild-by_bytes : (x : ℕ) (u : List ℕ) (y : ℕ) (v : List ℕ) → all_scalars u ≡ true → all_scalars (y ∷ v) ≡ true → is_any x ≡ true
      → B (bytes u) (bytes (y ∷ v)) ≡ B u (y ∷ v) → B (bytes (x ∷ u)) (bytes v) ≡ B (x ∷ u) v
      → B (bytes (x ∷ u)) (bytes (y ∷ v)) ≡ B (x ∷ u) (y ∷ v)
  wild-by_bytes x u y v s k w drop turn =
      let here : B (0x24 ∷ bytes u) (bytes (y ∷ v)) ≡ (B (bytes u) (bytes (y ∷ v)) || S (bytes u) (bytes v)) =
      behind-wild is_any wild' (λ a c. a == c) 0x24 (bytes u) (bytes (y ∷ v)) refl ∙ skip-character u y v s k in
      let later : S (bytes u) (bytes v) ≡ B (x ∷ u) v =
      sym (behind-wild is_any wild' (λ a c. a == c) 0x24 (bytes u) (bytes v) refl)
      ∙ sym (ap (λ (p : List ℕ). B p (bytes v)) (dollar-bytes x u w)) ∙ turn in
      ap (λ (p : List ℕ). B p (bytes (y ∷ v))) (dollar-bytes x u w)
      ∙ here
      ∙ ap (λ (a : Bool). a || S (bytes u) (bytes v)) drop
      ∙ ap (λ (a : Bool). B u (y ∷ v) || a) later
      ∙ sym (meets-wild is_any wild' (λ _. true) (λ a c. a == c) x y u v w)

abbrev Meet : List ℕ → List ℕ → Bool
Meet = meets is_any is_any (λ _. true) (λ a b. a == b)

comm : (p q : List ℕ) → Meet p q ≡ Meet q p
comm = meets_comm is_any (λ _. true) (λ a b. a == b) same_unit_comm (λ _ _. refl)

ends-by_bytes : (v : List ℕ) → all_scalars v ≡ true → Meet [] (bytes v) ≡ Meet [] v
ends-by_bytes [] s = refl
ends-by_bytes (y ∷ v) s = split (is_any y)
    (λ w. rw (dollar-bytes y v w)
    (meets-end-wild is_any is_any (λ _. true) (λ a c. a == c) 0x24 (bytes v) refl
    ∙ ends-by_bytes v (scalar-rest y v s)
    ∙ sym (meets-end-wild is_any is_any (λ _. true) (λ a c. a == c) y v w)))
    (λ w.
    let (l, t, e) = encoding y (scalar-first y v s) in
    rw (lead-bytes y l t v e)
    (meets-left_end is_any is_any (λ _. true) (λ a c. a == c) l (t ++ bytes v) (lead-plain y l t e w)
    ∙ sym (meets-left_end is_any is_any (λ _. true) (λ a c. a == c) y v w)))

pub units-by_bytes : (u v : List ℕ) → all_scalars u ≡ true → all_scalars v ≡ true → Meet (bytes u) (bytes v) ≡ Meet u v
units-by_bytes [] v s k = ends-by_bytes v k
units-by_bytes (x ∷ u) [] s k = comm (bytes (x ∷ u)) [] ∙ ends-by_bytes (x ∷ u) s ∙ comm [] (x ∷ u)
units-by_bytes (x ∷ u) (y ∷ v) s k =
    let drop = units-by_bytes u (y ∷ v) (scalar-rest x u s) k in
    let turn = units-by_bytes (x ∷ u) v s (scalar-rest y v k) in
    let next = units-by_bytes u v (scalar-rest x u s) (scalar-rest y v k) in
    split (is_any x)
    (λ w. wild-by_bytes is_any follows-plain lead-plain x u y v (scalar-rest x u s) k w drop turn)
    (λ w. split (is_any y)
    (λ z.
    comm (bytes (x ∷ u)) (bytes (y ∷ v))
    ∙ wild-by_bytes is_any follows-plain lead-plain y v x u (scalar-rest y v k) s z
    (comm (bytes v) (bytes (x ∷ u)) ∙ turn ∙ comm (x ∷ u) v)
    (comm (bytes (y ∷ v)) (bytes u) ∙ drop ∙ comm u (y ∷ v))
    ∙ comm (y ∷ v) (x ∷ u))
    (λ z.
    character-step is_any follows-plain lead-plain x y (bytes u) (bytes v) (scalar-first x u s) (scalar-first y v k) w z
    ∙ ap (λ (a : Bool). (x == y) && a) next
    ∙ sym (meets-pair is_any is_any (λ _. true) (λ a c. a == c) x y u v w z)))

-- the same where nothing is wild on the right
abbrev Include : List ℕ → List ℕ → Bool
Include = meets is_any (λ _. false) (λ _. true) (λ a b. a == b)

no-follows : (b : ℕ) → follows b ≡ true → false ≡ false
no-follows b h = refl

no-lead : (c b : ℕ) (t : List ℕ) → Encodes c b t → false ≡ false → false ≡ false
no-lead c b t e h = refl

pub included-by_bytes : (u v : List ℕ) → all_scalars u ≡ true → all_scalars v ≡ true → Include (bytes u) (bytes v) ≡ Include u v
included-by_bytes [] [] s k = refl
included-by_bytes [] (y ∷ v) s k =
    let (l, t, e) = encoding y (scalar-first y v k) in
    rw (lead-bytes y l t v e)
    (meets-left_end is_any (λ _. false) (λ _. true) (λ a c. a == c) l (t ++ bytes v) refl
    ∙ sym (meets-left_end is_any (λ _. false) (λ _. true) (λ a c. a == c) y v refl))
included-by_bytes (x ∷ u) [] s k = split (is_any x)
    (λ w. rw (dollar-bytes x u w)
    (meets-wild-end is_any (λ _. false) (λ _. true) (λ a c. a == c) 0x24 (bytes u) refl
    ∙ included-by_bytes u [] (scalar-rest x u s) k
    ∙ sym (meets-wild-end is_any (λ _. false) (λ _. true) (λ a c. a == c) x u w)))
    (λ w.
    let (l, t, e) = encoding x (scalar-first x u s) in
    rw (lead-bytes x l t u e)
    (meets-right_end is_any (λ _. false) (λ _. true) (λ a c. a == c) l (t ++ bytes u) (lead-plain x l t e w)
    ∙ sym (meets-right_end is_any (λ _. false) (λ _. true) (λ a c. a == c) x u w)))
included-by_bytes (x ∷ u) (y ∷ v) s k =
    let drop = included-by_bytes u (y ∷ v) (scalar-rest x u s) k in
    let turn = included-by_bytes (x ∷ u) v s (scalar-rest y v k) in
    let next = included-by_bytes u v (scalar-rest x u s) (scalar-rest y v k) in
    split (is_any x)
    (λ w. wild-by_bytes (λ _. false) no-follows no-lead x u y v (scalar-rest x u s) k w drop turn)
    (λ w.
    character-step (λ _. false) no-follows no-lead x y (bytes u) (bytes v) (scalar-first x u s) (scalar-first y v k) w refl
    ∙ ap (λ (a : Bool). (x == y) && a) next
    ∙ sym (meets-pair is_any (λ _. false) (λ _. true) (λ a c. a == c) x y u v w refl))
