-- What equal texts and plain texts match by: a text has a key in common with itself, and plain texts with equal ones alone.
use Rattle.std.proofs.Common.{◌≡◌, ℕ, Bool, true, false, not, ◌&&◌, ◌||◌, ◌==◌, List, [], ◌∷◌, refl, sym, ◌∙◌, ap, arith}
use Rattle.std.specs.Prelude.{bytes_eq, codes}
use Rattle.std.specs.Cmp.{nat_eq_equiv}
use Rattle.std.specs.Cmp.Lexicographic.{bytes_decides, nat_list_eq_equiv}
use Rattle.std.specs.List.{list_all, join_with_byte}
use Rattle.std.proofs.lemmas.Bool.Decides.{nat_tests}
use Rattle.std.proofs.lemmas.List.Splits.{join_with_byte-slice_split}
use Rattle.zs_keys.specs.Text.{chunks, is_star, is_double_star, is_verbatim}
use Rattle.zs_keys.specs.Matching.{meets, units, is_any, units_meet, is_free, chunk_meets, intersects}
use Rattle.zs_keys.specs.Plain.{is_plain_byte, is_plain}
use Rattle.zs_keys.specs.Rules.{meets-ends, meets-wild-end, meets-wild, meets-left_end, meets-right_end, meets-pair}
use Rattle.zs_keys.proofs.Bools.{split, or_left, or_right, and_second, and_first, both, both_ways, not_true}
use Rattle.zs_keys.proofs.CutLemmas.{double_star-free}
use Rattle.zs_keys.proofs.PrefixLemmas.{chunks-some}

module _ {X : Type 0} (wild free : X → Bool) (same : X → X → Bool) where
  abbrev M : List X → List X → Bool
  M = meets wild wild free same

  behind-wild : (x : X) (xs : List X) → wild x ≡ true → M xs xs ≡ true → M (x ∷ xs) xs ≡ true
  behind-wild x [] w h = meets-wild-end wild wild free same x [] w ∙ h
  behind-wild x (y ∷ ys) w h =
      meets-wild wild wild free same x y (y ∷ ys) ys w ∙ or_left (M (y ∷ ys) (y ∷ ys)) (free y && M (x ∷ y ∷ ys) ys) h

  -- a list matches itself
  pub list-itself : ((x : X) → wild x ≡ true → free x ≡ true) → ((x : X) → same x x ≡ true) → (xs : List X) → M xs xs ≡ true
  list-itself loose itself [] = meets-ends wild wild free same
  list-itself loose itself (x ∷ xs) =
      let rest = list-itself loose itself xs in
      split (wild x)
      (λ w. meets-wild wild wild free same x x xs xs w
      ∙ or_right (M xs (x ∷ xs)) (free x && M (x ∷ xs) xs) (both (free x) (M (x ∷ xs) xs) (loose x w) (behind-wild x xs w rest)))
      (λ w. meets-pair wild wild free same x x xs xs w w ∙ both (same x x) (M xs xs) (itself x) rest)

  -- lists of plain elements match only where they are equal
  pub list-equal : (plain : X → Bool) → ((x : X) → plain x ≡ true → wild x ≡ false)
      → ((x y : X) → plain x ≡ true → plain y ≡ true → same x y ≡ true → x ≡ y)
      → (p q : List X) → list_all plain p ≡ true → list_all plain q ≡ true → M p q ≡ true → p ≡ q
  list-equal plain tame exact [] [] h k m = refl
  list-equal plain tame exact [] (y ∷ ys) h k m =
      let no = meets-left_end wild wild free same y ys (tame y (and_first (plain y) (list_all plain ys) k)) in cc
  list-equal plain tame exact (x ∷ xs) [] h k m =
      let no = meets-right_end wild wild free same x xs (tame x (and_first (plain x) (list_all plain xs) h)) in cc
  list-equal plain tame exact (x ∷ xs) (y ∷ ys) h k m =
      let first = and_first (plain x) (list_all plain xs) h in
      let other = and_first (plain y) (list_all plain ys) k in
      let pair = sym (meets-pair wild wild free same x y xs ys (tame x first) (tame y other)) ∙ m in
      let head : x ≡ y = exact x y first other (and_first (same x y) (M xs ys) pair) in
      let tail : xs ≡ ys =
      list-equal plain tame exact xs ys (and_second (plain x) (list_all plain xs) h) (and_second (plain y) (list_all plain ys) k)
      (and_second (same x y) (M xs ys) pair) in
      cc

-- units have a text in common with themselves
pub units-itself : (u : List ℕ) → units_meet u u ≡ true
units-itself = list-itself is_any (λ _. true) (λ a b. a == b) (λ x w. refl) (λ x. nat_eq_equiv.refl x)

-- a chunk has a chunk in common with itself
pub chunk-itself : (c : List ℕ) → chunk_meets c c ≡ true
chunk-itself c = split (is_verbatim c)
    (λ v. rw v (nat_list_eq_equiv.refl c))
    (λ v. rw v (or_right (is_star c || is_star c) (units_meet (units c) (units c)) (units-itself (units c))))

-- any text has a key in common with itself
text-itself : (text : List ℕ) → intersects text text ≡ true
text-itself text = list-itself is_double_star is_free chunk_meets double_star-free chunk-itself (chunks text)

-- equal texts have a key in common, and equal chunks a chunk
pub equal-meet : (l r : List ℕ) → bytes_eq l r ≡ true → intersects l r ≡ true
equal-meet l r e = let same : l ≡ r = (bytes_decides l r).0 e in rw same (text-itself r)

pub equal-chunk : (c d : List ℕ) → bytes_eq c d ≡ true → chunk_meets c d ≡ true
equal-chunk c d e = let same : c ≡ d = (bytes_decides c d).0 e in rw same (chunk-itself d)

-- a plain byte is no `$`, and no `*`
plain-any : (a : ℕ) → is_plain_byte a ≡ true → is_any a ≡ false
plain-any a h = not_true (is_any a) (and_second (not (a == 0x2a)) (not (a == 0x24)) h)

-- the units of a plain chunk are its bytes
plain-units : (c : List ℕ) → is_plain c ≡ true → units c ≡ c
plain-units [] h = refl
plain-units (b ∷ bs) h =
    let first = and_first (is_plain_byte b) (is_plain bs) h in
    rw (and_first (not (b == 0x2a)) (not (b == 0x24)) first, plain-units bs (and_second (is_plain_byte b) (is_plain bs) h)) refl

-- no plain chunk is `*` or `**`
pub plain-not : (c d : List ℕ) → is_plain c ≡ true → is_plain d ≡ false → bytes_eq c d ≡ false
plain-not c d h k = split (bytes_eq c d)
    (λ e. let same : c ≡ d = (bytes_decides c d).0 e in let clash : is_plain d ≡ true = rw same at h in cc)
    (λ e. e)

-- plain chunks meet only where they are equal
plain-chunk : (c d : List ℕ) → is_plain c ≡ true → is_plain d ≡ true → chunk_meets c d ≡ true → c ≡ d
plain-chunk c d h k m = split (is_verbatim c || is_verbatim d)
    (λ v. (bytes_decides c d).0 (rw v at m))
    (λ v.
    let met : (is_star c || is_star d || units_meet (units c) (units d)) ≡ true = rw v at m in
    let star : is_star c ≡ false = plain-not c (codes "*") h refl in
    let star' : is_star d ≡ false = plain-not d (codes "*") k refl in
    let same : units_meet c d ≡ true = rw (star, star', plain-units c h, plain-units d k) at met in
    list-equal is_any (λ _. true) (λ a b. a == b) is_plain_byte plain-any (λ a b _ _ e. grind (arith, nat_tests)) c d h k same)

-- the chunks of a plain text are plain
pub plain-chunks : (text : List ℕ) → is_plain text ≡ true → list_all is_plain (chunks text) ≡ true
plain-chunks [] h = refl
plain-chunks (b ∷ bs) h =
    let rest = plain-chunks bs (and_second (is_plain_byte b) (is_plain bs) h) in
    let (c, cs, is) = chunks-some bs in
    let parts : (is_plain c && list_all is_plain cs) ≡ true = rw is at rest in
    split (b == 0x2f)
    (λ t. rw t rest)
    (λ t. rw (t, is) (both (is_plain_byte b && is_plain c) (list_all is_plain cs)
    (both (is_plain_byte b) (is_plain c) (and_first (is_plain_byte b) (is_plain bs) h) (and_first (is_plain c) (list_all is_plain cs) parts))
    (and_second (is_plain c) (list_all is_plain cs) parts)))

-- plain texts have a key in common only where they are equal
pub plain-meet : (l r : List ℕ) → is_plain l ≡ true → is_plain r ≡ true → intersects l r ≡ bytes_eq l r
plain-meet l r h k =
    both_ways (intersects l r) (bytes_eq l r)
    (λ m.
    let same : chunks l ≡ chunks r =
    list-equal is_double_star is_free chunk_meets is_plain (λ c p. plain-not c (codes "**") p refl) plain-chunk (chunks l) (chunks r)
    (plain-chunks l h) (plain-chunks r k) m in
    let whole : l ≡ r =
    sym (join_with_byte-slice_split 0x2f l) ∙ ap (λ cs. join_with_byte 0x2f cs) same ∙ join_with_byte-slice_split 0x2f r in
    (bytes_decides l r).1 whole)
    (equal-meet l r)

pub ruleset equal_steps = (plain-meet, equal-meet, equal-chunk)
