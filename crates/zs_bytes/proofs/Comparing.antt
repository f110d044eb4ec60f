-- Two readers that go on side by side.
use Rattle.std.proofs.Common.{◌≡◌, ℕ, ◌+◌, ◌≤◌, ◌<◌, List, [], ◌++◌, length, take, drop, sym, ap, ◌∙◌, arith, length-drop, refl, Bool, true, false, not, IsTrue}
use Rattle.std.proofs.lemmas.List.{length-take, take-take, drop-take}
use Rattle.std.specs.Str.{bytes_eq}
use Rattle.std.proofs.lemmas.Slice.Eq.{bytes_eq-Decides}
use Rattle.std.proofs.lemmas.Bool.{false≢true}
use Rattle.std.proofs.Math.Seq.{take-add}
use Rattle.zs_bytes.specs.Reading.{Reading, unread}
use Rattle.zs_bytes.proofs.Pieces.{moved-moved, unread-moved}

-- both went on past the same bytes
pub record IsAlong (left right left_now right_now : Reading) : Type 0 where
  pub count : ℕ
  pub length : length (unread left) ≡ length (unread right)
  pub same : take count (unread left) ≡ take count (unread right)
  pub left_after : left_now ≡ record left { position = left.position + count }
  pub right_after : right_now ≡ record right { position = right.position + count }

-- one piece more that is the same on both sides
pub same-more : (xs ys : List ℕ) (a n : ℕ) → take a xs ≡ take a ys → take n (drop a xs) ≡ take n (drop a ys) → take (a + n) xs ≡ take (a + n) ys
same-more xs ys a n before more =
    take-add a n xs ∙ ap (λ (t : List ℕ). t ++ take n (drop a xs)) before ∙ ap (λ (t : List ℕ). take a ys ++ t) more ∙ sym (take-add a n ys)

-- both readers went on past one piece more
pub IsAlong-more : (left right l r l' r' : Reading) (piece : List ℕ) → IsAlong left right l r → piece ≡ take (length piece) (unread l) → l' ≡ record l { position = l.position + length piece } → take (length piece) (unread r) ≡ piece → r' ≡ record r { position = r.position + length piece } → IsAlong left right l' r'
IsAlong-more left right l r l' r' piece is front left_after taken right_after = record {
  count = is.count + length piece;
  length = is.length;
  same =
      same-more (unread left) (unread right) is.count (length piece) is.same
      (ap (λ (t : List ℕ). take (length piece) t) (sym (unread-moved left l is.count is.left_after)) ∙ sym front ∙ sym taken ∙ ap (λ (t : List ℕ). take (length piece) t) (unread-moved right r is.count is.right_after));
  left_after = moved-moved left l l' is.count (length piece) _ is.left_after left_after refl;
  right_after = moved-moved right r r' is.count (length piece) _ is.right_after right_after refl;
}

-- a piece of the one is not there in the other
pub not-along : (left right l r : Reading) (piece : List ℕ) → IsAlong left right l r → piece ≡ take (length piece) (unread l) → ¬ (take (length piece) (unread r) ≡ piece) → ¬ (unread left ≡ unread right)
not-along left right l r piece is front other same =
    other (
    ap (λ (t : List ℕ). take (length piece) t) (unread-moved right r is.count is.right_after ∙ ap (λ (t : List ℕ). drop is.count t) (sym same) ∙ sym (unread-moved left l is.count is.left_after)) ∙ sym front
    )

-- if the front of xs is ys, then each piece of it is
pub piece-same : (xs ys : List ℕ) (a n : ℕ) → take (length ys) xs ≡ ys → a + n ≤ length ys → take n (drop a xs) ≡ take n (drop a ys)
piece-same xs ys a n front within =
    sym (drop-take a n xs) ∙ ap (λ (t : List ℕ). drop a t) (sym (take-take (a + n) (length ys) xs within) ∙ ap (λ (t : List ℕ). take (a + n) t) front) ∙ drop-take a n ys

-- what ends too early is not the same
pub not-short : (xs ys : List ℕ) (a : ℕ) → drop a xs ≡ [] → a < length ys → ¬ (take (length ys) xs ≡ ys)
not-short xs ys a none within = λ same. omega (arith, length-take (length ys) xs, ap (λ (t : List ℕ). length t) same, length-drop a xs, ap (λ (t : List ℕ). length t) none)

-- a piece that differs makes a difference
pub not-piece : (xs ys piece : List ℕ) (a n : ℕ) → a + n ≤ length ys → piece ≡ take n (drop a xs) → ¬ (piece ≡ take n (drop a ys)) → ¬ (take (length ys) xs ≡ ys)
not-piece xs ys piece a n within front other = λ same. other (front ∙ piece-same xs ys a n same within)

-- what an answer of false says
pub never : (P : Type 0) → ¬ P → (IsTrue false → P) × (P → IsTrue false)
never P not = (λ t. absurd (false≢true t), λ p. absurd (not p))

-- what a test for a difference says of two pieces
pub differs : (xs ys : List ℕ) → true ≡ not (bytes_eq xs ys) → ¬ (xs ≡ ys)
differs xs ys other = λ same. false≢true (sym (other ∙ ap (λ (b : Bool). not b) ((bytes_eq-Decides xs ys).1 same)))

was_true : (b : Bool) → false ≡ not b → b ≡ true
was_true true e = refl
was_true false e = e

pub agrees : (xs ys : List ℕ) → false ≡ not (bytes_eq xs ys) → xs ≡ ys
agrees xs ys same = (bytes_eq-Decides xs ys).0 (was_true (bytes_eq xs ys) same)
