-- Two lists with wild elements match where the pieces behind their last wild elements do: one stands at the end of the
-- other.
use Rattle.std.proofs.Common.{◌≡◌, Bool, true, false, ◌||◌, List, [], ◌∷◌, refl, sym, ◌∙◌}
use Rattle.std.specs.List.{list_any}
use Rattle.zs_keys.specs.Matching.{meets, some_rest}
use Rattle.zs_keys.specs.Rules.{meets-wild, meets-wild_right, meets-right_end, meets-pair}
use Rattle.zs_keys.proofs.Symmetry.{meets_comm}
use Rattle.zs_keys.specs.Walk.{last_piece}
use Rattle.zs_keys.proofs.Bools.{split, or_cases, or_left, or_right, or_rest, and_second, both_ways, or_none_left, or_none_right}
use Rattle.zs_keys.proofs.Behind.{behind-wild, behind-later, behind-here}

or_first : (a b : Bool) → (a || b) ≡ true → b ≡ false → a ≡ true
or_first true b h k = refl
or_first false b h k = cc

-- a list without wild elements is its own last piece
pub last-whole : {X : Type 0} (wild : X → Bool) (p : List X) → list_any wild p ≡ false → last_piece wild p ≡ p
last-whole wild [] h = refl
last-whole wild (x ∷ xs) h = rw (or_none_right (wild x) (list_any wild xs) h, or_none_left (wild x) (list_any wild xs) h) refl

module _ {X : Type 0} (wild : X → Bool) (same : X → X → Bool) (even : (x y : X) → same x y ≡ same y x) where
  abbrev any : List X → Bool
  any p = list_any wild p

  abbrev M : List X → List X → Bool
  M = meets wild wild (λ _. true) same

  abbrev S : List X → List X → Bool
  S p q = some_rest (λ _. true) (M p) q

  abbrev last : List X → List X
  last p = last_piece wild p

  -- one of two pieces stands at the end of the other
  abbrev back : List X → List X → Bool
  back a b = S a b || S b a

  comm : (p q : List X) → M p q ≡ M q p
  comm p q = meets_comm wild (λ _. true) same even (λ _ _. refl) p q

  rests : (x : X) (xs : List X) (y : X) (ys : List X) → wild x ≡ false → wild y ≡ false → M (x ∷ xs) (y ∷ ys) ≡ true
      → M xs ys ≡ true
  rests x xs y ys h k m =
      and_second (same x y) (M xs ys) (sym (meets-pair wild wild (λ _. true) same x y xs ys h k) ∙ m)

  last-more : (x : X) (xs : List X) → any xs ≡ true → last (x ∷ xs) ≡ last xs
  last-more x xs a = rw a refl

  last-wild : (x : X) (xs : List X) → any xs ≡ false → wild x ≡ true → last (x ∷ xs) ≡ xs
  last-wild x xs a w = rw (a, w) refl

  -- the same of equal pieces
  move : (a b q : List X) → a ≡ b → S b q ≡ true → S a q ≡ true
  move a b q e h = rw e h

  move_back : (a b c d : List X) → a ≡ c → b ≡ d → back c d ≡ true → back a b ≡ true
  move_back a b c d e f h = rw (e, f) h

  -- what fits somewhere in a list without wild elements is carried over from place to place
  carry : (a b q : List X) → ((zs : List X) → any zs ≡ false → M a zs ≡ true → S b zs ≡ true) → any q ≡ false
      → S a q ≡ true → S b q ≡ true
  carry a b [] f n s = f [] n s
  carry a b (y ∷ ys) f n s = or_cases (M a (y ∷ ys)) (S a ys) s
      (λ m. f (y ∷ ys) n m)
      (λ t. behind-later wild wild same b y ys (carry a b ys f (or_none_right (wild y) (any ys) n) t))

  tail-wild : (x : X) (xs q : List X) → wild x ≡ true
      → ((zs : List X) → M xs zs ≡ true → any xs ≡ true → any zs ≡ false → S (last xs) zs ≡ true)
      → M (x ∷ xs) q ≡ true → any q ≡ false → S (last (x ∷ xs)) q ≡ true
  tail-wild x xs q w ih m n =
      let s : S xs q ≡ true = sym (behind-wild wild wild same x xs q w) ∙ m in
      split (any xs)
      (λ a. move (last (x ∷ xs)) (last xs) q (last-more x xs a) (carry xs (last xs) q (λ zs k t. ih zs t a k) n s))
      (λ a. move (last (x ∷ xs)) xs q (last-wild x xs a w) s)

  -- a match with a list without wild elements ends with the last piece
  tail-fits : (p q : List X) → M p q ≡ true → any p ≡ true → any q ≡ false → S (last p) q ≡ true
  tail-fits [] q m h n = cc
  tail-fits (x ∷ xs) [] m h n = split (wild x)
      (λ w. tail-wild x xs [] w (λ zs. tail-fits xs zs) m n)
      (λ w. let none = meets-right_end wild wild (λ _. true) same x xs w in cc)
  tail-fits (x ∷ xs) (y ∷ ys) m h n = split (wild x)
      (λ w. tail-wild x xs (y ∷ ys) w (λ zs. tail-fits xs zs) m n)
      (λ w. let a = or_rest (wild x) (any xs) h w in
      let v = or_none_left (wild y) (any ys) n in
      move (last (x ∷ xs)) (last xs) (y ∷ ys) (last-more x xs a) (behind-later wild wild same (last xs) y ys
      (tail-fits xs ys (rests x xs y ys w v m) a (or_none_right (wild y) (any ys) n))))

  tail-stands : (p q : List X) → S p q ≡ true → any p ≡ true → any q ≡ false → S (last p) q ≡ true
  tail-stands p q s h n = carry p (last p) q (λ zs k t. tail-fits p zs t h k) n s

  tail-fits_right : (p q : List X) → M p q ≡ true → any p ≡ false → any q ≡ true → S (last q) p ≡ true
  tail-fits_right p q m n h = tail-fits q p (comm q p ∙ m) h n

  -- a match of two lists with wild elements: their last pieces stand at one end
  ends-fit : (p q : List X) → M p q ≡ true → any p ≡ true → any q ≡ true → back (last p) (last q) ≡ true
  ends-fit [] q m h k = cc
  ends-fit (x ∷ xs) [] m h k = cc
  ends-fit (x ∷ xs) (y ∷ ys) m h k =
      let shorter_right : M (x ∷ xs) ys ≡ true → back (last (x ∷ xs)) (last (y ∷ ys)) ≡ true = λ m2. split (any ys)
      (λ b. move_back (last (x ∷ xs)) (last (y ∷ ys)) (last (x ∷ xs)) (last ys) refl (last-more y ys b)
      (ends-fit (x ∷ xs) ys m2 h b))
      (λ b. move_back (last (x ∷ xs)) (last (y ∷ ys)) (last (x ∷ xs)) ys refl
      (last-wild y ys b (or_first (wild y) (any ys) k b))
      (or_left (S (last (x ∷ xs)) ys) (S ys (last (x ∷ xs))) (tail-fits (x ∷ xs) ys m2 h b))) in
      let shorter_left : M xs (y ∷ ys) ≡ true → back (last (x ∷ xs)) (last (y ∷ ys)) ≡ true = λ m1. split (any xs)
      (λ a. move_back (last (x ∷ xs)) (last (y ∷ ys)) (last xs) (last (y ∷ ys)) (last-more x xs a) refl
      (ends-fit xs (y ∷ ys) m1 a k))
      (λ a. move_back (last (x ∷ xs)) (last (y ∷ ys)) xs (last (y ∷ ys))
      (last-wild x xs a (or_first (wild x) (any xs) h a)) refl
      (or_right (S xs (last (y ∷ ys))) (S (last (y ∷ ys)) xs) (tail-fits_right xs (y ∷ ys) m1 a k))) in
      split (wild x)
      (λ w. or_cases (M xs (y ∷ ys)) (M (x ∷ xs) ys) (sym (meets-wild wild wild (λ _. true) same x y xs ys w) ∙ m)
      shorter_left shorter_right)
      (λ w. split (wild y)
      (λ v. or_cases (M (x ∷ xs) ys) (M xs (y ∷ ys))
      (sym (meets-wild_right wild wild (λ _. true) same x y xs ys w v) ∙ m) shorter_right shorter_left)
      (λ v. let a = or_rest (wild x) (any xs) h w in
      let b = or_rest (wild y) (any ys) k v in
      move_back (last (x ∷ xs)) (last (y ∷ ys)) (last xs) (last ys) (last-more x xs a) (last-more y ys b)
      (ends-fit xs ys (rests x xs y ys w v m) a b)))

  -- a piece before which a wild element stands, against a list whose last piece goes with it
  piece-stands : (a p : List X) → any a ≡ false → any p ≡ true → back (last p) a ≡ true → S a p ≡ true
  piece-stands a [] n h b = cc
  piece-stands a (x ∷ xs) n h b = split (any xs)
      (λ c. behind-later wild wild same a x xs (piece-stands a xs n c
      (move_back (last xs) a (last (x ∷ xs)) a (sym (last-more x xs c)) refl b)))
      (λ c. let w = or_first (wild x) (any xs) h c in
      let b' = move_back xs a (last (x ∷ xs)) a (sym (last-wild x xs c w)) refl b in
      or_cases (S xs a) (S a xs) b'
      (λ s. behind-here wild wild same a (x ∷ xs) (comm a (x ∷ xs) ∙ behind-wild wild wild same x xs a w ∙ s))
      (behind-later wild wild same a x xs))

  -- and any list against one with a wild element
  ends-stand : (p q : List X) → any q ≡ true → back (last p) (last q) ≡ true → S p q ≡ true
  ends-stand p [] k b = cc
  ends-stand p (y ∷ ys) k b = split (any ys)
      (λ c. behind-later wild wild same p y ys (ends-stand p ys c
      (move_back (last p) (last ys) (last p) (last (y ∷ ys)) refl (sym (last-more y ys c)) b)))
      (λ c. let v = or_first (wild y) (any ys) k c in
      let b' = move_back (last p) ys (last p) (last (y ∷ ys)) refl (sym (last-wild y ys c v)) b in
      let turned : S ys p ≡ true → S p (y ∷ ys) ≡ true = λ s.
      behind-here wild wild same p (y ∷ ys) (comm p (y ∷ ys) ∙ behind-wild wild wild same y ys p v ∙ s) in
      split (any p)
      (λ a. turned (piece-stands ys p c a b'))
      (λ a. or_cases (S p ys) (S ys p) (move_back p ys (last p) ys (sym (last-whole wild p a)) refl b') (behind-later wild wild same p y ys) turned))

  ends-of_stand : (p q : List X) → any q ≡ true → S p q ≡ true → back (last p) (last q) ≡ true
  ends-of_stand p [] k s = cc
  ends-of_stand p (y ∷ ys) k s = or_cases (M p (y ∷ ys)) (S p ys) s
      (λ m. split (any p)
      (λ a. ends-fit p (y ∷ ys) m a k)
      (λ a. move_back (last p) (last (y ∷ ys)) p (last (y ∷ ys)) (last-whole wild p a) refl
      (or_right (S p (last (y ∷ ys))) (S (last (y ∷ ys)) p) (tail-fits_right p (y ∷ ys) m a k))))
      (λ t. split (any ys)
      (λ b. move_back (last p) (last (y ∷ ys)) (last p) (last ys) refl (last-more y ys b) (ends-of_stand p ys b t))
      (λ b. move_back (last p) (last (y ∷ ys)) (last p) ys refl
      (last-wild y ys b (or_first (wild y) (any ys) k b))
      (split (any p)
      (λ a. or_left (S (last p) ys) (S ys (last p)) (tail-stands p ys t a b))
      (λ a. move_back (last p) ys p ys (last-whole wild p a) refl (or_left (S p ys) (S ys p) t)))))

  pub behind-ends : (p q : List X) → any q ≡ true → S p q ≡ (S (last p) (last q) || S (last q) (last p))
  behind-ends p q k = both_ways (S p q) (back (last p) (last q)) (ends-of_stand p q k) (ends-stand p q k)
