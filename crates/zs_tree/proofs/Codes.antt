-- The order of codes.
use Rattle.std.proofs.Common.{◌≡◌, ℕ, ◌<◌, Bool, true, false, ◌==◌, ◌||◌, List, [], ◌∷◌, ◌++◌, refl, sym, ◌∙◌, ap, arith, append_assoc}
use Rattle.std.specs.Ordering.{nat_cmp, is_gt, is_lt, ordering_then}
use Rattle.std.specs.declared.cmp.Ordering.{Ordering}
use Rattle.std.specs.declared.cmp.Ordering.TheVariants.{Less, Equal, Greater}
use Rattle.std.specs.Cmp.{nat_cmp_total}
use Rattle.std.specs.Cmp.Lexicographic.{nat_list_cmp_total}
use Rattle.std.proofs.lemmas.Cmp.{tied_itself, upto}
use Rattle.std.proofs.lemmas.Bool.Decides.{nat_tests}
use Rattle.zs_tree.specs.Code.{IsCut, is_rough, mark_of, onto_chunk, coded, code_cmp}
use Rattle.zs_tree.specs.Walk.{AreCut}
use Rattle.zs_tree.proofs.Bools.{or_none_left, or_none_right}

-- a code does not stand behind another one
abbrev pub UpTo : List ℕ → List ℕ → Type 0
UpTo a b = is_gt (code_cmp a b) ≡ false

pub upto_trans : (a b c : List ℕ) → UpTo a b → UpTo b c → UpTo a c
upto_trans a b c h k = upto nat_list_cmp_total a b c h k

-- what two codes have in front does not count
pub cmp_behind : (front a b : List ℕ) → code_cmp (front ++ a) (front ++ b) ≡ code_cmp a b
cmp_behind [] a b = refl
cmp_behind (x ∷ front) a b = rw (tied_itself nat_cmp_total x) (cmp_behind front a b)

first_same : (x y : ℕ) (o p : Ordering) → is_gt (ordering_then (nat_cmp x y) o) ≡ false
    → is_gt (ordering_then (nat_cmp y x) p) ≡ false → x ≡ y
first_same x y o p h k = grind (arith, nat_tests, h, k)

rest_upto : (x y : ℕ) (a b : List ℕ) → x ≡ y → UpTo (x ∷ a) (y ∷ b) → UpTo a b
rest_upto x y a b e h = let t : nat_cmp x y ≡ Equal = rw e (tied_itself nat_cmp_total y) in rw t at h

-- what stands between two codes with one front has that front
pub front_between : (p a b c : List ℕ) → UpTo (p ++ a) b → UpTo b (p ++ c)
    → (m : List ℕ) × (b ≡ p ++ m) × UpTo a m × UpTo m c
front_between [] a b c h k = (b, refl, h, k)
front_between (x ∷ p) a [] c h k = absurd (cc)
front_between (x ∷ p) a (y ∷ ys) c h k =
    let e : x ≡ y = first_same x y _ _ h k in
    let (m, is, low, high) = front_between p a ys c (rest_upto x y (p ++ a) ys e h) (rest_upto y x ys (p ++ c) (sym e) k) in
    (m, cc, low, high)

-- the code of two parts
pub coded-append : (xs ys : List (List ℕ)) → coded (xs ++ ys) ≡ coded xs ++ coded ys
coded-append [] ys = refl
coded-append (x ∷ xs) ys =
    ap (λ (rest : List ℕ). mark_of x ∷ rest)
    (ap (λ (rest : List ℕ). x ++ (0x2f ∷ rest)) (coded-append xs ys) ∙ sym (append_assoc x (0x2f ∷ coded xs) (coded ys)))

-- a `/` ends a chunk
pub cut_same : (x y u v : List ℕ) → IsCut x → IsCut y → y ++ (0x2f ∷ u) ≡ x ++ (0x2f ∷ v) → (y ≡ x) × (u ≡ v)
cut_same [] [] u v h k e = (refl, cc)
cut_same [] (b ∷ y) u v h k e =
    let same : b ≡ 0x2f = cc in
    let other = rw same at (or_none_left (b == 0x2f) _ k) in absurd (cc)
cut_same (a ∷ x) [] u v h k e =
    let same : a ≡ 0x2f = cc in
    let other = rw same at (or_none_left (a == 0x2f) _ h) in absurd (cc)
cut_same (a ∷ x) (b ∷ y) u v h k e =
    let first : b ≡ a = cc in
    let rest : y ++ (0x2f ∷ u) ≡ x ++ (0x2f ∷ v) = cc in
    let (same, left) = cut_same x y u v (or_none_right (a == 0x2f) _ h) (or_none_right (b == 0x2f) _ k) rest in
    (cc, left)

-- a code that begins with that of some chunks is that of these chunks and some more
pub decoded : (xs ys : List (List ℕ)) (rest : List ℕ) → AreCut xs → AreCut ys → coded ys ≡ coded xs ++ rest
    → (zs : List (List ℕ)) × (ys ≡ xs ++ zs) × (rest ≡ coded zs)
decoded [] ys rest h k e = (ys, refl, sym e)
decoded (x ∷ xs) [] rest h k e = absurd (cc)
decoded (x ∷ xs) (y ∷ ys) rest h k e =
    let tail : y ++ (0x2f ∷ coded ys) ≡ (x ++ (0x2f ∷ coded xs)) ++ rest = cc in
    let (first, left) = cut_same x y (coded ys) (coded xs ++ rest) h.0 k.0 (tail ∙ append_assoc x (0x2f ∷ coded xs) rest) in
    let (zs, is, more) = decoded xs ys rest h.1 k.1 left in
    (zs, cc, more)

-- what stands up to a code behind a mark and a chunk
pub onto_upto : (m : ℕ) (x a b : List ℕ) → UpTo (onto_chunk m x a) (onto_chunk m x b) → UpTo a b
onto_upto m x a b h =
    let k = rest_upto m m (x ++ (0x2f ∷ a)) (x ++ (0x2f ∷ b)) refl h in
    let l = rw (cmp_behind x (0x2f ∷ a) (0x2f ∷ b)) at k in
    rest_upto 0x2f 0x2f a b refl l

-- a key that is not before one with a plain chunk has a plain chunk there
pub plain_behind : (y z a b : List ℕ) → is_rough y ≡ false → UpTo (onto_chunk (mark_of y) y a) (onto_chunk (mark_of z) z b)
    → is_rough z ≡ false
plain_behind y z a b p h = go (is_rough z) refl
  where
    go : (b' : Bool) → is_rough z ≡ b' → b' ≡ false
    go false is = refl
    go true is = let k = rw (p, is) at h in absurd (cc)

tail_same : (front a b : List ℕ) → front ++ a ≡ front ++ b → a ≡ b
tail_same [] a b h = h
tail_same (x ∷ front) a b h = tail_same front a b (cc)

-- what follows one chunk in one code is one thing
pub onto_same : (m : ℕ) (x a b : List ℕ) → onto_chunk m x a ≡ onto_chunk m x b → a ≡ b
onto_same m x a b h =
    let k : x ++ (0x2f ∷ a) ≡ x ++ (0x2f ∷ b) = cc in
    let l = tail_same x (0x2f ∷ a) (0x2f ∷ b) k in
    cc
