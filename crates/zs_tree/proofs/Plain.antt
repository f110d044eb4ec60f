-- Chunks without a wild sign.
use Rattle.std.proofs.Common.{◌≡◌, ℕ, Bool, true, false, not, ◌==◌, ◌&&◌, ◌||◌, List, [], ◌∷◌, ◌++◌, refl, sym, ◌∙◌, ap, arith}
use Rattle.std.specs.Prelude.{bytes_eq, codes, filter}
use Rattle.std.specs.List.{list_any}
use Rattle.std.specs.Cmp.Lexicographic.{nat_list_eq_equiv}
use Rattle.zs_keys.specs.Text.{is_star, is_double_star, is_verbatim}
use Rattle.zs_keys.specs.Matching.{meets, units, is_any, is_free, units_meet, chunk_meets}
use Rattle.zs_keys.specs.Rules.{meets-ends, meets-left_end, meets-right_end, meets-pair}
use Rattle.zs_tree.specs.Code.{is_rough}
use Rattle.zs_tree.specs.Walk.{ArePlain, chunks_meet}
use Rattle.zs_tree.proofs.Bools.{split, or_none_left, or_none_right}

rough_first : (b : ℕ) (bs : List ℕ) → is_rough (b ∷ bs) ≡ false → (b == 0x2a || b == 0x24) ≡ false
rough_first b bs h = or_none_left (b == 0x2a || b == 0x24) (is_rough bs) h

rough_rest : (b : ℕ) (bs : List ℕ) → is_rough (b ∷ bs) ≡ false → is_rough bs ≡ false
rough_rest b bs h = or_none_right (b == 0x2a || b == 0x24) (is_rough bs) h

no_star : (b : ℕ) (bs : List ℕ) → is_rough (b ∷ bs) ≡ false → (b == 0x2a) ≡ false
no_star b bs h = or_none_left (b == 0x2a) (b == 0x24) (rough_first b bs h)

no_dollar : (b : ℕ) (bs : List ℕ) → is_rough (b ∷ bs) ≡ false → (b == 0x24) ≡ false
no_dollar b bs h = or_none_right (b == 0x2a) (b == 0x24) (rough_first b bs h)

pub plain_no_double : (c : List ℕ) → is_rough c ≡ false → is_double_star c ≡ false
plain_no_double [] h = refl
plain_no_double (b ∷ bs) h = rw (no_star b bs h) refl

plain_no_star : (c : List ℕ) → is_rough c ≡ false → is_star c ≡ false
plain_no_star [] h = refl
plain_no_star (b ∷ bs) h = rw (no_star b bs h) refl

plain_units : (c : List ℕ) → is_rough c ≡ false → units c ≡ c
plain_units [] h = refl
plain_units (b ∷ bs) h = rw (no_star b bs h) (ap (λ (rest : List ℕ). b ∷ rest) (plain_units bs (rough_rest b bs h)))

abbrev units_of : List ℕ → List ℕ → Bool
units_of x y = meets is_any is_any (λ _. true) (λ a b. a == b) x y

plain_same : (x y : List ℕ) → is_rough x ≡ false → is_rough y ≡ false → units_of x y ≡ bytes_eq x y
plain_same [] [] h k = meets-ends is_any is_any (λ _. true) (λ a b. a == b)
plain_same [] (b ∷ y) h k = meets-left_end is_any is_any (λ _. true) (λ a b. a == b) b y (no_dollar b y k)
plain_same (a ∷ x) [] h k = meets-right_end is_any is_any (λ _. true) (λ a b. a == b) a x (no_dollar a x h)
plain_same (a ∷ x) (b ∷ y) h k =
    meets-pair is_any is_any (λ _. true) (λ a b. a == b) a b x y (no_dollar a x h) (no_dollar b y k)
    ∙ ap (λ (rest : Bool). (a == b) && rest) (plain_same x y (rough_rest a x h) (rough_rest b y k))

-- plain chunks meet where they are equal
pub plain_meets : (x y : List ℕ) → is_rough x ≡ false → is_rough y ≡ false → chunk_meets x y ≡ bytes_eq x y
plain_meets x y h k =
    split (is_verbatim x || is_verbatim y) (λ v. rw v refl)
    (λ v. rw (v, plain_no_star x h, plain_no_star y k, plain_units x h, plain_units y k) (plain_same x y h k))

-- first chunks pair, where neither is `**`
pub meet_pair : (x y : List ℕ) (xs ys : List (List ℕ)) → is_double_star x ≡ false → is_double_star y ≡ false
    → chunks_meet (x ∷ xs) (y ∷ ys) ≡ (chunk_meets x y && chunks_meet xs ys)
meet_pair x y xs ys h k = meets-pair is_double_star is_double_star is_free chunk_meets x y xs ys h k

pub meet_on : (x y : List ℕ) (xs ys : List (List ℕ)) → is_double_star x ≡ false → is_double_star y ≡ false
    → chunk_meets x y ≡ true → chunks_meet (x ∷ xs) (y ∷ ys) ≡ chunks_meet xs ys
meet_on x y xs ys h k m = meet_pair x y xs ys h k ∙ rw m refl

pub meet_not : (x y : List ℕ) (xs ys : List (List ℕ)) → is_double_star x ≡ false → is_double_star y ≡ false
    → chunk_meets x y ≡ false → chunks_meet (x ∷ xs) (y ∷ ys) ≡ false
meet_not x y xs ys h k m = meet_pair x y xs ys h k ∙ rw m refl

-- equal plain chunks in front do not count
pub meet_behind : (back left right : List (List ℕ)) → ArePlain back → chunks_meet (back ++ left) (back ++ right) ≡ chunks_meet left right
meet_behind [] left right h = refl
meet_behind (c ∷ back) left right h =
    let n = plain_no_double c h.0 in
    meet_on c c (back ++ left) (back ++ right) n n (plain_meets c c h.0 h.0 ∙ nat_list_eq_equiv.refl c)
    ∙ meet_behind back left right h.1
