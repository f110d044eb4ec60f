-- Behind a `**`, no key meets whose next chunk is none of the asked ones.
use Rattle.std.proofs.Common.{◌≡◌, ℕ, Bool, true, false, ◌&&◌, ◌||◌, List, [], ◌∷◌, ◌++◌, length, Bor, refl, sym, ◌∙◌, ap, subst, arith}
use Rattle.std.specs.Prelude.{bytes_eq, nat_lt}
use Rattle.std.specs.List.{AllByRecursion}
use Rattle.std.specs.Ordering.{is_gt, is_lt, ordering_reverse}
use Rattle.std.specs.declared.cmp.Ordering.{Ordering}
use Rattle.std.specs.declared.cmp.Ordering.TheVariants.{Less, Equal, Greater}
use Rattle.std.specs.Cmp.Lexicographic.{nat_list_cmp_total}
use Rattle.std.proofs.lemmas.Bool.Decides.{nat_tests}
use Rattle.std.proofs.lemmas.Slice.Eq.{bytes_eq-Decides}
use Rattle.zs_keys.specs.Text.{is_double_star}
use Rattle.zs_keys.specs.Matching.{chunk_meets, is_free}
use Rattle.zs_keys.specs.Rules.{meets-end-wild, meets-left_end, meets-wild_right}
use Rattle.zs_tree.specs.declared.runs.Bound.{Bound}
use Rattle.zs_tree.specs.declared.runs.Bound.TheVariants.{Open, Below, Closed}
use Rattle.zs_tree.specs.Code.{is_rough, mark_of, onto_chunk, coded, code_cmp}
use Rattle.zs_tree.specs.Runs.{within}
use Rattle.zs_tree.specs.Walk.{chunks_meet}
use Rattle.zs_tree.specs.Gap.{IsOutside, IsGap, Narrows}
use Rattle.zs_tree.proofs.Bools.{split}
use Rattle.zs_tree.proofs.Codes.{UpTo, upto_trans, plain_behind}
use Rattle.zs_tree.proofs.Beside.{cmp_onto}
use Rattle.zs_tree.proofs.Plain.{plain_no_double, plain_meets, meet_not}

-- ---- the order of codes

less_of : (o : Ordering) → is_lt o ≡ true → o ≡ Less
less_of Less h = refl
less_of Equal h = absurd (cc)
less_of Greater h = absurd (cc)

turned : (o : Ordering) → is_gt (ordering_reverse o) ≡ is_lt o
turned Less = refl
turned Equal = refl
turned Greater = refl

upto_of : (a b : List ℕ) → is_lt (code_cmp a b) ≡ false → UpTo b a
upto_of a b h = ap is_gt (nat_list_cmp_total.antisymm b a) ∙ turned (code_cmp a b) ∙ h

lt_trans : (a b c : List ℕ) → is_lt (code_cmp a b) ≡ true → is_lt (code_cmp b c) ≡ true → is_lt (code_cmp a c) ≡ true
lt_trans a b c h k = ap is_lt (nat_list_cmp_total.trans a b c (less_of (code_cmp a b) h) (less_of (code_cmp b c) k))

not_both : (a b : List ℕ) → UpTo b a → is_lt (code_cmp a b) ≡ true → ⊥
not_both a b h k =
    let back : is_gt (code_cmp b a) ≡ true = ap is_gt (nat_list_cmp_total.antisymm b a) ∙ turned (code_cmp a b) ∙ k in
    absurd (cc)

upto_lt : (a b c : List ℕ) → UpTo a b → is_lt (code_cmp b c) ≡ true → is_lt (code_cmp a c) ≡ true
upto_lt a b c h k = split (is_lt (code_cmp a c)) (λ e. e) (λ e. absurd (not_both b c (upto_trans c a b (upto_of a c e) h) k))

-- what begins with a chunk is not before the chunk alone
first_of : (chunk rest : List ℕ) → UpTo (onto_chunk 2 chunk []) (onto_chunk 2 chunk rest)
first_of chunk rest = ap is_gt (cmp_onto 2 chunk [] rest) ∙ none rest
  where
    none : (rest : List ℕ) → is_gt (code_cmp [] rest) ≡ false
    none [] = refl
    none (x ∷ rest) = refl

-- ---- one chunk more

below_none : (chunk : Bor (List ℕ)) (rest : List ℕ) → within (Below chunk) (onto_chunk 2 chunk.now rest) ≡ false
below_none chunk rest = split (within (Below chunk) (onto_chunk 2 chunk.now rest)) (λ e. absurd (not_both (onto_chunk 2 chunk.now rest) (onto_chunk 2 chunk.now []) (first_of chunk.now rest) e)) (λ e. e)

outside_itself : (code : List ℕ) (chunk : Bor (List ℕ)) → is_rough chunk.now ≡ false → IsOutside code (Below chunk) chunk.now
outside_itself code chunk plain = record { plain = plain; none = λ rest up. below_none chunk rest }

pub narrows_open : (code : List ℕ) (chunk : Bor (List ℕ)) → is_rough chunk.now ≡ false → is_lt (code_cmp code (onto_chunk 2 chunk.now [])) ≡ true → Narrows Open code chunk.now (Below chunk)
narrows_open code chunk plain before = record { nearer = λ other h. refl; outside = outside_itself code chunk plain; inside = before }

pub narrows_below : (code : List ℕ) (chunk other : Bor (List ℕ)) → is_rough chunk.now ≡ false → is_lt (code_cmp code (onto_chunk 2 chunk.now [])) ≡ true
    → is_lt (code_cmp (chunk.now ++ (0x2f ∷ [])) (other.now ++ (0x2f ∷ []))) ≡ true → Narrows (Below other) code chunk.now (Below chunk)
narrows_below code chunk other plain before order = record {
  nearer = λ code' h. lt_trans code' (onto_chunk 2 chunk.now []) (onto_chunk 2 other.now []) h order;
  outside = outside_itself code chunk plain;
  inside = before;
}

pub narrows_same : (code : List ℕ) (chunk other : Bor (List ℕ)) → is_rough chunk.now ≡ false → within (Below other) code ≡ true
    → is_lt (code_cmp (chunk.now ++ (0x2f ∷ [])) (other.now ++ (0x2f ∷ []))) ≡ false → Narrows (Below other) code chunk.now (Below other)
narrows_same code chunk other plain inside order = record {
  nearer = λ code' h. h;
  outside = record {
    plain = plain;
    none = λ rest up. split (within (Below other) (onto_chunk 2 chunk.now rest))
        (λ e. absurd (
        let lt : is_lt (code_cmp (onto_chunk 2 chunk.now []) (onto_chunk 2 other.now [])) ≡ true = upto_lt (onto_chunk 2 chunk.now []) (onto_chunk 2 chunk.now rest) (onto_chunk 2 other.now []) (first_of chunk.now rest) e in
        let no : is_lt (code_cmp (onto_chunk 2 chunk.now []) (onto_chunk 2 other.now [])) ≡ false = order in
        cc))
        (λ e. e);
  };
  inside = inside;
}

pub narrows_closed : (code : List ℕ) (chunk : List ℕ) → is_rough chunk ≡ false → within Closed code ≡ true → Narrows Closed code chunk Closed
narrows_closed code chunk plain inside = record {
  nearer = λ code' h. h;
  outside = record { plain = plain; none = λ rest up. refl };
  inside = inside;
}

pub narrows_behind : (code : List ℕ) (chunk : List ℕ) (bound : Bound) → is_rough chunk ≡ false → within bound code ≡ true
    → ((rest : List ℕ) → code_cmp code (onto_chunk 2 chunk rest) ≡ Greater) → Narrows bound code chunk bound
narrows_behind code chunk bound plain inside behind = record {
  nearer = λ code' h. h;
  outside = record { plain = plain; none = λ rest up. absurd (let k = rw (behind rest) at up in cc) };
  inside = inside;
}

-- ---- all chunks

-- the chunks that were taken out so far
pub record Narrowed (all left : List (List ℕ)) (code : List ℕ) (bound : Bound) : Type 0 where
  pub done : List (List ℕ)
  pub all_is : all ≡ done ++ left
  pub gap : IsGap done code bound

pub narrowed_start : (all : List (List ℕ)) (code : List ℕ) → Narrowed all all code Open
narrowed_start all code = record { done = []; all_is = refl; gap = record { outside = tt; inside = refl } }

all_outside : (code : List ℕ) (bound next : Bound) → ((other : List ℕ) → within next other ≡ true → within bound other ≡ true) → (chunk : List ℕ) → (cs : List (List ℕ))
    → AllByRecursion (IsOutside code bound) cs → IsOutside code next chunk → AllByRecursion (IsOutside code next) (cs ++ (chunk ∷ []))
all_outside code bound next nearer chunk [] all one = (one, tt)
all_outside code bound next nearer chunk (c ∷ cs) all one = (
  record {
    plain = all.0.plain;
    none = λ rest up. split (within next (onto_chunk 2 c rest))
        (λ e. absurd (let yes = nearer (onto_chunk 2 c rest) e in let no = all.0.none rest up in cc))
        (λ e. e);
  },
  all_outside code bound next nearer chunk cs all.1 one,
)

pub narrowed_more : (all left : List (List ℕ)) (code : List ℕ) (bound next : Bound) (chunk : List ℕ) (rest : List (List ℕ)) → Narrowed all left code bound
    → left ≡ chunk ∷ rest → Narrows bound code chunk next → Narrowed all rest code next
narrowed_more all left code bound next chunk rest so is narrows = record {
  done = so.done ++ (chunk ∷ []);
  all_is = so.all_is ∙ ap (λ (cs : List (List ℕ)). so.done ++ cs) is ∙ sym (one_more so.done chunk rest);
  gap = record { outside = all_outside code bound next narrows.nearer chunk so.done so.gap.outside narrows.outside; inside = narrows.inside };
}
  where
    one_more : (done : List (List ℕ)) (c : List ℕ) (cs : List (List ℕ)) → (done ++ (c ∷ [])) ++ cs ≡ done ++ (c ∷ cs)
    one_more [] c cs = refl
    one_more (d ∷ done) c cs = ap (λ (rest : List (List ℕ)). d ∷ rest) (one_more done c cs)

pub narrowed_all : (all left : List (List ℕ)) (code : List ℕ) (bound : Bound) → Narrowed all left code bound → left ≡ [] → IsGap all code bound
narrowed_all all left code bound so is = subst (λ (cs : List (List ℕ)). IsGap cs code bound) (sym (so.all_is ∙ ap (λ (cs : List (List ℕ)). so.done ++ cs) is ∙ no_more so.done)) so.gap
  where
    no_more : (done : List (List ℕ)) → done ++ [] ≡ done
    no_more [] = refl
    no_more (d ∷ done) = ap (λ (rest : List (List ℕ)). d ∷ rest) (no_more done)

-- ---- what does not meet

-- a chunk in the gap is none of the asked ones
abbrev IsOther : List ℕ → List ℕ → Type 0
IsOther z x = (is_rough x ≡ false) × (bytes_eq x z ≡ false)

other_of : (code : List ℕ) (bound : Bound) (x z : List ℕ) (zs : List (List ℕ)) → IsOutside code bound x → is_rough z ≡ false → UpTo code (coded (z ∷ zs))
    → within bound (coded (z ∷ zs)) ≡ true → IsOther z x
other_of code bound x z zs outside plain up inside = (
  outside.plain,
  split (bytes_eq x z)
      (λ e.
      let same : x ≡ z = (bytes_eq-Decides x z).0 e in
      let here : coded (z ∷ zs) ≡ onto_chunk 2 x (coded zs) = rw (plain, same) refl in
      absurd (let no = outside.none (coded zs) (rw here at up) in let yes = rw here at inside in cc))
      (λ e. e),
)

others_of : (code : List ℕ) (bound : Bound) (asked : List (List ℕ)) (z : List ℕ) (zs : List (List ℕ)) → AllByRecursion (IsOutside code bound) asked → is_rough z ≡ false
    → UpTo code (coded (z ∷ zs)) → within bound (coded (z ∷ zs)) ≡ true → AllByRecursion (IsOther z) asked
others_of code bound [] z zs all plain up inside = tt
others_of code bound (x ∷ xs) z zs all plain up inside =
    (other_of code bound x z zs all.0 plain up inside, others_of code bound xs z zs all.1 plain up inside)

-- behind a `**`, a plain chunk that is none of the plain ones asked for
none_meets : (asked : List (List ℕ)) (star z : List ℕ) (zs : List (List ℕ)) → is_double_star star ≡ true → is_rough z ≡ false → AllByRecursion (IsOther z) asked
    → chunks_meet asked (star ∷ z ∷ zs) ≡ false
none_meets [] star z zs is plain all =
    meets-end-wild is_double_star is_double_star is_free chunk_meets star (z ∷ zs) is
    ∙ meets-left_end is_double_star is_double_star is_free chunk_meets z zs (plain_no_double z plain)
none_meets (x ∷ xs) star z zs is plain all =
    let no : is_double_star x ≡ false = plain_no_double x all.0.0 in
    let here : chunks_meet (x ∷ xs) (z ∷ zs) ≡ false = meet_not x z xs zs no (plain_no_double z plain) (plain_meets x z all.0.0 plain ∙ all.0.1) in
    let behind : chunks_meet xs (star ∷ z ∷ zs) ≡ false = none_meets xs star z zs is plain all.1 in
    meets-wild_right is_double_star is_double_star is_free chunk_meets x star xs (z ∷ zs) no is
    ∙ rw (here, behind) (and_no (is_free x))
  where
    and_no : (b : Bool) → (false || (b && false)) ≡ false
    and_no true = refl
    and_no false = refl

-- so nothing meets that goes on behind a `**` from a plain chunk on, within the gap
pub gap_none : (asked : List (List ℕ)) (star s : List ℕ) (ss : List (List ℕ)) (bound : Bound) → is_double_star star ≡ true → is_rough s ≡ false
    → IsGap asked (coded (s ∷ ss)) bound → (more : List (List ℕ)) → UpTo (coded (s ∷ ss)) (coded more) → within bound (coded more) ≡ true
    → chunks_meet asked (star ∷ more) ≡ false
gap_none asked star s ss bound is plain gap [] up inside = absurd (cc)
gap_none asked star s ss bound is plain gap (z ∷ zs) up inside =
    let plain' : is_rough z ≡ false = plain_behind s z (coded ss) (coded zs) plain up in
    none_meets asked star z zs is plain' (others_of (coded (s ∷ ss)) bound asked z zs gap.outside plain' up inside)

-- a chunk that goes on where the other one ends
end_before : (x : ℕ) (xs : List ℕ) → nat_lt x 0x2f ≡ is_lt (code_cmp ((x ∷ xs) ++ (0x2f ∷ [])) (0x2f ∷ []))
end_before x [] = grind (arith, nat_tests)
end_before x (y ∷ xs) = grind (arith, nat_tests)

pub before_end : (chunk other left right : List ℕ) (x : ℕ) (xs : List ℕ) → code_cmp (chunk ++ (0x2f ∷ [])) (other ++ (0x2f ∷ [])) ≡ code_cmp (left ++ (0x2f ∷ [])) (right ++ (0x2f ∷ []))
    → left ≡ x ∷ xs → length right ≡ 0 → nat_lt x 0x2f ≡ is_lt (code_cmp (chunk ++ (0x2f ∷ [])) (other ++ (0x2f ∷ [])))
before_end chunk other left [] x xs so l r = end_before x xs ∙ sym (ap is_lt (so ∙ rw l refl))
before_end chunk other left (y ∷ right) x xs so l r = absurd (omega (arith, r))
