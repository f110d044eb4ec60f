-- What no key behind a stored one meets.
use Rattle.std.proofs.Common.{◌≡◌, ℕ, Bool, true, false, ◌==◌, ◌&&◌, List, [], ◌∷◌, ◌++◌, length, take, drop, refl, sym, ◌∙◌, ap, subst, append_assoc, append-nil}
use Rattle.std.specs.Prelude.{bytes_eq}
use Rattle.std.specs.Ordering.{nat_cmp, is_gt, is_lt}
use Rattle.std.specs.declared.cmp.Ordering.{Ordering}
use Rattle.std.specs.declared.cmp.Ordering.TheVariants.{Less, Equal, Greater}
use Rattle.std.specs.Cmp.Lexicographic.{nat_list_cmp_total, nat_list_eq_equiv}
use Rattle.std.proofs.lemmas.Slice.Eq.{bytes_eq-Decides}
use Rattle.std.proofs.Math.Seq.{take-append_seam, drop-append_seam}
use Rattle.std.proofs.lemmas.List.{take-append-drop}
use Rattle.zs_keys.specs.Text.{is_double_star}
use Rattle.zs_keys.specs.Matching.{chunk_meets, is_free}
use Rattle.zs_keys.specs.Rules.{meets-left_end}
use Rattle.zs_tree.specs.declared.runs.Bound.{Bound}
use Rattle.zs_tree.specs.declared.runs.Bound.TheVariants.{Open, Below, Closed}
use Rattle.zs_tree.specs.Code.{is_rough, mark_of, onto_chunk, coded, code_cmp}
use Rattle.zs_tree.specs.Runs.{within, lies, is_nil}
use Rattle.zs_tree.specs.Walk.{AreCut, ArePlain, AreMissed, Led, chunks_meet}
use Rattle.zs_tree.proofs.Bools.{split, and_first, and_second, both}
use Rattle.zs_tree.proofs.Codes.{UpTo, coded-append, decoded, cmp_behind, onto_upto, plain_behind}
use Rattle.zs_tree.proofs.Beside.{cmp_onto}
use Rattle.zs_tree.proofs.Plain.{plain_no_double, plain_meets, meet_not, meet_on, meet_behind}

-- what follows a path lies there by its bound
pub lies-path : (path rest : List ℕ) (bound : Bound) → within bound rest ≡ true → lies path bound (path ++ rest) ≡ true
lies-path path rest bound h =
    both (bytes_eq (take (length path) (path ++ rest)) path) (within bound (drop (length path) (path ++ rest)))
    (rw (take-append_seam path rest) (nat_list_eq_equiv.refl path))
    (rw (drop-append_seam path rest) h)

pub lies-parts : (path code : List ℕ) (bound : Bound) → lies path bound code ≡ true
    → (rest : List ℕ) × (code ≡ path ++ rest) × (within bound rest ≡ true)
lies-parts path code bound h =
    let front : take (length path) code ≡ path =
    (bytes_eq-Decides (take (length path) code) path).0 (and_first (bytes_eq (take (length path) code) path) (within bound (drop (length path) code)) h) in (
      drop (length path) code,
      sym (take-append-drop (length path) code) ∙ rw front refl,
      and_second (bytes_eq (take (length path) code) path) (within bound (drop (length path) code)) h,
    )

cut_front : (xs ys : List (List ℕ)) → AreCut (xs ++ ys) → AreCut xs
cut_front [] ys h = tt
cut_front (x ∷ xs) ys h = (h.0, cut_front xs ys h.1)

-- nothing meets that begins with some of the stored chunks and goes on within the bound, not before the others
pub missed : (asked stored front rest : List (List ℕ)) (bound : Bound) → stored ≡ front ++ rest → AreCut stored
    → within bound (coded rest) ≡ true
    → ((more : List (List ℕ)) → UpTo (coded rest) (coded more) → within bound (coded more) ≡ true → chunks_meet asked (front ++ more) ≡ false)
    → AreMissed asked (coded stored) (coded front) bound
missed asked stored front rest bound is cut inside fails = record {
  here = rw (is, coded-append front rest) (lies-path (coded front) (coded rest) bound inside);
  none = λ cs cut' up there.
      let (left, code_is, inside') = lies-parts (coded front) (coded cs) bound there in
      let (more, cs_is, left_is) = decoded front cs left (cut_front front rest (rw is at cut)) cut' code_is in
      let up' : UpTo (coded rest) (coded more) = rw (is, cs_is, coded-append front rest, coded-append front more, cmp_behind (coded front) (coded rest) (coded more)) at up in
      rw cs_is (fails more up' (rw left_is at inside'));
}

-- none that is equal to the stored key, which does not meet the asked one
pub missed_whole : (asked stored : List (List ℕ)) → AreCut stored → chunks_meet asked stored ≡ false
    → AreMissed asked (coded stored) (coded stored) Closed
missed_whole asked stored cut h = missed asked stored stored [] Closed (sym (append-nil stored)) cut refl (λ more up inside. only more inside)
  where
    only : (more : List (List ℕ)) → is_nil (coded more) ≡ true → chunks_meet asked (stored ++ more) ≡ false
    only [] inside = rw (append-nil stored) h
    only (c ∷ cs) inside = absurd (cc)

-- two plain chunks that differ do not meet
differ : (x z : List ℕ) (xs zs : List (List ℕ)) → is_rough x ≡ false → is_rough z ≡ false → (z ≡ x → ⊥)
    → chunks_meet (x ∷ xs) (z ∷ zs) ≡ false
differ x z xs zs p q apart =
    split (bytes_eq x z)
    (λ e. absurd (apart (sym ((bytes_eq-Decides x z).0 e))))
    (λ e. meet_not x z xs zs (plain_no_double x p) (plain_no_double z q) (plain_meets x z p q ∙ e))

-- behind equal plain chunks nothing meets that is not before the stored chunks, where nothing does there
pub dead_behind : (back left : List (List ℕ)) (y : List ℕ) (ys : List (List ℕ)) → ArePlain back
    → ((z : List ℕ) (zs : List (List ℕ)) → UpTo (coded (y ∷ ys)) (coded (z ∷ zs)) → chunks_meet left (z ∷ zs) ≡ false)
    → (more : List (List ℕ)) → UpTo (coded (back ++ (y ∷ ys))) (coded more) → chunks_meet (back ++ left) more ≡ false
dead_behind [] left y ys plain fails [] up = absurd (cc)
dead_behind [] left y ys plain fails (z ∷ zs) up = fails z zs up
dead_behind (b ∷ back) left y ys plain fails [] up = absurd (cc)
dead_behind (b ∷ back) left y ys plain fails (z ∷ zs) up =
    let q : is_rough z ≡ false = plain_behind b z (coded (back ++ (y ∷ ys))) (coded zs) plain.0 up in
    split (bytes_eq b z)
    (λ e.
    let same : b ≡ z = (bytes_eq-Decides b z).0 e in
    let up' : UpTo (onto_chunk (mark_of b) b (coded (back ++ (y ∷ ys)))) (onto_chunk (mark_of b) b (coded zs)) = rw (← same) at up in
    meet_on b z (back ++ left) zs (plain_no_double b plain.0) (plain_no_double z q) (plain_meets b z plain.0 q ∙ e)
    ∙ dead_behind back left y ys plain.1 fails zs (onto_upto (mark_of b) b (coded (back ++ (y ∷ ys))) (coded zs) up'))
    (λ e. differ b z (back ++ left) zs plain.0 q (λ same. absurd (let k = rw same at e in let l = nat_list_eq_equiv.refl b in cc)))

-- the asked chunk is before the stored one: nothing behind that one meets
pub dead_high : (x : List ℕ) (xs : List (List ℕ)) (y : List ℕ) (ys : List (List ℕ)) → is_rough x ≡ false → is_rough y ≡ false
    → ((rest : List ℕ) → code_cmp (coded (y ∷ ys)) (onto_chunk 2 x rest) ≡ Greater)
    → (z : List ℕ) (zs : List (List ℕ)) → UpTo (coded (y ∷ ys)) (coded (z ∷ zs)) → chunks_meet (x ∷ xs) (z ∷ zs) ≡ false
dead_high x xs y ys p q above z zs up =
    let r : is_rough z ≡ false = plain_behind y z (coded ys) (coded zs) q up in
    differ x z xs zs p r (λ same.
    let k : code_cmp (coded (y ∷ ys)) (coded (z ∷ zs)) ≡ Greater = rw (r, same) (above (coded zs)) in
    let l = rw k at up in absurd (cc))

-- the asked key is at its end
pub dead_end : (y : List ℕ) (ys : List (List ℕ)) → is_rough y ≡ false
    → (z : List ℕ) (zs : List (List ℕ)) → UpTo (coded (y ∷ ys)) (coded (z ∷ zs)) → chunks_meet [] (z ∷ zs) ≡ false
dead_end y ys q z zs up =
    meets-left_end is_double_star is_double_star is_free chunk_meets z zs (plain_no_double z (plain_behind y z (coded ys) (coded zs) q up))

-- what comes before the asked chunk, from the stored one on, does not meet
pub dead_low : (x : List ℕ) (xs : List (List ℕ)) (y : List ℕ) (ys : List (List ℕ)) → is_rough x ≡ false → is_rough y ≡ false
    → (more : List (List ℕ)) → UpTo (coded (y ∷ ys)) (coded more) → is_lt (code_cmp (coded more) (onto_chunk 2 x [])) ≡ true
    → chunks_meet (x ∷ xs) more ≡ false
dead_low x xs y ys p q [] up low = absurd (cc)
dead_low x xs y ys p q (z ∷ zs) up low =
    let r : is_rough z ≡ false = plain_behind y z (coded ys) (coded zs) q up in
    differ x z xs zs p r (λ same.
    let k : is_lt (code_cmp (onto_chunk 2 x (coded zs)) (onto_chunk 2 x [])) ≡ true = rw (r, same) at low in
    let l : is_lt (code_cmp (coded zs) []) ≡ true = rw (cmp_onto 2 x (coded zs) []) at k in
    not_below (coded zs) l)
  where
    not_below : (code : List ℕ) → is_lt (code_cmp code []) ≡ true → ⊥
    not_below [] h = absurd (cc)
    not_below (c ∷ code) h = absurd (cc)
