-- How verbatim chunks cut two lists of chunks that are to match.
use Rattle.std.proofs.Common.{◌≡◌, ℕ, Bool, true, false, ◌&&◌, ◌<◌, length, List, [], ◌∷◌, refl, ◌∙◌, ap, arith}
use Rattle.std.specs.Prelude.{bytes_eq, codes}
use Rattle.std.specs.Cmp.Lexicographic.{bytes_decides}
use Rattle.zs_keys.specs.Text.{is_double_star, is_verbatim}
use Rattle.zs_keys.specs.Matching.{meets, is_free, chunk_meets}
use Rattle.zs_keys.specs.Rules.{meets-ends, meets-left_end, meets-right_end, meets-pair}
use Rattle.zs_keys.proofs.Symmetry.{chunk_meets_comm}
use Rattle.zs_keys.specs.Segments.{front, behind}
use Rattle.zs_keys.proofs.Bools.{split, not_true, not_false}
use Rattle.zs_keys.proofs.SegmentLemmas.{cut}

-- `**` is not verbatim
pub double_star-free : (c : List ℕ) → is_double_star c ≡ true → is_free c ≡ true
double_star-free c h =
    let is : c ≡ codes "**" = (bytes_decides c (codes "**")).0 h in
    rw is refl

-- a chunk that is verbatim does not equal one that is not
pub verbatim-apart : (c d : List ℕ) → is_free c ≡ true → is_free d ≡ false → bytes_eq c d ≡ false
verbatim-apart c d h k = split (bytes_eq c d)
    (λ e. let is : c ≡ d = (bytes_decides c d).0 e in let clash : is_free d ≡ true = rw is at h in cc)
    (λ e. e)

meets-apart : (c d : List ℕ) → is_free c ≡ true → is_free d ≡ false → chunk_meets c d ≡ false
meets-apart c d h k = rw (not_true (is_verbatim c) h, not_false (is_verbatim d) k) (verbatim-apart c d h k)

meets-apart' : (c d : List ℕ) → is_free c ≡ false → is_free d ≡ true → chunk_meets c d ≡ false
meets-apart' c d h k = chunk_meets_comm c d ∙ meets-apart d c k h

-- what stands behind the free chunks begins with a verbatim one, and is shorter than all
behind-begins : (p : List (List ℕ)) (v : List ℕ) (vs : List (List ℕ)) → behind is_free p ≡ v ∷ vs → is_free v ≡ false
behind-begins [] v vs h = cc
behind-begins (c ∷ cs) v vs h = split (is_free c)
    (λ e. behind-begins cs v vs (rw e at h))
    (λ e. let same : c ∷ cs ≡ v ∷ vs = rw e at h in let first : c ≡ v = cc in rw first at e)

pub behind-shorter : (p : List (List ℕ)) (v : List ℕ) (vs : List (List ℕ)) → behind is_free p ≡ v ∷ vs → length vs < length p
behind-shorter [] v vs h = cc
behind-shorter (c ∷ cs) v vs h = split (is_free c)
    (λ e. let less = behind-shorter cs v vs (rw e at h) in omega arith)
    (λ e. let same : c ∷ cs ≡ v ∷ vs = rw e at h in let rest : cs ≡ vs = cc in omega (arith, ap length rest))

module _ (wild' : List ℕ → Bool) (same : List ℕ → List ℕ → Bool)
    (loose' : (c : List ℕ) → wild' c ≡ true → is_free c ≡ true)
    (apart : (c d : List ℕ) → is_free c ≡ true → is_free d ≡ false → same c d ≡ false)
    (apart' : (c d : List ℕ) → is_free c ≡ false → is_free d ≡ true → same c d ≡ false) where
  abbrev M : List (List ℕ) → List (List ℕ) → Bool
  M = meets is_double_star wild' is_free same

  abbrev F : List (List ℕ) → List (List ℕ) → Bool
  F = meets is_double_star wild' (λ _. true) same

  whole : (p q : List (List ℕ)) → M p q ≡ (F (front is_free p) (front is_free q) && M (behind is_free p) (behind is_free q))
  whole = cut is_double_star wild' is_free same double_star-free loose' apart apart'

  tight : (c : List ℕ) → is_free c ≡ false → is_double_star c ≡ false
  tight c h = split (is_double_star c) (λ w. let e = double_star-free c w in cc) (λ w. w)

  tight' : (c : List ℕ) → is_free c ≡ false → wild' c ≡ false
  tight' c h = split (wild' c) (λ w. let e = loose' c w in cc) (λ w. w)

  pub cut-apart : (p q : List (List ℕ)) → F (front is_free p) (front is_free q) ≡ false → M p q ≡ false
  cut-apart p q f = whole p q ∙ rw f refl

  pub cut-ended : (p q : List (List ℕ)) → F (front is_free p) (front is_free q) ≡ true → behind is_free p ≡ []
      → behind is_free q ≡ [] → M p q ≡ true
  cut-ended p q f h k = whole p q ∙ rw (f, h, k) (meets-ends is_double_star wild' is_free same)

  pub cut-left_end : (p q : List (List ℕ)) (u : List ℕ) (us : List (List ℕ)) → F (front is_free p) (front is_free q) ≡ true
      → behind is_free p ≡ [] → behind is_free q ≡ u ∷ us → M p q ≡ false
  cut-left_end p q u us f h k =
      whole p q ∙ rw (f, h, k) (meets-left_end is_double_star wild' is_free same u us (tight' u (behind-begins q u us k)))

  pub cut-right_end : (p q : List (List ℕ)) (v : List ℕ) (vs : List (List ℕ)) → F (front is_free p) (front is_free q) ≡ true
      → behind is_free p ≡ v ∷ vs → behind is_free q ≡ [] → M p q ≡ false
  cut-right_end p q v vs f h k =
      whole p q ∙ rw (f, h, k) (meets-right_end is_double_star wild' is_free same v vs (tight v (behind-begins p v vs h)))

  pair : (p q : List (List ℕ)) (v u : List ℕ) (vs us : List (List ℕ)) → F (front is_free p) (front is_free q) ≡ true
      → behind is_free p ≡ v ∷ vs → behind is_free q ≡ u ∷ us → M p q ≡ (same v u && M vs us)
  pair p q v u vs us f h k =
      whole p q
      ∙ rw (f, h, k) (meets-pair is_double_star wild' is_free same v u vs us (tight v (behind-begins p v vs h))
      (tight' u (behind-begins q u us k)))

  pub cut-differ : (p q : List (List ℕ)) (v u : List ℕ) (vs us : List (List ℕ)) → F (front is_free p) (front is_free q) ≡ true
      → behind is_free p ≡ v ∷ vs → behind is_free q ≡ u ∷ us → same v u ≡ false → M p q ≡ false
  cut-differ p q v u vs us f h k s = pair p q v u vs us f h k ∙ rw s refl

  pub cut-next : (p q : List (List ℕ)) (v u : List ℕ) (vs us : List (List ℕ)) → F (front is_free p) (front is_free q) ≡ true
      → behind is_free p ≡ v ∷ vs → behind is_free q ≡ u ∷ us → same v u ≡ true → M p q ≡ M vs us
  cut-next p q v u vs us f h k s = pair p q v u vs us f h k ∙ rw s refl

-- the same at `intersects`
abbrev Meet : List (List ℕ) → List (List ℕ) → Bool
Meet = meets is_double_star is_double_star is_free chunk_meets

abbrev Front : List (List ℕ) → List (List ℕ) → Bool
Front p q = meets is_double_star is_double_star (λ _. true) chunk_meets (front is_free p) (front is_free q)

pub meet-apart : (p q : List (List ℕ)) → Front p q ≡ false → Meet p q ≡ false
meet-apart = cut-apart is_double_star chunk_meets double_star-free meets-apart meets-apart'

pub meet-ended : (p q : List (List ℕ)) → Front p q ≡ true → behind is_free p ≡ [] → behind is_free q ≡ [] → Meet p q ≡ true
meet-ended = cut-ended is_double_star chunk_meets double_star-free meets-apart meets-apart'

pub meet-left_end : (p q : List (List ℕ)) (u : List ℕ) (us : List (List ℕ)) → Front p q ≡ true → behind is_free p ≡ []
    → behind is_free q ≡ u ∷ us → Meet p q ≡ false
meet-left_end = cut-left_end is_double_star chunk_meets double_star-free meets-apart meets-apart'

pub meet-right_end : (p q : List (List ℕ)) (v : List ℕ) (vs : List (List ℕ)) → Front p q ≡ true
    → behind is_free p ≡ v ∷ vs → behind is_free q ≡ [] → Meet p q ≡ false
meet-right_end = cut-right_end is_double_star chunk_meets double_star-free meets-apart meets-apart'

pub meet-differ : (p q : List (List ℕ)) (v u : List ℕ) (vs us : List (List ℕ)) → Front p q ≡ true
    → behind is_free p ≡ v ∷ vs → behind is_free q ≡ u ∷ us → chunk_meets v u ≡ false → Meet p q ≡ false
meet-differ = cut-differ is_double_star chunk_meets double_star-free meets-apart meets-apart'

pub meet-next : (p q : List (List ℕ)) (v u : List ℕ) (vs us : List (List ℕ)) → Front p q ≡ true
    → behind is_free p ≡ v ∷ vs → behind is_free q ≡ u ∷ us → chunk_meets v u ≡ true → Meet p q ≡ Meet vs us
meet-next = cut-next is_double_star chunk_meets double_star-free meets-apart meets-apart'

pub ruleset meet_steps = (meet-apart, meet-ended, meet-left_end, meet-right_end, meet-differ, meet-next, behind-shorter)
