-- How a text is cut into chunks.
use Rattle.std.proofs.Common.{◌≡◌, ℕ, ◌==◌, true, false, List, [], ◌∷◌, Option, Some, None, Bor, refl, arith, lit<}
use Rattle.std.specs.List.{onto_first}
use Rattle.std.proofs.lemmas.List.Sums.{fails_before_first}
use Rattle.std.proofs.lemmas.List.Splits.{slice_split_first, slice_split_none}
use Rattle.std.proofs.lemmas.Str.Pattern.{IsSplitOnceResult, split_once_first}
use Rattle.zs_keys.specs.Text.{chunks}
use Rattle.zs_tree.specs.Walk.{AreCut}
use Rattle.zs_tree.proofs.Bools.{split}

module _ (text : List ℕ) (r : Option (Bor (List ℕ) × Bor (List ℕ))) (cut : IsSplitOnceResult 0x2f text r) where
  -- the first chunk stands before the first `/`, and the others are those of the text behind it
  pub chunks_of_cut : (x : Bor (List ℕ) × Bor (List ℕ)) → r ≡ Some x → chunks text ≡ x.0.now ∷ chunks x.1.now
  chunks_of_cut x is =
      let (inside, front, back) = rw is at (split_once_first 0x2f text r cut (lit< tt)) in
      rw (front, back) (slice_split_first (λ b. b == 0x2f) text 0 inside)

  -- a text without `/` is one chunk
  pub chunks_of_whole : r ≡ None → chunks text ≡ text ∷ []
  chunks_of_whole is =
      let none = rw is at (split_once_first 0x2f text r cut (lit< tt)) in
      slice_split_none (λ b. b == 0x2f) text (λ k d small. fails_before_first (λ b. b == 0x2f) text k d (omega arith))

onto_cut : (b : ℕ) (cs : List (List ℕ)) → (b == 0x2f) ≡ false → AreCut cs → AreCut (onto_first b cs)
onto_cut b [] h is = (rw h refl, tt)
onto_cut b (c ∷ cs) h is = (rw h is.0, is.1)

-- no chunk of a text has a `/`
pub are_cut : (text : List ℕ) → AreCut (chunks text)
are_cut [] = (refl, tt)
are_cut (b ∷ bs) =
    let ih = are_cut bs in
    split (b == 0x2f) (λ h. rw h (refl, ih)) (λ h. rw h (onto_cut b (chunks bs) h ih))
