-- The steps of a walk that looks for the last piece, and for a wild element.
use Rattle.std.proofs.Common.{◌≡◌, Bool, true, false, List, [], ◌∷◌, refl}
use Rattle.std.specs.Prelude.{if◌then◌else◌}
use Rattle.std.specs.List.{list_any}
use Rattle.zs_keys.specs.Walk.{last_piece}
use Rattle.zs_keys.proofs.Bools.{split}
use Rattle.zs_keys.proofs.Pieces.{last-whole}

module _ {X : Type 0} (wild : X → Bool) where
  -- the last piece of a list of which `rest` is left, where `piece` stands behind the last wild element so far
  abbrev pub piece_so_far : List X → List X → List X
  piece_so_far piece rest = if list_any wild rest then last_piece wild rest else piece

  pub piece-start : (p : List X) → last_piece wild p ≡ piece_so_far p p
  piece-start p = split (list_any wild p) (λ h. rw h refl) (λ h. rw (h, last-whole wild p h) refl)

  pub piece-wild : (piece rest : List X) (x : X) (xs : List X) → rest ≡ x ∷ xs → wild x ≡ true
      → piece_so_far piece rest ≡ piece_so_far xs xs
  piece-wild piece rest x xs h w = rw (h, w) refl

  pub piece-plain : (piece rest : List X) (x : X) (xs : List X) → rest ≡ x ∷ xs → wild x ≡ false
      → piece_so_far piece rest ≡ piece_so_far piece xs
  piece-plain piece rest x xs h w = rw (h, w) (split (list_any wild xs) (λ a. rw a refl) (λ a. rw a refl))

  pub piece-end : (piece rest : List X) → rest ≡ [] → piece_so_far piece rest ≡ piece
  piece-end piece rest h = rw h refl

pub ruleset piece_steps = (piece-start, piece-wild, piece-plain, piece-end)
