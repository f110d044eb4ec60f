-- What pieces come to that are printed one behind the other.
use Rattle.std.proofs.Common.{ℕ, ◌≡◌, List, [], ◌∷◌, ◌++◌, refl, sym, ap, ◌∙◌, append_assoc, flat_map, decimal}
use Rattle.std.proofs.lemmas.List.{append-nil}
use Rattle.zs_printing.specs.Pieces.{Piece, tabs, written, piece_text, pieces_fields, pieces_text}
use Rattle.zs_printing.specs.Printing.{tabbed}

-- pieces behind others
pub pieces-append : (first more : List Piece) → pieces_text (first ++ more) ≡ pieces_text first ++ pieces_text more
pieces-append [] more = refl
pieces-append (piece ∷ first) more =
    ap (λ (text : List ℕ). piece_text piece ++ text) (pieces-append first more)
    ∙ sym (append_assoc (piece_text piece) (pieces_text first) (pieces_text more))

pub ruleset joining = (append_assoc, append-nil, pieces-append)

-- the line of some fields, with more fields in front
tabbed-front : (fields more : List (List ℕ)) → tabbed (fields ++ more) ≡ tabs fields ++ tabbed more
tabbed-front [] more = refl
tabbed-front (field ∷ []) more = refl
tabbed-front (field ∷ next ∷ fields) more =
    ap (λ (text : List ℕ). 9 ∷ (field ++ text)) (tabbed-front (next ∷ fields) more)
    ∙ ap (λ (text : List ℕ). 9 ∷ text) (sym (append_assoc field (tabs (next ∷ fields)) (tabbed more)))

pub tabbed-pieces : (pieces : List Piece) → tabbed (pieces_fields pieces) ≡ pieces_text pieces ++ 10 ∷ []
unfolding piece_text
tabbed-pieces [] = refl
tabbed-pieces (piece ∷ pieces) =
    tabbed-front (written piece) (pieces_fields pieces)
    ∙ ap (λ (text : List ℕ). tabs (written piece) ++ text) (tabbed-pieces pieces)
    ∙ sym (append_assoc (tabs (written piece)) (pieces_text pieces) (10 ∷ []))

pub ruleset line_joining = (append_assoc, tabbed-pieces)
