-- Where a character of a text that is made of others begins.
use Rattle.std.proofs.Common.{ℕ, ◌≤◌, List, ◌++◌, length, drop, arith, length-append}
use Rattle.std.specs.Prelude.{IsUtf8, IsCharBoundary}
use Rattle.std.proofs.lemmas.List.{drop-append-le}
use Rattle.std.proofs.lemmas.Str.{IsUtf8-append, IsUtf8-drop, IsCharBoundary-from_drop}

-- a character that begins in the front, or where the back begins, begins in the whole
pub boundary-append : (front back : List ℕ) (n : ℕ) → IsUtf8 front → IsUtf8 back → IsCharBoundary front n
    → IsCharBoundary (front ++ back) n
boundary-append front back n f b at =
    let rest : IsUtf8 (drop n (front ++ back)) =
    rw (drop-append-le n front back at.0) (IsUtf8-append (drop n front) back (IsUtf8-drop front n f at) b) in
    let within : n ≤ length (front ++ back) = simp length-append (omega (arith, at.0)) in
    IsCharBoundary-from_drop (front ++ back) n within rest
