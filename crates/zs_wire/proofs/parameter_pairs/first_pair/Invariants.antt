use Rattle.std.proofs.Common.{◌≡◌, length}
use denote.Text.{Utf8}
use denote.Shadow.{shadow}
use Rattle.zs_wire.specs.Parameters.{pairs}
use Rattle.zs_wire.proofs.parameter_pairs.first_pair.Given as goal

-- the pairs of the text are those that are left
abbrev pub invariant-pieces : goal.invariant-pieces
invariant-pieces l = shadow (Utf8 l.rest) × (pairs l.text ≡ pairs l.rest)

abbrev pub decreases-pieces : goal.decreases-pieces
decreases-pieces l = length l.rest
