use Rattle.std.proofs.Common.{◌≡◌, map, length}
use Rattle.std.specs.String.{string_bytes}
use Rattle.zs_session.specs.Words.{values, are_aggregates}
use Rattle.zs_session.proofs.words.are_aggregates.Given as goal

abbrev pub decreases-words : goal.decreases-words
decreases-words l = length (values l.name (map string_bytes l.words))

abbrev pub invariant-words : goal.invariant-words
invariant-words l = are_aggregates l.name (map string_bytes l.words) ≡ are_aggregates l.name (map string_bytes l.fn.words)
