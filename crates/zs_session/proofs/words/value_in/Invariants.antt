use Rattle.std.proofs.Common.{◌≡◌, map, length}
use Rattle.std.specs.String.{string_bytes}
use Rattle.zs_session.specs.Words.{values}
use Rattle.zs_session.proofs.words.value_in.Given as goal

abbrev pub decreases-words : goal.decreases-words
decreases-words l = length l.words

abbrev pub invariant-words : goal.invariant-words
invariant-words l = values l.name (map string_bytes l.words) ≡ values l.name (map string_bytes l.fn.words)
