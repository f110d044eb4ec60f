use Rattle.std.proofs.Common.{map, length}
use Rattle.std.specs.List.{AllByRecursion}
use Rattle.std.specs.Str.{IsUtf8}
use Rattle.std.specs.String.{string_bytes}
use Rattle.zs_session.specs.Words.{values}
use Rattle.zs_session.proofs.spelling.spell_values.Given as goal

abbrev pub decreases-words : goal.decreases-words
decreases-words l = length (values l.name (map string_bytes l.words))

abbrev pub invariant-words : goal.invariant-words
invariant-words l =
    AllByRecursion IsUtf8 (values l.name (map string_bytes l.words)) → AllByRecursion IsUtf8 (values l.name (map string_bytes l.fn.words))
