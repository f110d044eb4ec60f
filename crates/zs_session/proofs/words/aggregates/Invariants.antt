use Rattle.std.proofs.Common.{◌≡◌, ◌++◌, map, length, true}
use Rattle.std.specs.String.{string_bytes}
use Rattle.zs_keys.specs.Key.{undeclared}
use Rattle.zs_session.specs.Words.{values, are_aggregates}
use Rattle.zs_session.proofs.words.aggregates.Given as goal

abbrev pub decreases-words : goal.decreases-words
decreases-words l = length (values l.name (map string_bytes l.words))

abbrev pub invariant-words : goal.invariant-words
invariant-words l = record {
  all : are_aggregates l.name (map string_bytes l.words) ≡ true;
  keys : l.keys.items ++ map undeclared (values l.name (map string_bytes l.words)) ≡ map undeclared (values l.name (map string_bytes l.fn.words));
}
