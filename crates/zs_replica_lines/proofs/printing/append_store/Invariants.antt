use Rattle.std.proofs.Common.{◌≡◌, ◌++◌, map}
use Rattle.std.specs.String.{string_bytes}
use Rattle.std.specs.Map.Iter.{deref_pair}
use Rattle.zs_store.specs.Store.{write_of}
use Rattle.zs_replica_lines.specs.Shown.{store_text}
use Rattle.zs_replica_lines.proofs.printing.append_store.Given as goal

abbrev pub invariant-entries : goal.invariant-entries
invariant-entries l = string_bytes l.out ≡ string_bytes l.fn.out ++ store_text l.number l.side (map write_of (map deref_pair l.yielded))
