use Rattle.std.proofs.Common.{◌≡◌, ◌++◌, map}
use Rattle.std.specs.Map.Iter.{deref_pair}
use Rattle.zs_store.specs.Store.{write_of}
use Rattle.zs_keeping.specs.Answering.{replies_of}
use Rattle.zs_keeping.proofs.answering.push_replies.Given as goal

abbrev pub invariant-entries : goal.invariant-entries
invariant-entries l = l.events.items ≡ l.fn.events.items ++ replies_of l.value l.key (map write_of (map deref_pair l.yielded))
