use Rattle.std.proofs.Common.{map, ap, ◌∙◌, subst}
use Rattle.zs_store.specs.Store.{KeysAscend, write_of}
use Rattle.zs_store.proofs.Mapped.{ascend_rows}
use Rattle.zs_store.proofs.store.Store.iter.Goals as goal

pub returns-clause-entries : goal.returns-clause-entries
returns-clause-entries c = ap (map write_of) c.iter.ensures.rest ∙ c.self.view_is

pub returns-clause-ascend : goal.returns-clause-ascend
returns-clause-ascend c = subst KeysAscend c.self.view_is (ascend_rows c.self.inside.entries.entries c.iter.ensures.ordered)
