use Rattle.std.proofs.Common.{map, ap, ◌∙◌, subst}
use Rattle.zs_members.specs.Members.{NamesAscend, AreThere, member_of}
use Rattle.zs_members.proofs.Mapped.{ascend_rows, there_rows}
use Rattle.zs_members.proofs.view.View.iter.Goals as goal

pub returns-clause-members : goal.returns-clause-members
returns-clause-members c = ap (map member_of) c.iter.ensures.rest ∙ c.self.view_is

pub returns-clause-ascend : goal.returns-clause-ascend
returns-clause-ascend c = subst NamesAscend c.self.view_is (ascend_rows c.self.inside.counts.entries c.iter.ensures.ordered)

pub returns-clause-there : goal.returns-clause-there
returns-clause-there c = subst AreThere c.self.view_is (there_rows c.self.inside.counts.entries c.self.invariant)
