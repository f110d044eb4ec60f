use Rattle.std.proofs.Common.{◌∙◌}
use Rattle.zs_members.proofs.Copied.{same_members, same_some}
use Rattle.zs_members.proofs.view.View.try_clone.Goals as goal

pub returns : goal.returns
returns c = same_members c.self.inside.counts.entries c.in_ok-counts.counts.entries c.in_ok-counts.ensures.cases ∙ c.self.view_is

pub invariant_of-result : goal.invariant_of-result
invariant_of-result c = same_some c.self.inside.counts.entries c.in_ok-counts.counts.entries c.in_ok-counts.ensures.cases c.self.invariant
