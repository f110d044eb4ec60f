use Rattle.zs_model.specs.Past.{past_of}
use Rattle.zs_standing.specs.Stands.{world_after}
use Rattle.zs_standing.proofs.GroupNumbers.{members_are}
use Rattle.zs_standing.proofs.Stands.{standing}
use Rattle.zs_standing.proofs.laws.groups_are_live.Goals as goal

pub returns : goal.returns
returns c = λ s h kind text. (
  members_are s (world_after s h) (past_of s h) kind text (standing s h).settings (standing s h).live (standing s h).shared,
  (standing s h).numbers kind text,
)
