use Rattle.zs_model.specs.Past.{past_of}
use Rattle.zs_model.specs.Live.{is_live, declared}
use Rattle.zs_model.specs.Subscribers.{sub_row}
use Rattle.zs_events.specs.declared.turn.Kind.TheVariants.{Subscriber}
use Rattle.zs_subscriptions.specs.declared.subscriber.SubRow.{SubRow}
use Rattle.zs_model.proofs.Entities.{ascend_filter}
use Rattle.zs_standing.proofs.Stands.{standing}
use Rattle.zs_standing.proofs.laws.subscribers_ascend.Goals as goal

pub returns : goal.returns
returns c = λ s h. ascend_filter (λ (row : SubRow). row.id) (λ row. is_live Subscriber row.id (past_of s h)) (declared sub_row (past_of s h)) (standing s h).live.subs.ascend
