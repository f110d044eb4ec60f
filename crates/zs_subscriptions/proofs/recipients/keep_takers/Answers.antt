use Rattle.std.proofs.Common.{rules}
use Rattle.std.proofs.lemmas.Fn.{filter_same}
use Rattle.zs_subscriptions.specs.Lists.{takes_by_id}
use Rattle.zs_subscriptions.proofs.recipients.keep_takers.Goals as goal

pub returns : goal.returns
returns c = filter_same _ (takes_by_id c.args.local c.args.rows.now) _ (λ x b f' k. search rules) _ _ c.retain.ensures.filtered
