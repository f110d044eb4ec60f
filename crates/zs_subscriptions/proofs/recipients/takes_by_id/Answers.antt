use Rattle.std.proofs.Common.{ap, ◌∙◌}
use Rattle.zs_subscriptions.specs.declared.subscriber.SubRow.{SubRow}
use Rattle.zs_subscriptions.specs.Recipients.{takes}
use Rattle.zs_subscriptions.proofs.ByKey.{passed, passes_found}
use Rattle.zs_subscriptions.proofs.recipients.takes_by_id.Goals as goal

pub returns-in_default : goal.returns-in_default
returns-in_default c =
    let test = λ (row : SubRow). takes c.args.local row.origin in
    ap (passed test) c.in_default.ensures ∙ passes_found (λ (row : SubRow). row.id) test c.args.id c.args.rows.now c.requires

pub returns : goal.returns
returns c =
    let test = λ (row : SubRow). takes c.args.local row.origin in
    c.takes.ensures ∙ (ap (passed test) c.in-Some.ensures ∙ passes_found (λ (row : SubRow). row.id) test c.args.id c.args.rows.now c.requires)
