use Rattle.std.proofs.Common.{◌≡◌, ◌+◌, ◌∙◌}
use Rattle.zs_tables.specs.Present.{own_count, remote_count}
use Rattle.zs_tables.proofs.Answering.{counts_together}
use Rattle.zs_tables.proofs.present.Present.count.Goals as goal

pub returns : goal.returns
returns c =
    let own : c.in_ok-own.own ≡ own_count c.args.self.now.tables.now.rows c.args.self.now.queryables.now c.args.listener.now = c.in_ok-own.ensures in
    let told : c.in_ok-told.told ≡ remote_count c.args.self.now.remote_entities.now c.args.listener.now = c.in_ok-told.ensures in
    let sum = c.in-Some.ensures in
    sum.1 ∙ (λ i. own i + told i) ∙ counts_together c.args.self.now.tables.now.rows c.args.self.now.queryables.now c.args.self.now.remote_entities.now c.args.listener.now
