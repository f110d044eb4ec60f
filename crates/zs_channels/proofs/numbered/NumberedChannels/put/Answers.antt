use Rattle.std.proofs.Common.{ap, ◌∙◌}
use Rattle.zs_channels.specs.Channel.{with_item}
use Rattle.zs_channels.specs.Table.{with_changed}
use Rattle.zs_channels.proofs.Rows.{written, unwritten, at_ok, at_err}
use Rattle.zs_channels.proofs.numbered.NumberedChannels.put.Goals as goal

pub returns-clause-ok : goal.returns-clause-ok
returns-clause-ok g c =
    at_ok c.put.result (λ is.
    (c.get_mut.follows.holds c.put.new.self).0
    ∙ (written c.args.id (with_item c.args.item) c.in-Some.channel.now c.put.new.self c.self.inside.by_number.entries c.in-Some.ensures.value is
    ∙ ap (with_changed c.args.id (with_item c.args.item)) c.self.view_is)) c.put.ensures.ok

pub returns-clause-err : goal.returns-clause-err
returns-clause-err g c =
    at_err c.put.result (λ is.
    (c.get_mut.follows.holds c.put.new.self).0
    ∙ (unwritten c.args.id c.in-Some.channel.now c.put.new.self c.self.inside.by_number.entries c.in-Some.ensures.value is ∙ c.self.view_is)) c.put.ensures.err
