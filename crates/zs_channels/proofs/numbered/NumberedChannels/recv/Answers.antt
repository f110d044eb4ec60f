use Rattle.std.proofs.Common.{ap, ◌∙◌}
use Rattle.zs_channels.specs.Channel.{without_first}
use Rattle.zs_channels.specs.Table.{with_changed}
use Rattle.zs_channels.proofs.Rows.{written}
use Rattle.zs_channels.proofs.numbered.NumberedChannels.recv.Goals as goal

pub returns-clause-rows : goal.returns-clause-rows
returns-clause-rows g c =
    (c.get_mut.follows.holds c.recv.new.self).0
    ∙ (written c.args.id without_first c.in-Some.channel.now c.recv.new.self c.self.inside.by_number.entries c.in-Some.ensures.value c.recv.ensures.items
    ∙ ap (with_changed c.args.id without_first) c.self.view_is)
