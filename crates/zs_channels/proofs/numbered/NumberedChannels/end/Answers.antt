use Rattle.std.proofs.Common.{ap, ◌∙◌}
use Rattle.zs_channels.specs.Channel.{at_end}
use Rattle.zs_channels.specs.Table.{with_changed}
use Rattle.zs_channels.proofs.Rows.{written}
use Rattle.zs_channels.proofs.numbered.NumberedChannels.end.Goals as goal

pub returns : goal.returns
returns g c =
    (c.get_mut.follows.holds c.end.new.self).0
    ∙ (written c.args.id at_end c.in-Some.channel.now c.end.new.self c.self.inside.by_number.entries c.in-Some.ensures.value c.end.ensures
    ∙ ap (with_changed c.args.id at_end) c.self.view_is)
