-- What a channel is seen as, whichever queue it has.
use Rattle.std.specs.Prelude.{true, []}
use Rattle.zs_channels.specs.declared.open_channel.Lent.{Lent}
use Rattle.zs_channels.specs.declared.open_channel.Lent.TheVariants.{Fifo, Ring, Over}
use Rattle.zs_channels.specs.Channel.{Channel}

abbrev pub channel_lent : {T : Type 0} → Lent T → Channel T
channel_lent (Fifo fifo) = fifo
channel_lent (Ring ring) = ring
channel_lent (Over to) = record { to = to; items = []; ended = true }
