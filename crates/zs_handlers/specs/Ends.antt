-- What clauses see of the ends of a fifo's channel, and of the futures and streams that have the receiving one.
use Rattle.std.specs.Prelude.{ℕ}
use Rattle.std.specs.Arc.{arc_value}
use Rattle.zs_handlers.specs.declared.fifo.FifoSender.{FifoSender}
use Rattle.zs_handlers.specs.declared.fifo.FifoChannelHandler.{FifoChannelHandler}
use Rattle.zs_handlers.specs.declared.place.Place.{Place}
use Rattle.zs_handlers.specs.declared.place.Place.TheVariants.{Lent, Own}
use Rattle.zs_handlers.specs.declared.polled.RecvFut.{RecvFut}
use Rattle.zs_handlers.specs.declared.polled.RecvStream.{RecvStream}

module _ {T : Type 0} where
  -- the source that fires where an item comes and at the end
  abbrev pub source_of : FifoChannelHandler T → ℕ
  source_of h = (arc_value h.shared).source.id

  -- the one that the sender fires
  abbrev pub fired_by : FifoSender T → ℕ
  fired_by s = (arc_value s.shared).source.id

  -- how many items the fifo can hold
  abbrev pub capacity_of : FifoChannelHandler T → ℕ
  capacity_of h = (arc_value h.shared).capacity

  -- both of a receiver that was lent or given up
  abbrev pub source_at : Place T → ℕ
  source_at (Lent h) = source_of h.now
  source_at (Own h) = source_of h

  abbrev pub capacity_at : Place T → ℕ
  capacity_at (Lent h) = capacity_of h.now
  capacity_at (Own h) = capacity_of h

  abbrev pub future_source : {R : Type 0} → RecvFut T R → ℕ
  future_source f = source_at f.place

  abbrev pub stream_source : {R : Type 0} → RecvStream T R → ℕ
  stream_source s = source_at s.place

  abbrev pub stream_capacity : {R : Type 0} → RecvStream T R → ℕ
  stream_capacity s = capacity_at s.place
