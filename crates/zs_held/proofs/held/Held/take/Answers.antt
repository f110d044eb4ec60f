use Rattle.std.proofs.Common.{map}
use Rattle.std.specs.Prelude.{option_map}
use Rattle.std.specs.Arc.{arc_value}
use Rattle.zs_posts.specs.Calls.{call_seen}
use Rattle.zs_held.proofs.Booking.{booked-result}
use Rattle.zs_held.proofs.held.Held.take.Goals as goal

pub invariant_of-self : goal.invariant_of-self
invariant_of-self g c =
    booked-result c.args.event (option_map arc_value c.args.handler) (λ given. given.0.turn) (λ given. map call_seen given.0.calls) c.take_parts.result c.self.invariant
    c.take_parts.ensures.ok c.take_parts.ensures.accounts c.take_parts.ensures.err c.take_parts.ensures.books
