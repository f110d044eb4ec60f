use Rattle.std.proofs.Common.{◌+◌, length, ap, ◌∙◌}
use Rattle.std.specs.Option.{option_to_list}
use Rattle.zs_books.specs.Callers.{AccountsSeen}
use Rattle.zs_held.proofs.Booking.{booked-drained, none-left}
use Rattle.zs_held.proofs.held.Held.drain.Goals as goal

pub invariant_of-self : goal.invariant_of-self
invariant_of-self g c =
    booked-drained c.drain-message.result c.self.invariant c.drain-message.ensures.first c.drain-message.ensures.rest
    (c.add_drained.ensures.accounts
    ∙ (ap (λ n. record c.are_all.new.self { drained = c.are_all.new.self.drained + n }) c.count_of.ensures
    ∙ ap (λ (books : AccountsSeen). record books { drained = books.drained + length (option_to_list c.drain-message.result) }) c.are_all.ensures.same))

pub returns-clause-all : goal.returns-clause-all
returns-clause-all g c = λ parts. none-left c.drain-message.result _ c.self.invariant (c.are_all.ensures.whole parts) c.drain-message.ensures.first c.drain-message.ensures.none
