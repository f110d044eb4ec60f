use Rattle.std.proofs.Common.{refl, ap, ◌∙◌}
use Rattle.zs_books.specs.Callers.{AccountsSeen}
use Rattle.zs_held.proofs.Booking.{booked-same}
use Rattle.zs_held.proofs.held.Held.entries.Goals as goal

pub invariant_of-self : goal.invariant_of-self
invariant_of-self g c = booked-same c.self.invariant refl c.are_all.ensures.same

pub returns-clause-same : goal.returns-clause-same
returns-clause-same g c = ap (λ (a : AccountsSeen). record { session = c.self.inside.cell; drained = a.drained }) c.are_all.ensures.same ∙ c.self.view_is
