use Rattle.std.proofs.Common.{inl}
use Rattle.zs_cell.proofs.session.Session.finish_into.Goals as goal

pub returns-in-Ok : goal.returns-in-Ok
returns-in-Ok g c = inl c.in-Ok.ensures.ok
