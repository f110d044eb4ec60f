use Rattle.std.proofs.Common.{is_some}
use Rattle.zs_cell.proofs.session.Session.tell_and_wait.Goals as goal

pub returns-in-Ok-clause-ok : goal.returns-in-Ok-clause-ok
returns-in-Ok-clause-ok g c = record { held = is_some c.in-Ok.closing; accepts = c.in-Ok.ensures.ok }
