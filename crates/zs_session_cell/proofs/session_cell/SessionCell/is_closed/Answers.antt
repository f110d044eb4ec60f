use Rattle.std.proofs.Common.{◌≡◌, [], subst}
use Rattle.zs_session_cell.specs.Journals.{SessionSeen, history, closed_in}
use Rattle.zs_session_cell.proofs.Core.{closed_is}
use Rattle.zs_session_cell.proofs.session_cell.SessionCell.is_closed.Goals as goal

pub returns : goal.returns
returns g c =
    subst (λ (s : SessionSeen g.row.H.Denot). c.is_closed.result ≡ closed_in s) c.self.view_is
    (closed_is c.self.inside.cell.world c.is_closed.result c.self.inside.settings (history [] c.self.inside.journal.items) c.is_closed.ensures c.self.invariant.stands)
