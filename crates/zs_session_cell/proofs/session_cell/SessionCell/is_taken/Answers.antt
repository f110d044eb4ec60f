use Rattle.std.proofs.Common.{◌≡◌, [], subst}
use Rattle.zs_session_cell.specs.Journals.{SessionSeen, history, taken_in}
use Rattle.zs_session_cell.proofs.Core.{taken_is}
use Rattle.zs_session_cell.proofs.session_cell.SessionCell.is_taken.Goals as goal

pub returns : goal.returns
returns g c =
    subst (λ (s : SessionSeen g.row.H.Denot). c.is_taken.result ≡ taken_in s c.args.token) c.self.view_is
    (taken_is c.self.inside.cell.world c.args.token c.is_taken.result c.self.inside.settings (history [] c.self.inside.journal.items) c.is_taken.ensures c.self.invariant.stands)
