use Rattle.std.proofs.Common.{map, subst}
use Rattle.atomic_table.specs.Seated.{TableId}
use Rattle.zs_posts.specs.Calls.{call_seen, all_lents}
use Rattle.zs_hands.specs.Answers.{AreOfRoom, ran_lents}
use Rattle.zs_session_cell.specs.Journals.{HandingSeen}
use Rattle.zs_session_cell.proofs.handing.Handing.run.Goals as goal

pub returns-clause-room : goal.returns-clause-room
returns-clause-room g c =
    subst (λ (s : HandingSeen g.row.H.Denot). (room : TableId) → AreOfRoom room (all_lents (map call_seen s.calls)) → AreOfRoom room (ran_lents c.run.result.ran.items)) c.self.view_is c.run.ensures.room
