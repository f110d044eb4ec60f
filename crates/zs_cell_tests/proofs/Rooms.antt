-- Calls whose passes are of a room keep it where the handler goes back alone.
use Rattle.std.proofs.Common.{◌≡◌, None, map, sym, subst}
use Rattle.atomic_table.specs.Seated.{TableId}
use Rattle.zs_posts.specs.Calls.{call_seen, all_lents}
use Rattle.zs_hands.specs.Answers.{AreOfRoom}
use Rattle.zs_session_cell.specs.Journals.{HandingSeen}

pub kept_room : {H : Type 0} (h k : HandingSeen H) (r s : TableId) → k ≡ record h { back = None } → s ≡ r
    → AreOfRoom r (all_lents (map call_seen h.calls)) → AreOfRoom s (all_lents (map call_seen k.calls))
kept_room {H} h k r s is same of =
    subst (λ (x : HandingSeen H). AreOfRoom s (all_lents (map call_seen x.calls))) (sym is)
    (subst (λ (room : TableId). AreOfRoom room (all_lents (map call_seen h.calls))) (sym same) of)
