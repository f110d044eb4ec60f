use Rattle.std.proofs.Common.{map, sym, subst}
use Rattle.zs_posts.specs.Calls.{call_seen, all_lents}
use Rattle.zs_hands.specs.Answers.{AreOfRoom}
use Rattle.zs_cell_tests.proofs.cells.step.Goals as goal

pub finish-requires : goal.finish-requires
finish-requires g c = subst (λ room. AreOfRoom room (all_lents (map call_seen c.in-Ok.handing.calls))) (sym c.in-Ok.ensures.room) c.in-Ok.ensures.lents
