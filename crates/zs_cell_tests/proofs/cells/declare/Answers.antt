use Rattle.zs_cell_tests.proofs.Rooms.{kept_room}
use Rattle.zs_cell_tests.proofs.cells.declare.Goals as goal

pub finish-requires : goal.finish-requires
finish-requires g c = kept_room c.in-Ok.handing _ _ _ c.refused-back.ensures.rest c.in-Ok.ensures.room c.in-Ok.ensures.lents
