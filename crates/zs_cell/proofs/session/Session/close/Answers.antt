use Rattle.std.proofs.Common.{refl}
use Rattle.zs_held.specs.Numbers.{numbered_at}
use Rattle.zs_cell.proofs.session.Session.close.Goals as goal

pub tell-requires : goal.tell-requires
unfolding numbered_at
tell-requires g c = refl

pub tell_and_wait-requires : goal.tell_and_wait-requires
unfolding numbered_at
tell_and_wait-requires g c = refl
