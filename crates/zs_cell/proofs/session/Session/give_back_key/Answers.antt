use Rattle.std.proofs.Common.{refl}
use Rattle.zs_held.specs.Numbers.{numbered_at}
use Rattle.zs_cell.proofs.session.Session.give_back_key.Goals as goal

pub tell-requires : goal.tell-requires
unfolding numbered_at
tell-requires g c = refl
