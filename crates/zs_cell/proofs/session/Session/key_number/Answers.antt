use Rattle.std.proofs.Common.{refl}
use Rattle.zs_held.specs.Numbers.{numbered_at}
use Rattle.zs_cell.proofs.session.Session.key_number.Goals as goal

pub ask_alone-requires : goal.ask_alone-requires
unfolding numbered_at
ask_alone-requires g c = refl
