use Rattle.std.proofs.Common.{refl}
use Rattle.zs_query.proofs.Getting.{row_less}
use Rattle.zs_query.proofs.open_get.OpenGet.take_final.Goals as goal

pub returns : goal.returns
returns c = row_less c.args.side _ c.args.self.now c.args.self.now c.take_final.ensures refl
