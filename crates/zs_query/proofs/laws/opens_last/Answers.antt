use Rattle.std.proofs.Common.{[], ◌∷◌}
use Rattle.zs_query.specs.declared.open_get.OpenGet.{OpenGet}
use Rattle.zs_query.specs.Gets.{fresh}
use Rattle.zs_query.proofs.Standing.{placed_last}
use Rattle.zs_query.proofs.laws.opens_last.Goals as goal

pub returns : goal.returns
returns c = λ row gets below. placed_last (λ (g : OpenGet). g.row.number) row.number (fresh row ∷ []) gets below
