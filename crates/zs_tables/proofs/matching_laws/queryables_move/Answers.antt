use Rattle.zs_tables.proofs.Moving.{queryable_comes, queryable_goes}
use Rattle.zs_tables.proofs.matching_laws.queryables_move.Goals as goal

pub returns : goal.returns
returns c = λ subs queryables told up. (λ row. queryable_comes subs queryables told row, λ id. queryable_goes subs queryables told id up)
