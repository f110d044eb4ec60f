use Rattle.zs_tables.proofs.Moving.{sub_comes, sub_goes}
use Rattle.zs_tables.proofs.matching_laws.subs_move.Goals as goal

pub returns : goal.returns
returns c = λ subs queryables told up. (λ row. sub_comes subs queryables told row, λ id. sub_goes subs queryables told id up)
