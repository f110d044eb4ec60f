use Rattle.zs_tables.proofs.Moving.{remote_queryable_comes, remote_queryable_goes}
use Rattle.zs_tables.proofs.matching_laws.remote_queryables_move.Goals as goal

pub returns : goal.returns
returns c = λ subs queryables told up. (λ row. remote_queryable_comes subs queryables told row up, λ number. remote_queryable_goes subs queryables told number up)
