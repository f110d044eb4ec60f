use Rattle.zs_tables.proofs.Moving.{remote_subscriber_comes, remote_subscriber_goes}
use Rattle.zs_tables.proofs.matching_laws.remote_subscribers_move.Goals as goal

pub returns : goal.returns
returns c = λ subs queryables told up. (λ row. remote_subscriber_comes subs queryables told row up, λ number. remote_subscriber_goes subs queryables told number up)
