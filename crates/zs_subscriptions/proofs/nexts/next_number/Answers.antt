use Rattle.zs_subscriptions.proofs.Stepping.{next_of_all}
use Rattle.zs_subscriptions.proofs.nexts.next_number.Goals as goal

pub returns-in-Some : goal.returns-in-Some
returns-in-Some c = next_of_all c.args.after _ c.args.rows.now c.requires.ascending c.in-Some.ensures

pub returns-in-None : goal.returns-in-None
returns-in-None c = next_of_all c.args.after _ c.args.rows.now c.requires.ascending c.in-None.ensures
