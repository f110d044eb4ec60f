use Rattle.zs_keys.proofs.PrefixLemmas.{slash-found, slash-missing}
use Rattle.zs_keys.proofs.prefix.before_slash.Goals as goal

pub returns-in_default : goal.returns-in_default
returns-in_default c = slash-missing _ c.in_default.ensures.cases

pub returns : goal.returns
returns c =
    let (i, j, found, front, _, _, _, _) = c.in-Some.ensures.cases in
    slash-found _ i j _ found front
