use Rattle.std.proofs.Common.{◌∷◌, [], subst}
use Rattle.std.specs.Option.{option_to_list}
use Rattle.zs_posts.specs.Lending.{IsLent}
use Rattle.zs_posts.proofs.InTurn.{map_undone}
use Rattle.zs_posts.proofs.post_map.PostMap.lend_under.Goals as goal

pub returns-in-Err-lend_above-clause-err : goal.returns-in-Err-lend_above-clause-err
returns-in-Err-lend_above-clause-err g c =
    let lent = subst (λ o. IsLent c.args.self.now.room (c.args.key ∷ []) c.args.self.now.rows (option_to_list o) c.lend.new.self.rows) c.in-Some.is c.in-Ok.ensures.ok in
    map_undone c.args.self.now c.lend.new.self c.lend_above.new.self c.unlend.new.self (c.args.key ∷ []) (c.in-Some.own ∷ []) lent c.in-Ok.ensures.room c.in-Err-lend_above.ensures.err c.unlend.ensures
