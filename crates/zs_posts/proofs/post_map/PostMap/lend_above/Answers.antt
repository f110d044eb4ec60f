use Rattle.zs_posts.proofs.InTurn.{map_undone}
use Rattle.zs_posts.proofs.post_map.PostMap.lend_above.Goals as goal

pub returns-in-Err-lend_both-clause-err : goal.returns-in-Err-lend_both-clause-err
returns-in-Err-lend_both-clause-err g c = map_undone c.args.self.now c.lend.new.self c.lend_both.new.self c.unlend.new.self _ _ c.in-Ok.ensures.ok c.in-Ok.ensures.room c.in-Err-lend_both.ensures.err c.unlend.ensures
