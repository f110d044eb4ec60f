use Rattle.zs_tree.proofs.Bools.{on_ok}
use Rattle.zs_tree.proofs.Placing.{put_is}
use Rattle.zs_tree.proofs.edits.put_at.Goals as goal

pub returns-clause-ok : goal.returns-clause-ok
returns-clause-ok c =
    on_ok c.insert.result
    (put_is c.args.entry c.args.at c.args.place c.index_mut.result.now c.insert.new.self c.args.blocks.now.items c.requires.bound c.requires.order c.requires.filled c.index_mut.ensures.value c.requires.block c.requires.place)
    c.insert.ensures.ok
