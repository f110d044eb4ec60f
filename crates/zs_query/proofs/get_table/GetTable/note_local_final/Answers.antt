use Rattle.zs_query.specs.declared.side.Side.TheVariants.{Local}
use Rattle.zs_query.specs.Asked.{FinalOf}
use Rattle.zs_query.proofs.Tabling.{below_after}
use Rattle.zs_query.proofs.get_table.GetTable.note_local_final.Goals as goal

pub invariant_of-self : goal.invariant_of-self
invariant_of-self c = rw c.note_final.ensures (below_after c.self.inside.next (FinalOf c.args.number Local) c.self.inside.gets c.self.invariant)
