use Rattle.zs_rows.proofs.Marking.{forgotten}
use Rattle.zs_rows.proofs.index.Index.forget.Goals as goal

pub returns : goal.returns
returns c = rw (c.in-Some.is, ← c.self.view_is) (forgotten c.in-Some.key c.args.number c.self.inside.marks.keys c.remove-was.new.self.keys c.remove-was.ensures.updates.0)
