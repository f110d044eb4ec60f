use Rattle.zs_rows.proofs.Marking.{noted}
use Rattle.zs_rows.proofs.index.Index.note.Goals as goal

pub returns-clause-ok : goal.returns-clause-ok
returns-clause-ok c = rw (c.in-Some.is, ← c.self.view_is) (noted c.in-Some.key c.args.number c.self.inside.marks.keys c.insert.new.self.keys c.in_ok-_new.ensures.updates.0)
