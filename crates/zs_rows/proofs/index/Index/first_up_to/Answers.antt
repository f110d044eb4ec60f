use Rattle.zs_rows.proofs.Marking.{up_to_found}
use Rattle.zs_rows.proofs.index.Index.first_up_to.Goals as goal

pub returns-in-Some : goal.returns-in-Some
returns-in-Some c = rw (c.mark_if.ensures, ← c.self.view_is) (up_to_found c.args.end c.in-Some.mark.now c.self.inside.marks.keys c.in-Some.ensures.first c.in-Some.ensures.all_from)
