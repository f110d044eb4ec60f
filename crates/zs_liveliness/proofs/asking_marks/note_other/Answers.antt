use Rattle.std.proofs.Common.{sym}
use Rattle.zs_liveliness.proofs.Marks.{keys_same, stands_noted}
use Rattle.zs_liveliness.proofs.asking_marks.note_other.Goals as goal

pub returns-then-is_same_key-clause-ok : goal.returns-then-is_same_key-clause-ok
returns-then-is_same_key-clause-ok c = stands_noted c.args.was c.args.is c.args.number c.args.index.now c.requires (keys_same c.args.was c.args.is (sym c.if-is_same_key.ensures))
