use Rattle.std.proofs.Common.{sym}
use Rattle.zs_liveliness.proofs.Marks.{keys_same, keys_apart, leaves_same, leaves_other}
use Rattle.zs_liveliness.proofs.asking_marks.forget_other.Goals as goal

pub returns-then-is_same_key : goal.returns-then-is_same_key
returns-then-is_same_key c = leaves_same c.args.gone c.args.kept c.args.number c.args.index.now (keys_same c.args.gone c.args.kept (sym c.if-is_same_key.ensures))

pub returns : goal.returns
returns c = leaves_other c.args.gone c.args.kept c.args.number c.args.index.now _ (keys_apart c.args.gone c.args.kept (sym c.if-is_same_key.ensures)) c.forget.ensures
