use Rattle.std.proofs.Common.{sym}
use Rattle.zs_liveliness.proofs.Asking.{indexed_kept, indexed_take, gets_without}
use Rattle.zs_liveliness.proofs.asking_gets.AskingGets.end.Goals as goal

pub invariant_of-self : goal.invariant_of-self
invariant_of-self c = indexed_kept c.args.number c.self.inside.gets c.remove.new.self c.self.inside.marks c.self.invariant (sym c.in_default.ensures.row) c.remove.ensures.rows c.remove.ensures.found c.remove.ensures.ascending

pub returns-in_default : goal.returns-in_default
returns-in_default c = gets_without c.args.number c.self.inside.gets c.remove.new.self c.self.inside.marks c.args.self.now c.self.invariant c.self.view_is c.remove.ensures.rows

pub invariant_of-self-2 : goal.invariant_of-self-2
invariant_of-self-2 c = indexed_take c.args.number c.keys_of.result c.in-Some.get c.self.inside.gets c.remove.new.self c.self.inside.marks c.forget.new.self c.keys_of.ensures c.self.invariant (sym c.in-Some.ensures.row) c.remove.ensures.rows c.remove.ensures.found c.remove.ensures.ascending c.forget.ensures

pub returns : goal.returns
returns c = gets_without c.args.number c.self.inside.gets c.remove.new.self c.self.inside.marks c.args.self.now c.self.invariant c.self.view_is c.remove.ensures.rows
