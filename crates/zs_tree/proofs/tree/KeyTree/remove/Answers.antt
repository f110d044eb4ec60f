use Rattle.zs_tree.specs.Code.{code_of}
use Rattle.zs_tree.specs.Blocks.{flat}
use Rattle.zs_tree.proofs.Putting.{taken_order, taken_apart, taken_answer, taken_seen}
use Rattle.zs_tree.proofs.tree.KeyTree.remove.Goals as goal

pub invariant_of-self : goal.invariant_of-self
invariant_of-self c =
    let es = flat c.self.inside.blocks.items in (
      taken_order (code_of c.as_str.result.now) c.args.id es (flat c.take_out.new.blocks.items) c.take_out.result c.take_out.ensures.entries c.self.invariant.0,
      taken_apart (code_of c.as_str.result.now) c.args.id es (flat c.take_out.new.blocks.items) c.take_out.result c.take_out.ensures.entries c.self.invariant.1,
      c.take_out.ensures.filled,
    )

pub returns-clause-answer : goal.returns-clause-answer
returns-clause-answer c =
    rw (← c.self.view_is) (rw c.as_str.ensures.text at (taken_answer c.as_str.result.now c.args.id (flat c.self.inside.blocks.items) (flat c.take_out.new.blocks.items) c.take_out.result c.take_out.ensures.entries))

pub returns-clause-rows : goal.returns-clause-rows
returns-clause-rows c =
    rw (← c.self.view_is) (rw c.as_str.ensures.text at (taken_seen c.as_str.result.now c.args.id (flat c.self.inside.blocks.items) (flat c.take_out.new.blocks.items) c.take_out.result c.take_out.ensures.entries c.self.invariant.1))
