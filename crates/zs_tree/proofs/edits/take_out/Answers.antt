use Rattle.std.proofs.Common.{[], Ok, Err, refl}
use Rattle.zs_tree.specs.Blocks.{front, far}
use Rattle.zs_tree.specs.Code.{code_of}
use Rattle.zs_tree.proofs.Placing.{place_is}
use Rattle.zs_tree.proofs.edits.take_out.Goals as goal

pub returns-in-Ok-clause-entries : goal.returns-in-Ok-clause-entries
returns-in-Ok-clause-entries c =
    let bs = c.args.blocks.now.items in
    let bound = rw c.deref.ensures.value at c.block_of-at.ensures.bound in
    let block = rw c.deref.ensures.value at c.block_of-at.ensures.block in
    let there = rw c.deref-2.ensures.value at c.in-Ok.ensures in (
      far (front c.block_of-at.result bs) c.in-Ok.place,
      place_is (code_of c.args.text.now) c.args.id c.block_of-at.result [] bs (Ok c.in-Ok.place) bound c.requires.order c.requires.filled block (there []),
      c.take_at.ensures.entries,
    )

pub returns-in-Err-clause-entries : goal.returns-in-Err-clause-entries
returns-in-Err-clause-entries c =
    let bs = c.args.blocks.now.items in
    let bound = rw c.deref.ensures.value at c.block_of-at.ensures.bound in
    let block = rw c.deref.ensures.value at c.block_of-at.ensures.block in
    let there = rw c.deref-2.ensures.value at c.in-Err.ensures in (
      far (front c.block_of-at.result bs) c.in-Err.field-0,
      place_is (code_of c.args.text.now) c.args.id c.block_of-at.result [] bs (Err c.in-Err.field-0) bound c.requires.order c.requires.filled block (there []),
      refl,
    )
