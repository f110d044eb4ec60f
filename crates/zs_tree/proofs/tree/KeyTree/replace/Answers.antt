use Rattle.std.proofs.Common.{sym, subst}
use Rattle.zs_tree.specs.Blocks.{flat}
use Rattle.zs_tree.specs.Code.{code_of}
use Rattle.zs_tree.specs.Entries.{AreInOrder, AreApart}
use Rattle.zs_tree.proofs.Putting.{put_order, taken_order}
use Rattle.zs_tree.proofs.Replacing.{replace_free, replaced}
use Rattle.zs_tree.proofs.tree.KeyTree.replace.Goals as goal

pub put_in-requires-clause-unused : goal.put_in-requires-clause-unused
put_in-requires-clause-unused c =
    replace_free c.in_ok-entry.entry c.args.old.now.text c.args.new.now.text c.args.id (flat c.self.inside.blocks.items) (rw c.as_str.ensures.text at c.in_ok-entry.ensures) c.self.invariant.1 c.requires.differ
    (rw (← c.self.view_is) at c.requires.there)

pub invariant_of-self : goal.invariant_of-self
invariant_of-self c = (subst AreInOrder (sym c.in_err-put_in.ensures.err) c.self.invariant.0, subst AreApart (sym c.in_err-put_in.ensures.err) c.self.invariant.1, c.put_in.ensures.filled)

pub take_out-requires-clause-order : goal.take_out-requires-clause-order
take_out-requires-clause-order c =
    put_order c.put_in.result c.in_ok-entry.entry (flat c.self.inside.blocks.items) (flat c.put_in.new.blocks.items) c.put_in.ensures.ok c.put_in.ensures.err c.self.invariant.0

pub invariant_of-self-2 : goal.invariant_of-self-2
invariant_of-self-2 c =
    let es = flat c.self.inside.blocks.items in
    let more = flat c.put_in.new.blocks.items in
    let less = flat c.take_out.new.blocks.items in
    let order = put_order c.put_in.result c.in_ok-entry.entry es more c.put_in.ensures.ok c.put_in.ensures.err c.self.invariant.0 in
    let after = replaced c.in_ok-entry.entry c.args.old.now.text c.args.new.now.text c.args.id es more less c.take_out.result (rw c.as_str.ensures.text at c.in_ok-entry.ensures) c.self.invariant.1 c.requires.differ
    (rw (← c.self.view_is) at c.requires.there) c.in_ok-put_in.ensures.ok (rw c.as_str-3.ensures.text at c.take_out.ensures.entries) in
    (taken_order (code_of c.as_str-3.result.now) c.args.id more less c.take_out.result c.take_out.ensures.entries order, after.apart, c.take_out.ensures.filled)

pub returns-clause-ok : goal.returns-clause-ok
returns-clause-ok c =
    let es = flat c.self.inside.blocks.items in
    let after = replaced c.in_ok-entry.entry c.args.old.now.text c.args.new.now.text c.args.id es (flat c.put_in.new.blocks.items) (flat c.take_out.new.blocks.items) c.take_out.result (rw c.as_str.ensures.text at c.in_ok-entry.ensures) c.self.invariant.1 c.requires.differ
    (rw (← c.self.view_is) at c.requires.there) c.in_ok-put_in.ensures.ok (rw c.as_str-3.ensures.text at c.take_out.ensures.entries) in
    rw (← c.self.view_is) after.seen
