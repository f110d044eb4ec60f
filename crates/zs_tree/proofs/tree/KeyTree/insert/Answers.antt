use Rattle.zs_tree.specs.Blocks.{flat}
use Rattle.zs_tree.proofs.EditLemmas.{has_not, none_at}
use Rattle.zs_tree.proofs.Putting.{put_order, put_apart, put_seen, put_same, none_of}
use Rattle.zs_tree.proofs.tree.KeyTree.insert.Goals as goal

pub put_in-requires-clause-unused : goal.put_in-requires-clause-unused
put_in-requires-clause-unused c =
    none_at c.in_ok-entry.entry.code.items c.in_ok-entry.entry.id (flat c.self.inside.blocks.items)
    (none_of c.in_ok-entry.entry c.args.id _ (flat c.self.inside.blocks.items) c.in_ok-entry.ensures (has_not c.args.id (flat c.self.inside.blocks.items) (rw (← c.self.view_is) at c.requires)))

pub invariant_of-self : goal.invariant_of-self
invariant_of-self c =
    let es = flat c.self.inside.blocks.items in
    let entry = c.in_ok-entry.entry in
    let none = none_of entry c.args.id _ es c.in_ok-entry.ensures (has_not c.args.id es (rw (← c.self.view_is) at c.requires)) in (
      put_order c.put_in.result entry es (flat c.put_in.new.blocks.items) c.put_in.ensures.ok c.put_in.ensures.err c.self.invariant.0,
      put_apart c.put_in.result entry es (flat c.put_in.new.blocks.items) c.put_in.ensures.ok c.put_in.ensures.err none c.self.invariant.1,
      c.put_in.ensures.filled,
    )

pub returns-clause-ok : goal.returns-clause-ok
returns-clause-ok c =
    let es = flat c.self.inside.blocks.items in
    let entry = c.in_ok-entry.entry in
    let is = rw c.as_str.ensures.text at c.in_ok-entry.ensures in
    let none = none_of entry c.args.id c.args.key.now.text es is (has_not c.args.id es (rw (← c.self.view_is) at c.requires)) in
    rw (← c.self.view_is) (put_seen c.put_in.result entry (record { id = c.args.id; text = c.args.key.now.text }) es (flat c.put_in.new.blocks.items) is c.put_in.ensures.ok none)

pub returns-clause-err : goal.returns-clause-err
returns-clause-err c = rw (← c.self.view_is) (put_same c.put_in.result (flat c.self.inside.blocks.items) (flat c.put_in.new.blocks.items) c.put_in.ensures.err)
