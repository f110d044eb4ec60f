use Rattle.std.proofs.Common.{◌≡◌, ◌≢◌, ℕ, get_or, List, [], Ok, sym, ap, ◌∙◌, subst, OnOk, OnErr}
use Rattle.zs_tree.specs.declared.entry.Entry.{Entry}
use Rattle.zs_tree.specs.Blocks.{flat, front, far, IsPutIn}
use Rattle.zs_tree.specs.Code.{code_of}
use Rattle.std.specs.declared.cmp.Ordering.TheVariants.{Equal}
use Rattle.std.proofs.lemmas.List.Elements.{All-from_recursion}
use Rattle.zs_tree.specs.Entries.{AreInOrder, entry_cmp}
use Rattle.zs_tree.proofs.EditLemmas.{NoneAt}
use Rattle.zs_tree.proofs.Placing.{place_is}
use Rattle.zs_tree.proofs.edits.put_in.Goals as goal

pub unreachable-requires : goal.unreachable-requires
unreachable-requires c =
    let bs = c.split_full.new.blocks.items in
    let same = c.in_ok-split_full.ensures.same in
    let bound = rw c.deref-2.ensures.value at c.block_of-at.ensures.bound in
    let block = rw c.deref-2.ensures.value at c.block_of-at.ensures.block in
    let there = rw c.deref-3.ensures.value at c.in-Ok.ensures in
    let order : AreInOrder (flat bs) = subst AreInOrder (sym same) c.requires.order in
    let none : NoneAt c.args.entry.code.items c.args.entry.id (flat bs) = subst (NoneAt c.args.entry.code.items c.args.entry.id) (sym same) c.requires.unused in
    let found = place_is (code_of c.args.text.now) c.args.entry.id c.block_of-at.result [] bs (Ok c.in-Ok.field-0) bound order c.in_ok-split_full.ensures.filled block (there []) in
    All-from_recursion (λ (e : Entry). entry_cmp c.args.entry.code.items c.args.entry.id e ≢ Equal) (flat bs) none (far (front c.block_of-at.result bs) c.in-Ok.field-0) c.args.entry found.0
    (subst (λ (code : List ℕ). entry_cmp code c.args.entry.id (get_or (flat bs) (far (front c.block_of-at.result bs) c.in-Ok.field-0) c.args.entry) ≡ Equal) (sym c.requires.code) (found.1 c.args.entry))
