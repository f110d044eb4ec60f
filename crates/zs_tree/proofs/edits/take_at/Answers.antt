use Rattle.std.proofs.Common.{◌≡◌, ◌<◌, ◌≤◌, length, get_or, ap, ◌∙◌, subst, sym, arith}
use Rattle.zs_tree.specs.Blocks.{flat}
use Rattle.zs_tree.proofs.Blocks.{without_is, last_out}
use Rattle.zs_tree.proofs.edits.take_at.Goals as goal

pub returns-then-entries-gt1-clause-entries : goal.returns-then-entries-gt1-clause-entries
returns-then-entries-gt1-clause-entries c =
    let b = c.index_mut.result.now in
    without_is c.args.at c.args.place b c.remove.new.self c.args.blocks.now.items c.requires.bound c.index_mut.ensures.value
    (subst (λ es. c.args.place < length es) (sym c.index_mut.ensures.value) (c.requires.place b)) c.remove.ensures

pub returns-else-entries-gt1-clause-entries : goal.returns-else-entries-gt1-clause-entries
returns-else-entries-gt1-clause-entries c =
    let b = c.index.result.now in
    let few : length (get_or c.args.blocks.now.items c.args.at b) ≤ 1 = omega (arith, ap length c.entries.ensures, ap length c.index.ensures, c.if-entries-gt1.false) in
    ap flat c.remove-else-entries-gt1.ensures.items ∙ last_out c.args.at c.args.place b c.args.blocks.now.items c.requires.bound (c.requires.place b) few
