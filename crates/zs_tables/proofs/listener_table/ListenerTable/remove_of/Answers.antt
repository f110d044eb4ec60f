use Rattle.std.proofs.Common.{◌≡◌, List, length, sym, ap, ◌∙◌, arith}
use Rattle.std.specs.Prelude.{◌==◌, not, filter}
use Rattle.zs_tables.specs.Matching.{Listener}
use Rattle.zs_tables.proofs.Parents.{others_stay, one_fewer, all_others}
use Rattle.zs_tables.proofs.listener_table.ListenerTable.remove_of.Goals as goal

pub loop-id-smaller : goal.loop-id-smaller
loop-id-smaller c = rw c.remove.ensures.rows (one_fewer c.args.parent c.in-Some.id c.loop-id.self c.in-Some.ensures.first)

pub loop-id-preserved : goal.loop-id-preserved
loop-id-preserved c =
    ap (filter (λ (l : Listener). not (l.row.parent == c.args.parent))) c.remove.ensures.rows
    ∙ (others_stay c.args.parent c.in-Some.id c.loop-id.self c.in-Some.ensures.ascending c.in-Some.ensures.first ∙ c.loop-id.invariant)

pub returns : goal.returns
returns c = sym (all_others c.args.parent c.loop-id.self c.in_default.ensures.first) ∙ c.loop-id.invariant
