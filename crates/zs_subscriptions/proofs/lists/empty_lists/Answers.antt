use Rattle.std.proofs.Common.{true, true≢false, refl}
use Rattle.zs_subscriptions.specs.Lists.{shown, emptied}
use Rattle.zs_subscriptions.proofs.Stepping.{walked_none, walked_more, walked_less, walked_all}
use Rattle.zs_subscriptions.proofs.lists.empty_lists.Goals as goal

pub rows-init : goal.rows-init
rows-init c = record { are = c.requires; walked = walked_none shown emptied c.args.rows.now }

pub rows-preserved : goal.rows-preserved
rows-preserved c = record {
  are = c.empty_at.ensures.rows;
  walked = walked_more shown emptied emptied (λ row. true) c.rows.after c.in-Some.number c.args.rows.now c.rows.rows c.empty_at.new.rows (λ x is. refl) (λ x no_row. absurd (true≢false no_row)) c.rows.invariant.walked c.in-Some.ensures c.empty_at.ensures.list;
}

pub rows-smaller : goal.rows-smaller
rows-smaller c = walked_less shown emptied (λ row. true) c.rows.after c.in-Some.number c.args.rows.now c.rows.rows c.rows.invariant.walked c.in-Some.ensures

pub returns : goal.returns
returns c = record {
  rows = c.rows.invariant.are;
  lists = walked_all shown emptied (λ row. true) c.rows.after c.args.rows.now c.rows.rows c.requires.ascending c.rows.invariant.are.ascending (λ x no_row. absurd (true≢false no_row)) c.rows.invariant.walked c.in_default.ensures;
}
