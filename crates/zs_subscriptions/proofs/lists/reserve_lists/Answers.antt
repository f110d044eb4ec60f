use Rattle.std.proofs.Common.{refl}
use Rattle.zs_subscriptions.specs.Lists.{shown}
use Rattle.zs_subscriptions.specs.NumberRows.{is_met, kept}
use Rattle.zs_subscriptions.proofs.Stepping.{walked_none, walked_more, walked_less, walked_same}
use Rattle.zs_subscriptions.proofs.Listing.{reserved_none, reserved_more, reserved_all}
use Rattle.zs_subscriptions.proofs.lists.reserve_lists.Goals as goal

pub rows-init : goal.rows-init
rows-init c = record {
  are = c.requires;
  walked = walked_none shown kept c.args.rows.now;
  reserved = reserved_none c.args.key.now.text c.args.rows.now;
}

pub rows-preserved : goal.rows-preserved
rows-preserved c = record {
  are = c.in_ok-reserve_at.ensures.rows;
  walked = walked_more shown kept kept (is_met c.args.key.now.text) c.rows.after c.in-Some.number c.args.rows.now c.rows.rows c.reserve_at.new.rows (λ x is. refl) (λ x is. refl) c.rows.invariant.walked c.in-Some.ensures c.in_ok-reserve_at.ensures.same;
  reserved = reserved_more c.args.key.now.text c.rows.after c.in-Some.number c.rows.rows c.reserve_at.new.rows c.rows.invariant.reserved c.in-Some.ensures c.in_ok-reserve_at.ensures.same c.in_ok-reserve_at.ensures.room;
}

pub rows-smaller : goal.rows-smaller
rows-smaller c = walked_less shown kept (is_met c.args.key.now.text) c.rows.after c.in-Some.number c.args.rows.now c.rows.rows c.rows.invariant.walked c.in-Some.ensures

pub returns-in_err-reserve_at-clause-same : goal.returns-in_err-reserve_at-clause-same
returns-in_err-reserve_at-clause-same c =
    walked_same shown _ c.args.rows.now c.reserve_at.new.rows c.requires.ascending c.in_err-reserve_at.ensures.rows.ascending
    (walked_more shown kept kept (is_met c.args.key.now.text) c.rows.after c.in-Some.number c.args.rows.now c.rows.rows c.reserve_at.new.rows (λ x is. refl) (λ x is. refl) c.rows.invariant.walked c.in-Some.ensures c.in_err-reserve_at.ensures.same)

pub returns : goal.returns
returns c = record {
  rows = c.rows.invariant.are;
  same = walked_same shown c.rows.after c.args.rows.now c.rows.rows c.requires.ascending c.rows.invariant.are.ascending c.rows.invariant.walked;
  room = reserved_all c.args.key.now.text c.rows.after c.rows.rows c.rows.invariant.are c.rows.invariant.reserved c.in_default.ensures;
}
