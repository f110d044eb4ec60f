use Rattle.std.proofs.Common.{refl}
use Rattle.zs_subscriptions.specs.Lists.{shown, IsAscending, forgotten}
use Rattle.zs_subscriptions.specs.NumberRows.{lists_id}
use Rattle.zs_subscriptions.proofs.Stepping.{walked_none, walked_more, walked_less, walked_all}
use Rattle.zs_subscriptions.proofs.Listing.{still_at, forgotten_idle}
use Rattle.zs_subscriptions.proofs.lists.forget_id.Goals as goal

pub rows-init : goal.rows-init
rows-init c = record { are = c.requires.rows; walked = walked_none shown (forgotten c.args.id) c.args.rows.now }

pub next_listing-requires-clause-lists : goal.next_listing-requires-clause-lists
next_listing-requires-clause-lists c = λ q over. still_at IsAscending shown (forgotten c.args.id) c.rows.after q c.args.rows.now c.rows.rows c.requires.lists c.rows.invariant.walked over

pub forget_at-requires-clause-list : goal.forget_at-requires-clause-list
forget_at-requires-clause-list c = still_at IsAscending shown (forgotten c.args.id) c.rows.after c.in-Some.number c.args.rows.now c.rows.rows c.requires.lists c.rows.invariant.walked c.in-Some.ensures.0

pub rows-preserved : goal.rows-preserved
rows-preserved c = record {
  are = c.forget_at.ensures.rows;
  walked = walked_more shown (forgotten c.args.id) (forgotten c.args.id) (lists_id c.args.id) c.rows.after c.in-Some.number c.args.rows.now c.rows.rows c.forget_at.new.rows (λ x is. refl) (forgotten_idle c.args.id) c.rows.invariant.walked c.in-Some.ensures c.forget_at.ensures.list;
}

pub rows-smaller : goal.rows-smaller
rows-smaller c = walked_less shown (forgotten c.args.id) (lists_id c.args.id) c.rows.after c.in-Some.number c.args.rows.now c.rows.rows c.rows.invariant.walked c.in-Some.ensures

pub returns : goal.returns
returns c = record {
  rows = c.rows.invariant.are;
  lists = walked_all shown (forgotten c.args.id) (lists_id c.args.id) c.rows.after c.args.rows.now c.rows.rows c.requires.rows.ascending c.rows.invariant.are.ascending (forgotten_idle c.args.id) c.rows.invariant.walked c.in_default.ensures;
}
