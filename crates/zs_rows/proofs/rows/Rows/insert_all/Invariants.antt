use Rattle.std.proofs.Common.{◌≡◌, ℕ, ◌+◌, ◌≤◌, length}
use Rattle.std.specs.Prelude.{filter, not}
use Rattle.std.specs.Vec.Iter.{into_iter_items, into_iter_len}
use Rattle.zs_rows.specs.Ascending.{Ascend, placed}
use Rattle.zs_rows.specs.Rows.{from_number, is_between, AreFree}
use Rattle.zs_rows.proofs.rows.Rows.insert_all.Given as goal

abbrev pub invariant-rows : goal.invariant-rows
invariant-rows g l = record {
  goes_on : placed (λ (e : ℕ × g.row.R.Denot). e.0) l.number (from_number l.number (into_iter_items l.left)) l.self ≡ placed (λ (e : ℕ × g.row.R.Denot). e.0) l.first (from_number l.first l.fn.more.items) l.fn.self;
  back : filter (λ (e : ℕ × g.row.R.Denot). not (is_between l.first l.number e.0)) l.self ≡ l.fn.self;
  free : AreFree l.number (l.number + length (into_iter_items l.left)) l.self;
  up : Ascend (λ (e : ℕ × g.row.R.Denot). e.0) l.self;
  from : l.first ≤ l.number;
  left : length (into_iter_items l.left) ≡ into_iter_len l.left;
  fits : l.number + length (into_iter_items l.left) ≤ 4294967295;
}

abbrev pub decreases-rows : goal.decreases-rows
decreases-rows g l = into_iter_len l.left
