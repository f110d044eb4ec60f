use Rattle.std.proofs.Common.{◌≡◌, ℕ, ◌+◌, List, [], length, sym, ap, ◌∙◌, subst, arith}
use Rattle.std.specs.Prelude.{filter, not}
use Rattle.std.specs.Vec.Iter.{into_iter_items}
use Rattle.std.proofs.lemmas.List.{nil_from_length}
use Rattle.zs_rows.specs.Ascending.{placed}
use Rattle.zs_rows.specs.Rows.{from_number, is_between, AreFree}
use Rattle.zs_rows.proofs.Following.{free_rows, next_free, fewer_free, one_on, none_on, still_free, back_again, none_between}
use Rattle.zs_rows.proofs.rows.Rows.insert_all.Goals as goal

pub rows-init : goal.rows-init
rows-init g c = record {
  goes_on = ap (λ (xs : List g.row.R.Denot). placed (λ (e : ℕ × g.row.R.Denot). e.0) c.args.first (from_number c.args.first xs) c.args.self.now) c.into_iter-left.ensures.rest;
  back = none_between c.args.first c.args.self.now;
  free = subst (λ (xs : List g.row.R.Denot). AreFree c.args.first (c.args.first + length xs) c.args.self.now) (sym c.into_iter-left.ensures.rest) (free_rows c.args.first (c.args.first + length c.args.more.items) c.args.self.now c.requires.unused);
  up = c.len-in_order.ensures.ascending;
  from = omega arith;
  left = omega (arith, c.into_iter-left.ensures.len, ap length c.into_iter-left.ensures.rest, c.args.more.ok.0);
  fits = omega (arith, ap length c.into_iter-left.ensures.rest, c.requires.fits);
}

pub insert-requires : goal.insert-requires
insert-requires g c = next_free c.rows.number c.rows.self (fewer_free c.rows.number (c.rows.number + length (into_iter_items c.rows.left)) c.rows.self (omega (arith, ap length c.in-Some.ensures.items)) c.rows.invariant.free)

pub rows-preserved : goal.rows-preserved
rows-preserved g c =
    let n = c.rows.number in
    let rest = into_iter_items c.next.new.self in
    let free_one : AreFree n (n + 1) c.rows.self = fewer_free n (n + length (into_iter_items c.rows.left)) c.rows.self (omega (arith, ap length c.in-Some.ensures.items)) c.rows.invariant.free in
    let put = c.in_default-insert.ensures.rows in
    let as_many : n + length (into_iter_items c.rows.left) ≡ n + 1 + length rest = omega (arith, ap length c.in-Some.ensures.items) in
    record {
      goes_on =
          ap (λ (rows : List (ℕ × g.row.R.Denot)). placed (λ (e : ℕ × g.row.R.Denot). e.0) (n + 1) (from_number (n + 1) rest) rows) put
          ∙ (one_on n c.in-Some.row (from_number (n + 1) rest) c.rows.self free_one
          ∙ (ap (λ (xs : List g.row.R.Denot). placed (λ (e : ℕ × g.row.R.Denot). e.0) n (from_number n xs) c.rows.self) (sym c.in-Some.ensures.items) ∙ c.rows.invariant.goes_on));
      back =
          ap (filter (λ (e : ℕ × g.row.R.Denot). not (is_between c.args.first (n + 1) e.0))) put
          ∙ (back_again c.args.first n c.in-Some.row c.rows.self c.rows.invariant.from c.rows.invariant.up free_one ∙ c.rows.invariant.back);
      free = subst (λ (rows : List (ℕ × g.row.R.Denot)). AreFree (n + 1) (n + 1 + length rest) rows) (sym put)
          (still_free n (n + 1 + length rest) c.in-Some.row c.rows.self (subst (λ (end : ℕ). AreFree n end c.rows.self) as_many c.rows.invariant.free));
      up = c.in_default-insert.ensures.ascending;
      from = omega arith;
      left = omega (arith, c.in-Some.ensures.len, ap length c.in-Some.ensures.items, c.rows.invariant.left);
      fits = omega (arith, ap length c.in-Some.ensures.items, c.rows.invariant.fits);
    }

pub returns-in-Err-clause-err : goal.returns-in-Err-clause-err
returns-in-Err-clause-err g c = c.remove_all.ensures ∙ (ap (filter (λ (e : ℕ × g.row.R.Denot). not (is_between c.args.first c.rows.number e.0))) c.in-Err.ensures.err ∙ c.rows.invariant.back)

pub returns-in-Err-clause-free : goal.returns-in-Err-clause-free
returns-in-Err-clause-free g c = free_rows c.args.first (c.args.first + length c.args.more.items) c.args.self.now c.requires.unused

pub returns : goal.returns
returns g c =
    let none : into_iter_items c.rows.left ≡ [] = nil_from_length (into_iter_items c.rows.left) (c.rows.invariant.left ∙ c.in_default.ensures.cases.0) in
    record {
      ok =
          sym (none_on c.rows.number c.rows.self c.rows.invariant.up)
          ∙ (ap (λ (xs : List g.row.R.Denot). placed (λ (e : ℕ × g.row.R.Denot). e.0) c.rows.number (from_number c.rows.number xs) c.rows.self) (sym none) ∙ c.rows.invariant.goes_on);
      err = tt;
      ascending = c.rows.invariant.up;
      free = free_rows c.args.first (c.args.first + length c.args.more.items) c.args.self.now c.requires.unused;
      was_ascending = c.len-in_order.ensures.ascending;
    }
