use Rattle.std.proofs.Common.{◌≡◌, ℕ, ◌∙◌, sym, ap, subst, arith}
use Rattle.std.specs.Prelude.{filter, not}
use Rattle.zs_rows.specs.Rows.{without_row, is_between}
use Rattle.zs_rows.proofs.Following.{none_between, one_less}
use Rattle.zs_rows.proofs.rows.Rows.remove_all.Goals as goal

pub numbers-init : goal.numbers-init
numbers-init g c = (sym (none_between c.args.first c.args.self.now), omega arith, c.requires)

pub numbers-preserved : goal.numbers-preserved
numbers-preserved g c = (c.remove.ensures.rows ∙ (ap (without_row c.numbers.number) c.numbers.invariant.0 ∙ one_less c.args.first c.numbers.number c.args.self.now c.numbers.invariant.1), omega arith, omega arith)

pub returns : goal.returns
returns g c =
    let same : c.numbers.number ≡ c.args.end = omega arith in
    subst (λ (n : ℕ). c.numbers.self ≡ filter (λ e. not (is_between c.args.first n e.0)) c.args.self.now) same c.numbers.invariant.0
