use Rattle.std.proofs.Common.{◌≡◌, ℕ, subst, arith}
use Rattle.zs_rows.specs.Index.{ForgetsFrom}
use Rattle.zs_rows.proofs.Following.{forgets_none, forgets_more}
use Rattle.zs_rows.proofs.index.Index.forget_all.Goals as goal

pub numbers-init : goal.numbers-init
numbers-init c = (forgets_none c.args.key c.args.first c.args.self.now, omega arith, c.requires)

pub numbers-preserved : goal.numbers-preserved
numbers-preserved c = (forgets_more c.args.key c.args.first c.numbers.number c.args.self.now c.numbers.self c.forget.new.self c.numbers.invariant.1 c.numbers.invariant.0 c.forget.ensures, omega arith, omega arith)

pub returns : goal.returns
returns c =
    let same : c.numbers.number ≡ c.args.end = omega arith in
    subst (λ (n : ℕ). ForgetsFrom c.args.key c.args.first n c.args.self.now c.numbers.self) same c.numbers.invariant.0
