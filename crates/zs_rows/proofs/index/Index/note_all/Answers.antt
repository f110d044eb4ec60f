use Rattle.std.proofs.Common.{◌≡◌, ℕ, List, subst, arith}
use Rattle.zs_rows.specs.Index.{NotesFrom, ForgetsFrom}
use Rattle.zs_rows.specs.declared.mark.Mark.{Mark}
use Rattle.zs_rows.proofs.Following.{notes_none, notes_more, all_undone}
use Rattle.zs_rows.proofs.index.Index.note_all.Goals as goal

pub numbers-init : goal.numbers-init
numbers-init c = (notes_none c.args.key c.args.first c.args.self.now, omega arith, c.requires.forward)

pub numbers-preserved : goal.numbers-preserved
numbers-preserved c = (notes_more c.args.key c.args.first c.numbers.number c.args.self.now c.numbers.self c.note.new.self c.numbers.invariant.1 c.numbers.invariant.0 c.in_default.ensures.ok, omega arith, omega arith)

pub returns-clause-ok : goal.returns-clause-ok
returns-clause-ok c =
    let same : c.numbers.number ≡ c.args.end = omega arith in
    subst (λ (n : ℕ). NotesFrom c.args.key c.args.first n c.args.self.now c.numbers.self) same c.numbers.invariant.0

pub returns-in-Err-clause-err : goal.returns-in-Err-clause-err
returns-in-Err-clause-err c = all_undone c.args.key c.args.first c.numbers.number c.args.self.now c.numbers.self c.forget_all.new.self c.requires.unused c.numbers.invariant.0 (subst (λ (marks : List Mark). ForgetsFrom c.args.key c.args.first c.numbers.number marks c.forget_all.new.self) c.in-Err.ensures.err c.forget_all.ensures)
