use Rattle.std.proofs.Common.{◌≡◌, None, Some, true, false, sym, refl, ap, ◌∙◌}
use Rattle.zs_query.specs.declared.side.Side.{Side}
use Rattle.zs_query.specs.declared.outcome.Outcome.TheVariants as outcome
use Rattle.zs_query.specs.Gets.{get_at, with_get, without_get, wants, other_side, less_final, kept_at}
use Rattle.zs_query.proofs.gets.Gets.final_in.Goals as goal

pub returns-in_default-clause-answer : goal.returns-in_default-clause-answer
returns-in_default-clause-answer c =
    let none : get_at c.args.number c.args.self.now ≡ None = ap (get_at c.args.number) (sym c.self.view_is) ∙ sym c.in_default.ensures in
    rw none refl

pub returns-then-not-wants-clause-answer : goal.returns-then-not-wants-clause-answer
returns-then-not-wants-clause-answer c =
    let get = c.in-Some.get.now in
    let found : get_at c.args.number c.args.self.now ≡ Some get = ap (get_at c.args.number) (sym c.self.view_is) ∙ sym c.in-Some.ensures in
    let unwanted : wants c.args.side get.row ≡ false = sym c.wants.ensures ∙ c.if-not-wants.true in
    rw (found, unwanted) refl

pub returns-then-wants-clause-answer : goal.returns-then-wants-clause-answer
returns-then-wants-clause-answer c =
    let get = c.in-Some.get.now in
    let found : get_at c.args.number c.args.self.now ≡ Some get = ap (get_at c.args.number) (sym c.self.view_is) ∙ sym c.in-Some.ensures in
    let wanted : wants c.args.side get.row ≡ true = sym c.wants.ensures ∙ c.if-not-wants.false in
    let other : wants (other_side c.args.side) get.row ≡ true = ap (λ (s : Side). wants s get.row) (sym c.other.ensures) ∙ (sym c.wants-2.ensures ∙ c.if-wants.true) in
    rw (found, wanted, other) refl

pub returns-then-wants-clause-ok : goal.returns-then-wants-clause-ok
returns-then-wants-clause-ok c = c.lessen.ensures ∙ ap (with_get c.args.number (less_final c.args.side)) c.self.view_is

pub returns-clause-answer : goal.returns-clause-answer
returns-clause-answer c =
    let get = c.in-Some.get.now in
    let found : get_at c.args.number c.args.self.now ≡ Some get = ap (get_at c.args.number) (sym c.self.view_is) ∙ sym c.in-Some.ensures in
    let wanted : wants c.args.side get.row ≡ true = sym c.wants.ensures ∙ c.if-not-wants.false in
    let other : wants (other_side c.args.side) get.row ≡ false = ap (λ (s : Side). wants s get.row) (sym c.other.ensures) ∙ (sym c.wants-2.ensures ∙ c.if-wants.false) in
    let same : Some c.in-Some-take.ended ≡ Some get = c.in-Some-take.ensures.get ∙ sym c.in-Some.ensures in
    rw (found, wanted, other) (ap outcome.Ended (c.into_replies.ensures ∙ (c.into_kept.ensures ∙ ap kept_at same)))

pub returns-clause-ok : goal.returns-clause-ok
returns-clause-ok c = c.take.ensures.gets ∙ ap (without_get c.args.number) c.self.view_is
