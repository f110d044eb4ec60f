use Rattle.std.proofs.Common.{Bool, sym, refl, ◌∙◌, ap}
use Rattle.std.specs.Prelude.{Option, if◌then◌else◌}
use Rattle.zs_rows.specs.Rows.{rows_of}
use Rattle.zs_rows.proofs.Numbered.{rows_without}
use Rattle.zs_requests.specs.declared.query_value.QueryValue.{QueryValue}
use Rattle.zs_requests.specs.declared.requests.Finished.TheVariants.{MoreLeft, Last}
use Rattle.zs_requests.specs.Unfinished.{Unfinished, value_at, finished}
use Rattle.zs_requests.proofs.Requesting.{same_values}
use Rattle.zs_requests.proofs.Filed.{values_found, filed_kept, filed_without, finished_by}
use Rattle.zs_requests.proofs.requests.Requests.finish.Goals as goal

pub invariant_of-self : goal.invariant_of-self
invariant_of-self c = filed_kept c.self.inside.handed c.args.value c.self.inside.values c.remove.new.self c.self.inside.requests c.self.invariant (sym c.in_default.ensures.row) c.remove.ensures.rows c.remove.ensures.found c.remove.ensures.ascending

pub returns-in_default-clause-answer : goal.returns-in_default-clause-answer
returns-in_default-clause-answer c =
    ap (λ (o : Option QueryValue). finished o c.args.self.now.values)
    (c.in_default.ensures.row ∙ (values_found c.self.inside.handed c.args.value c.self.inside.values c.self.inside.requests c.self.invariant ∙ ap (λ (u : Unfinished). value_at c.args.value u.values) c.self.view_is))

pub returns-in_default-clause-values : goal.returns-in_default-clause-values
returns-in_default-clause-values c = rw (← c.self.view_is) (same_values refl (ap rows_of c.remove.ensures.rows ∙ rows_without (λ (v : QueryValue). v.value) c.args.value c.self.inside.values c.self.invariant.numbered))

pub invariant_of-self-2 : goal.invariant_of-self-2
invariant_of-self-2 c = filed_without c.self.inside.handed c.args.value c.in-Some.ended c.self.inside.values c.remove.new.self c.self.inside.requests c.forget.new.self c.self.invariant (sym c.in-Some.ensures.row) c.remove.ensures.rows c.remove.ensures.found c.remove.ensures.ascending c.forget.ensures

pub returns-clause-answer : goal.returns-clause-answer
returns-clause-answer c =
    let there = sym c.in-Some.ensures.row in
    let filed = filed_without c.self.inside.handed c.args.value c.in-Some.ended c.self.inside.values c.remove.new.self c.self.inside.requests c.forget.new.self c.self.invariant there c.remove.ensures.rows c.remove.ensures.found c.remove.ensures.ascending c.forget.ensures in
    c.finished_of.ensures
    ∙ (ap (λ (b : Bool). if b then MoreLeft else Last c.in-Some.ended.row) c.is_some-more_left.ensures
    ∙ (finished_by c.self.inside.handed c.args.value c.in-Some.ended c.self.inside.values c.remove.new.self c.forget.new.self c.first_under.result c.self.invariant.numbered there c.remove.ensures.rows filed c.first_under.ensures.found
    ∙ ap (λ (u : Unfinished). finished (value_at c.args.value u.values) u.values) c.self.view_is))

pub returns-clause-values : goal.returns-clause-values
returns-clause-values c = rw (← c.self.view_is) (same_values refl (ap rows_of c.remove.ensures.rows ∙ rows_without (λ (v : QueryValue). v.value) c.args.value c.self.inside.values c.self.invariant.numbered))
