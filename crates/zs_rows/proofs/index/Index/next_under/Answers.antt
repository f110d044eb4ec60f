use Rattle.std.specs.Prelude.{filter, nat_lt}
use Rattle.std.proofs.Common.{◌≡◌, ◌∙◌, sym, ap}
use Rattle.std.specs.Prelude.{None, [], ◌∷◌}
use Rattle.zs_rows.specs.Rows.{first_of}
use Rattle.zs_rows.specs.Index.{under}
use Rattle.zs_rows.proofs.Marking.{number_if, from_mark, next_under, next_found}
use Rattle.zs_rows.proofs.index.Index.next_under.Goals as goal
use Rattle.zs_rows.proofs.index.Index.next_under.Goals.{After-number_if, In-None}

some_next : (c : After-number_if) → c.number_if.result ≡ first_of (filter (λ n. nat_lt c.args.after n) (under c.args.key c.self.inside.marks.keys))
some_next c =
    let here : from_mark c.args.key c.args.after c.self.inside.marks.keys ≡ c.in-Some.mark.now ∷ c.next.new.self = sym (c.range.ensures.between tt) ∙ c.in-Some.ensures.steps in
    c.number_if.ensures ∙ (ap (λ marks. number_if c.args.key (first_of marks)) (sym here) ∙ next_under c.args.key c.args.after c.self.inside.marks.keys c.range.ensures.ordered)

none_next : (c : In-None) → first_of (filter (λ n. nat_lt c.args.after n) (under c.args.key c.self.inside.marks.keys)) ≡ None
none_next c =
    let here : from_mark c.args.key c.args.after c.self.inside.marks.keys ≡ [] = sym (c.range.ensures.between tt) ∙ c.in-None.ensures.steps.0 in
    sym (next_under c.args.key c.args.after c.self.inside.marks.keys c.range.ensures.ordered) ∙ ap (λ marks. number_if c.args.key (first_of marks)) here

pub returns-in-Some-clause-next : goal.returns-in-Some-clause-next
returns-in-Some-clause-next c = some_next c ∙ ap (λ marks. first_of (filter (λ n. nat_lt c.args.after n) (under c.args.key marks))) c.self.view_is

pub returns-in-Some-clause-found : goal.returns-in-Some-clause-found
returns-in-Some-clause-found c = rw (some_next c, ← c.self.view_is) (next_found c.args.key c.args.after c.self.inside.marks.keys)

pub returns-in-None-clause-next : goal.returns-in-None-clause-next
returns-in-None-clause-next c = sym (none_next c) ∙ ap (λ marks. first_of (filter (λ n. nat_lt c.args.after n) (under c.args.key marks))) c.self.view_is

pub returns-in-None-clause-found : goal.returns-in-None-clause-found
returns-in-None-clause-found c = rw (← c.self.view_is) (rw (none_next c) at (next_found c.args.key c.args.after c.self.inside.marks.keys))
