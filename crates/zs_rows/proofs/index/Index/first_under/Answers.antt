use Rattle.std.proofs.Common.{◌≡◌, ◌∙◌, sym, ap}
use Rattle.std.specs.Prelude.{None, [], ◌∷◌}
use Rattle.zs_rows.specs.Rows.{first_of}
use Rattle.zs_rows.specs.Index.{under}
use Rattle.zs_rows.proofs.Marking.{number_if, from_key, first_under, under_found, under_least}
use Rattle.zs_rows.proofs.index.Index.first_under.Goals as goal
use Rattle.zs_rows.proofs.index.Index.first_under.Goals.{After-number_if, In-None}

some_first : (c : After-number_if) → c.number_if.result ≡ first_of (under c.args.key c.self.inside.marks.keys)
some_first c =
    let here : from_key c.args.key c.self.inside.marks.keys ≡ c.in-Some.mark.now ∷ c.next.new.self = sym (c.range.ensures.between tt) ∙ c.in-Some.ensures.steps in
    c.number_if.ensures ∙ (ap (λ marks. number_if c.args.key (first_of marks)) (sym here) ∙ first_under c.args.key c.self.inside.marks.keys c.range.ensures.ordered)

none_first : (c : In-None) → first_of (under c.args.key c.self.inside.marks.keys) ≡ None
none_first c =
    let here : from_key c.args.key c.self.inside.marks.keys ≡ [] = sym (c.range.ensures.between tt) ∙ c.in-None.ensures.steps.0 in
    sym (first_under c.args.key c.self.inside.marks.keys c.range.ensures.ordered) ∙ ap (λ marks. number_if c.args.key (first_of marks)) here

pub returns-in-Some-clause-first : goal.returns-in-Some-clause-first
returns-in-Some-clause-first c = some_first c ∙ ap (λ marks. first_of (under c.args.key marks)) c.self.view_is

pub returns-in-Some-clause-found : goal.returns-in-Some-clause-found
returns-in-Some-clause-found c = rw (some_first c, ← c.self.view_is) (under_found c.args.key c.self.inside.marks.keys)

pub returns-in-None-clause-first : goal.returns-in-None-clause-first
returns-in-None-clause-first c = sym (none_first c) ∙ ap (λ marks. first_of (under c.args.key marks)) c.self.view_is

pub returns-in-None-clause-found : goal.returns-in-None-clause-found
returns-in-None-clause-found c = rw (← c.self.view_is) (rw (none_first c) at (under_found c.args.key c.self.inside.marks.keys))

pub returns-in-Some-clause-least : goal.returns-in-Some-clause-least
returns-in-Some-clause-least c = rw (some_first c, ← c.self.view_is) (under_least c.args.key c.self.inside.marks.keys c.range.ensures.ordered)
