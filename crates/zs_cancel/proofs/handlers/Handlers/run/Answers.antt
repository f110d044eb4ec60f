use Rattle.std.proofs.Common.{rules, ◌≡◌, true, [], sym, ◌∙◌}
use Rattle.std.proofs.lemmas.List.{nil_from_length}
use Rattle.std.specs.Vec.Iter.{into_iter_len, into_iter_items}
use Rattle.zs_cancel.specs.declared.outcome.Outcome.TheVariants.{Done, Failed}
use Rattle.zs_cancel.proofs.Running.{runs_none, runs_last}
use Rattle.zs_cancel.proofs.handlers.Handlers.run.Goals as goal

pub returns-then-is_err : goal.returns-then-is_err
returns-then-is_err g c =
    let bad : g.J.Job.fails c.in-Some.field-0.job true = search rules in
    let rest = into_iter_items c.next.new.self in
    c.loop-number.invariant.1 (Failed c.in-Some.field-0.number) rest (rw c.in-Some.ensures.items (runs_last g.J.Job.fails c.in-Some.field-0 rest bad))

pub returns : goal.returns
returns g c =
    let length_is : into_iter_len c.loop-number.self-inside.entries ≡ 0 = search rules in
    let none = nil_from_length (into_iter_items c.loop-number.self-inside.entries) (sym c.loop-number.invariant.0 ∙ length_is) in
    ((c.loop-number.invariant.1 Done [] (rw none (runs_none g.J.Job.fails))).0, sym c.in_default.ensures.items ∙ none)
