use Rattle.std.proofs.Common.{sym, ap, ◌∙◌}
use Rattle.std.specs.Prelude.{◌==◌, is_some}
use Rattle.zs_keyed.proofs.Ascending.{found_any, none_has}
use Rattle.zs_subscriptions.proofs.Searching.{filter_none}
use Rattle.zs_subscriptions.proofs.Indexing.{list_ascends, lists_left}
use Rattle.zs_subscriptions.proofs.own.unset_own.Goals as goal

pub returns-in_default-clause-answer : goal.returns-in_default-clause-answer
returns-in_default-clause-answer c = ap is_some c.in_default.ensures.row ∙ found_any (λ row. row.number == c.args.number) c.args.own.now

pub returns-in_default-clause-texts : goal.returns-in_default-clause-texts
returns-in_default-clause-texts c =
    rw (c.take.ensures.rows ∙ filter_none (λ row. row.number) c.args.number c.args.own.now (none_has (λ row. row.number) c.args.number c.args.own.now (sym (returns-in_default-clause-answer c)))) c.requires

pub leave_text-requires : goal.leave_text-requires
leave_text-requires c = list_ascends c.args.own.now c.args.texts.now _ c.in-Some.ensures.was_ascending c.requires

pub returns-clause-answer : goal.returns-clause-answer
returns-clause-answer c = ap is_some c.in-Some.ensures.row ∙ found_any (λ row. row.number == c.args.number) c.args.own.now

pub returns-clause-texts : goal.returns-clause-texts
returns-clause-texts c =
    let leaves = rw c.as_str.ensures.text at c.leave_text.ensures in
    rw c.take.ensures.rows (lists_left c.args.number c.in-Some.row c.args.own.now c.args.texts.now _ c.in-Some.ensures.was_ascending c.in-Some.ensures.row c.requires leaves)
