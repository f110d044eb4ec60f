use Rattle.std.proofs.Common.{◌≡◌, Option, Some, ap, ◌∙◌, subst}
use Rattle.std.specs.Prelude.{◌==◌, not, filter, IfSome}
use Rattle.std.specs.List.{find}
use Rattle.zs_subscriptions.specs.declared.number_row.NumberRow.{NumberRow}
use Rattle.zs_subscriptions.specs.Texts.{Joins}
use Rattle.zs_subscriptions.proofs.Indexing.{all_ascend, lists_same, lists_joined}
use Rattle.zs_subscriptions.proofs.Numbering.{put_found, put_back}
use Rattle.zs_subscriptions.proofs.own.add_own.Goals as goal

pub join_own-requires : goal.join_own-requires
join_own-requires c = all_ascend c.args.own.now c.args.texts.now c.requires.order c.requires.texts

pub returns-in-Err-clause-err : goal.returns-in-Err-clause-err
returns-in-Err-clause-err c =
    c.take.ensures.rows ∙ (ap (filter (λ row. not (row.number == c.args.new.number))) c.in_ok-insert.ensures.ok ∙ put_back c.args.new c.args.own.now c.requires.order c.requires.unused)

pub returns-in-Err-clause-texts : goal.returns-in-Err-clause-texts
returns-in-Err-clause-texts c = rw (returns-in-Err-clause-err c) (lists_same c.args.own.now c.args.texts.now _ c.requires.texts c.in-Err.ensures.err)

pub returns-clause-texts : goal.returns-clause-texts
returns-clause-texts c =
    let new = c.args.new in
    let there : find (λ row. row.number == new.number) c.insert.new.self ≡ Some new = ap (find (λ row. row.number == new.number)) c.in_ok-insert.ensures.ok ∙ put_found new c.args.own.now c.requires.unused in
    let joins = subst (λ (o : Option NumberRow). IfSome o (λ row. Joins row.key.text new.number c.args.texts.now c.join_own.new.texts)) there c.in_default.ensures.ok in
    rw c.in_ok-insert.ensures.ok (lists_joined new c.args.own.now c.args.texts.now _ c.requires.order c.requires.unused c.requires.texts joins)
