use Rattle.std.proofs.Common.{Option, subst}
use Rattle.std.specs.Prelude.{IfSome}
use Rattle.zs_subscriptions.specs.declared.number_row.NumberRow.{NumberRow}
use Rattle.zs_subscriptions.specs.Texts.{Joins}
use Rattle.zs_subscriptions.proofs.Indexing.{on_ok}
use Rattle.zs_subscriptions.proofs.own.join_own.Goals as goal

pub join_text-requires : goal.join_text-requires
join_text-requires c = c.requires c.as_str.result.now

pub returns-in-Some-clause-ok : goal.returns-in-Some-clause-ok
returns-in-Some-clause-ok c =
    let joined = rw c.as_str.ensures.text at c.join_text.ensures.ok in
    on_ok c.join_text.result (λ joins. subst (λ (o : Option NumberRow). IfSome o (λ row. Joins row.key.text c.args.number c.args.texts.now c.join_text.new.texts)) c.in-Some.ensures.row joins) joined

pub returns-in-None-clause-ok : goal.returns-in-None-clause-ok
returns-in-None-clause-ok c = subst (λ (o : Option NumberRow). IfSome o (λ row. Joins row.key.text c.args.number c.args.texts.now c.args.texts.now)) c.in-None.ensures.row tt
