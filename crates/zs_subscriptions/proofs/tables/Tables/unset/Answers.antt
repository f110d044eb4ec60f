use Rattle.std.proofs.Common.{ap, ◌∙◌, refl}
use Rattle.std.specs.Prelude.{map}
use Rattle.zs_subscriptions.specs.Lists.{shown, held, AreInOrder}
use Rattle.zs_subscriptions.proofs.Keeping.{current_filter, held_without, has_key}
use Rattle.zs_subscriptions.proofs.Tabled.{same_contents}
use Rattle.zs_subscriptions.proofs.tables.Tables.unset.Goals as goal

pub invariant_of-self : goal.invariant_of-self
invariant_of-self c =
    let order : AreInOrder c.self.inside.subs (map shown c.unset_own.new.own) (map shown c.self.inside.told) = record {
      ascending = c.self.invariant.order.ascending;
      own_current = rw c.unset_own.ensures.numbers (current_filter c.args.number _ _ c.self.invariant.order.own_current);
      told_current = c.self.invariant.order.told_current;
    } in
    record { order = order; indexed = c.unset_own.ensures.texts }

pub returns-in-Receiver-clause-answer : goal.returns-in-Receiver-clause-answer
returns-in-Receiver-clause-answer c = rw (c.in-Receiver.is, ← c.self.view_is) (c.unset_own.ensures.answer ∙ has_key c.args.number c.self.inside.own)

pub returns-in-Receiver-clause-numbers : goal.returns-in-Receiver-clause-numbers
returns-in-Receiver-clause-numbers c =
    let less = ap held c.unset_own.ensures.numbers ∙ held_without c.args.number c.self.inside.own in
    rw (c.in-Receiver.is, ← c.self.view_is) (same_contents _ _ _ _ _ _ refl less refl)

pub invariant_of-self-in-Sender : goal.invariant_of-self-in-Sender
invariant_of-self-in-Sender c =
    let order : AreInOrder c.self.inside.subs (map shown c.self.inside.own) (map shown c.remove.new.self) = record {
      ascending = c.self.invariant.order.ascending;
      own_current = c.self.invariant.order.own_current;
      told_current = rw c.remove.ensures.rows (current_filter c.args.number _ _ c.self.invariant.order.told_current);
    } in
    record { order = order; indexed = c.self.invariant.indexed }

pub returns-in-Sender-clause-answer : goal.returns-in-Sender-clause-answer
returns-in-Sender-clause-answer c = rw (c.in-Sender.is, ← c.self.view_is) (c.remove.ensures.answer ∙ has_key c.args.number c.self.inside.told)

pub returns-in-Sender-clause-numbers : goal.returns-in-Sender-clause-numbers
returns-in-Sender-clause-numbers c =
    let less = ap held c.remove.ensures.rows ∙ held_without c.args.number c.self.inside.told in
    rw (c.in-Sender.is, ← c.self.view_is) (same_contents _ _ _ _ _ _ refl refl less)
