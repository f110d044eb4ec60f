use Rattle.std.specs.Prelude.{map}
use Rattle.zs_subscriptions.specs.Lists.{shown, AreInOrder}
use Rattle.zs_subscriptions.proofs.Tabled.{current_set, own_set, told_set}
use Rattle.zs_subscriptions.proofs.tables.Tables.set.Goals as goal

pub invariant_of-self : goal.invariant_of-self
invariant_of-self c =
    let fits = c.in_ok-matches_into.ensures.ok in
    let order : AreInOrder c.self.inside.subs (map shown c.set_own.new.own) (map shown c.self.inside.told) = record {
      ascending = c.self.invariant.order.ascending;
      own_current = current_set c.set_own.result (record { number = c.args.number; key = c.args.key; matches = c.matches_into.new.into }) _ _ _ c.self.invariant.order.own_current fits c.set_own.ensures.ok c.set_own.ensures.err;
      told_current = c.self.invariant.order.told_current;
    } in
    record { order = order; indexed = c.set_own.ensures.texts }

pub invariant_of-self-in-Sender : goal.invariant_of-self-in-Sender
invariant_of-self-in-Sender c =
    let fits = c.in_ok-matches_into.ensures.ok in
    let order : AreInOrder c.self.inside.subs (map shown c.self.inside.own) (map shown c.place.new.self) = record {
      ascending = c.self.invariant.order.ascending;
      own_current = c.self.invariant.order.own_current;
      told_current = current_set c.place.result (record { number = c.args.number; key = c.args.key; matches = c.matches_into.new.into }) _ _ _ c.self.invariant.order.told_current fits c.place.ensures.ok c.place.ensures.err;
    } in
    record { order = order; indexed = c.self.invariant.indexed }

pub returns-in-Receiver-clause-ok : goal.returns-in-Receiver-clause-ok
returns-in-Receiver-clause-ok c = rw (c.in-Receiver.is, ← c.self.view_is) (own_set c.set_own.result (record { number = c.args.number; key = c.args.key; matches = c.matches_into.new.into }) c.self.inside.subs c.self.inside.own c.set_own.new.own c.self.inside.told c.set_own.ensures.ok)

pub returns-in-Sender-clause-ok : goal.returns-in-Sender-clause-ok
returns-in-Sender-clause-ok c = rw (c.in-Sender.is, ← c.self.view_is) (told_set c.place.result (record { number = c.args.number; key = c.args.key; matches = c.matches_into.new.into }) c.self.inside.subs c.self.inside.own c.self.inside.told c.place.new.self c.place.ensures.ok)
