use Rattle.std.proofs.Common.{ap, ◌∙◌}
use Rattle.std.specs.Option.{option_map}
use Rattle.zs_keys.specs.Key.{Key}
use Rattle.zs_subscriptions.specs.declared.number_row.NumberRow.{NumberRow}
use Rattle.zs_subscriptions.specs.Recipients.{matches}
use Rattle.zs_subscriptions.proofs.Tabled.{key_found, matches_found}
use Rattle.zs_subscriptions.proofs.tables.Tables.matches_of.Goals as goal

pub returns-in_default : goal.returns-in_default
returns-in_default c =
    rw (← c.self.view_is) (ap (option_map (λ (key : Key). matches key.text c.self.inside.subs)) (ap (option_map (λ (row : NumberRow). row.key)) c.in_default.ensures
    ∙ key_found c.args.mapping c.args.number c.self.inside.subs c.self.inside.own c.self.inside.told))

pub returns : goal.returns
returns c =
    rw (← c.self.view_is, c.deref.ensures.value)
    (matches_found c.args.mapping c.args.number c.self.inside.subs c.self.inside.own c.self.inside.told _ c.self.invariant.order c.in-Some.ensures)
