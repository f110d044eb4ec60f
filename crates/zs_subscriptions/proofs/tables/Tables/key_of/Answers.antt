use Rattle.std.proofs.Common.{ap, ◌∙◌}
use Rattle.std.specs.Option.{option_map}
use Rattle.zs_subscriptions.specs.declared.number_row.NumberRow.{NumberRow}
use Rattle.zs_subscriptions.proofs.Tabled.{key_found}
use Rattle.zs_subscriptions.proofs.tables.Tables.key_of.Goals as goal

pub returns-in_default : goal.returns-in_default
returns-in_default c =
    rw (← c.self.view_is) (ap (option_map (λ (row : NumberRow). row.key)) c.in_default.ensures
    ∙ key_found c.args.mapping c.args.number c.self.inside.subs c.self.inside.own c.self.inside.told)

pub returns : goal.returns
returns c =
    rw (← c.self.view_is) (ap (option_map (λ (row : NumberRow). row.key)) c.in-Some.ensures
    ∙ key_found c.args.mapping c.args.number c.self.inside.subs c.self.inside.own c.self.inside.told)
