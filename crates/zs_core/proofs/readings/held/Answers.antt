use Rattle.std.proofs.Common.{◌≡◌, ◌∙◌, ap}
use Rattle.zs_world.specs.World.{World}
use Rattle.zs_entity_tables.specs.DeclaredKeys.{has_holder}
use Rattle.zs_standing.proofs.Steps.{held_told}
use Rattle.zs_core.proofs.readings.held.Goals as goal

pub returns : goal.returns
returns c =
    let rows : c.world.inside.holders.rows ≡ c.args.world.now.keys.holders = ap (λ (w : World). w.keys.holders) c.world.view_is in
    held_told c.args.world.now c.args.number c.has.result (c.has.ensures ∙ ap (has_holder c.args.number) rows)
