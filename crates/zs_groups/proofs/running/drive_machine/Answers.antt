use Rattle.zs_groups.proofs.Owing.{behind_none, drives_sides}
use Rattle.zs_groups.proofs.running.drive_machine.Goals as goal

pub drive_lines-requires : goal.drive_lines-requires
drive_lines-requires g c = behind_none c.args.sides.now c.args.settings.now c.requires

pub returns-clause-drives : goal.returns-clause-drives
returns-clause-drives g c =
    drives_sides c.args.sides.now c.args.settings.now c.drive_lines.result _ _ _ _ _ c.requires c.drive_lines.ensures.drives
