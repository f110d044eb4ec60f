use Rattle.zs_link.proofs.Machine.{settings_are, behind_none, drives_link}
use Rattle.zs_link.proofs.driving.drive_machine.Goals as goal

pub drive_lines-requires : goal.drive_lines-requires
drive_lines-requires g c = behind_none c.args.machine.now c.args.settings.now c.requires

pub returns-clause-drives : goal.returns-clause-drives
returns-clause-drives g c =
    drives_link c.args.settings.now c.args.machine.now.world.a.world.settings c.drive_lines.result _ _ _ _ _
    (settings_are c.args.machine.now.world.a.world c.args.settings.now c.requires.a.stands) c.drive_lines.ensures.drives
