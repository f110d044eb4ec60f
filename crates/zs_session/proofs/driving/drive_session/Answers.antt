use Rattle.zs_session.proofs.Retelling.{rules_are, behind_none, drives_script}
use Rattle.zs_session.proofs.driving.drive_session.Goals as goal

pub drive_lines-requires : goal.drive_lines-requires
drive_lines-requires g c = behind_none c.args.settings.now c.args.session.now c.requires

pub returns-clause-drives : goal.returns-clause-drives
returns-clause-drives g c =
    drives_script c.args.settings.now _ _ c.drive_lines.result _ _ _ _ _ (rules_are c.args.settings.now c.args.session.now c.requires) c.spell_aggregates.ensures c.drive_lines.ensures.drives

pub returns-clause-completes : goal.returns-clause-completes
returns-clause-completes g c = c.drive_lines.ensures.completes
