use Rattle.zs_recordings.proofs.Recorded.{settings_are, behind_none, records_script}
use Rattle.zs_recordings.proofs.driving.drive_recorder.Goals as goal

pub drive_lines-requires : goal.drive_lines-requires
drive_lines-requires g c = behind_none c.args.recorder.now c.args.settings.now c.requires

pub returns : goal.returns
returns g c = record {
  drives =
      records_script c.args.settings.now c.args.recorder.now.state.settings c.drive_lines.result _ _ _ _ _
      (settings_are c.args.recorder.now.state c.args.settings.now c.requires) c.drive_lines.ensures.drives;
  completes = c.drive_lines.ensures.completes;
}
