use Rattle.zs_recordings.proofs.Texts.{utf8-text, ok-keeps}
use Rattle.zs_recordings.proofs.recorder.add_turn.Goals as goal

pub returns-clause-utf8 : goal.returns-clause-utf8
returns-clause-utf8 c = ok-keeps c.add.result _ (utf8-text c.append_turn_rows.new.out _ c.in_ok-append_turn_rows.ensures)
