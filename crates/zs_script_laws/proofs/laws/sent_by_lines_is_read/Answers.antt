use Rattle.zs_script_laws.proofs.Spoken.{sent_read}
use Rattle.zs_script_laws.proofs.laws.sent_by_lines_is_read.Goals as goal

pub returns : goal.returns
returns c = sent_read c.events_are_plain.ensures c.spelled_forms_are_read.ensures
