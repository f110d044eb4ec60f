use Rattle.zs_script_laws.proofs.Spoken.{all_covered}
use Rattle.zs_script_laws.proofs.laws.subscribers_of_lines_are_covered.Goals as goal

pub returns : goal.returns
returns c = all_covered c.events_are_plain.ensures c.spelled_subscribers_are_covered.ensures
