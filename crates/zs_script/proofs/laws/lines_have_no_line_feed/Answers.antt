use Rattle.zs_script.proofs.PlainTexts.{lines-no-feed}
use Rattle.zs_script.proofs.laws.lines_have_no_line_feed.Goals as goal

pub returns : goal.returns
returns c = lines-no-feed
