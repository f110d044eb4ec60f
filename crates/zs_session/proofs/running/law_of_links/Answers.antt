use Rattle.zs_session.specs.Running.{Hands}
use Rattle.zs_session.proofs.running.law_of_links.Goals as goal

pub returns : goal.returns
unfolding Hands
returns c = λ s named rows are. c.lines_are_handed.ensures s rows (c.spell_words.ensures s named) are
