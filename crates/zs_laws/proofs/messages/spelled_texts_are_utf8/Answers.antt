use Rattle.zs_laws.proofs.Texts.{spelled_texts_are_utf8}
use Rattle.zs_laws.proofs.messages.spelled_texts_are_utf8.Goals as goal

pub returns : goal.returns
returns c = spelled_texts_are_utf8
