use Rattle.std.proofs.Common.{sym, ◌∙◌, ap}
use Rattle.std.proofs.lemmas.Str.{encodes-chars}
use Rattle.zs_script.specs.Plain.{is_plain}
use Rattle.zs_session.proofs.words.is_printable.Goals as goal

pub returns : goal.returns
returns c = c.is_plain.ensures ∙ sym (ap is_plain (encodes-chars c.args.text.now c.utf8.text))
