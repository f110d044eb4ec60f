use Rattle.std.proofs.Common.{map}
use Rattle.std.specs.String.{string_bytes}
use Rattle.zs_session.proofs.Linking.{spelled_words}
use Rattle.zs_session.proofs.spelling.spell_words.Goals as goal

pub returns : goal.returns
returns c = spelled_words (map string_bytes c.args.words.now) c.spell_values.ensures c.spell_values-2.ensures
