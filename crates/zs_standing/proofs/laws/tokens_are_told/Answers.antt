use Rattle.std.proofs.Common.{◌∙◌, ap, List}
use Rattle.zs_tables.specs.Types.{RemoteToken}
use Rattle.zs_model.specs.Past.{past_of}
use Rattle.zs_model.proofs.Tokens.{text_under, texts_told, tokens_ascend}
use Rattle.zs_standing.proofs.Stands.{standing}
use Rattle.zs_standing.proofs.laws.tokens_are_told.Goals as goal

pub returns : goal.returns
returns c = λ s h.
    let told = (standing s h).watched.told in
    ((λ n. ap (λ (tokens : List RemoteToken). text_under n tokens) told ∙ texts_told s (past_of s h) n), rw told (tokens_ascend s (past_of s h)))
