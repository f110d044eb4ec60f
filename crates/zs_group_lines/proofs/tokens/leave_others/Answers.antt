use Rattle.std.proofs.Common.{rules}
use Rattle.std.specs.Prelude.{◌==◌, not}
use Rattle.std.proofs.lemmas.Fn.{filter_same}
use Rattle.zs_group_lines.specs.declared.tokens.Token.{Token}
use Rattle.zs_group_lines.proofs.tokens.leave_others.Goals as goal

pub returns : goal.returns
returns c = filter_same _ (λ (token : Token). not (token.id == c.args.id)) _ (λ x b f' k. search rules) _ _ c.retain.ensures.filtered
