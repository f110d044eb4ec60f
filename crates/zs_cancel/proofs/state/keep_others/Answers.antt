use Rattle.std.proofs.Common.{rules}
use Rattle.std.specs.Prelude.{◌==◌, not}
use Rattle.std.proofs.lemmas.Fn.{filter_same}
use Rattle.zs_cancel.proofs.state.keep_others.Goals as goal

pub returns : goal.returns
returns g c = filter_same _ (λ e. not (e.number == c.args.number)) _ (λ x b f' k. search rules) _ _ c.retain.ensures.filtered
