use Rattle.std.proofs.Common.{rules}
use Rattle.std.proofs.lemmas.Fn.{filter_same}
use Rattle.zs_liveliness.specs.Liveliness.{wants}
use Rattle.zs_liveliness.specs.declared.liveliness_sub.LivelinessSub.{LivelinessSub}
use Rattle.zs_keyed.specs.Keyed.{passes_by}
use Rattle.zs_liveliness.proofs.liveliness_subs.keep_hearers.Goals as goal

pub returns : goal.returns
returns c =
    filter_same _ (passes_by (λ (s : LivelinessSub). s.id) (wants c.args.before) c.args.rows.now) _ (λ x b f' k. search rules) _ _ c.retain.ensures.filtered
