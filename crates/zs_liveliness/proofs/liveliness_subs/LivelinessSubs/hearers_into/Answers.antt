use Rattle.zs_liveliness.specs.Liveliness.{wants}
use Rattle.zs_liveliness.specs.declared.liveliness_sub.LivelinessSub.{LivelinessSub}
use Rattle.zs_keyed.proofs.Passing.{kept}
use Rattle.zs_liveliness.proofs.liveliness_subs.LivelinessSubs.hearers_into.Goals as goal

pub returns-clause-ok : goal.returns-clause-ok
returns-clause-ok c =
    let ids = c.keep_hearers.ensures in
    rw (← c.self.view_is)
    (kept (λ (s : LivelinessSub). s.id) (λ s. s.key.text) (wants c.args.before) c.args.key.now.text c.self.inside.rows _ _
    c.matches_into.ensures.ascending c.in_ok-matches_into.ensures.ok ids)
