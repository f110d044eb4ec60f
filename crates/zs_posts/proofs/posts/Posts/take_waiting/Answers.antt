use Rattle.std.proofs.Common.{sym, ap, ◌∙◌, subst}
use Rattle.zs_posts.specs.Settled.{posts_seen, without_first}
use Rattle.zs_posts.proofs.Settling.{none_left}
use Rattle.zs_posts.proofs.posts.Posts.take_waiting.Goals as goal

pub returns-in-None-clause-posts : goal.returns-in-None-clause-posts
returns-in-None-clause-posts g c =
    let same = none_left c.args.key c.self.inside.ready.items c.in-None.ensures.none in
    sym c.self.view_is ∙ (ap (posts_seen c.self.inside.map.room c.self.inside.map.rows) (sym same) ∙ ap (λ s. posts_seen s.room s.rows (without_first c.args.key s.ready)) c.self.view_is)
