use Rattle.std.proofs.Common.{sym, subst}
use Rattle.std.specs.List.{AllByRecursion}
use Rattle.zs_posts.specs.Keys.{is_key}
use Rattle.zs_posts.specs.Posts.{IsOfRoom}
use Rattle.zs_posts.proofs.Changes.{all_without}
use Rattle.zs_posts.proofs.post_map.PostMap.remove.Goals as goal

pub invariant_of-self : goal.invariant_of-self
invariant_of-self g c =
    subst (AllByRecursion (IsOfRoom c.self.inside.maker)) (sym c.remove.ensures.entries)
    (all_without (is_key c.args.key) (IsOfRoom c.self.inside.maker) c.self.inside.posts.entries c.self.invariant)
