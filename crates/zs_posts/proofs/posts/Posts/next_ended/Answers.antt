use Rattle.std.proofs.Common.{◌≡◌, false, [], subst}
use Rattle.std.specs.List.{AllByRecursion}
use Rattle.std.specs.Prelude.{IfNone}
use Rattle.zs_posts.specs.Posts.{is_spent}
use Rattle.zs_posts.proofs.Settling.{none_waits, none_beside}
use Rattle.zs_posts.proofs.posts.Posts.next_ended.Goals as goal

pub returns-clause-none : goal.returns-clause-none
returns-clause-none g c =
    subst (λ s. IfNone c.pop_front.result (AllByRecursion (λ e. is_spent e.1 ≡ false) s.rows × (s.ready ≡ []))) c.self.view_is
    (none_beside _ _ c.pop_front.result c.self.invariant.1.no_other (none_waits c.pop_front.result _ _ c.pop_front.ensures.items c.pop_front.ensures.rest))
