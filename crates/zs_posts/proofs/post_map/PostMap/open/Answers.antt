use Rattle.std.proofs.Common.{◌≡◌, sym, ap, ◌∙◌, subst}
use Rattle.std.specs.List.{AllByRecursion}
use Rattle.std.specs.Option.{option_map}
use Rattle.std.specs.Arc.{arc_value}
use Rattle.zs_posts.specs.Posts.{IsOfRoom}
use Rattle.zs_posts.specs.Lending.{fresh, with_post}
use Rattle.zs_posts.proofs.Changes.{all_put, seen_changed_in}
use Rattle.zs_posts.proofs.post_map.PostMap.open.Goals as goal

pub invariant_of-self : goal.invariant_of-self
invariant_of-self g c = subst (AllByRecursion (IsOfRoom c.self.inside.maker)) (sym c.in-Err.ensures.err) c.self.invariant

pub invariant_of-self-2 : goal.invariant_of-self-2
invariant_of-self-2 g c =
    subst (AllByRecursion (IsOfRoom c.self.inside.maker)) (sym c.in-Ok-insert.ensures.entries)
    (all_put (λ p. p.room ≡ c.self.inside.maker) c.args.name.key c.in-Ok.post c.self.inside.posts.entries (ap (λ p. p.room) c.in-Ok.ensures) c.self.invariant)

pub returns-clause-ok : goal.returns-clause-ok
returns-clause-ok g c =
    let handler = option_map arc_value c.args.handler.now in (
      c.in-Ok.post.gate,
      c.in-Ok.post.number,
      seen_changed_in _ _ _ _ (λ room rows. with_post c.args.name.key (fresh c.args.name handler c.in-Ok.post.gate room c.in-Ok.post.number) rows) c.self.view_is
          (c.in-Ok-insert.ensures.entries ∙ ap (λ p. with_post c.args.name.key p c.self.inside.posts.entries) c.in-Ok.ensures),
    )
