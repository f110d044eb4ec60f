use Rattle.std.proofs.Common.{◌≡◌, sym, ap, ◌∙◌, subst}
use Rattle.std.specs.List.{AllByRecursion}
use Rattle.zs_posts.specs.Keys.{is_key}
use Rattle.zs_posts.specs.Posts.{changed, flagged, IsOfRoom}
use Rattle.zs_posts.proofs.Changes.{written, unchanged_none, all_set, all_found, seen_changed}
use Rattle.zs_posts.proofs.post_map.PostMap.flag.Goals as goal

pub returns-in_default : goal.returns-in_default
returns-in_default g c =
    seen_changed _ _ _ _ (changed flagged c.args.key) c.self.view_is
    (ap (λ m. m.entries) c.get_mut.follows.holds-at-none ∙ sym (unchanged_none flagged c.args.key c.self.inside.posts.entries c.in_default.ensures.value))

pub invariant_of-self-2 : goal.invariant_of-self-2
invariant_of-self-2 g c =
    let of = ap (λ p. p.room) c.end.ensures ∙ all_found (is_key c.args.key) (λ p. p.room ≡ c.self.inside.maker) c.self.inside.posts.entries _ c.self.invariant c.in-Some.ensures.value in
    subst (AllByRecursion (IsOfRoom c.self.inside.maker)) (sym (c.get_mut.follows.holds c.end.new.self).0)
    (all_set (is_key c.args.key) (λ p. p.room ≡ c.self.inside.maker) c.self.inside.posts.entries c.end.new.self of c.self.invariant)

pub returns : goal.returns
returns g c =
    seen_changed _ _ _ _ (changed flagged c.args.key) c.self.view_is
    ((c.get_mut.follows.holds c.end.new.self).0 ∙ written flagged c.args.key c.in-Some.post.now c.end.new.self c.self.inside.posts.entries c.in-Some.ensures.value c.end.ensures)
