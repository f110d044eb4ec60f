use Rattle.std.proofs.Common.{◌≡◌, sym, ap, ◌∙◌, subst}
use Rattle.std.specs.List.{AllByRecursion}
use Rattle.zs_posts.specs.Keys.{is_key}
use Rattle.zs_posts.specs.Posts.{changed, lowered_by, IsOfRoom}
use Rattle.zs_posts.proofs.Changes.{written, unchanged_none, all_set, all_found, seen_changed, kept_room}
use Rattle.zs_posts.proofs.post_map.PostMap.take_back.Goals as goal

pub returns-in_default : goal.returns-in_default
returns-in_default g c =
    seen_changed _ _ _ _ (changed (lowered_by c.args.lent) c.args.key) c.self.view_is
    (ap (λ m. m.entries) c.get_mut.follows.holds-at-none ∙ sym (unchanged_none (lowered_by c.args.lent) c.args.key c.self.inside.posts.entries c.in_default.ensures.value))

pub take_back-requires : goal.take_back-requires
take_back-requires g c =
    let of = all_found (is_key c.args.key) (λ q. q.room ≡ c.self.inside.maker) c.self.inside.posts.entries c.in-Some.post.now c.self.invariant c.in-Some.ensures.value in
    c.requires ∙ (sym (ap (λ s. s.room) c.self.view_is) ∙ sym of)

pub invariant_of-self-2 : goal.invariant_of-self-2
invariant_of-self-2 g c =
    let found = all_found (is_key c.args.key) (λ q. q.room ≡ c.self.inside.maker) c.self.inside.posts.entries c.in-Some.post.now c.self.invariant c.in-Some.ensures.value in
    let of = ap (λ p. p.room) c.take_back.ensures ∙ (kept_room c.args.lent c.in-Some.post.now ∙ found) in
    subst (AllByRecursion (IsOfRoom c.self.inside.maker)) (sym (c.get_mut.follows.holds c.take_back.new.self).0)
    (all_set (is_key c.args.key) (λ p. p.room ≡ c.self.inside.maker) c.self.inside.posts.entries c.take_back.new.self of c.self.invariant)

pub returns : goal.returns
returns g c =
    seen_changed _ _ _ _ (changed (lowered_by c.args.lent) c.args.key) c.self.view_is
    ((c.get_mut.follows.holds c.take_back.new.self).0 ∙ written (lowered_by c.args.lent) c.args.key c.in-Some.post.now c.take_back.new.self c.self.inside.posts.entries c.in-Some.ensures.value c.take_back.ensures)
