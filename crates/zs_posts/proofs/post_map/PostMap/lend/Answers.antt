use Rattle.std.proofs.Common.{◌≡◌, true, [], ◌∷◌, Err, sym, ap, ◌∙◌, subst}
use Rattle.std.specs.List.{AllByRecursion}
use Rattle.std.specs.Option.{option_to_list}
use Rattle.zs_posts.specs.Keys.{is_key}
use Rattle.zs_posts.specs.Posts.{MapSeen, raised, IsOfRoom}
use Rattle.zs_posts.specs.Lending.{is_overdrawn, IsLent}
use Rattle.zs_posts.proofs.Changes.{written, unwritten, all_set, all_found, map_seen, none_lent, one_lent, full_drawn, why_out}
use Rattle.zs_posts.proofs.post_map.PostMap.lend.Goals as goal

pub returns-in_default-get_mut-clause-ok : goal.returns-in_default-get_mut-clause-ok
returns-in_default-get_mut-clause-ok g c =
    let now = c.get_mut.follows.lender-at-none.entries in
    subst (λ s. IsLent s.room (option_to_list c.args.key) s.rows [] now) c.self.view_is
    (subst (λ o. IsLent c.self.inside.maker (option_to_list o) c.self.inside.posts.entries [] now) (sym c.in-Some.is)
    (none_lent c.self.inside.maker c.in-Some.key c.self.inside.posts.entries now c.in_default-get_mut.ensures.value (ap (λ m. m.entries) c.get_mut.follows.holds-at-none)))

pub invariant_of-self-in-Err : goal.invariant_of-self-in-Err
invariant_of-self-in-Err g c =
    let same = (c.get_mut.follows.holds c.lend.new.self).0 ∙ unwritten c.in-Some.key c.in-Some-get_mut.post.now c.lend.new.self c.self.inside.posts.entries c.in-Some-get_mut.ensures.value c.in-Err.ensures.err in
    subst (AllByRecursion (IsOfRoom c.self.inside.maker)) (sym same) c.self.invariant

pub returns-in-Err-clause-full : goal.returns-in-Err-clause-full
returns-in-Err-clause-full g c = λ e.
    subst (λ s. is_overdrawn (option_to_list c.args.key) s.rows ≡ true) c.self.view_is
    (subst (λ o. is_overdrawn (option_to_list o) c.self.inside.posts.entries ≡ true) (sym c.in-Some.is)
    (full_drawn c.in-Some.key c.self.inside.posts.entries c.in-Some-get_mut.post.now c.in-Some-get_mut.ensures.value (c.in-Err.ensures.full (ap Err (why_out e)))))

pub returns-in-Err-clause-err : goal.returns-in-Err-clause-err
returns-in-Err-clause-err g c =
    let same = (c.get_mut.follows.holds c.lend.new.self).0 ∙ unwritten c.in-Some.key c.in-Some-get_mut.post.now c.lend.new.self c.self.inside.posts.entries c.in-Some-get_mut.ensures.value c.in-Err.ensures.err in
    ap (map_seen c.self.inside.maker) same ∙ c.self.view_is

pub invariant_of-self-2 : goal.invariant_of-self-2
invariant_of-self-2 g c =
    let of = ap (λ p. p.room) c.in-Ok.ensures.post ∙ all_found (is_key c.in-Some.key) (λ p. p.room ≡ c.self.inside.maker) c.self.inside.posts.entries _ c.self.invariant c.in-Some-get_mut.ensures.value in
    subst (AllByRecursion (IsOfRoom c.self.inside.maker)) (sym (c.get_mut.follows.holds c.lend.new.self).0)
    (all_set (is_key c.in-Some.key) (λ p. p.room ≡ c.self.inside.maker) c.self.inside.posts.entries c.lend.new.self of c.self.invariant)

pub returns-clause-ok : goal.returns-clause-ok
returns-clause-ok g c =
    let rows = c.self.inside.posts.entries in
    let p = c.in-Some-get_mut.post.now in
    let of = all_found (is_key c.in-Some.key) (λ q. q.room ≡ c.self.inside.maker) rows p c.self.invariant c.in-Some-get_mut.ensures.value in
    let is = (c.get_mut.follows.holds c.lend.new.self).0 ∙ written raised c.in-Some.key p c.lend.new.self rows c.in-Some-get_mut.ensures.value c.in-Ok.ensures.post in
    let now = (c.get_mut.follows.lender c.lend.new.self).entries in
    subst (λ s. IsLent s.room (option_to_list c.args.key) s.rows (c.in-Ok.lent ∷ []) now) c.self.view_is
    (subst (λ o. IsLent c.self.inside.maker (option_to_list o) rows (c.in-Ok.lent ∷ []) now) (sym c.in-Some.is)
    (one_lent c.self.inside.maker c.in-Some.key rows now p c.in-Ok.lent c.in-Some-get_mut.ensures.value of c.in-Ok.ensures.lent c.in-Ok.ensures.room is))
