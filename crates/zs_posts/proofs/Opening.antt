-- A post that was opened, and is taken out again.
use Rattle.std.proofs.Common.{◌≡◌, ℕ, Bool, true, false, cond, List, [], ◌∷◌, Option, Some, None, refl, sym, ap, ◌∙◌}
use Rattle.std.specs.Cmp.{nat_cmp_total}
use Rattle.std.specs.Ordering.{nat_cmp, is_eq, ordering_reverse, match_ordering}
use Rattle.std.specs.declared.cmp.Ordering.{Ordering}
use Rattle.std.specs.declared.cmp.Ordering.TheVariants.{Less, Equal, Greater}
use Rattle.zs_events.specs.declared.turn.Kind.TheVariants.{Subscriber, LivelinessSubscriber, Publisher, Queryable, Querier, Token, Listener, Get, LivelinessGet}
use Rattle.zs_posts.specs.declared.key.Key.{Key}
use Rattle.zs_posts.specs.declared.key.Name.{Name}
use Rattle.zs_posts.specs.declared.key.Key.TheVariants.{Session, CancelToken, Of}
use Rattle.zs_posts.specs.Keys.{is_key, key_order}
use Rattle.zs_posts.specs.Posts.{PostSeen, Rows, post_at}
use Rattle.zs_posts.specs.Lending.{fresh, with_post, without}
use Rattle.zs_posts.specs.Settled.{PostsSeen, posts_seen, ready_without, taken_out}
use Rattle.zs_posts.specs.Turns.{IsOpened}
use Rattle.zs_posts.proofs.Changes.{none_some, absent, later}

equal_itself : (o : Ordering) → o ≡ ordering_reverse o → o ≡ Equal
equal_itself Less e = cc
equal_itself Equal e = refl
equal_itself Greater e = cc

number_order : (n : ℕ) → nat_cmp n n ≡ Equal
number_order n = equal_itself (nat_cmp n n) (nat_cmp_total.antisymm n n)

order_same : (key : Key) → key_order key key ≡ Equal
order_same Session = refl
order_same (CancelToken n) = number_order n
order_same (Of Subscriber n) = number_order n
order_same (Of LivelinessSubscriber n) = number_order n
order_same (Of Publisher n) = number_order n
order_same (Of Queryable n) = number_order n
order_same (Of Querier n) = number_order n
order_same (Of Token n) = number_order n
order_same (Of Listener n) = number_order n
order_same (Of Get n) = number_order n
order_same (Of LivelinessGet n) = number_order n

-- a key is itself
pub is_itself : (key : Key) → is_key key key ≡ true
is_itself key = ap is_eq (order_same key)

module _ {H : Type 0} where
  pub with_without : (key : Key) (p : PostSeen H) (rows : Rows H) → None ≡ post_at key rows → without key (with_post key p rows) ≡ rows
  with_without key p [] none = ap (λ b. cond b [] ((key, p) ∷ [])) (is_itself key)
  with_without key p (e ∷ rows) none = go (key_order key e.0) refl (with_without key p rows)
    where
      go : (o : Ordering) → key_order key e.0 ≡ o → (None ≡ post_at key rows → without key (with_post key p rows) ≡ rows)
          → without key (match_ordering o ((key, p) ∷ e ∷ rows) ((e.0, p) ∷ rows) (e ∷ with_post key p rows)) ≡ e ∷ rows
      go Less is rest = ap (λ b. cond b (e ∷ rows) ((key, p) ∷ without key (e ∷ rows))) (is_itself key)
      go Equal is rest = absurd (absent (is_key key) e rows (ap is_eq is) none)
      go Greater is rest =
          ap (λ o. cond (is_eq o) (with_post key p rows) (e ∷ without key (with_post key p rows))) is ∙ ap (λ more. e ∷ more) (rest (later (is_key key) e rows None (ap is_eq is) none))

  put_found : (key : Key) (p : PostSeen H) (rows : Rows H) → None ≡ post_at key rows → post_at key (with_post key p rows) ≡ Some p
  put_found key p [] none = ap (λ b. cond b (Some p) None) (is_itself key)
  put_found key p (e ∷ rows) none = go (key_order key e.0) refl (put_found key p rows)
    where
      go : (o : Ordering) → key_order key e.0 ≡ o → (None ≡ post_at key rows → post_at key (with_post key p rows) ≡ Some p)
          → post_at key (match_ordering o ((key, p) ∷ e ∷ rows) ((e.0, p) ∷ rows) (e ∷ with_post key p rows)) ≡ Some p
      go Less is rest = ap (λ b. cond b (Some p) (post_at key (e ∷ rows))) (is_itself key)
      go Equal is rest = absurd (absent (is_key key) e rows (ap is_eq is) none)
      go Greater is rest = ap (λ o. cond (is_eq o) (Some e.1) (post_at key (with_post key p rows))) is ∙ rest (later (is_key key) e rows None (ap is_eq is) none)

  pub opened_out : (name : Name) (handler : Option H) (old new after : PostsSeen H) → IsOpened name handler old new → post_at name.key old.rows ≡ None → after ≡ taken_out name.key new → after ≡ old
  opened_out name handler old new after opened none is =
      let p = fresh name handler opened.0 old.room opened.1 in
      let rows = with_without name.key p old.rows (sym none) in
      let ready = ap (λ (o : Option (PostSeen H)). ready_without o name.key old.ready) (put_found name.key p old.rows (sym none)) in
      is ∙ (ap (taken_out name.key) opened.2 ∙ (λ i. posts_seen old.room (rows i) (ready i)))
