-- A session that holds no handler makes no calls.
use Rattle.std.proofs.Common.{◌≡◌, Bool, true, false, cond, List, [], ◌∷◌, ◌++◌, Option, Some, None, refl, sym, ap, ◌∙◌, subst}
use Rattle.zs_posts.specs.declared.key.Key.{Key}
use Rattle.zs_posts.specs.declared.key.Name.{Name}
use Rattle.zs_posts.specs.declared.call.Wanted.{Wanted}
use Rattle.zs_posts.specs.Keys.{is_key}
use Rattle.zs_posts.specs.Posts.{PostSeen, Rows, post_at, changed, flagged, is_spent, spent_at}
use Rattle.zs_posts.specs.Lending.{fresh, without, lend_all, lents_of, is_overdrawn}
use Rattle.zs_posts.specs.Calls.{CallSeen, handler_of, handler_at, keys_under, keys_for, call_keys, call_for, calls_of, turn_keys}
use Rattle.zs_posts.specs.Settled.{PostsSeen, if_spent, without_spent, ended}
use Rattle.zs_posts.proofs.Changes.{all_changed, all_found, all_put, all_without}
use Rattle.zs_posts.proofs.InTurn.{all_append}
use Rattle.zs_exchange.specs.Begun.{Opens, Begun, Overdraws, ended_all}
use Rattle.zs_exchange.specs.Handlers.{AreBare, AreGates, NoneHeld}

module _ {H : Type 0} where
  pub keys_none : (key : Key) (o : Option (PostSeen H)) → handler_of o ≡ None → keys_for key o ≡ []
  keys_none key None is = refl
  keys_none key (Some p) is = ap (λ (h : Option H). keys_under key h p.name) is

  handler_none : (key : Key) (rows : Rows H) → AreGates rows → handler_at key rows ≡ None
  handler_none key rows all = go (post_at key rows) refl
    where
      go : (o : Option (PostSeen H)) → o ≡ post_at key rows → handler_of o ≡ None
      go None is = refl
      go (Some p) is = all_found (is_key key) (λ (q : PostSeen H). q.handler ≡ None) rows p all is

  no_keys : (key : Key) (rows : Rows H) → AreGates rows → call_keys key rows ≡ []
  no_keys key rows all = keys_none key (post_at key rows) (handler_none key rows all)

module _ {H T : Type 0} where
  -- no call is made, and no pass is lent
  turn_none : (ws : List (Wanted T)) (rows : Rows H) → AreGates rows → turn_keys ws rows ≡ []
  turn_none [] rows all = refl
  turn_none (w ∷ ws) rows all =
      subst (λ (ks : List Key). ks ++ turn_keys ws (lend_all ks rows) ≡ []) (sym (no_keys w.key rows all)) (turn_none ws rows all)

  calls_none : (ws : List (Wanted T)) (rows : Rows H) → AreGates rows → calls_of ws rows ≡ []
  calls_none [] rows all = refl
  calls_none (w ∷ ws) rows all =
      subst (λ (ks : List Key). call_for w.item (handler_at w.key rows) (lents_of ks rows) ++ calls_of ws (lend_all ks rows) ≡ []) (sym (no_keys w.key rows all))
      (subst (λ (h : Option H). call_for w.item h [] ++ calls_of ws rows ≡ []) (sym (handler_none w.key rows all)) (calls_none ws rows all))

module _ {H : Type 0} where
  opened_gates : (name : Option Name) (handler : Option H) (old opened : PostsSeen H) → Opens name handler old opened → handler ≡ None → AreGates old.rows → AreGates opened.rows
  opened_gates None handler old opened is none all = subst (λ (s : PostsSeen H). AreGates s.rows) (sym is) all
  opened_gates (Some name) handler old opened is none all =
      subst (λ (s : PostsSeen H). AreGates s.rows) (sym is.2)
      (all_put (λ (p : PostSeen H). p.handler ≡ None) name.key (fresh name handler is.0 old.room is.1) old.rows none all)

  spent_gates : (key : Key) (rows : Rows H) → AreGates rows → AreGates (without_spent key rows)
  spent_gates key rows all = go (spent_at key rows)
    where
      go : (b : Bool) → AreGates (cond b (without key rows) rows)
      go true = all_without (is_key key) (λ (e : Key × PostSeen H). e.1.handler ≡ None) rows all
      go false = all

  pub ended_gates : (keys : List Key) (posts : PostsSeen H) → AreGates posts.rows → AreGates (ended_all keys posts).rows
  ended_gates [] posts all = all
  ended_gates (key ∷ keys) posts all =
      ended_gates keys (ended key posts)
      (spent_gates key (changed flagged key posts.rows) (all_changed (λ (p : PostSeen H). p.handler ≡ None) flagged key posts.rows (λ p is. is) all))

  opened_bare : (name : Option Name) (handler : Option H) (old opened : PostsSeen H) → Opens name handler old opened → AreBare old.ready → AreBare opened.ready
  opened_bare None handler old opened is all = subst (λ (s : PostsSeen H). AreBare s.ready) (sym is) all
  opened_bare (Some name) handler old opened is all = subst (λ (s : PostsSeen H). AreBare s.ready) (sym is.2) all

  one_bare : (p : PostSeen H) (b : Bool) → p.handler ≡ None → AreBare (cond b (p ∷ []) [])
  one_bare p true is = (is, tt)
  one_bare p false is = tt

  spent_bare : (key : Key) (rows : Rows H) → AreGates rows → AreBare (if_spent (post_at key rows))
  spent_bare key rows all = go (post_at key rows) refl
    where
      go : (o : Option (PostSeen H)) → o ≡ post_at key rows → AreBare (if_spent o)
      go None is = tt
      go (Some p) is = one_bare p (is_spent p) (all_found (is_key key) (λ (q : PostSeen H). q.handler ≡ None) rows p all is)

  -- posts that are ended wait without a handler, where none had one
  pub ended_bare : (keys : List Key) (posts : PostsSeen H) → AreGates posts.rows → AreBare posts.ready → AreBare (ended_all keys posts).ready
  ended_bare [] posts gates all = all
  ended_bare (key ∷ keys) posts gates all =
      let now = changed flagged key posts.rows in
      let gates_now : AreGates now = all_changed (λ (p : PostSeen H). p.handler ≡ None) flagged key posts.rows (λ p is. is) gates in
      ended_bare keys (ended key posts) (spent_gates key now gates_now) (all_append (λ (p : PostSeen H). p.handler ≡ None) posts.ready (if_spent (post_at key now)) all (spent_bare key now gates_now))

module _ {H T : Type 0} (name : Option Name) (handler : Option H) (wanted : List (Wanted T)) (old : PostsSeen H) (none : NoneHeld handler old) where
  -- an event that comes without a handler then calls none
  pub begun_calls : (calls : List (CallSeen H T)) (new : PostsSeen H) → Begun name handler wanted old calls new → calls ≡ []
  begun_calls calls new b = b.turn.calls_are ∙ calls_none wanted b.opened.rows (opened_gates name handler old b.opened b.opens none.came none.held)

  pub begun_gates : (calls : List (CallSeen H T)) (new : PostsSeen H) → Begun name handler wanted old calls new → AreGates new.rows
  begun_gates calls new b =
      let all : AreGates b.opened.rows = opened_gates name handler old b.opened b.opens none.came none.held in
      subst (λ (s : PostsSeen H). AreGates s.rows) (sym b.turn.posts_are)
      (subst (λ (ks : List Key). AreGates (lend_all ks b.opened.rows)) (sym (turn_none wanted b.opened.rows all)) all)

  pub begun_bare : (calls : List (CallSeen H T)) (new : PostsSeen H) → Begun name handler wanted old calls new → AreBare old.ready → AreBare new.ready
  begun_bare calls new b all = subst (λ (s : PostsSeen H). AreBare s.ready) (sym b.turn.posts_are) (opened_bare name handler old b.opened b.opens all)

  -- and needs no pass
  pub none_overdrawn : Overdraws name handler wanted old → ⊥
  none_overdrawn o =
      let all : AreGates o.opened.rows = opened_gates name handler old o.opened o.opens none.came none.held in
      let drawn : false ≡ true = subst (λ (ks : List Key). is_overdrawn ks o.opened.rows ≡ true) (turn_none wanted o.opened.rows all) o.drawn in
      cc
