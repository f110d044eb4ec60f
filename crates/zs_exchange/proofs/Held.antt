-- What is wanted of handlers that aren't held makes no difference to the calls.
use Rattle.std.proofs.Common.{◌≡◌, Bool, true, false, cond, List, [], ◌∷◌, ◌++◌, Option, Some, None, refl, sym, ap, ◌∙◌, subst}
use Rattle.std.specs.Prelude.{is_some}
use Rattle.std.specs.List.{AllByRecursion}
use Rattle.zs_posts.specs.declared.key.Key.{Key}
use Rattle.zs_posts.specs.declared.call.Wanted.{Wanted}
use Rattle.zs_posts.specs.Keys.{is_key}
use Rattle.zs_posts.specs.Posts.{Rows, post_at, raised}
use Rattle.zs_posts.specs.Lending.{lend, lend_all, lents_of, is_overdrawn}
use Rattle.zs_posts.specs.Calls.{CallSeen, all_lents, handler_of, handler_at, call_keys, call_for, calls_of, turn_keys}
use Rattle.zs_posts.specs.Settled.{PostsSeen}
use Rattle.zs_posts.specs.Turns.{IsTurn}
use Rattle.zs_turns.specs.declared.item.Item.{Item}
use Rattle.zs_turns.specs.Calls.{held_of}
use Rattle.zs_exchange.proofs.Handlers.{keys_none}

module _ {H : Type 0} where
  -- a pass that is lent changes no handler
  same_lent : (key k : Key) (rows : Rows H) → handler_at key (lend k rows) ≡ handler_at key rows
  same_lent key k [] = refl
  same_lent key k (e ∷ rows) = go (is_key k e.0) (is_key key e.0) (same_lent key k rows)
    where
      here : (c : Bool) → handler_of (cond c (Some (raised e.1)) (post_at key rows)) ≡ handler_of (cond c (Some e.1) (post_at key rows))
      here true = refl
      here false = refl

      behind : (c : Bool) → handler_at key (lend k rows) ≡ handler_at key rows → handler_of (cond c (Some e.1) (post_at key (lend k rows))) ≡ handler_of (cond c (Some e.1) (post_at key rows))
      behind true rest = refl
      behind false rest = rest

      go : (b c : Bool) → handler_at key (lend k rows) ≡ handler_at key rows → handler_at key (cond b ((e.0, raised e.1) ∷ rows) (e ∷ lend k rows)) ≡ handler_at key (e ∷ rows)
      go true c rest = here (is_key key e.0)
      go false c rest = behind (is_key key e.0) rest

  same_all : (key : Key) (ks : List Key) (rows : Rows H) → handler_at key (lend_all ks rows) ≡ handler_at key rows
  same_all key [] rows = refl
  same_all key (k ∷ ks) rows = same_all key ks (lend k rows) ∙ same_lent key k rows

  is_none : (o : Option H) → is_some o ≡ false → o ≡ None
  is_none None is = refl
  is_none (Some h) is = let wrong : true ≡ false = is in cc

  -- rows with the same handlers
  abbrev AreAlike : Rows H → Rows H → Type 0
  AreAlike first rows = (key : Key) → handler_at key rows ≡ handler_at key first

  lent_alike : (first rows : Rows H) (ks : List Key) → AreAlike first rows → AreAlike first (lend_all ks rows)
  lent_alike first rows ks alike = λ key. same_all key ks rows ∙ alike key

  unheld : (first rows : Rows H) (key : Key) → AreAlike first rows → is_some (handler_at key first) ≡ false → handler_at key rows ≡ None
  unheld first rows key alike is = alike key ∙ is_none (handler_at key first) is

  keys_in : (first rows : Rows H) (ws : List (Wanted Item)) → AreAlike first rows → turn_keys (held_of first ws) rows ≡ turn_keys ws rows
  keys_in first rows [] alike = refl
  keys_in first rows (w ∷ ws) alike = go (is_some (handler_at w.key first)) refl (keys_in first (lend_all (call_keys w.key rows) rows) ws (lent_alike first rows (call_keys w.key rows) alike)) (keys_in first rows ws alike)
    where
      go : (b : Bool) → is_some (handler_at w.key first) ≡ b
          → turn_keys (held_of first ws) (lend_all (call_keys w.key rows) rows) ≡ turn_keys ws (lend_all (call_keys w.key rows) rows) → turn_keys (held_of first ws) rows ≡ turn_keys ws rows
          → turn_keys (cond b (w ∷ held_of first ws) (held_of first ws)) rows ≡ turn_keys (w ∷ ws) rows
      go true is there here = ap (λ (ks : List Key). call_keys w.key rows ++ ks) there
      go false is there here =
          subst (λ (ks : List Key). turn_keys (held_of first ws) rows ≡ ks ++ turn_keys ws (lend_all ks rows)) (sym (keys_none w.key (post_at w.key rows) (unheld first rows w.key alike is))) here

  calls_in : (first rows : Rows H) (ws : List (Wanted Item)) → AreAlike first rows → calls_of (held_of first ws) rows ≡ calls_of ws rows
  calls_in first rows [] alike = refl
  calls_in first rows (w ∷ ws) alike = go (is_some (handler_at w.key first)) refl (calls_in first (lend_all (call_keys w.key rows) rows) ws (lent_alike first rows (call_keys w.key rows) alike)) (calls_in first rows ws alike)
    where
      go : (b : Bool) → is_some (handler_at w.key first) ≡ b
          → calls_of (held_of first ws) (lend_all (call_keys w.key rows) rows) ≡ calls_of ws (lend_all (call_keys w.key rows) rows) → calls_of (held_of first ws) rows ≡ calls_of ws rows
          → calls_of (cond b (w ∷ held_of first ws) (held_of first ws)) rows ≡ calls_of (w ∷ ws) rows
      go true is there here = ap (λ (calls : List (CallSeen H Item)). call_for w.item (handler_at w.key rows) (lents_of (call_keys w.key rows) rows) ++ calls) there
      go false is there here =
          let none : handler_at w.key rows ≡ None = unheld first rows w.key alike is in
          subst (λ (ks : List Key). calls_of (held_of first ws) rows ≡ call_for w.item (handler_at w.key rows) (lents_of ks rows) ++ calls_of ws (lend_all ks rows)) (sym (keys_none w.key (post_at w.key rows) none))
          (subst (λ (h : Option H). calls_of (held_of first ws) rows ≡ call_for w.item h [] ++ calls_of ws rows) (sym none) here)

  -- the same passes are lent, and the same calls are made
  held_keys : (rows : Rows H) (ws : List (Wanted Item)) → turn_keys (held_of rows ws) rows ≡ turn_keys ws rows
  held_keys rows ws = keys_in rows rows ws (λ key. refl)

  held_calls : (rows : Rows H) (ws : List (Wanted Item)) → calls_of (held_of rows ws) rows ≡ calls_of ws rows
  held_calls rows ws = calls_in rows rows ws (λ key. refl)

  held_turn : (ws : List (Wanted Item)) (old : PostsSeen H) (calls : List (CallSeen H Item)) (new : PostsSeen H) → IsTurn (held_of old.rows ws) old calls new → IsTurn ws old calls new
  held_turn ws old calls new turn = record {
    calls_are = turn.calls_are ∙ held_calls old.rows ws;
    posts_are = turn.posts_are ∙ ap (λ (ks : List Key). record old { rows = lend_all ks old.rows }) (held_keys old.rows ws);
    fits = subst (λ (ks : List Key). is_overdrawn ks old.rows ≡ false) (held_keys old.rows ws) turn.fits;
    of_room = turn.of_room;
  }

  -- from what is known where the passes were lent, and where they weren't
  pub lent_turn : (ws given : List (Wanted Item)) (old : PostsSeen H) (calls : List (CallSeen H Item)) (new : PostsSeen H) → given ≡ held_of old.rows ws → calls ≡ calls_of given old.rows → new ≡ record old { rows = lend_all (turn_keys given old.rows) old.rows }
      → is_overdrawn (turn_keys given old.rows) old.rows ≡ false → AllByRecursion (λ l. l.room ≡ old.room) (all_lents calls) → IsTurn ws old calls new
  lent_turn ws given old calls new is calls_are posts_are fits of_room =
      held_turn ws old calls new (subst (λ (w : List (Wanted Item)). IsTurn w old calls new) is (record { calls_are = calls_are; posts_are = posts_are; fits = fits; of_room = of_room }))

  pub lent_drawn : (ws given : List (Wanted Item)) (rows : Rows H) → given ≡ held_of rows ws → is_overdrawn (turn_keys given rows) rows ≡ true → is_overdrawn (turn_keys ws rows) rows ≡ true
  lent_drawn ws given rows is drawn =
      subst (λ (ks : List Key). is_overdrawn ks rows ≡ true) (held_keys rows ws) (subst (λ (w : List (Wanted Item)). is_overdrawn (turn_keys w rows) rows ≡ true) is drawn)
