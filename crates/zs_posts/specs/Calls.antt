-- Calls of handlers, with the passes that they are lent.
use Rattle.std.specs.Prelude.{◌≡◌, ℕ, Bool, true, false, List, [], ◌∷◌, ◌++◌, map, Option, Some, None}
use Rattle.std.specs.Arc.{arc_value}
use Rattle.std.specs.List.{AllByRecursion}
use Rattle.std.specs.Option.{option_to_list}
use Rattle.atomic_table.specs.Seated.{TableId}
use Rattle.zs_posts.specs.declared.key.Key.{Key}
use Rattle.zs_posts.specs.declared.key.Key.TheVariants.{Session}
use Rattle.zs_posts.specs.declared.key.Name.{Name}
use Rattle.zs_posts.specs.declared.passes.Passes.{Passes}
use Rattle.zs_posts.specs.declared.call.Wanted.{Wanted}
use Rattle.zs_posts.specs.declared.call.Loan.{Loan}
use Rattle.zs_posts.specs.declared.call.Target.{Target}
use Rattle.zs_posts.specs.declared.call.Call.{Call}
use Rattle.zs_posts.specs.Passes.{LentSeen}
use Rattle.zs_posts.specs.Posts.{PostSeen, Rows, post_at}
use Rattle.zs_posts.specs.Lending.{lend_all, lents_of, is_overdrawn, returned_all, IsLent}

-- the keys of the gates above a handler's own: the session's, its parent's and its token's
abbrev pub keys_above : Name → List Key
keys_above name = Session ∷ (option_to_list name.parent ++ option_to_list name.token)

-- the passes of those gates, and all passes of a call, in the order in which they are lent
abbrev pub lents_above : Option LentSeen → Option LentSeen → Option LentSeen → List LentSeen
lents_above session parent token = option_to_list session ++ (option_to_list parent ++ option_to_list token)

abbrev pub passes_lents : Passes → List LentSeen
passes_lents p = p.own ∷ lents_above p.session p.parent p.token

-- a call that is to be made
pub record CallSeen (H T : Type 0) : Type 0 where
  pub item : T
  pub handler : H
  pub lents : List LentSeen

-- a handler with the name of its post
pub record TargetSeen (H : Type 0) : Type 0 where
  pub handler : H
  pub name : Name

module _ {H : Type 0} where
  abbrev pub handler_of : Option (PostSeen H) → Option H
  handler_of None = None
  handler_of (Some p) = p.handler

  -- the handler of a key
  abbrev pub handler_at : Key → Rows H → Option H
  handler_at key rows = handler_of (post_at key rows)

  abbrev pub keys_under : Key → Option H → Name → List Key
  keys_under key None name = []
  keys_under key (Some h) name = key ∷ keys_above name

  abbrev pub keys_for : Key → Option (PostSeen H) → List Key
  keys_for key None = []
  keys_for key (Some p) = keys_under key p.handler p.name

  -- the keys of the gates that a call of a key's handler is made inside of, if it has a handler
  abbrev pub call_keys : Key → Rows H → List Key
  call_keys key rows = keys_for key (post_at key rows)

  -- the handler of a post with the post's name
  abbrev pub target_seen : Target H → TargetSeen H
  target_seen target = record { handler = arc_value target.handler; name = target.name }

  abbrev pub target_with : Name → Option H → Option (TargetSeen H)
  target_with name None = None
  target_with name (Some handler) = Some record { handler = handler; name = name }

  abbrev pub target_for : Option (PostSeen H) → Option (TargetSeen H)
  target_for None = None
  target_for (Some p) = target_with p.name p.handler

  abbrev pub loan_handler : Option (Loan H) → Option H
  loan_handler None = None
  loan_handler (Some loan) = Some (arc_value loan.handler)

  abbrev pub loan_lents : Option (Loan H) → List LentSeen
  loan_lents None = []
  loan_lents (Some loan) = passes_lents loan.passes

module _ {H T : Type 0} where
  abbrev pub call_seen : Call H T → CallSeen H T
  call_seen call = record { item = call.item; handler = arc_value call.handler; lents = passes_lents call.passes }

  -- all passes of calls
  abbrev pub all_lents : List (CallSeen H T) → List LentSeen
  all_lents [] = []
  all_lents (call ∷ calls) = call.lents ++ all_lents calls

  -- the keys under which passes are lent for items in turn
  abbrev pub turn_keys : List (Wanted T) → Rows H → List Key
  turn_keys [] rows = []
  turn_keys (w ∷ ws) rows = call_keys w.key rows ++ turn_keys ws (lend_all (call_keys w.key rows) rows)

  abbrev pub call_for : T → Option H → List LentSeen → List (CallSeen H T)
  call_for item None lents = []
  call_for item (Some handler) lents = record { item = item; handler = handler; lents = lents } ∷ []

  -- the calls of items in turn: one for each whose key has a handler
  abbrev pub calls_of : List (Wanted T) → Rows H → List (CallSeen H T)
  calls_of [] rows = []
  calls_of (w ∷ ws) rows = call_for w.item (handler_at w.key rows) (lents_of (call_keys w.key rows) rows) ++ calls_of ws (lend_all (call_keys w.key rows) rows)
