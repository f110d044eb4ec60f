-- The calls of a turn, as far as they have been lent their passes.
use Rattle.std.proofs.Common.{◌≡◌, ℕ, Bool, true, false, List, [], ◌∷◌, ◌++◌, map, Option, Some, None, refl, sym, ap, ◌∙◌, subst, append_assoc, append-nil}
use Rattle.std.specs.Prelude.{◌||◌}
use Rattle.std.specs.List.{AllByRecursion}
use Rattle.atomic_table.specs.Seated.{TableId}
use Rattle.zs_posts.specs.declared.key.Key.{Key}
use Rattle.zs_posts.specs.declared.call.Call.{Call}
use Rattle.zs_posts.specs.declared.call.Wanted.{Wanted}
use Rattle.zs_posts.specs.Passes.{LentSeen}
use Rattle.zs_posts.specs.Posts.{PostSeen, Rows, post_at}
use Rattle.zs_posts.specs.Lending.{lend_all, lents_of, is_overdrawn, returned_all, IsLent}
use Rattle.zs_posts.specs.Turns.{Underway}
use Rattle.zs_posts.specs.Calls.{CallSeen, handler_of, handler_at, keys_under, keys_for, call_keys, passes_lents, call_seen, all_lents, turn_keys, call_for, calls_of}
use Rattle.zs_posts.proofs.InTurn.{all_append, all_parts, lend_append, drawn_append, returned_append, undone}

module _ {H T : Type 0} where
  pub begun : (room : TableId) (wanted : List (Wanted T)) (first : Rows H) → Underway room wanted first wanted [] first
  begun room wanted first = record { calls_are = refl; rows_are = refl; drawn = refl; back = refl; of_room = tt }

  all_lents_append : (calls more : List (CallSeen H T)) → all_lents (calls ++ more) ≡ all_lents calls ++ all_lents more
  all_lents_append [] more = refl
  all_lents_append (call ∷ calls) more = ap (λ ls. call.lents ++ ls) (all_lents_append calls more) ∙ sym (append_assoc call.lents (all_lents calls) (all_lents more))

  -- the passes of one call are those that were lent for it
  lents_under : (item : T) (h : Option H) (key : Key) (p : PostSeen H) (rows : Rows H) → all_lents (call_for item h (lents_of (keys_under key h p.name) rows)) ≡ lents_of (keys_under key h p.name) rows
  lents_under item None key p rows = refl
  lents_under item (Some h) key p rows = append-nil (lents_of (keys_under key (Some h) p.name) rows)

  lents_for_call : (item : T) (o : Option (PostSeen H)) (key : Key) (rows : Rows H) → all_lents (call_for item (handler_of o) (lents_of (keys_for key o) rows)) ≡ lents_of (keys_for key o) rows
  lents_for_call item None key rows = refl
  lents_for_call item (Some p) key rows = lents_under item p.handler key p rows

  module _ {room : TableId} {wanted : List (Wanted T)} {first now : Rows H} {w : Wanted T} {left : List (Wanted T)} {calls : List (CallSeen H T)} (underway : Underway room wanted first (w ∷ left) calls now) where
    -- one call more
    pub lent_more : {lents : List LentSeen} {new : Rows H} → IsLent room (call_keys w.key now) now lents new → Underway room wanted first left (calls ++ call_for w.item (handler_at w.key now) lents) new
    lent_more {lents} {new} lent =
        let keys = call_keys w.key now in
        let then = turn_keys left (lend_all keys now) in
        let one = call_for w.item (handler_at w.key now) lents in
        let its : all_lents one ≡ lents = ap (λ ls. all_lents (call_for w.item (handler_at w.key now) ls)) lent.lents_are ∙ (lents_for_call w.item (post_at w.key now) w.key now ∙ sym lent.lents_are) in
        let all : all_lents (calls ++ one) ≡ all_lents calls ++ lents = all_lents_append calls one ∙ ap (λ ls. all_lents calls ++ ls) its in
        record {
          calls_are = append_assoc calls one (calls_of left new)
              ∙ ((λ i. calls ++ (call_for w.item (handler_at w.key now) (lent.lents_are i) ++ calls_of left (lent.rows_are i))) ∙ underway.calls_are);
          rows_are = ap (λ rows. lend_all (turn_keys left rows) rows) lent.rows_are ∙ (sym (lend_append keys then now) ∙ underway.rows_are);
          drawn = ap (λ rows. is_overdrawn (turn_keys left rows) rows) lent.rows_are
              ∙ (ap (λ b. b || is_overdrawn then (lend_all keys now)) (sym lent.fits) ∙ (sym (drawn_append keys then now) ∙ underway.drawn));
          back = ap (λ ls. returned_all ls new) all ∙ (returned_append (all_lents calls) lents new ∙ (ap (returned_all (all_lents calls)) (undone lent) ∙ underway.back));
          of_room = subst (AllByRecursion (λ l. l.room ≡ room)) (sym all) (all_append (λ l. l.room ≡ room) (all_lents calls) lents underway.of_room lent.of_room);
        }

    -- the call's passes can't all be lent
    pub drawn_here : is_overdrawn (call_keys w.key now) now ≡ true → is_overdrawn (turn_keys wanted first) first ≡ true
    drawn_here full =
        let keys = call_keys w.key now in
        let then = turn_keys left (lend_all keys now) in
        sym underway.drawn ∙ (drawn_append keys then now ∙ ap (λ b. b || is_overdrawn then (lend_all keys now)) full)

  -- the last call's passes come back
  popped_lents : (rest : List (Call H T)) (call : Call H T) → all_lents (map call_seen (rest ++ call ∷ [])) ≡ all_lents (map call_seen rest) ++ passes_lents call.passes
  popped_lents [] call = append-nil (passes_lents call.passes)
  popped_lents (c ∷ rest) call =
      ap (λ ls. passes_lents c.passes ++ ls) (popped_lents rest call) ∙ sym (append_assoc (passes_lents c.passes) (all_lents (map call_seen rest)) (passes_lents call.passes))

  pub popped_rows : (calls rest : List (Call H T)) (call : Call H T) (rows : Rows H) → calls ≡ rest ++ call ∷ []
      → returned_all (all_lents (map call_seen calls)) rows ≡ returned_all (all_lents (map call_seen rest)) (returned_all (passes_lents call.passes) rows)
  popped_rows calls rest call rows is =
      ap (λ (cs : List (Call H T)). returned_all (all_lents (map call_seen cs)) rows) is
      ∙ (ap (λ ls. returned_all ls rows) (popped_lents rest call) ∙ returned_append (all_lents (map call_seen rest)) (passes_lents call.passes) rows)

  pub popped_rooms : (room : TableId) (calls rest : List (Call H T)) (call : Call H T) → calls ≡ rest ++ call ∷ [] → AllByRecursion (λ l. l.room ≡ room) (all_lents (map call_seen calls))
      → AllByRecursion (λ l. l.room ≡ room) (all_lents (map call_seen rest)) × AllByRecursion (λ l. l.room ≡ room) (passes_lents call.passes)
  popped_rooms room calls rest call is all =
      all_parts (λ l. l.room ≡ room) (all_lents (map call_seen rest)) (passes_lents call.passes)
      (subst (AllByRecursion (λ l. l.room ≡ room)) (popped_lents rest call) (subst (λ (cs : List (Call H T)). AllByRecursion (λ l. l.room ≡ room) (all_lents (map call_seen cs))) is all))
