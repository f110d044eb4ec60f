-- An accepted event is answered a number exactly where its row draws one.
use Rattle.std.proofs.Common.{◌≡◌, ℕ, List, [], Bool, true, false, Option, Some, None, refl, sym, ◌∙◌, ap}
use Rattle.std.specs.Prelude.{is_some, if◌then◌else◌}
use Rattle.zs_wire.specs.declared.message.Message.{Message}
use Rattle.zs_wire.specs.declared.message.Message.TheVariants.{DeclareKeyExpr, UndeclareKeyExpr, DeclareSubscriber, UndeclareSubscriber, DeclareQueryable, UndeclareQueryable, DeclareToken, UndeclareToken, DeclareFinal, Interest, Push, Request, Response, ResponseFinal, Close as close_message}
use Rattle.zs_events.specs.declared.event.Event.{Event}
use Rattle.zs_events.specs.declared.event.Event.TheVariants.{Key, UndeclareKey, Sub, Pub, Queryable, Querier, Listen, Status, Token, Lsub, Undeclare, Background, Publish, PublishBy, CancelToken, Cancel, Get, QuerierGet, LivelinessGet, Reply as reply_event, ReplyErr, Share, Finish, Tick, Close, Net}
use Rattle.zs_events.specs.declared.key_arg.KeyArg.{KeyArg}
use Rattle.zs_events.specs.declared.turn.Answer.TheVariants.{Ok as accepted}
use Rattle.zs_events.specs.declared.turn.Effect.{Effect}
use Rattle.zs_events.specs.declared.turn.Refusal.{Refusal}
use Rattle.zs_events.specs.declared.turn.Turn.{Turn}
use Rattle.zs_events.specs.Kinds.{KeyNumber, is_numbered, message_row, row_of}
use Rattle.zs_world.specs.declared.change.Change.{Change}
use Rattle.zs_world.specs.declared.change.Change.TheVariants.{Nothing}
use Rattle.zs_world.specs.declared.change.Decision.{Decision}
use Rattle.zs_model.specs.declared.settings.Settings.{Settings}
use Rattle.zs_world.specs.World.{World}
use Rattle.zs_world.specs.Changes.{change_for}
use Rattle.zs_world.specs.Keys.{key_of}
use Rattle.zs_model.specs.Effects.{effects}
use Rattle.zs_model.specs.Past.{past_of}
use Rattle.zs_standing.specs.Stands.{world_after}
use Rattle.zs_world.specs.Decisions.{has_run_out, number_of, number_for, effects_of, open_cause, closed_cause, decision_of, open_decision, decision}
use Rattle.zs_standing.proofs.Saying.{HasPassed, passed}
use Rattle.zs_standing.proofs.Stands.{standing, same_turn}

-- a decision that accepts answers a number where the event's row draws one
abbrev Numbers : Event → Decision → Type 0
Numbers e d = (number : Option ℕ) → d.turn.answer ≡ accepted number → is_some number ≡ is_numbered (row_of e).draws

-- a message draws no number
message_unnumbered : (message : Message) → is_numbered (message_row message).draws ≡ false
message_unnumbered (DeclareKeyExpr number wire) = refl
message_unnumbered (UndeclareKeyExpr number) = refl
message_unnumbered (DeclareSubscriber id wire) = refl
message_unnumbered (UndeclareSubscriber id) = refl
message_unnumbered (DeclareQueryable id complete wire) = refl
message_unnumbered (UndeclareQueryable id) = refl
message_unnumbered (DeclareToken id wire interest) = refl
message_unnumbered (UndeclareToken id wire interest) = refl
message_unnumbered (DeclareFinal interest) = refl
message_unnumbered (Interest id mode what wire) = refl
message_unnumbered (Push push) = refl
message_unnumbered (Request request) = refl
message_unnumbered (Response response) = refl
message_unnumbered (ResponseFinal rid) = refl
message_unnumbered close_message = refl

-- nor does what a closed session accepts
unnumbered : (e : Event) → closed_cause e ≡ None → is_numbered (row_of e).draws ≡ false
unnumbered (Key key) none = cc
unnumbered (UndeclareKey key) none = cc
unnumbered (Sub origin key to) none = cc
unnumbered (Pub key settings) none = cc
unnumbered (Queryable origin complete key) none = cc
unnumbered (Querier key settings) none = cc
unnumbered (Listen parent id) none = cc
unnumbered (Status parent id) none = cc
unnumbered (Token key) none = cc
unnumbered (Lsub history key) none = cc
unnumbered (Undeclare kind id) none = refl
unnumbered (Background kind id) none = refl
unnumbered (Publish destination key update quality) none = cc
unnumbered (PublishBy id update) none = cc
unnumbered CancelToken none = cc
unnumbered (Cancel token) none = refl
unnumbered (Get key settings inquiry to) none = cc
unnumbered (QuerierGet id inquiry to) none = cc
unnumbered (LivelinessGet key timeout token to) none = cc
unnumbered (reply_event value key update quality) none = refl
unnumbered (ReplyErr value error) none = refl
unnumbered (Share value) none = cc
unnumbered (Finish value) none = refl
unnumbered (Tick now) none = refl
unnumbered Close none = refl
unnumbered (Net message) none = message_unnumbered message

-- a key that is declared has a text
key_numbered : (w : World) (key : KeyArg) (text : Option (List ℕ))
    → HasPassed (row_of (Key key)) (record { text = text; lives = true; claimed = true; owed = true; drawn = true; cancelled = false; disjoint = false; lacks = has_run_out w KeyNumber text; idle = false; spared = false })
    → is_some (number_of w KeyNumber text) ≡ true
key_numbered w key None p = cc (p.found)
key_numbered w key (Some text) p = refl

-- what an open session accepts has a number where the row draws one
numbered : (w : World) (e : Event) → open_cause w e ≡ None → is_some (number_for w e) ≡ is_numbered (row_of e).draws
numbered w (Key key) none = key_numbered w key (key_of w key) (passed _ _ none)
numbered w (UndeclareKey key) none = refl
numbered w (Sub origin key to) none = refl
numbered w (Pub key settings) none = refl
numbered w (Queryable origin complete key) none = refl
numbered w (Querier key settings) none = refl
numbered w (Listen parent id) none = refl
numbered w (Status parent id) none = refl
numbered w (Token key) none = refl
numbered w (Lsub history key) none = refl
numbered w (Undeclare kind id) none = refl
numbered w (Background kind id) none = refl
numbered w (Publish destination key update quality) none = refl
numbered w (PublishBy id update) none = refl
numbered w CancelToken none = refl
numbered w (Cancel token) none = refl
numbered w (Get key settings inquiry to) none = refl
numbered w (QuerierGet id inquiry to) none = refl
numbered w (LivelinessGet key timeout token to) none = refl
numbered w (reply_event value key update quality) none = refl
numbered w (ReplyErr value error) none = refl
numbered w (Share value) none = refl
numbered w (Finish value) none = refl
numbered w (Tick now) none = refl
numbered w Close none = refl
numbered w (Net (DeclareKeyExpr number wire)) none = refl
numbered w (Net (UndeclareKeyExpr number)) none = refl
numbered w (Net (DeclareSubscriber id wire)) none = refl
numbered w (Net (UndeclareSubscriber id)) none = refl
numbered w (Net (DeclareQueryable id complete wire)) none = refl
numbered w (Net (UndeclareQueryable id)) none = refl
numbered w (Net (DeclareToken id wire interest)) none = refl
numbered w (Net (UndeclareToken id wire interest)) none = refl
numbered w (Net (DeclareFinal interest)) none = refl
numbered w (Net (Interest id mode what wire)) none = refl
numbered w (Net (Push push)) none = refl
numbered w (Net (Request request)) none = refl
numbered w (Net (Response response)) none = refl
numbered w (Net (ResponseFinal rid)) none = refl
numbered w (Net close_message) none = refl

-- so does each decision
decision_numbers : (w : World) (e : Event) → Numbers e (decision w e)
decision_numbers w e = go w.closed
  where
    by : (o : Option Refusal) (n : Option ℕ) (fx : List Effect) (c : Change) → (o ≡ None → is_some n ≡ is_numbered (row_of e).draws) → Numbers e (decision_of o n fx c)
    by (Some refusal) n fx c known number is = cc
    by None n fx c known number is = let same : n ≡ number = cc in ap is_some (sym same) ∙ known refl

    go : (b : Bool) → Numbers e (if b then decision_of (closed_cause e) None [] Nothing else open_decision w e)
    go true = by (closed_cause e) None [] Nothing (λ none. sym (unnumbered e none))
    go false = by (open_cause w e) (number_for w e) (effects_of w e) (change_for w e) (numbered w e)

-- and each turn
pub answers_numbered : (s : Settings) (h : List Event) (e : Event) (number : Option ℕ) → (effects s h e).answer ≡ accepted number → is_some number ≡ is_numbered (row_of e).draws
answers_numbered s h e number is =
    decision_numbers (world_after s h) e number (ap (λ (turn : Turn). turn.answer) (same_turn s (world_after s h) (past_of s h) e (standing s h)) ∙ is)
