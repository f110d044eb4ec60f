-- Plain words for what is told by the last events: what was declared, and no later event ended.
use Rattle.std.specs.Prelude.{◌≡◌, ℕ, ◌==◌, ◌&&◌, ◌||◌, Bool, false, not, List, [], ◌∷◌, ◌++◌, filter, Option, Some, None, if◌then◌else◌}
use Rattle.std.specs.List.{list_any}
use Rattle.std.specs.Option.{option_or}
use Rattle.zs_subscriptions.specs.Ascending.{Ascend}
use Rattle.zs_subscriptions.specs.Recipients.{matches}
use Rattle.zs_tables.specs.declared.listener.ListenerRow.{ListenerRow}
use Rattle.zs_tables.specs.Types.{LivelinessGet}
use Rattle.zs_tables.specs.declared.remote_row.RemoteSubscriber.{RemoteSubscriber}
use Rattle.zs_tables.specs.declared.remote_row.RemoteQueryable.{RemoteQueryable}
use Rattle.zs_events.specs.declared.event.Event.{Event}
use Rattle.zs_events.specs.declared.turn.Kind.{Kind}
use Rattle.zs_events.specs.Kinds.{ToLiveliness, TellsToken, EndsToken, row_of}
use Rattle.zs_model.specs.declared.settings.Settings.{Settings}
use Rattle.zs_model.specs.Entry.{Entry}
use Rattle.zs_model.specs.Listeners.{listener_row, ends_listener}
use Rattle.zs_model.specs.Live.{was_left, live_pubs, live_queriers, live_subs, live_listeners}
use Rattle.zs_model.specs.Matching.{remote_subscriber_row, remote_queryable_row, renews_sub, renews_queryable, remote_subscribers, remote_queryables}
use Rattle.zs_model.specs.Past.{past_of}
use Rattle.zs_model.specs.Tokens.{answers, asking_now, is_remote_token, remote_tokens, token_text}
use Rattle.zs_standing.specs.Stands.{world_after}
use Rattle.zs_world.specs.Decisions.{is_left}

-- what each accepted event declares, where no accepted event after it ends it, nor any of the later ones; the first one first
abbrev pub unended : {R : Type 0} → (Event → R → Bool) → (Entry → List Entry → List R) → List Event → List Entry → List R
unended ends declares later [] = []
unended ends declares later (x ∷ past) =
    unended ends declares (x.event ∷ later) past ++ filter (λ row. not (list_any (λ e. ends e row) later)) (declares x past)

-- the listener that an event declares to a publisher or querier that is live before it
abbrev pub declared_listener : Entry → List Entry → List ListenerRow
declared_listener x past = listener_row (live_pubs past) (live_queriers past) x.event x.number

-- the live listeners are those that were declared, and that no later event ended, nor their publisher or querier
abbrev pub ListenersAreUnended : Type 0
ListenersAreUnended = (past : List Entry) → live_listeners past ≡ unended ends_listener declared_listener [] past

-- the subscriber of the network that an event declares, and whether one declares its number anew or ends it; and a queryable
abbrev pub remote_subscriber : Entry → List Entry → List RemoteSubscriber
remote_subscriber x past = remote_subscriber_row (row_of x.event).to_matching x.text

abbrev pub replaces_sub : Event → RemoteSubscriber → Bool
replaces_sub e row = renews_sub (row_of e).to_matching row

abbrev pub remote_queryable : Entry → List Entry → List RemoteQueryable
remote_queryable x past = remote_queryable_row (row_of x.event).to_matching x.text

abbrev pub replaces_queryable : Event → RemoteQueryable → Bool
replaces_queryable e row = renews_queryable (row_of e).to_matching row

-- those of the network are the last declarations of their numbers, without a later end
abbrev pub ToldAreLastDeclared : Type 0
ToldAreLastDeclared =
    (past : List Entry) → (remote_subscribers past ≡ unended replaces_sub remote_subscriber [] past) × (remote_queryables past ≡ unended replaces_queryable remote_queryable [] past)

-- the entities that are marked as left to themselves are those that an accepted event left so
abbrev pub MarksAreTold : Type 0
MarksAreTold = (s : Settings) (h : List Event) (kind : Kind) (id : ℕ) → is_left kind id (world_after s h) ≡ was_left kind id (past_of s h)

-- the subscribers that a text matches stand in ascending number, each once
abbrev pub MatchesAscend : Type 0
MatchesAscend = (s : Settings) (h : List Event) (text : List ℕ) → Ascend (λ id. id) (matches text (live_subs (past_of s h)))

-- whether an event tells the token of a number, and not to one of these gets alone
abbrev pub tells_token : ℕ → List LivelinessGet → ToLiveliness → Option (List ℕ) → Bool
tells_token n gets (TellsToken id interest) (Some text) = (id == n) && not (answers interest gets)
tells_token n gets to text = false

-- and whether it ends that token
abbrev pub ends_token_of : ℕ → ToLiveliness → Bool
ends_token_of n (EndsToken id interest) = id == n
ends_token_of n to = false

abbrev pub ends_token : ℕ → Event → Bool
ends_token n e = ends_token_of n (row_of e).to_liveliness

-- an accepted event told it, and no accepted event after it ended it, nor any of the later ones
abbrev pub token_unended : Settings → ℕ → List Event → List Entry → Bool
token_unended s n later [] = false
token_unended s n later (x ∷ past) =
    (tells_token n (asking_now s past) (row_of x.event).to_liveliness x.text && not (list_any (ends_token n) later)) || token_unended s n (x.event ∷ later) past

-- the text of the first of these events
abbrev pub unended_text : Settings → ℕ → List Event → List Entry → Option (List ℕ)
unended_text s n later [] = None
unended_text s n later (x ∷ past) =
    option_or (unended_text s n (x.event ∷ later) past)
    (if tells_token n (asking_now s past) (row_of x.event).to_liveliness x.text && not (list_any (ends_token n) later) then x.text else None)

-- the tokens of the network that are known are those that an accepted event told and that no later one ended; each stands for the text
-- of the first such event
abbrev pub TokensAreUnended : Type 0
TokensAreUnended = (s : Settings) (past : List Entry) (n : ℕ) →
    (is_remote_token n (remote_tokens s past) ≡ token_unended s n [] past) × (token_text s n past ≡ unended_text s n [] past)
