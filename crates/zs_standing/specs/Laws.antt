-- What the tables hold after every history, and how events are answered, told by the events alone: each law is the clause of a
-- public function.
use Rattle.std.specs.Prelude.{◌≡◌, ◌≤◌, ℕ, length, Bool, true, false, List, [], Option, Some, None, option_map, IsUtf8, if◌then◌else◌, ◌∷◌, ◌++◌, ◌==◌, not, filter, is_some}
use Rattle.std.specs.List.{AllByRecursion, find, list_any}
use Rattle.std.specs.Option.{IfSome}
use Rattle.zs_wire.specs.declared.wire_expr.Mapping.{Mapping}
use Rattle.zs_subscriptions.specs.Ascending.{Ascend}
use Rattle.zs_tables.specs.Groups.{groups_of, members_of, number_of_group}
use Rattle.zs_tables.specs.Types.{GroupKind}
use Rattle.zs_subscriptions.specs.Numbers.{key_at}
use Rattle.zs_subscriptions.specs.Recipients.{matches, has_network}
use Rattle.zs_events.specs.declared.event.Event.{Event}
use Rattle.zs_events.specs.declared.event.Event.TheVariants.{Key}
use Rattle.zs_events.specs.declared.key_arg.KeyArg.{KeyArg}
use Rattle.zs_model.specs.declared.settings.Settings.{Settings}
use Rattle.zs_events.specs.declared.turn.Refusal.{Refusal}
use Rattle.zs_events.specs.Kinds.{is_numbered, row_of}
use Rattle.zs_events.specs.declared.turn.Answer.TheVariants.{Ok as accepted}
use Rattle.zs_model.specs.Entry.{is_closed, Entry}
use Rattle.zs_model.specs.HeldKeys.{times_declared, is_held, held_text, held_count, key_text, remote_text, mapped_text, named_text}
use Rattle.zs_model.specs.Live.{live_subs, live_pubs, live_queryables, live_queriers, live_tokens, live_lsubs, live_listeners}
use Rattle.zs_model.specs.Tokens.{tokens_asked, ends_asking, asking_now, token_text}
use Rattle.zs_model.specs.Groups.{group, group_number}
use Rattle.zs_model.specs.Counters.{next_entity, next_key, drawn_number, next_query}
use Rattle.zs_model.specs.Gets.{moment_of, open_now}
use Rattle.zs_model.specs.Causes.{has_cause, refusal_of}
use Rattle.zs_model.specs.Values.{handing_of}
use Rattle.zs_model.specs.Cancelling.{next_cancellation_token, is_among, is_taken}
use Rattle.zs_model.specs.Finals.{finals_among, finals_due, times_ended, is_over}
use Rattle.zs_model.specs.Past.{past_of, entry_of}
use Rattle.zs_model.specs.GetEffects.{ended_numbers}
use Rattle.zs_query.specs.Asked.{CancelledBy}
use Rattle.zs_model.specs.Effects.{effects}
use Rattle.zs_model.specs.Received.{messages_of, sent, spoken_text, AreReadAs, AreSpelled, AreUtf8}
use Rattle.zs_model.specs.Covered.{IsCovered}
use Rattle.zs_tables.specs.declared.remote_row.RemoteSubscriber.{RemoteSubscriber}
use Rattle.zs_tables.specs.declared.remote_row.RemoteQueryable.{RemoteQueryable}
use Rattle.zs_tables.specs.MatchingLaws.{differ}
use Rattle.zs_model.specs.Listeners.{is_listener}
use Rattle.zs_model.specs.Matching.{remote_subscribers, remote_queryables, is_matched}
use Rattle.zs_model.specs.Heard.{told_to, last_told}
use Rattle.zs_world.specs.Keys.{numbers_for}
use Rattle.zs_entity_tables.specs.DeclaredKeys.{holders_of}
use Rattle.zs_world.specs.Decisions.{cause, text_for, number_for}
use Rattle.zs_standing.specs.Stands.{world_after}

-- the table of subscribers holds the live ones and no others
abbrev pub TableIsLive : Type 0
TableIsLive = (s : Settings) (h : List Event) → (world_after s h).entities.subs ≡ live_subs (past_of s h)

-- so does that of publishers
abbrev pub PublishersAreLive : Type 0
PublishersAreLive = (s : Settings) (h : List Event) → (world_after s h).entities.pubs ≡ live_pubs (past_of s h)

-- and that of queryables
abbrev pub QueryablesAreLive : Type 0
QueryablesAreLive = (s : Settings) (h : List Event) → (world_after s h).entities.queryables ≡ live_queryables (past_of s h)

-- and that of queriers
abbrev pub QueriersAreLive : Type 0
QueriersAreLive = (s : Settings) (h : List Event) → (world_after s h).entities.queriers ≡ live_queriers (past_of s h)

-- and that of this session's tokens
abbrev pub TokensAreLive : Type 0
TokensAreLive = (s : Settings) (h : List Event) → (world_after s h).liveliness.tokens ≡ live_tokens (past_of s h)

-- and that of the subscribers to liveliness
abbrev pub LsubsAreLive : Type 0
LsubsAreLive = (s : Settings) (h : List Event) → (world_after s h).liveliness.subs ≡ live_lsubs (past_of s h)

-- the table of gets of tokens holds those that are open
abbrev pub AskingsAreTold : Type 0
AskingsAreTold = (s : Settings) (h : List Event) → (world_after s h).liveliness.gets ≡ asking_now s (past_of s h)

-- the table of told tokens has under each number the key that was told first of it and not ended since, and none else; they ascend
abbrev pub TokensAreTold : Type 0
TokensAreTold =
    (s : Settings) (h : List Event)
    → ((n : ℕ) → option_map (λ t. t.key.text) (find (λ t. t.number == n) (world_after s h).liveliness.remote_tokens) ≡ token_text s n (past_of s h))
    × Ascend (λ t. t.number) (world_after s h).liveliness.remote_tokens

-- open behind one more event are those that were open and that it does not end, and the one that it asks: so none that ended is open
-- again
abbrev pub AskingsGoOn : Type 0
AskingsGoOn =
    (s : Settings) (x : Entry) (past : List Entry)
    → asking_now s (x ∷ past)
    ≡ filter (λ g. not (ends_asking g x.event)) (asking_now s past) ++ tokens_asked s.default_timeout (moment_of past) (row_of x.event).to_liveliness x.number x.text

-- the live subscribers stand in ascending number, and so no number is there twice
abbrev pub SubscribersAscend : Type 0
SubscribersAscend = (s : Settings) (h : List Event) → Ascend (λ row. row.id) (live_subs (past_of s h))

-- the groups are the live entities of their kind that the network is told of and that share their text, each with the number
-- of the first that joined it since it was last empty
abbrev pub GroupsAreLive : Type 0
GroupsAreLive =
    (s : Settings) (h : List Event) (kind : GroupKind) (text : List ℕ)
    → (members_of text (groups_of kind (world_after s h).groups) ≡ group s kind text (past_of s h))
    × (number_of_group text (groups_of kind (world_after s h).groups) ≡ group_number s kind text (past_of s h))

-- the table of declared keys has the held numbers with their texts, and no others
abbrev pub KeysAreHeld : Type 0
KeysAreHeld =
    (s : Settings) (h : List Event) (n : ℕ) → option_map (λ key. key.text) (key_at n (world_after s h).keys.local_resources) ≡ held_text n (past_of s h)

-- each number is held as often as it was declared and not given back
abbrev pub HoldersAreCounted : Type 0
HoldersAreCounted = (s : Settings) (h : List Event) (n : ℕ) → holders_of n (world_after s h).keys.holders ≡ held_count n (past_of s h)

-- the table of told keys has each number with the text that was told last
abbrev pub KeysAreTold : Type 0
KeysAreTold =
    (s : Settings) (h : List Event) (n : ℕ) → option_map (λ key. key.text) (key_at n (world_after s h).keys.remote_resources) ≡ remote_text n (past_of s h)

-- the counters stand at the next numbers
abbrev pub CountersAreTold : Type 0
CountersAreTold =
    (s : Settings) (h : List Event)
    → ((world_after s h).counters.entity ≡ next_entity s (past_of s h)) × ((world_after s h).counters.key ≡ next_key s (past_of s h))

-- the table of gets holds those that are open, each with the sides that it waits for and what its replies make it keep
abbrev pub GetsAreTold : Type 0
GetsAreTold = (s : Settings) (h : List Event) → (world_after s h).asking.gets ≡ open_now s (past_of s h)

-- the counter of gets stands at the next number, and the moment is the greatest of all ticks
abbrev pub MomentsAreTold : Type 0
MomentsAreTold =
    (s : Settings) (h : List Event)
    → ((world_after s h).asking.next ≡ next_query s (past_of s h)) × ((world_after s h).asking.moment ≡ moment_of (past_of s h))

-- the table of query values holds those that are unfinished, each with its request and queryable, and its counters stand at how
-- many were drawn and how many requests met queryables
abbrev pub ValuesAreTold : Type 0
ValuesAreTold = (s : Settings) (h : List Event) → (world_after s h).handing ≡ handing_of (past_of s h)

-- a request from the network is sent its final where it meets nobody, or else when its last value is given back, and no other event
-- sends one
abbrev pub FinalsAreDue : Type 0
FinalsAreDue =
    (s : Settings) (h : List Event) (e : Event) → finals_among (messages_of (effects s h e).effects) ≡ finals_due s (past_of s h) e

-- the last value of a request is given back once where none of its values is unfinished, and never where one is
abbrev pub RequestsEndOnce : Type 0
RequestsEndOnce =
    (s : Settings) (h : List Event) (request : ℕ)
    → times_ended request (past_of s h) ≡ (if is_over request (past_of s h) then 1 else 0)

-- the counter of cancellation tokens stands at how many were drawn, and a token is among the taken ones where an event cancelled it
abbrev pub CancellationsAreTold : Type 0
CancellationsAreTold =
    (s : Settings) (h : List Event)
    → ((world_after s h).cancelling.next ≡ next_cancellation_token (past_of s h))
    × ((token : ℕ) → is_among (world_after s h).cancelling.taken token ≡ is_taken token (past_of s h))

-- no open get has a cancellation token that was taken: so a token that is cancelled again ends no get
abbrev pub TakenCancellationTokensEndNothing : Type 0
TakenCancellationTokensEndNothing =
    (s : Settings) (h : List Event) (token : ℕ)
    → is_taken token (past_of s h) ≡ true → ended_numbers (CancelledBy token) (open_now s (past_of s h)) ≡ []

-- a session is closed where an event closed it
abbrev pub ClosedIsTold : Type 0
ClosedIsTold = (s : Settings) (h : List Event) → (world_after s h).closed ≡ is_closed (past_of s h)

-- the text that an event's key stands for, by the tables, is the one that the events tell
abbrev pub TextsAreNamed : Type 0
TextsAreNamed = (s : Settings) (h : List Event) (e : Event) → text_for (world_after s h) e ≡ named_text (past_of s h) e

-- the number that an event answers, by the tables, is the one that the events tell
abbrev pub NumbersAreDrawn : Type 0
NumbersAreDrawn =
    (s : Settings) (h : List Event) (e : Event)
    → number_for (world_after s h) e ≡ drawn_number s (past_of s h) (row_of e).draws (named_text (past_of s h) e)

-- an accepted event is answered a number exactly where its row draws one
abbrev pub AnswersAreNumbered : Type 0
AnswersAreNumbered =
    (s : Settings) (h : List Event) (e : Event) (number : Option ℕ) → (effects s h e).answer ≡ accepted number → is_some number ≡ is_numbered (row_of e).draws

-- a held text that is declared again is answered the number that it has
abbrev pub HeldTextsKeepNumbers : Type 0
HeldTextsKeepNumbers =
    (s : Settings) (h : List Event) (n : ℕ) (text : List ℕ) (key : KeyArg)
    → held_text n (past_of s h) ≡ Some text → key_text (past_of s h) key ≡ Some text
    → (entry_of s (past_of s h) (Key key)).number ≡ Some n

-- a number that a declaration is answered and that is not held was never given before
abbrev pub KeyNumbersAreNew : Type 0
KeyNumbersAreNew =
    (s : Settings) (h : List Event) (n : ℕ) (key : KeyArg)
    → is_closed (past_of s h) ≡ false → (entry_of s (past_of s h) (Key key)).number ≡ Some n → is_held n (past_of s h) ≡ false
    → times_declared n (past_of s h) ≡ 0

-- the list of a number is the test of every live subscriber against the text that the number stands for
abbrev pub ListsAreTests : Type 0
ListsAreTests =
    (s : Settings) (h : List Event) (mapping : Mapping) (n : ℕ)
    → option_map (λ key. matches key.text (world_after s h).entities.subs) (key_at n (numbers_for mapping (world_after s h)))
    ≡ option_map (λ text. matches text (live_subs (past_of s h))) (mapped_text mapping n (past_of s h))

-- the refusal, by the tables, is the first in order whose cause the events tell
abbrev pub FirstCause : Type 0
FirstCause = (s : Settings) (h : List Event) (e : Event) → cause (world_after s h) e ≡ refusal_of s (past_of s h) e

-- the answer names a cause that holds, or there is none and none holds
abbrev pub Names : (Refusal → Bool) → Option Refusal → Type 0
Names test (Some refusal) = test refusal ≡ true
Names test None = (refusal : Refusal) → test refusal ≡ false

-- so an event is refused exactly where a cause holds, and for one that holds
abbrev pub RefusalsHaveCauses : Type 0
RefusalsHaveCauses = (s : Settings) (h : List Event) (e : Event) → Names (has_cause s (past_of s h) e) (cause (world_after s h) e)

-- each message that an event sends is read as the text of the event's key, or as the text that a group shares where it declares
-- one, or where it answers a query with an error as the text of the query's key, by a receiver of all that was sent before it
abbrev pub WireFormsAreRead : Type 0
WireFormsAreRead =
    (s : Settings) (h : List Event) (e : Event) → AreSpelled s → AreUtf8 (past_of s h) → IfSome (named_text (past_of s h) e) IsUtf8
    → AreReadAs s (spoken_text (past_of s h) e) (sent s h) (messages_of (effects s h e).effects)

-- no event sends more than one message
abbrev pub OneMessageAtMost : Type 0
OneMessageAtMost = (s : Settings) (h : List Event) (e : Event) → length (messages_of (effects s h e).effects) ≤ 1

-- each live subscriber that the network is told of has a key that a subscription includes which the session sent and did not end
abbrev pub SubscribersAreCovered : Type 0
SubscribersAreCovered =
    (s : Settings) (h : List Event) → AreSpelled s → AreUtf8 (past_of s h)
    → AllByRecursion (λ row. has_network row.origin ≡ true → IsCovered (sent s h) row.key.text) (live_subs (past_of s h))

-- the table of listeners holds the live ones
abbrev pub ListenersAreLive : Type 0
ListenersAreLive = (s : Settings) (h : List Event) → (world_after s h).matching.listeners ≡ live_listeners (past_of s h)

-- the tables of told subscribers and queryables hold those that were told last of their numbers and not ended, whatever is asked of any
-- of them
abbrev pub ToldAreLast : Type 0
ToldAreLast =
    (s : Settings) (h : List Event)
    → ((test : RemoteSubscriber → Bool) → list_any test (world_after s h).matching.remote_entities.subs ≡ list_any test (remote_subscribers (past_of s h)))
    × ((test : RemoteQueryable → Bool) → list_any test (world_after s h).matching.remote_entities.queryables ≡ list_any test (remote_queryables (past_of s h)))

-- each live listener was told last whether anyone matches, or nobody does and it was told nothing
abbrev pub ListenersKnow : Type 0
ListenersKnow = (s : Settings) (h : List Event) → AllByRecursion (λ row. last_told s row.id h ≡ is_matched (past_of s h) row) (live_listeners (past_of s h))

-- an event tells a listener that lives behind it just what changed: once, where whether anyone matches is another than it was told last,
-- and else nothing
abbrev pub ListenersHearChanges : Type 0
ListenersHearChanges =
    (s : Settings) (h : List Event) (e : Event)
    → AllByRecursion (λ row. told_to row.id (effects s h e).effects
    ≡ (if differ (last_told s row.id h) (is_matched (past_of s (e ∷ h)) row) then is_matched (past_of s (e ∷ h)) row ∷ [] else []))
    (live_listeners (past_of s (e ∷ h)))

-- and it tells nobody else
abbrev pub OthersHearNothing : Type 0
OthersHearNothing =
    (s : Settings) (h : List Event) (e : Event) (id : ℕ) → is_listener id (live_listeners (past_of s (e ∷ h))) ≡ false → told_to id (effects s h e).effects ≡ []
