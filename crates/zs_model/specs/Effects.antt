-- What an event is answered and brings about, told by the events alone.
use Rattle.std.specs.Prelude.{ℕ, List, [], ◌∷◌, ◌++◌, Option, Some, None, option_map, if◌then◌else◌, Bool, true, false}
use Rattle.zs_subscriptions.specs.declared.subscriber.SubRow.{SubRow}
use Rattle.zs_tables.specs.declared.queryable.QueryableRow.{QueryableRow}
use Rattle.zs_events.specs.declared.event.Event.{Event}
use Rattle.zs_events.specs.declared.event.Event.TheVariants.{Sub, Pub, Queryable, Querier, Undeclare, Close, Token, Lsub, LivelinessGet}
use Rattle.zs_model.specs.declared.settings.Settings.{Settings}
use Rattle.zs_events.specs.declared.turn.Effect.{Effect}
use Rattle.zs_events.specs.declared.turn.Effect.TheVariants.{End, Send}
use Rattle.zs_events.specs.declared.turn.Turn.{Turn}
use Rattle.zs_events.specs.Turn.{answered}
use Rattle.zs_events.specs.Kinds.{Publishes, NoContent, OwnContent, ByPublisher, ToGets, row_of}
use Rattle.zs_model.specs.Entry.{Entry, is_closed}
use Rattle.zs_model.specs.HeldKeys.{held_text, held_count, held_number, named_text}
use Rattle.zs_model.specs.Live.{live_subs, live_pubs, live_queryables, live_queriers, live_lsubs}
use Rattle.zs_events.specs.declared.entity_kind.EntityKind.{EntityKind}
use Rattle.zs_events.specs.declared.entity_kind.EntityKind.TheVariants.{Sub as sub_kind, Pub as pub_kind, Queryable as queryable_sort, Querier as querier_sort, Listener as listener_sort, Token as token_sort, Lsub as lsub_sort}
use Rattle.zs_events.specs.declared.turn.Kind.TheVariants.{Subscriber, Queryable as queryable_kind, LivelinessSubscriber}
use Rattle.zs_model.specs.declared.publisher.PubRow.{PubRow}
use Rattle.zs_events.specs.declared.key_arg.KeyArg.{KeyArg}
use Rattle.zs_wire.specs.declared.wire_expr.WireExpr.{WireExpr}
use Rattle.zs_wire.specs.declared.message.Message.TheVariants.{DeclareSubscriber, DeclareQueryable, UndeclareQueryable, Interest, DeclareToken, UndeclareToken}
use Rattle.zs_wire.specs.declared.interest.InterestMode.TheVariants.{CurrentFuture, Current, Future, Final}
use Rattle.zs_wire.specs.declared.interest.InterestWhat.TheVariants.{Subscribers as of_subscribers, Queryables as of_queryables, Tokens as of_tokens}
use Rattle.zs_wire.specs.declared.message.Message.{Message}
use Rattle.zs_wire.specs.declared.interest.InterestMode.{InterestMode}
use Rattle.zs_subscriptions.specs.Recipients.{has_network}
use Rattle.zs_tables.specs.Types.{GroupKind, Subscribers, Publishers, Queriers, LivelinessSub}
use Rattle.zs_model.specs.Subscribers.{sub_at, sub_ends}
use Rattle.zs_model.specs.Groups.{Company, company_of, sub_shared, pub_shared, querier_shared, joins_first, sends_if, leaving, subscriber_end, interest_end, querier_end}
use Rattle.zs_model.specs.Publishers.{pub_at, resolved}
use Rattle.zs_model.specs.Queryables.{queryable_at, queryable_ends}
use Rattle.zs_model.specs.declared.querier.QuerierRow.{QuerierRow}
use Rattle.zs_model.specs.Queriers.{querier_at, querier_declaration, to_gets_by}
use Rattle.zs_model.specs.Gets.{open_now}
use Rattle.zs_model.specs.Tokens.{remote_tokens, asking_now}
use Rattle.zs_model.specs.LivelinessEffects.{Watch, watch_effects, lsub_ends}
use Rattle.zs_model.specs.GetEffects.{request_effects, told_effects, with_gets}
use Rattle.zs_query.specs.declared.open_get.OpenGet.{OpenGet}
use Rattle.zs_query.specs.Types.{QueryValue}
use Rattle.zs_query.specs.RequestTable.{Handing}
use Rattle.zs_model.specs.Values.{drawn_by, handing_of}
use Rattle.zs_model.specs.ValueEffects.{Answering, value_effects, with_values}
use Rattle.zs_model.specs.Publications.{Publication, sample_on, hands}
use Rattle.zs_model.specs.Sends.{OwnKeys, wire_form, group_wire, declared_by, prefix_declaration, sends_of}
use Rattle.zs_model.specs.Matching.{listener_effects}
use Rattle.zs_model.specs.Causes.{refusal_of}
use Rattle.zs_model.specs.Past.{entry_of, past_of}

-- a publication on the text of a key
abbrev pub publication_on : Option (List ℕ) → Publishes → Option Publication
publication_on text NoContent = None
publication_on None (OwnContent c) = None
publication_on (Some text) (OwnContent c) = Some (record {
  local = c.local;
  destination = c.destination;
  sample = sample_on text c;
})
publication_on text (ByPublisher id c) = None

-- the publication that an event is, given the live publishers and the text of its key
abbrev pub publication_of : List PubRow → Option (List ℕ) → Event → Option Publication
publication_of pubs text e = publication_on text (resolved pubs (row_of e).publishes)

-- what a publication brings about where these subscribers are live
abbrev pub hands_for : List SubRow → Option Publication → List Effect
hands_for rows None = []
hands_for rows (Some p) = hands p rows

-- what an accepted event hands out, and which ends it tells
abbrev pub hands_of : List SubRow → List PubRow → Option (List ℕ) → Event → List Effect
hands_of rows pubs text e = hands_for rows (publication_of pubs text e)

-- an undeclared entity's handler is called no more, if it has one; what an event ends of listeners comes behind all else
abbrev pub undeclared_ends : EntityKind → ℕ → List Effect
undeclared_ends sub_kind id = End Subscriber id ∷ []
undeclared_ends pub_kind id = []
undeclared_ends queryable_sort id = End queryable_kind id ∷ []
undeclared_ends querier_sort id = []
undeclared_ends token_sort id = []
undeclared_ends lsub_sort id = End LivelinessSubscriber id ∷ []
undeclared_ends listener_sort id = []

abbrev pub ends_of : List QueryableRow → List SubRow → List LivelinessSub → Event → List Effect
ends_of queryables rows lsubs (Undeclare kind id) = undeclared_ends kind id
ends_of queryables rows lsubs Close = queryable_ends queryables ++ sub_ends rows ++ lsub_ends lsubs
ends_of queryables rows lsubs e = []

-- what effects are read off: the keys that this session declared, the live subscribers, publishers, queryables and queriers, the groups of
-- each kind, how long a get waits that doesn't say it, the open gets, what is known of liveliness, the session's identifier, and the
-- query values
pub record Known : Type 0 where
  pub keys : OwnKeys
  pub subs : List SubRow
  pub pubs : List PubRow
  pub queryables : List QueryableRow
  pub queriers : List QuerierRow
  pub company : GroupKind → Company
  pub timeout : ℕ
  pub gets : List OpenGet
  pub watch : Watch
  pub zid : ℕ
  pub handing : Handing

-- the form of an application's key in a message
abbrev pub key_wire : OwnKeys → List ℕ → KeyArg → WireExpr
key_wire k text key = wire_form k text (declared_by k text key)

-- what is sent where a queryable ends, if it is there: its end, where the network was told of it
abbrev pub queryable_leaves : Option QueryableRow → List Effect
queryable_leaves None = []
queryable_leaves (Some row) = sends_if (has_network row.origin) (UndeclareQueryable row.id)

-- what is sent of liveliness where it is declared, given the message of a number and a key
abbrev pub declared_sends : (ℕ → WireExpr → Message) → OwnKeys → Option ℕ → Option (List ℕ) → KeyArg → List Effect
declared_sends message k (Some id) (Some text) key = Send (message id (key_wire k text key)) ∷ []
declared_sends message k None text key = []
declared_sends message k (Some id) None key = []

-- what a subscriber to liveliness asks of tokens, and a get of them: those that stand, those that come, or both
abbrev pub lsub_mode : Bool → InterestMode
lsub_mode true = CurrentFuture
lsub_mode false = Future

abbrev pub token_interest : InterestMode → ℕ → WireExpr → Message
token_interest mode id wire = Interest id mode of_tokens (Some wire)

-- a token's declaration
abbrev pub token_declaration : ℕ → WireExpr → Message
token_declaration id wire = DeclareToken id wire None

-- what is sent where an entity is declared and where it ends. Subscribers, publishers and queriers join the group of their text and leave it:
-- the declaration of a group that had no members is sent, and the end of one that has none left. A queryable has a declaration of
-- its own, where the network is in its origin, and so has each token; a subscriber to liveliness and a get of tokens ask the network
abbrev pub entity_sends : Known → Event → Option ℕ → Option (List ℕ) → List Effect
entity_sends known (Sub origin key to) (Some id) (Some text) =
    sends_if (joins_first (known.company Subscribers) (record { id = id; is_announced = has_network origin; text = text }))
    (DeclareSubscriber id (group_wire (known.company Subscribers).aggregates text (key_wire known.keys text key)))
entity_sends known (Pub key settings) (Some id) (Some text) =
    sends_if (joins_first (known.company Publishers) (record { id = id; is_announced = has_network settings.destination; text = text }))
    (Interest id CurrentFuture of_subscribers (Some (group_wire (known.company Publishers).aggregates text (key_wire known.keys text key))))
entity_sends known (Undeclare sub_kind id) number text =
    leaving (known.company Subscribers) subscriber_end (option_map sub_shared (sub_at id known.subs))
entity_sends known (Undeclare pub_kind id) number text =
    leaving (known.company Publishers) interest_end (option_map pub_shared (pub_at id known.pubs))
entity_sends known (Queryable origin complete key) (Some id) (Some text) =
    sends_if (has_network origin) (DeclareQueryable id complete (key_wire known.keys text key))
entity_sends known (Undeclare queryable_sort id) number text = queryable_leaves (queryable_at id known.queryables)
entity_sends known (Querier key settings) (Some id) (Some text) =
    sends_if (joins_first (known.company Queriers) (record { id = id; is_announced = has_network settings.destination; text = text }))
    (Interest id CurrentFuture of_queryables (Some (key_wire known.keys text key)))
entity_sends known (Undeclare querier_sort id) number text =
    leaving (known.company Queriers) querier_end (option_map querier_shared (querier_at id known.queriers))
entity_sends known (Token key) number text = declared_sends token_declaration known.keys number text key
entity_sends known (Undeclare token_sort id) number text = Send (UndeclareToken id None None) ∷ []
entity_sends known (Lsub history key) number text = declared_sends (token_interest (lsub_mode history)) known.keys number text key
entity_sends known (Undeclare lsub_sort id) number text = Send (Interest id Final of_tokens None) ∷ []
entity_sends known (LivelinessGet key timeout token to) number text = declared_sends (token_interest Current) known.keys number text key
entity_sends known e number text = []

-- what an event is to gets
abbrev pub to_gets_for : Known → Event → ToGets
to_gets_for known e = to_gets_by known.queriers (row_of e).to_gets

-- the query values that an event draws, given the number that it is answered and the text of its key
abbrev pub draws_of : Known → Option ℕ → Option (List ℕ) → Event → List QueryValue
draws_of known number text e = drawn_by known.queryables known.handing (to_gets_for known e) (row_of e).to_values number text

-- what is known where query values are answered
abbrev pub answering : Known → Answering
answering known = record { zid = known.zid; keys = known.keys; gets = known.gets; values = known.handing.values }

-- what an accepted event brings about, given the number that it is answered and the text of its key: first what it sends, then
-- what it hands out, then what ends
abbrev pub effects_on : Known → Option ℕ → Option (List ℕ) → Event → List Effect
effects_on known number text e =
    with_gets (to_gets_for known e)
    (with_values (row_of e).to_values
    (sends_of known.keys known.pubs number text e ++ entity_sends known e number text ++ hands_of known.subs known.pubs text e
    ++ watch_effects known.watch number text (row_of e).to_liveliness (ends_of known.queryables known.subs known.watch.subs e))
    (value_effects (answering known) (row_of e).key (draws_of known number text e) text (row_of e).to_values))
    (request_effects known.timeout known.keys (row_of e).key (draws_of known number text e) number text (to_gets_for known e))
    (told_effects known.gets known.watch.gets text (to_gets_for known e))

-- what the past tells of declared keys
abbrev pub own_keys_of : Settings → List Entry → OwnKeys
own_keys_of s past = record {
  tag = s.tag;
  text_of = λ n. held_text n past;
  count_of = λ n. held_count n past;
  number_of = λ text. held_number text past;
  published = λ id. prefix_declaration s.tag (pub_at id (live_pubs past));
  queried = λ id. querier_declaration s.tag (querier_at id (live_queriers past));
}

abbrev pub known_of : Settings → List Entry → Known
known_of s past = record {
  keys = own_keys_of s past;
  subs = live_subs past;
  pubs = live_pubs past;
  queryables = live_queryables past;
  queriers = live_queriers past;
  company = λ kind. company_of s kind past;
  timeout = s.default_timeout;
  gets = open_now s past;
  watch = record { subs = live_lsubs past; remote_tokens = remote_tokens s past; gets = asking_now s past };
  zid = s.zid;
  handing = handing_of past;
}

-- all that an accepted event brings about behind these accepted events, what it means to listeners last
abbrev pub effects_behind : Settings → List Entry → Event → List Effect
effects_behind s past e =
    effects_on (known_of s past) (entry_of s past e).number (named_text past e) e ++ listener_effects past (entry_of s past e)

-- the answer and effects of an event behind these accepted events
abbrev pub turn_of : Settings → List Entry → Event → Turn
turn_of s past e =
    if is_closed past then answered (refusal_of s past e) None []
    else answered (refusal_of s past e) (entry_of s past e).number (effects_behind s past e)

-- the answer and effects of an event behind a history
abbrev pub effects : Settings → List Event → Event → Turn
effects s h e = turn_of s (past_of s h) e
