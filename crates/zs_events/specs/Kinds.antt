-- Each kind of event, said once: who says it, the key that it names, what it draws, whom it names and what it publishes, with the
-- texts in them. What is said of all events is read off these rows.
use Rattle.std.specs.Prelude.{ℕ, Bool, true, false, not, ◌==◌, ◌&&◌, List, [], ◌∷◌, length, Option, Some, None, encode_utf8_all, if◌then◌else◌}
use Rattle.zs_events.specs.declared.event.Event.{Event}
use Rattle.zs_events.specs.declared.event.Event.TheVariants.{Key, UndeclareKey, Sub, Pub, Undeclare, Background, Publish, PublishBy, Close, Net, Get, Tick, Queryable, Reply as reply_event, ReplyErr, Share, Finish, Querier, QuerierGet, CancelToken, Cancel, Listen, Status, Token, Lsub, LivelinessGet}
use Rattle.zs_events.specs.declared.entity_kind.EntityKind.{EntityKind}
use Rattle.zs_events.specs.declared.entity_kind.EntityKind.TheVariants.{Sub as sub_kind, Pub as pub_kind, Queryable as queryable_kind, Querier as querier_kind, Listener as listener_kind, Token as token_kind, Lsub as lsub_kind}
use Rattle.zs_events.specs.declared.entity_kind.BackgroundKind.{BackgroundKind}
use Rattle.zs_events.specs.declared.entity_kind.BackgroundKind.TheVariants.{Sub as background_sub, Queryable as background_queryable, Listener as background_listener, Lsub as background_lsub}
use Rattle.zs_events.specs.declared.entity_kind.ParentKind.{ParentKind}
use Rattle.zs_events.specs.declared.entity_kind.ParentKind.TheVariants.{Pub as pub_parent, Querier as querier_parent}
use Rattle.zs_events.specs.declared.key_arg.KeyArg.{KeyArg}
use Rattle.zs_events.specs.declared.key_arg.KeyArg.TheVariants.{Text, Number, Declared}
use Rattle.zs_events.specs.declared.turn.Kind.{Kind}
use Rattle.zs_events.specs.declared.turn.Kind.TheVariants.{Subscriber, Publisher, Queryable as kind_queryable, Querier as kind_querier, Listener as kind_listener, Token as kind_token, LivelinessSubscriber, Get as kind_get, LivelinessGet as kind_tokens}
use Rattle.zs_events.specs.declared.chan.Chan.{Chan}
use Rattle.zs_events.specs.declared.chan.Chan.TheVariants.{Print}
use Rattle.zs_events.specs.declared.inquiry.Inquiry.{Inquiry}
use Rattle.zs_events.specs.declared.inquiry.QuerySettings.{QuerySettings}
use Rattle.zs_events.specs.declared.publication.Content.{Content}
use Rattle.zs_events.specs.declared.publication.PublicationQuality.{PublicationQuality}
use Rattle.zs_events.specs.declared.publication.ReplyQuality.{ReplyQuality}
use Rattle.zs_events.specs.declared.update.Update.{Update}
use Rattle.zs_events.specs.Updates.{body_of, texts_by}
use Rattle.zs_sample.specs.Encoding.{encoding_of}
use Rattle.zs_sample.specs.declared.locality.Locality.{Locality}
use Rattle.zs_sample.specs.declared.locality.Locality.TheVariants.{Any}
use Rattle.zs_wire.specs.declared.body.Body.{Body}
use Rattle.zs_wire.specs.declared.body.Value.{Value}
use Rattle.zs_wire.specs.declared.message.Message.{Message}
use Rattle.zs_wire.specs.declared.message.Message.TheVariants.{DeclareKeyExpr, UndeclareKeyExpr, DeclareSubscriber, UndeclareSubscriber, DeclareQueryable, UndeclareQueryable, DeclareToken, UndeclareToken, DeclareFinal, Interest, Push as push_message, Request as request_message, Response as response_message, ResponseFinal, Close as close_message}
use Rattle.zs_wire.specs.declared.push.Push.{Push}
use Rattle.zs_wire.specs.declared.request.Request.{Request}
use Rattle.zs_wire.specs.declared.response.Answered.{Answered}
use Rattle.zs_wire.specs.declared.response.Answered.TheVariants.{Reply, Err as Error}
use Rattle.zs_wire.specs.declared.response.Response.{Response}
use Rattle.zs_wire.specs.declared.wire_expr.WireExpr.{WireExpr}

-- who says an event: the application, to an open session alone or at any time, or the network
pub data Speaker : Type 0 where
  Application : Speaker
  Anytime : Speaker
  Network : Speaker

-- the key that an event names: none, an application's, that of a publisher or a querier, or one from the network
pub data NamedKey : Type 0 where
  NoKey : NamedKey
  OwnKey : (key : KeyArg) → NamedKey
  PublisherKey : (id : ℕ) → NamedKey
  QuerierKey : (id : ℕ) → NamedKey
  WireKey : (wire : WireExpr) → NamedKey

-- what an event draws and is answered: no number, one of an entity, of a query, of a query value, of a cancellation token, or of a
-- key, unless the key has one; or, without drawing it, 1 or 0, as anyone matches what has this kind and number or nobody does
pub data Draws : Type 0 where
  NoNumber : Draws
  EntityNumber : Draws
  QueryNumber : Draws
  ValueNumber : Draws
  CancellationNumber : Draws
  KeyNumber : Draws
  StatusOf : (kind : Kind) (id : ℕ) → Draws

-- whether a number is answered
abbrev pub is_numbered : Draws → Bool
is_numbered NoNumber = false
is_numbered draws = true

-- an entity by its kind and number
pub record Named : Type 0 where
  pub kind : Kind
  pub id : ℕ

-- what an event publishes: nothing, content with qualities of its own, or an update with those of a publisher
pub data Publishes : Type 0 where
  NoContent : Publishes
  OwnContent : (content : Content) → Publishes
  ByPublisher : (id : ℕ) (update : Update) → Publishes

-- what a get asks, but for its key: how, and what, and the querier that asks, if one does
pub record Question : Type 0 where
  pub settings : QuerySettings
  pub inquiry : Inquiry
  pub querier : Option ℕ

-- what an event is to gets: nothing, a get, a get of a querier, a response to one, the network's final for one, a moment, the end of
-- those that a querier asked, of those that a cancellation token cancels, or of all
pub data ToGets : Type 0 where
  NoGet : ToGets
  Asks : (question : Question) → ToGets
  AsksBy : (id : ℕ) (inquiry : Inquiry) → ToGets
  Answers : (response : Response) → ToGets
  EndsSide : (number : ℕ) → ToGets
  Reaches : (moment : ℕ) → ToGets
  EndsQuerier : (id : ℕ) → ToGets
  Cancels : (token : ℕ) → ToGets
  EndsAll : ToGets

-- what an event does with query values: nothing, it hands them out for a request from the network, answers one, answers one with
-- an error, draws one more of the same query, or gives one back
pub data ToValues : Type 0 where
  NoValue : ToValues
  Requested : (request : Request) → ToValues
  AnswersBy : (value : ℕ) → (body : Body) → (quality : ReplyQuality) → ToValues
  AnswersError : (value : ℕ) → (error : Value) → ToValues
  SharesValue : (value : ℕ) → ToValues
  GivesBack : (value : ℕ) → ToValues

-- what an event is to those who want to know of liveliness: nothing, one more of them, who wants to hear also of the tokens that are
-- there, a get of tokens, a token that lives, one that lives no longer, or that a get has had all tokens
pub data ToLiveliness : Type 0 where
  NoToken : ToLiveliness
  Subscribes : (history : Bool) → ToLiveliness
  AsksTokens : (timeout : Option ℕ) (token : Option ℕ) → ToLiveliness
  TellsToken : (id : ℕ) (interest : Option ℕ) → ToLiveliness
  EndsToken : (id : ℕ) (interest : Option ℕ) → ToLiveliness
  EndsAnswers : (interest : Option ℕ) → ToLiveliness

-- the cancellation token with which an event asks, if it asks with one, by what it is to gets and to liveliness
abbrev pub asking_cancellation_token : ToGets → ToLiveliness → Option ℕ
asking_cancellation_token (Asks question) to = question.inquiry.cancellation_token
asking_cancellation_token (AsksBy id inquiry) to = inquiry.cancellation_token
asking_cancellation_token _ (AsksTokens timeout token) = token
asking_cancellation_token _ _ = None

-- and the one that an event names
abbrev pub cancellation_token_named : ToGets → ToLiveliness → Option ℕ
cancellation_token_named (Cancels token) to = Some token
cancellation_token_named to_gets to = asking_cancellation_token to_gets to

-- what the network tells of its subscribers and queryables: nothing, one under this number, in place of the one before it, or that the
-- one of this number is gone
pub data ToMatching : Type 0 where
  NoMatch : ToMatching
  TellsSub : (id : ℕ) → ToMatching
  EndsSub : (id : ℕ) → ToMatching
  TellsQueryable : (id : ℕ) (complete : Bool) → ToMatching
  EndsQueryable : (id : ℕ) → ToMatching

-- what an event is to entities: nothing, it declares one of this kind, it ends one, or it leaves one to itself
pub data ToEntities : Type 0 where
  NoEntity : ToEntities
  Declares : (kind : Kind) → ToEntities
  EndsEntity : (kind : Kind) (id : ℕ) → ToEntities
  LeavesEntity : (kind : Kind) (id : ℕ) → ToEntities

-- what is said of a kind of event
pub record Row : Type 0 where
  pub says : Speaker
  pub key : NamedKey
  pub draws : Draws
  pub names : Option Named
  -- it would tell what number 0 stands for
  pub tells_zero : Bool
  -- it gives back a key that is not a declared number by itself
  pub gives_part : Bool
  -- the number under which it says that its key's text is held
  pub claims : Option ℕ
  pub publishes : Publishes
  pub to_entities : ToEntities
  -- the kind of what is handed over, or told, under the number that it draws
  pub handled : Option Kind
  -- where that goes beside
  pub channel : Chan
  pub to_gets : ToGets
  pub to_values : ToValues
  pub to_liveliness : ToLiveliness
  pub to_matching : ToMatching
  -- its texts beside that of its key
  pub texts : List (List ℕ)

-- an event of which no more is said than who says it
abbrev pub said_by : Speaker → Row
said_by speaker = record {
  says = speaker;
  key = NoKey;
  draws = NoNumber;
  names = None;
  tells_zero = false;
  gives_part = false;
  claims = None;
  publishes = NoContent;
  to_entities = NoEntity;
  handled = None;
  channel = Print;
  to_gets = NoGet;
  to_values = NoValue;
  to_liveliness = NoToken;
  to_matching = NoMatch;
  texts = [];
}

-- a message from the network that names a key
abbrev pub told_on : WireExpr → Row
told_on wire = record (said_by Network) { key = WireKey wire }

-- no text
abbrev pub is_nothing : List ℕ → Bool
is_nothing [] = true
is_nothing (c ∷ text) = false

-- whether a declaration of this length is one of the whole text
abbrev pub is_all_of : List ℕ → ℕ → Bool
is_all_of text prefix_len = length (encode_utf8_all text) == prefix_len

-- a key argument that is a declared number and nothing behind it
abbrev pub is_whole : KeyArg → Bool
is_whole (Text text) = false
is_whole (Number number suffix) = is_nothing suffix
is_whole (Declared text number prefix_len) = is_all_of text prefix_len

-- the number under which a key argument says that its whole text is held
abbrev pub claim_of : KeyArg → Option ℕ
claim_of (Text text) = None
claim_of (Number number suffix) = None
claim_of (Declared text number prefix_len) = if is_all_of text prefix_len then Some number else None

-- the kind of what is undeclared, and of what is left to itself
abbrev pub kind_of : EntityKind → Kind
kind_of sub_kind = Subscriber
kind_of pub_kind = Publisher
kind_of queryable_kind = kind_queryable
kind_of querier_kind = kind_querier
kind_of listener_kind = kind_listener
kind_of token_kind = kind_token
kind_of lsub_kind = LivelinessSubscriber

abbrev pub background_kind_of : BackgroundKind → Kind
background_kind_of background_sub = Subscriber
background_kind_of background_queryable = kind_queryable
background_kind_of background_listener = kind_listener
background_kind_of background_lsub = LivelinessSubscriber

-- the kind of what a listener listens to
abbrev pub parent_kind_of : ParentKind → Kind
parent_kind_of pub_parent = Publisher
parent_kind_of querier_parent = kind_querier

-- what the end of an entity is to gets: a querier's gets end with it
abbrev pub gets_ended : EntityKind → ℕ → ToGets
gets_ended sub_kind id = NoGet
gets_ended pub_kind id = NoGet
gets_ended queryable_kind id = NoGet
gets_ended querier_kind id = EndsQuerier id
gets_ended listener_kind id = NoGet
gets_ended token_kind id = NoGet
gets_ended lsub_kind id = NoGet

-- a publication made here, and one that came in
abbrev pub local_content : Locality → Body → PublicationQuality → Content
local_content destination body quality = record {
  local = true;
  destination = destination;
  body = body;
  qos = quality.qos;
  reliable = quality.reliable;
}

abbrev pub incoming_content : Push → Content
incoming_content push = record { local = false; destination = Any; body = push.body; qos = push.qos; reliable = push.reliable }

-- a publisher's number and kind
abbrev pub publisher_named : ℕ → Option Named
publisher_named id = Some (record { kind = Publisher; id = id })

-- a querier's number and kind
abbrev pub querier_named : ℕ → Option Named
querier_named id = Some (record { kind = kind_querier; id = id })

-- the texts of a value, if there is one
abbrev pub value_texts : Option Value → List (List ℕ)
value_texts None = []
value_texts (Some value) = value.encoding ∷ []

-- the key from the network that there is, if there is one: no number and no text are none
abbrev pub is_blank : WireExpr → Bool
is_blank wire = wire.scope == 0 && is_nothing wire.suffix

abbrev pub wire_key : Option WireExpr → NamedKey
wire_key None = NoKey
wire_key (Some wire) = if is_blank wire then NoKey else WireKey wire

-- a response with a value names a key, one with an error doesn't
abbrev pub response_key : Answered → WireExpr → NamedKey
response_key (Reply body) wire = WireKey wire
response_key (Error value) wire = NoKey

-- and either has the text of its encoding
abbrev pub response_texts : Answered → List (List ℕ)
response_texts (Reply body) = body.encoding ∷ []
response_texts (Error value) = value.encoding ∷ []

-- the row of each message
abbrev pub message_row : Message → Row
message_row (DeclareKeyExpr number wire) = record (told_on wire) { tells_zero = number == 0 }
message_row (UndeclareKeyExpr number) = said_by Network
message_row (DeclareSubscriber id wire) = record (told_on wire) { to_matching = TellsSub id }
message_row (UndeclareSubscriber id) = record (said_by Network) { to_matching = EndsSub id }
message_row (DeclareQueryable id complete wire) = record (told_on wire) { to_matching = TellsQueryable id complete }
message_row (UndeclareQueryable id) = record (said_by Network) { to_matching = EndsQueryable id }
message_row (DeclareToken id wire interest) = record (told_on wire) { to_liveliness = TellsToken id interest }
message_row (UndeclareToken id wire interest) = record (said_by Network) { key = wire_key wire; to_liveliness = EndsToken id interest }
message_row (DeclareFinal interest) = record (said_by Network) { to_liveliness = EndsAnswers interest }
message_row (Interest id mode what wire) = said_by Network
message_row (push_message push) = record (told_on push.wire) {
  publishes = OwnContent (incoming_content push);
  texts = push.body.encoding ∷ [];
}
message_row (request_message request) = record (told_on request.wire) {
  to_values = Requested request;
  texts = request.parameters ∷ value_texts request.value;
}
message_row (response_message response) = record (said_by Network) {
  key = response_key response.answered response.wire;
  to_gets = Answers response;
  texts = response_texts response.answered;
}
message_row (ResponseFinal rid) = record (said_by Network) { to_gets = EndsSide rid }
message_row close_message = said_by Network

-- an application's declaration of an entity of this kind on a key
abbrev pub declared_on : Kind → KeyArg → Row
declared_on kind key = record (said_by Application) { key = OwnKey key; draws = EntityNumber; to_entities = Declares kind }

-- the row of each kind
abbrev pub row_of : Event → Row
row_of (Key key) = record (said_by Application) { key = OwnKey key; draws = KeyNumber }
row_of (UndeclareKey key) = record (said_by Application) { key = OwnKey key; gives_part = not (is_whole key); claims = claim_of key }
row_of (Sub origin key to) = record (declared_on Subscriber key) { handled = Some Subscriber; channel = to }
row_of (Pub key settings) = record (declared_on Publisher key) { texts = settings.encoding ∷ [] }
row_of (Queryable origin complete key) = record (declared_on kind_queryable key) { handled = Some kind_queryable }
row_of (Querier key settings) = declared_on kind_querier key
row_of (Listen parent id) = record (said_by Application) {
  draws = EntityNumber;
  names = Some (record { kind = parent_kind_of parent; id = id });
  to_entities = Declares kind_listener;
  handled = Some kind_listener;
}
row_of (Status parent id) = record (said_by Application) {
  draws = StatusOf (parent_kind_of parent) id;
  names = Some (record { kind = parent_kind_of parent; id = id });
}
row_of (Token key) = declared_on kind_token key
row_of (Lsub history key) = record (declared_on LivelinessSubscriber key) { handled = Some LivelinessSubscriber; to_liveliness = Subscribes history }
row_of (LivelinessGet key timeout token to) = record (said_by Application) {
  key = OwnKey key;
  draws = EntityNumber;
  handled = Some kind_tokens;
  channel = to;
  to_liveliness = AsksTokens timeout token;
}
row_of (Undeclare kind id) = record (said_by Anytime) {
  names = Some (record { kind = kind_of kind; id = id });
  to_entities = EndsEntity (kind_of kind) id;
  to_gets = gets_ended kind id;
}
row_of (Background kind id) = record (said_by Anytime) {
  names = Some (record { kind = background_kind_of kind; id = id });
  to_entities = LeavesEntity (background_kind_of kind) id;
}
row_of (Publish destination key update quality) = record (said_by Application) {
  key = OwnKey key;
  publishes = OwnContent (local_content destination (body_of [] update) quality);
  texts = texts_by update.body;
}
row_of (PublishBy id update) = record (said_by Application) {
  key = PublisherKey id;
  names = publisher_named id;
  publishes = ByPublisher id update;
  texts = texts_by update.body;
}
row_of CancelToken = record (said_by Application) { draws = CancellationNumber }
row_of (Cancel token) = record (said_by Anytime) { to_gets = Cancels token }
row_of (Get key settings inquiry to) = record (said_by Application) {
  key = OwnKey key;
  draws = QueryNumber;
  handled = Some kind_get;
  channel = to;
  to_gets = Asks (record { settings = settings; inquiry = inquiry; querier = None });
  texts = inquiry.parameters ∷ value_texts inquiry.value;
}
row_of (QuerierGet id inquiry to) = record (said_by Application) {
  key = QuerierKey id;
  draws = QueryNumber;
  names = querier_named id;
  handled = Some kind_get;
  channel = to;
  to_gets = AsksBy id inquiry;
  texts = inquiry.parameters ∷ value_texts inquiry.value;
}
row_of (reply_event value key update quality) = record (said_by Anytime) {
  key = OwnKey key;
  to_values = AnswersBy value (body_of [] update) quality;
  texts = texts_by update.body;
}
row_of (ReplyErr value error) = record (said_by Anytime) {
  to_values = AnswersError value (record error { encoding = encoding_of error.encoding });
  texts = error.encoding ∷ [];
}
row_of (Share value) = record (said_by Application) { draws = ValueNumber; to_values = SharesValue value }
row_of (Finish value) = record (said_by Anytime) { to_values = GivesBack value }
row_of (Tick now) = record (said_by Anytime) { to_gets = Reaches now }
row_of Close = record (said_by Anytime) { to_gets = EndsAll }
row_of (Net message) = message_row message
