-- What accepted events make of the tables. A change says it with the copies that it needs, and it names one area, but for the
-- close.
use Rattle.std.specs.Prelude.{◌≡◌, ◌≤◌, ℕ, length, Bool, ◌+◌, true, false, List, [], ◌∷◌, is_some, Option, Some, None, ◌≢◌, IsOk, if◌then◌else◌}
use Rattle.zs_keys.specs.Key.{undeclared}
use Rattle.zs_subscriptions.specs.Numbers.{NumberedKey, key_at, number_at, placed}
use Rattle.zs_entity_tables.specs.declared.declared_key.KeyHolders.{KeyHolders}
use Rattle.zs_events.specs.declared.event.Event.{Event}
use Rattle.zs_events.specs.declared.event.Event.TheVariants.{Key, UndeclareKey, Sub, Pub, Queryable, Querier, Undeclare, Background, Close, Net, Get, QuerierGet, Listen, CancelToken, Cancel, Tick, Reply as reply_event, Share, Finish, Token, Lsub, LivelinessGet}
use Rattle.zs_events.specs.declared.key_arg.KeyArg.TheVariants.{Number, Declared}
use Rattle.zs_wire.specs.declared.message.Message.{Message}
use Rattle.zs_wire.specs.declared.message.Message.TheVariants.{DeclareKeyExpr, Request as request_message, Response as response_message, ResponseFinal, DeclareToken as token_message, UndeclareToken as token_end_message, DeclareFinal, DeclareSubscriber, UndeclareSubscriber, DeclareQueryable, UndeclareQueryable}
pub use Rattle.zs_world.specs.declared.change.Change.{Change}
use Rattle.zs_world.specs.declared.change.Change.TheVariants.{Nothing, OfKeys, OfEntities, OfNetwork, OfGets, OfValues, OfCancellation, Shut, OfLiveliness, OfMatching}
use Rattle.zs_world.specs.declared.change.KeyChange.{KeyChange}
use Rattle.zs_world.specs.declared.change.KeyChange.TheVariants.{Declare, Hold, Release}
use Rattle.zs_world.specs.declared.change.EntityRow.{EntityRow}
use Rattle.zs_world.specs.declared.change.EntityRow.TheVariants.{Sub as new_sub, Pub as new_pub, Queryable as new_queryable, Querier as new_querier, Token as new_token, Lsub as new_lsub}
use Rattle.zs_world.specs.declared.change.EntityChange.TheVariants.{Add as AddEntity, End as EndEntity, Leave as LeaveEntity}
use Rattle.zs_world.specs.declared.change.NetworkChange.{NetworkChange}
use Rattle.zs_world.specs.declared.change.NetworkChange.TheVariants.{TellKey}
use Rattle.zs_world.specs.declared.change.LivelinessChange.TheVariants.{ForgetToken}
use Rattle.zs_world.specs.declared.change.MatchingChange.TheVariants.{ForgetSub, ForgetQueryable}
use Rattle.zs_world.specs.declared.change.ValueChange.{ValueChange}
use Rattle.zs_world.specs.declared.change.ValueChange.TheVariants.{HandOut, AskHere, ShareOf, GiveBack}
use Rattle.zs_world.specs.declared.change.CancellationChange.{CancellationChange}
use Rattle.zs_world.specs.declared.change.CancellationChange.TheVariants.{Draw, Take as TakeCancellationToken}
use Rattle.zs_world.specs.declared.change.GetChange.{GetChange}
use Rattle.zs_world.specs.declared.change.GetChange.TheVariants.{Ask, Take, Final, Advance}
use Rattle.zs_wire.specs.declared.request.ConsolidationMode.TheVariants.{Auto}
use Rattle.zs_wire.specs.declared.response.Answered.{Answered}
use Rattle.zs_wire.specs.declared.response.Answered.TheVariants.{Reply, Err as Error}
use Rattle.zs_wire.specs.declared.response.Response.{Response}
use Rattle.zs_query.specs.GetTable.{Asking, with_asked, with_reply, with_final, with_local_final, at_moment, all_ended}
use Rattle.zs_query.specs.RequestTable.{Handing, with_handed, with_shared, with_finished}
use Rattle.zs_query.specs.Unfinished.{value_at, finished}
use Rattle.zs_query.specs.Asked.{waits}
use Rattle.zs_query.specs.declared.get_row.GetRow.{GetRow}
use Rattle.zs_query.specs.Types.{QueryValue, RequestRow, Finished, Unknown, MoreLeft, Last}
use Rattle.zs_wire.specs.declared.body.Body.{Body}
use Rattle.zs_wire.specs.declared.request.Request.{Request}
use Rattle.zs_sample.specs.Reply.{Replied}
use Rattle.zs_model.specs.Answers.{local_reply}
use Rattle.zs_model.specs.Values.{met_by_get, met_by_request, get_request, network_request, last_value, lacks_values}
use Rattle.zs_events.specs.Kinds.{Question, response_key, parent_kind_of}
use Rattle.zs_events.specs.declared.inquiry.Inquiry.{Inquiry}
use Rattle.zs_events.specs.declared.publication.ReplyQuality.{ReplyQuality}
use Rattle.zs_events.specs.Updates.{body_of}
use Rattle.zs_model.specs.Questions.{row_waiting}
use Rattle.zs_model.specs.Gets.{sample_reply}
use Rattle.zs_model.specs.Settings.{last_query, last_key}
use Rattle.zs_model.specs.Counters.{is_spent}
use Rattle.zs_model.specs.Publishers.{pub_on}
use Rattle.zs_model.specs.declared.querier.QuerierRow.{QuerierRow}
use Rattle.zs_model.specs.Queriers.{querier_on, querier_at, question_of}
use Rattle.zs_model.specs.Cancelling.{last_cancellation_token}
use Rattle.zs_world.specs.CancellationChanges.{cancelling_after, asking_cancelled}
use Rattle.zs_model.specs.Groups.{no_groups}
use Rattle.zs_model.specs.Liveliness.{shut_liveliness}
use Rattle.zs_world.specs.LivelinessChanges.{asking_change, remote_token_change, answered_change, liveliness_after, liveliness_by, liveliness_cancelled, next_behind, LivelinessFits}
use Rattle.zs_model.specs.Listeners.{listening}
use Rattle.zs_entity_tables.specs.MatchingTables.{shut_matching}
use Rattle.zs_world.specs.MatchingChanges.{listen_change, remote_subscriber_change, remote_queryable_change, matching_after}
use Rattle.zs_world.specs.EntityChanges.{next_entity_after, entities_after, groups_after, asking_left, liveliness_declared, matching_declared, EntitiesFit}
use Rattle.zs_world.specs.World.{World}
use Rattle.zs_world.specs.Keys.{key_of, wire_of, text_of}
use Rattle.zs_entity_tables.specs.DeclaredKeys.{raised, lowered, local_resources_left}

-- a declared text is held once more, or else it draws the next number
abbrev pub key_change_by : World → List ℕ → Option ℕ → Change
key_change_by w text (Some number) = OfKeys (Hold number)
key_change_by w text None = OfKeys (Declare w.counters.key (undeclared text))

abbrev pub key_change : World → Option (List ℕ) → Change
key_change w None = Nothing
key_change w (Some text) = key_change_by w text (number_at text w.keys.local_resources)

-- an entity that is declared on a key, by its row for the text of that
abbrev pub added : (List ℕ → EntityRow) → Option (List ℕ) → Change
added row None = Nothing
added row (Some text) = OfEntities (AddEntity (row text))

-- what the network tells of a number
abbrev pub tell_change : ℕ → Option (List ℕ) → Change
tell_change number None = Nothing
tell_change number (Some text) = OfNetwork (TellKey number (undeclared text))

-- what a response changes: an error changes nothing
abbrev pub response_change : Response → Answered → Option (List ℕ) → Change
response_change response (Reply body) None = Nothing
response_change response (Reply body) (Some text) = OfGets (Take response.rid (sample_reply text response body))
response_change response (Error value) text = Nothing

-- a get is asked, and its request is handed to the queryables that it meets
abbrev pub ask_change : GetRow → RequestRow → List ℕ → Change
ask_change row request [] = OfGets (Ask row)
ask_change row request (q ∷ met) = OfValues (AskHere row request (q ∷ met))

-- on the key of this text
abbrev pub get_change : World → Question → Option (List ℕ) → Change
get_change w q None = Nothing
get_change w q (Some text) =
    ask_change (row_waiting w.settings.default_timeout w.asking.moment w.asking.next text q (met_by_get w.entities.queryables q text))
    (get_request w.asking.next text q) (met_by_get w.entities.queryables q text)

-- a get of a querier, where that is live
abbrev pub querier_get_change : World → Inquiry → Option QuerierRow → Change
querier_get_change w q None = Nothing
querier_get_change w q (Some row) = get_change w (question_of row q) (Some row.key.text)

-- a request from the network on the key of this text
abbrev pub request_change : World → Request → Option (List ℕ) → Change
request_change w request None = Nothing
request_change w request (Some text) = OfValues (HandOut (network_request text request) (met_by_request w.entities.queryables request text))

-- a reply reaches a get of this session
abbrev pub replied_change : Bool → ℕ → Replied → Change
replied_change true rid reply = OfGets (Take rid reply)
replied_change false rid reply = Nothing

-- a reply to a query value: it changes a get of this session
abbrev pub answer_change : ℕ → ReplyQuality → Body → Option QueryValue → Option (List ℕ) → Change
answer_change zid quality body None text = Nothing
answer_change zid quality body (Some v) None = Nothing
answer_change zid quality body (Some v) (Some text) =
    replied_change v.row.local v.row.rid (local_reply zid v.queryable v.row quality body text)

-- what an accepted message changes
abbrev pub message_change : World → Message → Change
message_change w (DeclareKeyExpr number wire) = tell_change number (wire_of w wire)
message_change w (request_message request) = request_change w request (wire_of w request.wire)
message_change w (response_message response) = response_change response response.answered (text_of w (response_key response.answered response.wire))
message_change w (ResponseFinal rid) = OfGets (Final rid)
message_change w (token_message id wire interest) = remote_token_change w.liveliness.gets id interest (wire_of w wire)
message_change w (token_end_message id wire interest) = OfLiveliness (ForgetToken id)
message_change w (DeclareSubscriber id wire) = remote_subscriber_change id (wire_of w wire)
message_change w (UndeclareSubscriber id) = OfMatching (ForgetSub id)
message_change w (DeclareQueryable id complete wire) = remote_queryable_change id complete (wire_of w wire)
message_change w (UndeclareQueryable id) = OfMatching (ForgetQueryable id)
message_change w (DeclareFinal interest) = answered_change interest
message_change w message = Nothing

-- what an accepted event changes
abbrev pub change_for : World → Event → Change
change_for w (Key key) = key_change w (key_of w key)
change_for w (UndeclareKey (Number number suffix)) = OfKeys (Release number)
change_for w (UndeclareKey (Declared text number prefix_len)) = OfKeys (Release number)
change_for w (Sub origin key to) = added (λ text. new_sub (record { id = w.counters.entity; origin = origin; key = undeclared text })) (key_of w key)
change_for w (Pub key settings) = added (λ text. new_pub (pub_on w.counters.entity key settings text)) (key_of w key)
change_for w (Queryable origin complete key) =
    added (λ text. new_queryable (record { id = w.counters.entity; origin = origin; complete = complete; key = undeclared text })) (key_of w key)
change_for w (Querier key settings) = added (λ text. new_querier (querier_on w.counters.entity key settings text)) (key_of w key)
change_for w (Listen parent id) = listen_change (listening w.entities.pubs w.entities.queriers w.counters.entity (parent_kind_of parent) id)
change_for w (Token key) = OfEntities (AddEntity (new_token w.counters.entity))
change_for w (Lsub history key) = added (λ text. new_lsub (record { id = w.counters.entity; history = history; key = undeclared text })) (key_of w key)
change_for w (Undeclare kind id) = OfEntities (EndEntity kind id)
change_for w (Background kind id) = OfEntities (LeaveEntity kind id)
change_for w (LivelinessGet key timeout token to) = asking_change w.settings.default_timeout w.asking.moment w.counters.entity timeout token (key_of w key)
change_for w (Get key settings inquiry to) = get_change w (record { settings = settings; inquiry = inquiry; querier = None }) (key_of w key)
change_for w (QuerierGet id inquiry to) = querier_get_change w inquiry (querier_at id w.entities.queriers)
change_for w CancelToken = OfCancellation Draw
change_for w (Cancel token) = OfCancellation (TakeCancellationToken token)
change_for w (reply_event value key update quality) =
    answer_change w.settings.zid quality (body_of [] update) (value_at value w.handing.values) (key_of w key)
change_for w (Share value) = OfValues (ShareOf value)
change_for w (Finish value) = OfValues (GiveBack value)
change_for w (Tick now) = OfGets (Advance now)
change_for w Close = Shut
change_for w (Net message) = message_change w message
change_for w e = Nothing

-- the next key number behind a change of the declared keys
abbrev pub next_key_after : KeyChange → ℕ → ℕ
next_key_after (Declare number key) next = next + 1
next_key_after change next = next

-- the numbers that stand for a declared key, given how many held each before
abbrev pub local_resources_after : KeyChange → List KeyHolders → List NumberedKey → List NumberedKey
local_resources_after (Declare number key) holders rows = placed (record { number = number; key = key }) rows
local_resources_after (Hold number) holders rows = rows
local_resources_after (Release number) holders rows = local_resources_left number holders rows

-- how many hold each number
abbrev pub holders_after : KeyChange → List KeyHolders → List KeyHolders
holders_after (Declare number key) rows = raised number rows
holders_after (Hold number) rows = raised number rows
holders_after (Release number) rows = lowered number rows

-- the numbers that the network told
abbrev pub remote_resources_after : NetworkChange → List NumberedKey → List NumberedKey
remote_resources_after (TellKey number key) rows = placed (record { number = number; key = key }) rows

-- the gets, with the counter of their numbers and the moment
abbrev pub asking_after : GetChange → Asking → Asking
asking_after (Ask row) a = with_asked row a
asking_after (Take number reply) a = with_reply number reply a
asking_after (Final number) a = with_final number a
asking_after (Advance moment) a = at_moment moment a

-- the query values
abbrev pub handing_after : ValueChange → Handing → Handing
handing_after (HandOut row met) h = with_handed row met h
handing_after (AskHere get row met) h = with_handed row met h
handing_after (ShareOf value) h = with_shared value h
handing_after (GiveBack value) h = with_finished value h

-- the gets behind a change of query values: the last value of a get's request gives it this session's final
abbrev pub with_ended : Finished → Asking → Asking
with_ended Unknown a = a
with_ended MoreLeft a = a
with_ended (Last row) a = if row.local then with_local_final row.rid a else a

abbrev pub asking_beside : ValueChange → List QueryValue → Asking → Asking
asking_beside (HandOut row met) values a = a
asking_beside (AskHere get row met) values a = with_asked get a
asking_beside (ShareOf value) values a = a
asking_beside (GiveBack value) values a = with_ended (finished (value_at value values) values) a

-- a world with a change made
abbrev pub with_change : Change → World → World
with_change Nothing w = w
with_change (OfKeys change) w = record w {
  counters = record w.counters { key = next_key_after change w.counters.key };
  keys = record w.keys {
    local_resources = local_resources_after change w.keys.holders w.keys.local_resources;
    holders = holders_after change w.keys.holders;
  };
}
with_change (OfEntities change) w = record w {
  counters = record w.counters { entity = next_entity_after change w.counters.entity };
  entities = entities_after change w.entities;
  groups = groups_after w.settings w.entities change w.groups;
  asking = asking_left change w.asking;
  liveliness = liveliness_declared change w.liveliness;
  matching = matching_declared change w.matching;
}
with_change (OfNetwork change) w = record w { keys = record w.keys { remote_resources = remote_resources_after change w.keys.remote_resources } }
with_change (OfGets change) w = record w { asking = asking_after change w.asking; liveliness = liveliness_by change w.liveliness }
with_change (OfLiveliness change) w = record w {
  counters = record w.counters { entity = next_behind change w.counters.entity };
  liveliness = liveliness_after change w.liveliness;
}
with_change (OfMatching change) w = record w { matching = matching_after change w.matching }
with_change (OfValues change) w = record w {
  asking = asking_beside change w.handing.values w.asking;
  handing = handing_after change w.handing;
}
with_change (OfCancellation change) w = record w {
  asking = asking_cancelled change w.asking;
  liveliness = liveliness_cancelled change w.liveliness;
  cancelling = cancelling_after change w.cancelling;
}
with_change Shut w = record w {
  closed = true;
  entities = record w.entities { subs = []; pubs = []; queryables = []; queriers = [] };
  keys = record w.keys { local_resources = []; holders = [] };
  groups = no_groups;
  asking = all_ended w.asking;
  liveliness = shut_liveliness w.liveliness;
  matching = shut_matching w.matching;
}

-- what a change takes for granted: a number that it draws is the next one, and is there; a number that it names stands for a key
abbrev pub KeysFit : World → KeyChange → Type 0
KeysFit w (Declare number key) =
    (number ≡ w.counters.key) × (is_spent last_key w.counters.key ≡ false) × (number_at key.text w.keys.local_resources ≡ None)
KeysFit w (Hold number) = is_some (key_at number w.keys.local_resources) ≡ true
KeysFit w (Release number) = is_some (key_at number w.keys.local_resources) ≡ true

abbrev pub GetsFit : World → GetChange → Type 0
GetsFit w (Ask row) = (row.number ≡ w.asking.next) × (is_spent last_query w.asking.next ≡ false) × (row.mode ≢ Auto)
GetsFit w (Take number reply) = IsOk reply.result
GetsFit w (Final number) = Unit {0}
GetsFit w (Advance moment) = Unit {0}

-- there are numbers left for values that are drawn
abbrev pub HasRoom : World → List ℕ → Type 0
HasRoom w met = lacks_values w.handing.next met ≡ false

abbrev pub ValuesFit : World → ValueChange → Type 0
ValuesFit w (HandOut row met) = HasRoom w met
ValuesFit w (AskHere get row met) =
    (get.number ≡ w.asking.next) × (is_spent last_query w.asking.next ≡ false) × (get.mode ≢ Auto) × (waits get ≡ true) × (w.handing.next + length met ≤ last_value)
ValuesFit w (ShareOf value) = is_spent last_value w.handing.next ≡ false
ValuesFit w (GiveBack value) = Unit {0}

abbrev pub CancellationFits : World → CancellationChange → Type 0
CancellationFits w Draw = is_spent last_cancellation_token w.cancelling.next ≡ false
CancellationFits w (TakeCancellationToken token) = Unit {0}

abbrev pub Fits : World → Change → Type 0
Fits w (OfKeys change) = KeysFit w change
Fits w (OfEntities change) = EntitiesFit w.counters.entity change
Fits w (OfGets change) = GetsFit w change
Fits w (OfLiveliness change) = LivelinessFits w.counters.entity change
Fits w (OfValues change) = ValuesFit w change
Fits w (OfCancellation change) = CancellationFits w change
Fits w change = Unit {0}
