-- What an event brings about stands in its order.
use Rattle.std.proofs.Common.{◌≡◌, ◌≤◌, ℕ, List, [], ◌∷◌, ◌++◌, Bool, true, false, Option, Some, None, refl, arith, map}
use Rattle.std.specs.Prelude.{◌==◌, ◌&&◌, not, filter, is_some, if◌then◌else◌}
use Rattle.std.specs.List.{AllByRecursion, find, flat_map}
use Rattle.zs_sample.specs.Reply.{Replied}
use Rattle.zs_wire.specs.declared.body.Body.{Body}
use Rattle.zs_wire.specs.declared.body.Value.{Value}
use Rattle.zs_wire.specs.declared.message.Message.{Message}
use Rattle.zs_wire.specs.declared.message.Message.TheVariants.{Request as request_message, Response as response_message, ResponseFinal}
use Rattle.zs_wire.specs.declared.response.Answered.{Answered}
use Rattle.zs_wire.specs.declared.response.Answered.TheVariants.{Reply, Err as Error}
use Rattle.zs_wire.specs.declared.response.Response.{Response}
use Rattle.zs_wire.specs.declared.sample_kind.SampleKind.{SampleKind}
use Rattle.zs_wire.specs.declared.sample_kind.SampleKind.TheVariants.{Put as put_kind, Delete as delete_kind}
use Rattle.zs_wire.specs.declared.wire_expr.WireExpr.{WireExpr}
use Rattle.zs_tables.specs.Liveliness.{met_keys, hearers}
use Rattle.zs_tables.specs.LivelinessGets.{is_asking, over_at, numbers_with}
use Rattle.zs_tables.specs.MatchingLaws.{differ}
use Rattle.zs_subscriptions.specs.Recipients.{has_network}
use Rattle.zs_tables.specs.declared.listener.ListenerRow.{ListenerRow}
use Rattle.zs_tables.specs.Types.{LivelinessGet as TokensGet, LivelinessSub, RemoteToken}
use Rattle.zs_tables.specs.declared.queryable.QueryableRow.{QueryableRow}
use Rattle.zs_subscriptions.specs.declared.subscriber.SubRow.{SubRow}
use Rattle.zs_query.specs.declared.open_get.OpenGet.{OpenGet}
use Rattle.zs_query.specs.declared.outcome.Outcome.{Outcome}
use Rattle.zs_query.specs.declared.outcome.Outcome.TheVariants as outcome
use Rattle.zs_query.specs.declared.outcome.Peek.{Peek}
use Rattle.zs_query.specs.declared.outcome.Peek.TheVariants as peek
use Rattle.zs_query.specs.Types.{QueryValue, Finished, Unknown, MoreLeft, Last}
use Rattle.zs_query.specs.declared.side.Side.TheVariants.{Local, Network}
use Rattle.zs_query.specs.Asked.{QuerierEnds, CancelledBy}
use Rattle.zs_query.specs.Gets.{get_at, peek_at, final_outcome, ends_at, timeout_error}
use Rattle.zs_query.specs.Unfinished.{value_at, finished}
use Rattle.zs_query.proofs.Ascending.{all_append, all_weaker}
use Rattle.zs_events.specs.declared.event.Event.{Event}
use Rattle.zs_events.specs.declared.event.Event.TheVariants.{Undeclare, Close, Net, Get, QuerierGet, Cancel, Tick, Reply as reply_event, ReplyErr, Finish, Share}
use Rattle.zs_events.specs.declared.entity_kind.EntityKind.TheVariants.{Sub as sub_kind, Queryable as queryable_sort, Querier as querier_sort, Lsub as lsub_sort}
use Rattle.zs_events.specs.declared.publication.ReplyQuality.{ReplyQuality}
use Rattle.zs_events.specs.declared.turn.Effect.{Effect}
use Rattle.zs_events.specs.declared.turn.Effect.TheVariants.{Send, Hand, End, Matching}
use Rattle.zs_events.specs.declared.turn.HandOver.TheVariants.{Sample as sample_for}
use Rattle.zs_events.specs.declared.turn.Kind.TheVariants.{Subscriber, Queryable as queryable_kind, LivelinessSubscriber, Listener as listener_kind}
use Rattle.zs_events.specs.declared.turn.Refusal.{Refusal}
use Rattle.zs_events.specs.Turn.{answered}
use Rattle.zs_events.specs.Kinds.{NamedKey, OwnKey, QuerierKey, Question, NoValue, Publishes, NoContent, OwnContent, ByPublisher, ToLiveliness, NoToken, Subscribes, AsksTokens, TellsToken, EndsToken, EndsAnswers, row_of}
use Rattle.zs_model.specs.declared.querier.QuerierRow.{QuerierRow}
use Rattle.zs_model.specs.Answers.{quality_of, local_reply, local_error, response_by}
use Rattle.zs_model.specs.Causes.{refusal_of}
use Rattle.zs_model.specs.Entry.{Entry, is_closed}
use Rattle.zs_model.specs.GetEffects.{hand_reply, hand_query, end_get, last_hands, reply_effects, response_effects, final_effects, ends_effects, ended_numbers, cut_effects, ask_effects, asked_effects, request_effects, told_effects, with_gets}
use Rattle.zs_model.specs.Gets.{sample_reply}
use Rattle.zs_model.specs.HeldKeys.{named_text}
use Rattle.zs_model.specs.Listeners.{is_listener, listener_ends}
use Rattle.zs_model.specs.Live.{live_listeners}
use Rattle.zs_model.specs.LivelinessEffects.{Watch, hand_token, hand_remote_token, hand_answer, end_asking, cancelled_ends, asking_ends, lsub_ends, token_hands, history_hands, declared_hands, answer_hands, ended_text, watch_effects}
use Rattle.zs_model.specs.Matching.{is_matched, turned, listener_effects}
use Rattle.zs_model.specs.Past.{past_of, entry_of}
use Rattle.zs_model.specs.Publications.{Publication, sample_on, allows}
use Rattle.zs_model.specs.Publishers.{resolved}
use Rattle.zs_model.specs.Queriers.{querier_at, question_of, asks_of}
use Rattle.zs_model.specs.Queryables.{queryable_ends}
use Rattle.zs_model.specs.Questions.{request_of}
use Rattle.zs_model.specs.Sends.{full_wire, wire_form, declaration_of, sends_of}
use Rattle.zs_model.specs.Subscribers.{sub_ends}
use Rattle.zs_model.specs.Tokens.{answers, is_remote_token}
use Rattle.zs_model.specs.Values.{drawn_by}
use Rattle.zs_model.specs.ValueEffects.{Answering, requested_effects, replied_effects, answer_effects, answer_error_effects, finish_effects}
use Rattle.zs_model.specs.Effects.{Known, known_of, answering, draws_of, entity_sends, hands_of, hands_for, publication_on, ends_of, effects_on, effects_behind}
use Rattle.zs_laws.specs.Order.{place, AreInOrder, EffectsAreInOrder}
use Rattle.zs_laws.proofs.Around.{others_of, sends_around, entity_around}

-- effects in order, whose places are these
pub record AreWithin (low high : ℕ) (fx : List Effect) : Type 0 where
  pub ordered : AreInOrder fx
  pub from : AllByRecursion (λ (x : Effect). low ≤ place x) fx
  pub upto : AllByRecursion (λ (x : Effect). place x ≤ high) fx

none_within : (low high : ℕ) → AreWithin low high []
none_within low high = record { ordered = tt; from = tt; upto = tt }

wider : (low high a b : ℕ) (fx : List Effect) → a ≤ low → high ≤ b → AreWithin low high fx → AreWithin a b fx
wider low high a b fx down up within = record {
  ordered = within.ordered;
  from = all_weaker (λ (x : Effect). low ≤ place x) (λ (x : Effect). a ≤ place x) (λ x le. omega (arith, le, down)) fx within.from;
  upto = all_weaker (λ (x : Effect). place x ≤ high) (λ (x : Effect). place x ≤ b) (λ x le. omega (arith, le, up)) fx within.upto;
}

-- one list behind another one
ordered_append : (m : ℕ) (xs ys : List Effect) → AreInOrder xs → AreInOrder ys → AllByRecursion (λ (x : Effect). place x ≤ m) xs → AllByRecursion (λ (y : Effect). m ≤ place y) ys → AreInOrder (xs ++ ys)
ordered_append m [] ys a b upto from = b
ordered_append m (x ∷ xs) ys a b upto from = (
  all_append (λ (y : Effect). place x ≤ place y) xs ys a.0 (all_weaker (λ (y : Effect). m ≤ place y) (λ (y : Effect). place x ≤ place y) (λ y le. omega (arith, le, upto.0)) ys from),
  ordered_append m xs ys a.1 b upto.1 from,
)

-- the places of the second are at or behind those of the first
joined : (a b c d : ℕ) (xs ys : List Effect) → b ≤ c → a ≤ c → b ≤ d → AreWithin a b xs → AreWithin c d ys → AreWithin a d (xs ++ ys)
joined a b c d xs ys between low high front back = record {
  ordered =
      ordered_append b xs ys front.ordered back.ordered front.upto
      (all_weaker (λ (y : Effect). c ≤ place y) (λ (y : Effect). b ≤ place y) (λ y le. omega (arith, le, between)) ys back.from);
  from = all_append (λ (x : Effect). a ≤ place x) xs ys front.from (all_weaker (λ (y : Effect). c ≤ place y) (λ (y : Effect). a ≤ place y) (λ y le. omega (arith, le, low)) ys back.from);
  upto = all_append (λ (x : Effect). place x ≤ d) xs ys (all_weaker (λ (x : Effect). place x ≤ b) (λ (x : Effect). place x ≤ d) (λ x le. omega (arith, le, high)) xs front.upto) back.upto;
}

-- all at one place
level : (n : ℕ) (fx : List Effect) → AllByRecursion (λ (x : Effect). place x ≡ n) fx → AreWithin n n fx
level n [] all = none_within n n
level n (x ∷ fx) all =
    let rest = level n fx all.1 in
    record {
      ordered = (all_weaker (λ (y : Effect). place y ≡ n) (λ (y : Effect). place x ≤ place y) (λ y same. omega (arith, same, all.0)) fx all.1, rest.ordered);
      from = (omega (arith, all.0), rest.from);
      upto = (omega (arith, all.0), rest.upto);
    }

mapped : {X : Type 0} (n : ℕ) (f : X → Effect) → ((x : X) → place (f x) ≡ n) → (xs : List X) → AreWithin n n (map f xs)
mapped {X} n f at xs = level n (map f xs) (all xs)
  where
    all : (xs : List X) → AllByRecursion (λ (x : Effect). place x ≡ n) (map f xs)
    all [] = tt
    all (x ∷ xs) = (at x, all xs)

one : (n : ℕ) (x : Effect) → place x ≡ n → AreWithin n n (x ∷ [])
one n x at = level n (x ∷ []) (at, tt)

if_one : (n : ℕ) (b : Bool) (x : Effect) → place x ≡ n → AreWithin n n (if b then x ∷ [] else [])
if_one n true x at = one n x at
if_one n false x at = none_within n n

-- samples of a publication
published : (rows : List SubRow) (text : Option (List ℕ)) (p : Publishes) → AreWithin 1 1 (hands_for rows (publication_on text p))
published rows text NoContent = none_within 1 1
published rows None (OwnContent c) = none_within 1 1
published rows (Some text) (OwnContent c) =
    let p : Publication = record { local = c.local; destination = c.destination; sample = sample_on text c } in
    mapped 1 (λ (row : SubRow). Hand (sample_for Subscriber row.id p.sample)) (λ row. refl) (filter (allows p) rows)
published rows None (ByPublisher id c) = none_within 1 1
published rows (Some text) (ByPublisher id c) = none_within 1 1

-- ends of entities
ends_within : (known : Known) (e : Event) → AreWithin 3 5 (ends_of known.queryables known.subs known.watch.subs e)
ends_within known (Undeclare sub_kind id) = wider 4 4 3 5 _ (omega arith) (omega arith) (one 4 (End Subscriber id) refl)
ends_within known (Undeclare queryable_sort id) = wider 3 3 3 5 _ (omega arith) (omega arith) (one 3 (End queryable_kind id) refl)
ends_within known (Undeclare lsub_sort id) = wider 5 5 3 5 _ (omega arith) (omega arith) (one 5 (End LivelinessSubscriber id) refl)
ends_within known Close =
    joined 3 4 5 5 (queryable_ends known.queryables ++ sub_ends known.subs) (lsub_ends known.watch.subs) (omega arith) (omega arith) (omega arith)
    (joined 3 3 4 4 (queryable_ends known.queryables) (sub_ends known.subs) (omega arith) (omega arith) (omega arith)
    (mapped 3 (λ (row : QueryableRow). End queryable_kind row.id) (λ row. refl) known.queryables) (mapped 4 (λ (row : SubRow). End Subscriber row.id) (λ row. refl) known.subs))
    (mapped 5 (λ (row : LivelinessSub). End LivelinessSubscriber row.id) (λ row. refl) known.watch.subs)
ends_within known e = none_within 3 5

-- what is told of liveliness
tokens_within : (kind : SampleKind) (before : Bool) (text : Option (List ℕ)) (subs : List LivelinessSub) → AreWithin 1 7 (token_hands kind before text subs)
tokens_within kind before None subs = none_within 1 7
tokens_within kind before (Some text) subs = wider 1 1 1 7 _ (omega arith) (omega arith) (mapped 1 (hand_token kind text) (λ id. refl) (hearers before text subs))

history_within : (history : Bool) (number : Option ℕ) (text : Option (List ℕ)) (tokens : List RemoteToken) → AreWithin 1 7 (history_hands history number text tokens)
history_within true (Some id) (Some text) tokens = wider 1 1 1 7 _ (omega arith) (omega arith) (mapped 1 (hand_remote_token id) (λ key. refl) (met_keys text tokens))
history_within true (Some id) None tokens = none_within 1 7
history_within true None text tokens = none_within 1 7
history_within false number text tokens = none_within 1 7

answer_within : (interest : Option ℕ) (text : Option (List ℕ)) → AreWithin 1 7 (answer_hands interest text)
answer_within (Some n) (Some text) = wider 2 2 1 7 _ (omega arith) (omega arith) (one 2 _ refl)
answer_within (Some n) None = none_within 1 7
answer_within None text = none_within 1 7

told_within : (watch : Watch) (id : ℕ) (interest : Option ℕ) (text : Option (List ℕ)) → AreWithin 1 7 (declared_hands watch id interest text)
told_within watch id interest text = go (is_remote_token id watch.remote_tokens)
  where
    go : (b : Bool) → AreWithin 1 7 (if b then [] else token_hands put_kind (is_some interest) text watch.subs)
    go true = none_within 1 7
    go false = tokens_within put_kind (is_some interest) text watch.subs

watch_within : (watch : Watch) (number : Option ℕ) (text : Option (List ℕ)) (to : ToLiveliness) (ends : List Effect) → AreWithin 3 5 ends → AreWithin 1 7 (watch_effects watch number text to ends)
watch_within watch number text NoToken ends within = wider 3 5 1 7 ends (omega arith) (omega arith) within
watch_within watch number text (Subscribes history) ends within = history_within history number text watch.remote_tokens
watch_within watch number text (AsksTokens timeout token) ends within = none_within 1 7
watch_within watch number text (TellsToken id interest) ends within = go (answers interest watch.gets)
  where
    go : (b : Bool) → AreWithin 1 7 (if b then answer_hands interest text else declared_hands watch id interest text)
    go true = answer_within interest text
    go false = told_within watch id interest text
watch_within watch number text (EndsToken id interest) ends within = tokens_within delete_kind (is_some interest) (ended_text (find (λ t. t.number == id) watch.remote_tokens) text) watch.subs
watch_within watch number text (EndsAnswers None) ends within = none_within 1 7
watch_within watch number text (EndsAnswers (Some n)) ends within = wider 7 7 1 7 _ (omega arith) (omega arith) (if_one 7 (is_asking n watch.gets) (end_asking n) refl)

-- all that stands beside gets and query values, where what is told of liveliness stands so
others_within : (high : ℕ) (known : Known) (number : Option ℕ) (text : Option (List ℕ)) (e : Event) → 1 ≤ high
    → AreWithin 1 high (watch_effects known.watch number text (row_of e).to_liveliness (ends_of known.queryables known.subs known.watch.subs e)) → AreWithin 0 high (others_of known number text e)
others_within high known number text e some last =
    joined 0 1 1 high (sends_of known.keys known.pubs number text e ++ entity_sends known e number text ++ hands_of known.subs known.pubs text e) _ (omega arith) (omega arith) some
    (joined 0 0 1 1 (sends_of known.keys known.pubs number text e ++ entity_sends known e number text) (hands_of known.subs known.pubs text e) (omega arith) (omega arith) (omega arith)
    (joined 0 0 0 0 (sends_of known.keys known.pubs number text e) (entity_sends known e number text) (omega arith) (omega arith) (omega arith)
    (level 0 (sends_of known.keys known.pubs number text e) (sends_around (λ x. place x ≡ 0) (λ m. refl) known number text e))
    (level 0 (entity_sends known e number text) (entity_around (λ x. place x ≡ 0) (λ m. refl) known number text e)))
    (published known.subs text (resolved known.pubs (row_of e).publishes)))
    last

all_others : (known : Known) (number : Option ℕ) (text : Option (List ℕ)) (e : Event) → AreWithin 0 7 (others_of known number text e)
all_others known number text e =
    others_within 7 known number text e (omega arith)
    (watch_within known.watch number text (row_of e).to_liveliness (ends_of known.queryables known.subs known.watch.subs e) (ends_within known e))

-- what gets are told
reply_within : (p : Peek) (number : ℕ) (reply : Replied) → AreWithin 0 7 (reply_effects p number reply)
reply_within peek.Handed number reply = wider 1 1 0 7 _ (omega arith) (omega arith) (one 1 (hand_reply number reply) refl)
reply_within peek.Unknown number reply = none_within 0 7
reply_within peek.Unmatched number reply = none_within 0 7
reply_within peek.Kept number reply = none_within 0 7
reply_within peek.Dropped number reply = none_within 0 7

final_within : (number : ℕ) (out : Outcome) → AreWithin 0 7 (final_effects number out)
final_within number (outcome.Ended replies) =
    wider 1 6 0 7 (map (hand_reply number) replies ++ end_get number ∷ []) (omega arith) (omega arith)
    (joined 1 1 6 6 (map (hand_reply number) replies) (end_get number ∷ []) (omega arith) (omega arith) (omega arith)
    (mapped 1 (hand_reply number) (λ r. refl) replies) (one 6 (end_get number) refl))
final_within number outcome.Counted = none_within 0 7
final_within number outcome.Unknown = none_within 0 7
final_within number outcome.Unmatched = none_within 0 7
final_within number outcome.Kept = none_within 0 7
final_within number outcome.Dropped = none_within 0 7
final_within number (outcome.Handed reply) = none_within 0 7
final_within number outcome.Repeated = none_within 0 7

response_within : (gets : List OpenGet) (response : Response) (answered : Answered) (text : Option (List ℕ)) → AreWithin 0 7 (response_effects gets response answered text)
response_within gets response (Reply body) None = none_within 0 7
response_within gets response (Reply body) (Some text) = reply_within (peek_at (get_at response.rid gets) (sample_reply text response body)) response.rid (sample_reply text response body)
response_within gets response (Error value) text = wider 1 1 0 7 _ (omega arith) (omega arith) (one 1 _ refl)

sent_alone : (m : Message) → AreWithin 0 7 (Send m ∷ [])
sent_alone m = wider 0 0 0 7 _ (omega arith) (omega arith) (one 0 (Send m) refl)

answered_within : (a : Answering) (key : NamedKey) (o : Option QueryValue) (quality : ReplyQuality) (body : Body) (text : Option (List ℕ)) → AreWithin 0 7 (answer_effects a key o quality body text)
answered_within a key None quality body text = none_within 0 7
answered_within a key (Some v) quality body None = none_within 0 7
answered_within a key (Some v) quality body (Some text) = go v.row.local
  where
    go : (b : Bool)
        → AreWithin 0 7 (if b then replied_effects a.gets v.row.rid (local_reply a.zid v.queryable v.row quality body text)
        else Send (response_message (response_by a.zid v.queryable v.row.rid (wire_form a.keys text (declaration_of a.keys text key)) (quality_of quality v.row.qos) (Reply body))) ∷ [])
    go true = reply_within (peek_at (get_at v.row.rid a.gets) (local_reply a.zid v.queryable v.row quality body text)) v.row.rid (local_reply a.zid v.queryable v.row quality body text)
    go false = sent_alone _

error_within : (a : Answering) (o : Option QueryValue) (error : Value) → AreWithin 0 7 (answer_error_effects a o error)
error_within a None error = none_within 0 7
error_within a (Some v) error = go v.row.local (is_some (get_at v.row.rid a.gets))
  where
    go : (b o : Bool)
        → AreWithin 0 7 (if b then if o then hand_reply v.row.rid (local_error a.zid v.queryable error) ∷ [] else []
        else Send (response_message (response_by a.zid v.queryable v.row.rid (full_wire v.row.key.text) v.row.qos (Error error))) ∷ [])
    go true true = wider 1 1 0 7 _ (omega arith) (omega arith) (one 1 _ refl)
    go true false = none_within 0 7
    go false o = sent_alone _

finish_within : (gets : List OpenGet) (f : Finished) → AreWithin 0 7 (finish_effects gets f)
finish_within gets Unknown = none_within 0 7
finish_within gets MoreLeft = none_within 0 7
finish_within gets (Last row) = go row.local
  where
    go : (b : Bool) → AreWithin 0 7 (if b then final_effects row.rid (final_outcome Local (get_at row.rid gets)) else Send (ResponseFinal row.rid) ∷ [])
    go true = final_within row.rid (final_outcome Local (get_at row.rid gets))
    go false = sent_alone _

queries_within : (values : List QueryValue) → AreWithin 1 1 (map hand_query values)
queries_within values = mapped 1 hand_query (λ v. refl) values

requested_within : (rid : ℕ) (drawn : List QueryValue) → AreWithin 0 7 (requested_effects rid drawn)
requested_within rid [] = sent_alone (ResponseFinal rid)
requested_within rid (v ∷ drawn) = wider 1 1 0 7 (map hand_query (v ∷ drawn)) (omega arith) (omega arith) (queries_within (v ∷ drawn))

asking_within : (default : ℕ) (wire : WireExpr) (number : ℕ) (q : Question) (values : List QueryValue) → AreWithin 0 7 (ask_effects default wire number q values)
asking_within default wire number q [] = go (has_network q.settings.destination)
  where
    go : (b : Bool) → AreWithin 0 7 (if b then Send (request_message (request_of default wire number q)) ∷ [] else end_get number ∷ [])
    go true = sent_alone _
    go false = wider 6 6 0 7 _ (omega arith) (omega arith) (one 6 (end_get number) refl)
asking_within default wire number q (v ∷ values) =
    joined 0 0 1 7 (if has_network q.settings.destination then Send (request_message (request_of default wire number q)) ∷ [] else []) (map hand_query (v ∷ values)) (omega arith) (omega arith) (omega arith)
    (if_one 0 (has_network q.settings.destination) (Send (request_message (request_of default wire number q))) refl) (wider 1 1 1 7 (map hand_query (v ∷ values)) (omega arith) (omega arith) (queries_within (v ∷ values)))

asked_within : (known : Known) (key : NamedKey) (values : List QueryValue) (number : Option ℕ) (text : Option (List ℕ)) (q : Question)
    → AreWithin 0 7 (asked_effects known.timeout known.keys key values number text q)
asked_within known key values None text q = none_within 0 7
asked_within known key values (Some number) None q = none_within 0 7
asked_within known key values (Some number) (Some text) q = asking_within known.timeout (wire_form known.keys text (declaration_of known.keys text key)) number q values

last_within : (ends : List (ℕ × List Replied)) → AreWithin 1 1 (flat_map last_hands ends)
last_within [] = none_within 1 1
last_within (end ∷ ends) =
    joined 1 1 1 1 (last_hands end) (flat_map last_hands ends) (omega arith) (omega arith) (omega arith) (mapped 1 (hand_reply end.0) (λ r. refl) end.1) (last_within ends)

moment_within : (ends : List (ℕ × List Replied)) (over : List ℕ) → AreWithin 0 7 (ends_effects ends over)
moment_within ends over =
    let first = flat_map last_hands ends in
    let timeouts = map (hand_answer timeout_error) over in
    let gets = map end_get (map (λ (end : ℕ × List Replied). end.0) ends) in
    wider 1 7 0 7 (ends_effects ends over) (omega arith) (omega arith)
    (joined 1 6 7 7 (first ++ timeouts ++ gets) (map end_asking over) (omega arith) (omega arith) (omega arith)
    (joined 1 2 6 6 (first ++ timeouts) gets (omega arith) (omega arith) (omega arith)
    (joined 1 1 2 2 first timeouts (omega arith) (omega arith) (omega arith) (last_within ends) (mapped 2 (hand_answer timeout_error) (λ n. refl) over))
    (mapped 6 end_get (λ n. refl) (map (λ (end : ℕ × List Replied). end.0) ends)))
    (mapped 7 end_asking (λ n. refl) over))

gets_within : (gets asking : List ℕ) → AreWithin 6 7 (map end_get gets ++ map end_asking asking)
gets_within gets asking =
    joined 6 6 7 7 (map end_get gets) (map end_asking asking) (omega arith) (omega arith) (omega arith) (mapped 6 end_get (λ n. refl) gets) (mapped 7 end_asking (λ n. refl) asking)

all_within : (known : Known) (number : Option ℕ) (text : Option (List ℕ)) (e : Event) → AreWithin 0 7 (effects_on known number text e)
all_within known number text (Get key settings inquiry to) =
    asked_within known (OwnKey key) (draws_of known number text (Get key settings inquiry to)) number text (record { settings = settings; inquiry = inquiry; querier = None })
all_within known number text (QuerierGet id inquiry to) = go (querier_at id known.queriers)
  where
    go : (o : Option QuerierRow)
        → AreWithin 0 7 (with_gets (asks_of inquiry o) [] (request_effects known.timeout known.keys (QuerierKey id) (drawn_by known.queryables known.handing (asks_of inquiry o) NoValue number text) number text (asks_of inquiry o))
        (told_effects known.gets known.watch.gets text (asks_of inquiry o)))
    go None = none_within 0 7
    go (Some row) = asked_within known (QuerierKey id) (drawn_by known.queryables known.handing (asks_of inquiry (Some row)) NoValue number text) number text (question_of row inquiry)
all_within known number text (Undeclare querier_sort id) =
    joined 0 1 6 7 (others_of known number text (Undeclare querier_sort id)) (cut_effects (QuerierEnds id) known.gets) (omega arith) (omega arith) (omega arith)
    (others_within 1 known number text (Undeclare querier_sort id) (omega arith) (none_within 1 1))
    (wider 6 6 6 7 (cut_effects (QuerierEnds id) known.gets) (omega arith) (omega arith) (mapped 6 end_get (λ n. refl) (ended_numbers (QuerierEnds id) known.gets)))
all_within known number text (Cancel token) =
    wider 6 7 0 7 (cut_effects (CancelledBy token) known.gets ++ cancelled_ends token known.watch.gets) (omega arith) (omega arith)
    (gets_within (ended_numbers (CancelledBy token) known.gets) (numbers_with token known.watch.gets))
all_within known number text (Tick moment) = moment_within (ends_at moment known.gets) (over_at moment known.watch.gets)
all_within known number text Close =
    joined 0 5 6 7 (others_of known number text Close) (map end_get (map (λ (g : OpenGet). g.row.number) known.gets) ++ asking_ends known.watch.gets) (omega arith) (omega arith) (omega arith)
    (others_within 5 known number text Close (omega arith) (wider 3 5 1 5 (ends_of known.queryables known.subs known.watch.subs Close) (omega arith) (omega arith) (ends_within known Close)))
    (gets_within (map (λ (g : OpenGet). g.row.number) known.gets) (map (λ (g : TokensGet). g.number) known.watch.gets))
all_within known number text (reply_event value key update quality) = answered_within (answering known) (OwnKey key) (value_at value known.handing.values) quality _ text
all_within known number text (ReplyErr value error) = error_within (answering known) (value_at value known.handing.values) _
all_within known number text (Finish value) = finish_within known.gets (finished (value_at value known.handing.values) known.handing.values)
all_within known number text (Share value) = none_within 0 7
all_within known number text (Net (request_message request)) = requested_within request.rid (draws_of known number text (Net (request_message request)))
all_within known number text (Net (response_message response)) = response_within known.gets response response.answered text
all_within known number text (Net (ResponseFinal rid)) = final_within rid (final_outcome Network (get_at rid known.gets))
all_within known number text e = all_others known number text e

-- what listeners hear
heard_within : (past : List Entry) (x : Entry) → AreWithin 8 9 (listener_effects past x)
heard_within past x =
    let gone : ListenerRow → Bool = λ row. not (is_listener row.id (live_listeners (x ∷ past))) in
    let before : ListenerRow → Bool = λ row. is_listener row.id (live_listeners past) && is_matched past row in
    let after : ListenerRow → Bool = is_matched (x ∷ past) in
    joined 8 8 9 9 (listener_ends (filter gone (live_listeners past))) (turned before after (live_listeners (x ∷ past))) (omega arith) (omega arith) (omega arith)
    (mapped 8 (λ (row : ListenerRow). End listener_kind row.id) (λ row. refl) (filter gone (live_listeners past)))
    (mapped 9 (λ (row : ListenerRow). Matching row.id (after row)) (λ row. refl) (filter (λ row. differ (before row) (after row)) (live_listeners (x ∷ past))))

pub effects_are_in_order : EffectsAreInOrder
effects_are_in_order s h e = go (is_closed (past_of s h)) (refusal_of s (past_of s h) e)
  where
    x : Entry
    x = entry_of s (past_of s h) e

    go : (b : Bool) (o : Option Refusal) → AreInOrder (if b then answered o None [] else answered o (entry_of s (past_of s h) e).number (effects_behind s (past_of s h) e)).effects
    go true (Some refusal) = tt
    go true None = tt
    go false (Some refusal) = tt
    go false None =
        (joined 0 7 8 9 (effects_on (known_of s (past_of s h)) x.number (named_text (past_of s h) e) e) (listener_effects (past_of s h) x) (omega arith) (omega arith) (omega arith)
        (all_within (known_of s (past_of s h)) x.number (named_text (past_of s h) e) e) (heard_within (past_of s h) x)).ordered
