-- The entities that effects name have numbers below the next one.
use Rattle.std.proofs.Common.{◌<◌, ◌+◌, ℕ, List, [], ◌∷◌, ◌++◌, Bool, true, false, Option, Some, None, map}
use Rattle.std.specs.Prelude.{filter, is_some, if◌then◌else◌}
use Rattle.std.specs.List.{AllByRecursion, flat_map}
use Rattle.std.specs.Option.{IfSome}
use Rattle.zs_sample.specs.Reply.{Replied}
use Rattle.zs_wire.specs.declared.body.Body.{Body}
use Rattle.zs_wire.specs.declared.body.Value.{Value}
use Rattle.zs_wire.specs.declared.message.Message.TheVariants.{Request as request_message, Response as response_message, ResponseFinal}
use Rattle.zs_wire.specs.declared.request.Request.{Request}
use Rattle.zs_wire.specs.declared.response.Answered.{Answered}
use Rattle.zs_wire.specs.declared.response.Answered.TheVariants.{Reply, Err as Error}
use Rattle.zs_wire.specs.declared.response.Response.{Response}
use Rattle.zs_wire.specs.declared.wire_expr.WireExpr.{WireExpr}
use Rattle.zs_tables.specs.LivelinessGets.{is_over, is_own, numbers_with, over_at}
use Rattle.zs_tables.specs.Queryables.{met, is_met}
use Rattle.zs_subscriptions.specs.Recipients.{has_network, has_session}
use Rattle.zs_tables.specs.Types.{LivelinessGet as TokensGet}
use Rattle.zs_tables.specs.declared.queryable.QueryableRow.{QueryableRow}
use Rattle.zs_subscriptions.proofs.Ascending.{all_map, all_filter}
use Rattle.zs_query.specs.declared.open_get.OpenGet.{OpenGet}
use Rattle.zs_query.specs.declared.outcome.Outcome.{Outcome}
use Rattle.zs_query.specs.declared.outcome.Outcome.TheVariants as outcome
use Rattle.zs_query.specs.declared.outcome.Peek.{Peek}
use Rattle.zs_query.specs.declared.outcome.Peek.TheVariants as peek
use Rattle.zs_query.specs.Types.{QueryValue, RequestRow, Finished, Unknown, MoreLeft, Last}
use Rattle.zs_query.specs.declared.side.Side.TheVariants.{Local, Network}
use Rattle.zs_query.specs.Asked.{QuerierEnds, CancelledBy}
use Rattle.zs_query.specs.Gets.{get_at, peek_at, final_outcome, ends_at, timeout_error}
use Rattle.zs_query.specs.Unfinished.{value_at, values_from, finished}
use Rattle.zs_query.proofs.Ascending.{all_append}
use Rattle.zs_events.specs.declared.event.Event.{Event}
use Rattle.zs_events.specs.declared.event.Event.TheVariants.{Undeclare, Close, Net, Get, QuerierGet, Cancel, Tick, Reply as reply_event, ReplyErr, Finish, Share}
use Rattle.zs_events.specs.declared.entity_kind.EntityKind.TheVariants.{Querier as querier_sort}
use Rattle.zs_events.specs.declared.publication.ReplyQuality.{ReplyQuality}
use Rattle.zs_events.specs.declared.turn.Effect.{Effect}
use Rattle.zs_events.specs.declared.turn.Effect.TheVariants.{Send}
use Rattle.zs_events.specs.Kinds.{NamedKey, OwnKey, QuerierKey, Question, NoGet, Asks, NoValue, Requested}
use Rattle.zs_model.specs.declared.querier.QuerierRow.{QuerierRow}
use Rattle.zs_model.specs.Answers.{quality_of, local_reply, local_error, response_by}
use Rattle.zs_model.specs.GetEffects.{hand_reply, hand_query, end_get, last_hands, reply_effects, response_effects, final_effects, ended_numbers, cut_effects, ask_effects, asked_effects, request_effects, told_effects, with_gets}
use Rattle.zs_model.specs.Gets.{sample_reply}
use Rattle.zs_model.specs.LivelinessEffects.{hand_answer, end_asking, cancelled_ends, asking_ends}
use Rattle.zs_model.specs.Queriers.{querier_at, question_of, asks_of}
use Rattle.zs_model.specs.Questions.{request_of}
use Rattle.zs_model.specs.Sends.{full_wire, wire_form, declaration_of}
use Rattle.zs_model.specs.Values.{drawn_by, get_request, network_request, met_by_get, met_by_request, wants_complete}
use Rattle.zs_model.specs.ValueEffects.{Answering, requested_effects, replied_effects, answer_effects, answer_error_effects, finish_effects}
use Rattle.zs_model.specs.Effects.{Known, answering, effects_on}
use Rattle.zs_laws.specs.Naming.{entity_named}
use Rattle.zs_laws.proofs.Around.{Around, others_of, others_around}

-- the entity that an effect is for, if it is for one, has a number below this one
abbrev pub IsBelow : ℕ → Effect → Type 0
IsBelow n x = IfSome (entity_named x) (λ id. id < n)

-- what an event brings about, where what it brings about beside is below, and the queryables and gets of tokens that it may name
pub record AreNear (n : ℕ) (known : Known) (e : Event) (number : Option ℕ) : Type 0 where
  pub around : Around known e number (IsBelow n)
  pub queryables : AllByRecursion (λ (row : QueryableRow). row.id < n) known.queryables
  pub asking : AllByRecursion (λ (g : TokensGet). g.number < n) known.watch.gets

values_near : (n first request : ℕ) (row : RequestRow) (met : List ℕ) → AllByRecursion (λ (q : ℕ). q < n) met → AllByRecursion (IsBelow n) (map hand_query (values_from first request row met))
values_near n first request row [] all = tt
values_near n first request row (q ∷ met) all = (all.0, values_near n (first + 1) request row met all.1)

met_near : (n : ℕ) (local complete : Bool) (text : List ℕ) (rows : List QueryableRow) → AllByRecursion (λ (row : QueryableRow). row.id < n) rows → AllByRecursion (λ (q : ℕ). q < n) (met local complete text rows)
met_near n local complete text rows all =
    all_map (λ (row : QueryableRow). row.id < n) (λ (q : ℕ). q < n) (λ (row : QueryableRow). row.id) (λ row less. less) (filter (is_met local complete text) rows)
    (all_filter (λ (row : QueryableRow). row.id < n) (is_met local complete text) rows all)

met_by_get_near : (n : ℕ) (rows : List QueryableRow) (q : Question) (text : List ℕ) → AllByRecursion (λ (row : QueryableRow). row.id < n) rows → AllByRecursion (λ (q : ℕ). q < n) (met_by_get rows q text)
met_by_get_near n rows q text all = go (has_session q.settings.destination)
  where
    go : (b : Bool) → AllByRecursion (λ (q : ℕ). q < n) (if b then met true (wants_complete q.settings.target) text rows else [])
    go true = met_near n true (wants_complete q.settings.target) text rows all
    go false = tt

ends_near : (n : ℕ) (ns : List ℕ) → AllByRecursion (IsBelow n) (map end_get ns)
ends_near n [] = tt
ends_near n (m ∷ ns) = (tt, ends_near n ns)

replies_near : (n number : ℕ) (replies : List Replied) → AllByRecursion (IsBelow n) (map (hand_reply number) replies)
replies_near n number [] = tt
replies_near n number (reply ∷ replies) = (tt, replies_near n number replies)

asking_near : (n : ℕ) (ns : List ℕ) → AllByRecursion (λ (m : ℕ). m < n) ns → AllByRecursion (IsBelow n) (map end_asking ns)
asking_near n [] all = tt
asking_near n (m ∷ ns) all = (all.0, asking_near n ns all.1)

timeouts_near : (n : ℕ) (reply : Replied) (ns : List ℕ) → AllByRecursion (λ (m : ℕ). m < n) ns → AllByRecursion (IsBelow n) (map (hand_answer reply) ns)
timeouts_near n reply [] all = tt
timeouts_near n reply (m ∷ ns) all = (all.0, timeouts_near n reply ns all.1)

last_near : (n : ℕ) (ends : List (ℕ × List Replied)) → AllByRecursion (IsBelow n) (flat_map last_hands ends)
last_near n [] = tt
last_near n (end ∷ ends) = all_append (IsBelow n) (last_hands end) (flat_map last_hands ends) (replies_near n end.0 end.1) (last_near n ends)

numbers_near : (n : ℕ) (gets : List TokensGet) → AllByRecursion (λ (g : TokensGet). g.number < n) gets → AllByRecursion (λ (m : ℕ). m < n) (map (λ (g : TokensGet). g.number) gets)
numbers_near n gets all = all_map (λ (g : TokensGet). g.number < n) (λ (m : ℕ). m < n) (λ (g : TokensGet). g.number) (λ g less. less) gets all

reply_near : (n : ℕ) (p : Peek) (number : ℕ) (reply : Replied) → AllByRecursion (IsBelow n) (reply_effects p number reply)
reply_near n peek.Handed number reply = (tt, tt)
reply_near n peek.Unknown number reply = tt
reply_near n peek.Unmatched number reply = tt
reply_near n peek.Kept number reply = tt
reply_near n peek.Dropped number reply = tt

final_near : (n number : ℕ) (out : Outcome) → AllByRecursion (IsBelow n) (final_effects number out)
final_near n number (outcome.Ended replies) = all_append (IsBelow n) (map (hand_reply number) replies) (end_get number ∷ []) (replies_near n number replies) (tt, tt)
final_near n number outcome.Counted = tt
final_near n number outcome.Unknown = tt
final_near n number outcome.Unmatched = tt
final_near n number outcome.Kept = tt
final_near n number outcome.Dropped = tt
final_near n number (outcome.Handed reply) = tt
final_near n number outcome.Repeated = tt

response_near : (n : ℕ) (gets : List OpenGet) (response : Response) (answered : Answered) (text : Option (List ℕ)) → AllByRecursion (IsBelow n) (response_effects gets response answered text)
response_near n gets response (Reply body) None = tt
response_near n gets response (Reply body) (Some text) = reply_near n (peek_at (get_at response.rid gets) (sample_reply text response body)) response.rid (sample_reply text response body)
response_near n gets response (Error value) text = (tt, tt)

answer_near : (n : ℕ) (a : Answering) (key : NamedKey) (o : Option QueryValue) (quality : ReplyQuality) (body : Body) (text : Option (List ℕ)) → AllByRecursion (IsBelow n) (answer_effects a key o quality body text)
answer_near n a key None quality body text = tt
answer_near n a key (Some v) quality body None = tt
answer_near n a key (Some v) quality body (Some text) = go v.row.local
  where
    go : (b : Bool)
        → AllByRecursion (IsBelow n) (if b then replied_effects a.gets v.row.rid (local_reply a.zid v.queryable v.row quality body text)
        else Send (response_message (response_by a.zid v.queryable v.row.rid (wire_form a.keys text (declaration_of a.keys text key)) (quality_of quality v.row.qos) (Reply body))) ∷ [])
    go true = reply_near n (peek_at (get_at v.row.rid a.gets) (local_reply a.zid v.queryable v.row quality body text)) v.row.rid (local_reply a.zid v.queryable v.row quality body text)
    go false = (tt, tt)

error_near : (n : ℕ) (a : Answering) (o : Option QueryValue) (error : Value) → AllByRecursion (IsBelow n) (answer_error_effects a o error)
error_near n a None error = tt
error_near n a (Some v) error = go v.row.local (is_some (get_at v.row.rid a.gets))
  where
    go : (b o : Bool)
        → AllByRecursion (IsBelow n) (if b then if o then hand_reply v.row.rid (local_error a.zid v.queryable error) ∷ [] else []
        else Send (response_message (response_by a.zid v.queryable v.row.rid (full_wire v.row.key.text) v.row.qos (Error error))) ∷ [])
    go true true = (tt, tt)
    go true false = tt
    go false o = (tt, tt)

finish_near : (n : ℕ) (gets : List OpenGet) (f : Finished) → AllByRecursion (IsBelow n) (finish_effects gets f)
finish_near n gets Unknown = tt
finish_near n gets MoreLeft = tt
finish_near n gets (Last row) = go row.local
  where
    go : (b : Bool) → AllByRecursion (IsBelow n) (if b then final_effects row.rid (final_outcome Local (get_at row.rid gets)) else Send (ResponseFinal row.rid) ∷ [])
    go true = final_near n row.rid (final_outcome Local (get_at row.rid gets))
    go false = (tt, tt)

requested_near : (n rid first request : ℕ) (row : RequestRow) (met : List ℕ) → AllByRecursion (λ (q : ℕ). q < n) met → AllByRecursion (IsBelow n) (requested_effects rid (values_from first request row met))
requested_near n rid first request row [] all = (tt, tt)
requested_near n rid first request row (q ∷ met) all = values_near n first request row (q ∷ met) all

asking_get_near : (n default : ℕ) (wire : WireExpr) (number : ℕ) (q : Question) (first request : ℕ) (row : RequestRow) (met : List ℕ) → AllByRecursion (λ (q : ℕ). q < n) met
    → AllByRecursion (IsBelow n) (ask_effects default wire number q (values_from first request row met))
asking_get_near n default wire number q first request row [] all = go (has_network q.settings.destination)
  where
    go : (b : Bool) → AllByRecursion (IsBelow n) (if b then Send (request_message (request_of default wire number q)) ∷ [] else end_get number ∷ [])
    go true = (tt, tt)
    go false = (tt, tt)
asking_get_near n default wire number q first request row (m ∷ met) all =
    all_append (IsBelow n) (if has_network q.settings.destination then Send (request_message (request_of default wire number q)) ∷ [] else []) (map hand_query (values_from first request row (m ∷ met)))
    (sent (has_network q.settings.destination)) (values_near n first request row (m ∷ met) all)
  where
    sent : (b : Bool) → AllByRecursion (IsBelow n) (if b then Send (request_message (request_of default wire number q)) ∷ [] else [])
    sent true = (tt, tt)
    sent false = tt

get_near : (n : ℕ) (known : Known) (key : NamedKey) (number : Option ℕ) (text : Option (List ℕ)) (q : Question) → AllByRecursion (λ (row : QueryableRow). row.id < n) known.queryables
    → AllByRecursion (IsBelow n) (asked_effects known.timeout known.keys key (drawn_by known.queryables known.handing (Asks q) NoValue number text) number text q)
get_near n known key None text q all = tt
get_near n known key (Some number) None q all = tt
get_near n known key (Some number) (Some text) q all =
    asking_get_near n known.timeout (wire_form known.keys text (declaration_of known.keys text key)) number q known.handing.next known.handing.handed (get_request number text q) (met_by_get known.queryables q text)
    (met_by_get_near n known.queryables q text all)

incoming_near : (n : ℕ) (known : Known) (request : Request) (number : Option ℕ) (text : Option (List ℕ)) → AllByRecursion (λ (row : QueryableRow). row.id < n) known.queryables
    → AllByRecursion (IsBelow n) (requested_effects request.rid (drawn_by known.queryables known.handing NoGet (Requested request) number text))
incoming_near n known request number None all = (tt, tt)
incoming_near n known request number (Some text) all =
    requested_near n request.rid known.handing.next known.handing.handed (network_request text request) (met_by_request known.queryables request text)
    (met_near n false (wants_complete request.target) text known.queryables all)

pub all_near : (n : ℕ) (known : Known) (e : Event) (number : Option ℕ) (text : Option (List ℕ)) → AreNear n known e number → AllByRecursion (IsBelow n) (effects_on known number text e)
all_near n known (Get key settings inquiry to) number text near =
    get_near n known (OwnKey key) number text (record { settings = settings; inquiry = inquiry; querier = None }) near.queryables
all_near n known (QuerierGet id inquiry to) number text near = go (querier_at id known.queriers)
  where
    go : (o : Option QuerierRow)
        → AllByRecursion (IsBelow n) (with_gets (asks_of inquiry o) [] (request_effects known.timeout known.keys (QuerierKey id) (drawn_by known.queryables known.handing (asks_of inquiry o) NoValue number text) number text (asks_of inquiry o))
        (told_effects known.gets known.watch.gets text (asks_of inquiry o)))
    go None = tt
    go (Some row) = get_near n known (QuerierKey id) number text (question_of row inquiry) near.queryables
all_near n known (Undeclare querier_sort id) number text near =
    all_append (IsBelow n) (others_of known number text (Undeclare querier_sort id)) (cut_effects (QuerierEnds id) known.gets)
    (others_around (IsBelow n) known number text (Undeclare querier_sort id) near.around) (ends_near n (ended_numbers (QuerierEnds id) known.gets))
all_near n known (Cancel token) number text near =
    all_append (IsBelow n) (cut_effects (CancelledBy token) known.gets) (cancelled_ends token known.watch.gets) (ends_near n (ended_numbers (CancelledBy token) known.gets))
    (asking_near n (numbers_with token known.watch.gets)
    (numbers_near n (filter (λ g. is_own token g.cancellation_token) known.watch.gets) (all_filter (λ (g : TokensGet). g.number < n) (λ g. is_own token g.cancellation_token) known.watch.gets near.asking)))
all_near n known (Tick moment) number text near =
    let ends = ends_at moment known.gets in
    let over = over_at moment known.watch.gets in
    let over_near = numbers_near n (filter (is_over moment) known.watch.gets) (all_filter (λ (g : TokensGet). g.number < n) (is_over moment) known.watch.gets near.asking) in
    let ns = map (λ (end : ℕ × List Replied). end.0) ends in
    all_append (IsBelow n) (flat_map last_hands ends ++ map (hand_answer timeout_error) over ++ map end_get ns) (map end_asking over)
    (all_append (IsBelow n) (flat_map last_hands ends ++ map (hand_answer timeout_error) over) (map end_get ns)
    (all_append (IsBelow n) (flat_map last_hands ends) (map (hand_answer timeout_error) over) (last_near n ends) (timeouts_near n timeout_error over over_near))
    (ends_near n ns))
    (asking_near n over over_near)
all_near n known Close number text near =
    let gets = map end_get (map (λ (g : OpenGet). g.row.number) known.gets) in
    all_append (IsBelow n) (others_of known number text Close) (gets ++ asking_ends known.watch.gets) (others_around (IsBelow n) known number text Close near.around)
    (all_append (IsBelow n) gets (asking_ends known.watch.gets) (ends_near n (map (λ (g : OpenGet). g.row.number) known.gets))
    (asking_near n (map (λ (g : TokensGet). g.number) known.watch.gets) (numbers_near n known.watch.gets near.asking)))
all_near n known (reply_event value key update quality) number text near = answer_near n (answering known) (OwnKey key) (value_at value known.handing.values) quality _ text
all_near n known (ReplyErr value error) number text near = error_near n (answering known) (value_at value known.handing.values) _
all_near n known (Finish value) number text near = finish_near n known.gets (finished (value_at value known.handing.values) known.handing.values)
all_near n known (Share value) number text near = tt
all_near n known (Net (request_message request)) number text near = incoming_near n known request number text near.queryables
all_near n known (Net (response_message response)) number text near = response_near n known.gets response response.answered text
all_near n known (Net (ResponseFinal rid)) number text near = final_near n rid (final_outcome Network (get_at rid known.gets))
all_near n known e number text near = others_around (IsBelow n) known number text e near.around
