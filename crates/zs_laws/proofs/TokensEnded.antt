-- Which gets of tokens an event ends.
use Rattle.std.proofs.Common.{◌≡◌, ◌<◌, ℕ, List, [], ◌∷◌, ◌++◌, Bool, true, false, Option, Some, None, refl, sym, ◌∙◌, ap, arith, map}
use Rattle.std.specs.Prelude.{◌==◌, ◌||◌, filter, is_some, if◌then◌else◌}
use Rattle.std.specs.List.{AllByRecursion, flat_map}
use Rattle.std.proofs.lemmas.Bool.{eqb-true}
use Rattle.zs_sample.specs.Reply.{Replied}
use Rattle.zs_wire.specs.declared.body.Body.{Body}
use Rattle.zs_wire.specs.declared.body.Value.{Value}
use Rattle.zs_wire.specs.declared.message.Message.TheVariants.{DeclareFinal, Request as request_message, Response as response_message, ResponseFinal}
use Rattle.zs_wire.specs.declared.response.Answered.{Answered}
use Rattle.zs_wire.specs.declared.response.Answered.TheVariants.{Reply, Err as Error}
use Rattle.zs_wire.specs.declared.response.Response.{Response}
use Rattle.zs_wire.specs.declared.wire_expr.WireExpr.{WireExpr}
use Rattle.zs_tables.specs.LivelinessGets.{is_asking, over_at, numbers_with}
use Rattle.zs_subscriptions.specs.Recipients.{has_network}
use Rattle.zs_tables.specs.Types.{LivelinessGet as TokensGet}
use Rattle.zs_query.specs.declared.open_get.OpenGet.{OpenGet}
use Rattle.zs_query.specs.declared.outcome.Outcome.{Outcome}
use Rattle.zs_query.specs.declared.outcome.Outcome.TheVariants as outcome
use Rattle.zs_query.specs.declared.outcome.Peek.{Peek}
use Rattle.zs_query.specs.declared.outcome.Peek.TheVariants as peek
use Rattle.zs_query.specs.Types.{QueryValue, Finished, Unknown, MoreLeft, Last}
use Rattle.zs_query.specs.declared.side.Side.TheVariants.{Local, Network}
use Rattle.zs_query.specs.Ascending.{Ascend}
use Rattle.zs_query.specs.Asked.{QuerierEnds, CancelledBy}
use Rattle.zs_query.specs.Gets.{get_at, peek_at, final_outcome, ends_at, timeout_error}
use Rattle.zs_query.specs.Unfinished.{value_at, finished}
use Rattle.zs_query.proofs.Ascending.{all_weaker}
use Rattle.zs_events.specs.declared.event.Event.{Event}
use Rattle.zs_events.specs.declared.event.Event.TheVariants.{Undeclare, Close, Net, Get, QuerierGet, Cancel, Tick, Reply as reply_event, ReplyErr, Finish, Share}
use Rattle.zs_events.specs.declared.entity_kind.EntityKind.TheVariants.{Querier as querier_sort}
use Rattle.zs_events.specs.declared.publication.ReplyQuality.{ReplyQuality}
use Rattle.zs_events.specs.declared.turn.Effect.{Effect}
use Rattle.zs_events.specs.declared.turn.Effect.TheVariants.{Send}
use Rattle.zs_events.specs.Kinds.{NamedKey, OwnKey, QuerierKey, Question, NoValue, EndsAnswers, row_of}
use Rattle.zs_model.specs.declared.querier.QuerierRow.{QuerierRow}
use Rattle.zs_model.specs.Answers.{quality_of, local_reply, local_error, response_by}
use Rattle.zs_model.specs.GetEffects.{hand_reply, hand_query, end_get, last_hands, reply_effects, response_effects, final_effects, ends_effects, ended_numbers, cut_effects, ask_effects, asked_effects, request_effects, told_effects, with_gets}
use Rattle.zs_model.specs.Gets.{sample_reply}
use Rattle.zs_model.specs.LivelinessEffects.{hand_answer, end_asking, cancelled_ends, asking_ends}
use Rattle.zs_model.specs.Queriers.{querier_at, question_of, asks_of}
use Rattle.zs_model.specs.Questions.{request_of}
use Rattle.zs_model.specs.Sends.{full_wire, wire_form, declaration_of}
use Rattle.zs_model.specs.Tokens.{ends_asking}
use Rattle.zs_model.specs.Values.{drawn_by}
use Rattle.zs_model.specs.ValueEffects.{Answering, requested_effects, replied_effects, answer_effects, answer_error_effects, finish_effects}
use Rattle.zs_model.specs.Effects.{Known, answering, draws_of, effects_on}
use Rattle.zs_standing.proofs.Watching.{or_false}
use Rattle.zs_laws.specs.Ended.{tokens_ended, with_number, picked}
use Rattle.zs_laws.proofs.Around.{Around, others_of, others_around}
use Rattle.zs_laws.proofs.Leaving.{filter_false}
use Rattle.zs_laws.proofs.Picking.{picked_none, picked_behind, any_all}

-- what maps to effects that end none
none_mapped : {X : Type 0} (f : X → Effect) → ((x : X) → tokens_ended (f x) ≡ None) → (xs : List X) → picked tokens_ended (map f xs) ≡ []
none_mapped f none [] = refl
none_mapped f none (x ∷ xs) = λ i. with_number (none x i) (none_mapped f none xs i)

last_none : (ends : List (ℕ × List Replied)) → picked tokens_ended (flat_map last_hands ends) ≡ []
last_none [] = refl
last_none (end ∷ ends) = picked_behind tokens_ended (last_hands end) (flat_map last_hands ends) (none_mapped (hand_reply end.0) (λ r. refl) end.1) ∙ last_none ends

askings_picked : (numbers : List ℕ) → picked tokens_ended (map end_asking numbers) ≡ numbers
askings_picked [] = refl
askings_picked (n ∷ numbers) = ap (λ (rest : List ℕ). n ∷ rest) (askings_picked numbers)

reply_none : (p : Peek) (number : ℕ) (reply : Replied) → picked tokens_ended (reply_effects p number reply) ≡ []
reply_none peek.Handed number reply = refl
reply_none peek.Unknown number reply = refl
reply_none peek.Unmatched number reply = refl
reply_none peek.Kept number reply = refl
reply_none peek.Dropped number reply = refl

final_none : (number : ℕ) (out : Outcome) → picked tokens_ended (final_effects number out) ≡ []
final_none number (outcome.Ended replies) = picked_behind tokens_ended (map (hand_reply number) replies) (end_get number ∷ []) (none_mapped (hand_reply number) (λ r. refl) replies)
final_none number outcome.Counted = refl
final_none number outcome.Unknown = refl
final_none number outcome.Unmatched = refl
final_none number outcome.Kept = refl
final_none number outcome.Dropped = refl
final_none number (outcome.Handed reply) = refl
final_none number outcome.Repeated = refl

response_none : (gets : List OpenGet) (response : Response) (answered : Answered) (text : Option (List ℕ)) → picked tokens_ended (response_effects gets response answered text) ≡ []
response_none gets response (Reply body) None = refl
response_none gets response (Reply body) (Some text) = reply_none (peek_at (get_at response.rid gets) (sample_reply text response body)) response.rid (sample_reply text response body)
response_none gets response (Error value) text = refl

answer_none : (a : Answering) (key : NamedKey) (o : Option QueryValue) (quality : ReplyQuality) (body : Body) (text : Option (List ℕ)) → picked tokens_ended (answer_effects a key o quality body text) ≡ []
answer_none a key None quality body text = refl
answer_none a key (Some v) quality body None = refl
answer_none a key (Some v) quality body (Some text) = go v.row.local
  where
    go : (b : Bool)
        → picked tokens_ended (if b then replied_effects a.gets v.row.rid (local_reply a.zid v.queryable v.row quality body text)
        else Send (response_message (response_by a.zid v.queryable v.row.rid (wire_form a.keys text (declaration_of a.keys text key)) (quality_of quality v.row.qos) (Reply body))) ∷ []) ≡ []
    go true = reply_none (peek_at (get_at v.row.rid a.gets) (local_reply a.zid v.queryable v.row quality body text)) v.row.rid (local_reply a.zid v.queryable v.row quality body text)
    go false = refl

error_none : (a : Answering) (o : Option QueryValue) (error : Value) → picked tokens_ended (answer_error_effects a o error) ≡ []
error_none a None error = refl
error_none a (Some v) error = go v.row.local (is_some (get_at v.row.rid a.gets))
  where
    go : (b o : Bool)
        → picked tokens_ended (if b then if o then hand_reply v.row.rid (local_error a.zid v.queryable error) ∷ [] else []
        else Send (response_message (response_by a.zid v.queryable v.row.rid (full_wire v.row.key.text) v.row.qos (Error error))) ∷ []) ≡ []
    go true true = refl
    go true false = refl
    go false o = refl

finish_none : (gets : List OpenGet) (f : Finished) → picked tokens_ended (finish_effects gets f) ≡ []
finish_none gets Unknown = refl
finish_none gets MoreLeft = refl
finish_none gets (Last row) = go row.local
  where
    go : (b : Bool) → picked tokens_ended (if b then final_effects row.rid (final_outcome Local (get_at row.rid gets)) else Send (ResponseFinal row.rid) ∷ []) ≡ []
    go true = final_none row.rid (final_outcome Local (get_at row.rid gets))
    go false = refl

requested_none : (rid : ℕ) (drawn : List QueryValue) → picked tokens_ended (requested_effects rid drawn) ≡ []
requested_none rid [] = refl
requested_none rid (v ∷ drawn) = none_mapped hand_query (λ v. refl) (v ∷ drawn)

asking_none : (default : ℕ) (wire : WireExpr) (number : ℕ) (q : Question) (values : List QueryValue) → picked tokens_ended (ask_effects default wire number q values) ≡ []
asking_none default wire number q [] = go (has_network q.settings.destination)
  where
    go : (b : Bool) → picked tokens_ended (if b then Send (request_message (request_of default wire number q)) ∷ [] else end_get number ∷ []) ≡ []
    go true = refl
    go false = refl
asking_none default wire number q (v ∷ values) =
    picked_behind tokens_ended (if has_network q.settings.destination then Send (request_message (request_of default wire number q)) ∷ [] else []) (map hand_query (v ∷ values)) (sent (has_network q.settings.destination))
    ∙ none_mapped hand_query (λ v. refl) (v ∷ values)
  where
    sent : (b : Bool) → picked tokens_ended (if b then Send (request_message (request_of default wire number q)) ∷ [] else []) ≡ []
    sent true = refl
    sent false = refl

asked_none : (known : Known) (key : NamedKey) (values : List QueryValue) (number : Option ℕ) (text : Option (List ℕ)) (q : Question)
    → picked tokens_ended (asked_effects known.timeout known.keys key values number text q) ≡ []
asked_none known key values None text q = refl
asked_none known key values (Some number) None q = refl
asked_none known key values (Some number) (Some text) q = asking_none known.timeout (wire_form known.keys text (declaration_of known.keys text key)) number q values

-- of what an event brings about beside gets nothing is the end of a get of tokens, where it is not the last of its answers
abbrev IsNone : Effect → Type 0
IsNone x = tokens_ended x ≡ None

no_tokens_around : (known : Known) (e : Event) (number : Option ℕ) → ((m : ℕ) → (row_of e).to_liveliness ≡ EndsAnswers (Some m) → ⊥) → Around known e number IsNone
no_tokens_around known e number other = record {
  sent = λ m. refl;
  sub = any_all _ (λ row sample. refl) known.subs;
  sub_end = any_all _ (λ row. refl) known.subs;
  queryable_end = any_all _ (λ row. refl) known.queryables;
  lsub = any_all _ (λ row sample. refl) known.watch.subs;
  lsub_end = any_all _ (λ row. refl) known.watch.subs;
  own = λ history same id is sample. refl;
  asking = any_all _ (λ g n same reply. refl) known.watch.gets;
  asking_end = λ m is. absurd (other m is);
  ended_sub = λ id is. refl;
  ended_queryable = λ id is. refl;
  ended_lsub = λ id is. refl;
}

others_none : (known : Known) (number : Option ℕ) (text : Option (List ℕ)) (e : Event) → ((m : ℕ) → (row_of e).to_liveliness ≡ EndsAnswers (Some m) → ⊥) → picked tokens_ended (others_of known number text e) ≡ []
others_none known number text e other = picked_none tokens_ended (others_of known number text e) (others_around IsNone known number text e (no_tokens_around known e number other))

-- the numbers of those that a test picks
abbrev pub numbers : List TokensGet → List ℕ
numbers gets = map (λ (g : TokensGet). g.number) gets

ends_none : (gets : List TokensGet) → [] ≡ numbers (filter (λ g. false) gets)
ends_none gets = sym (ap numbers (filter_false gets))

all_kept : (gets : List TokensGet) → filter (λ g. true) gets ≡ gets
all_kept [] = refl
all_kept (g ∷ gets) = ap (λ (rest : List TokensGet). g ∷ rest) (all_kept gets)

-- the one of a number, if there is one
none_else : (n : ℕ) (gets : List TokensGet) → AllByRecursion (λ (g : TokensGet). (g.number == n) ≡ false) gets → numbers (filter (λ g. g.number == n) gets) ≡ []
none_else n [] all = refl
none_else n (g ∷ gets) all = rw all.0 (none_else n gets all.1)

only_one : (n : ℕ) (gets : List TokensGet) → Ascend (λ (g : TokensGet). g.number) gets → picked tokens_ended (if is_asking n gets then end_asking n ∷ [] else []) ≡ numbers (filter (λ g. g.number == n) gets)
only_one n [] up = refl
only_one n (g ∷ gets) up = go (g.number == n) refl (only_one n gets up.1)
  where
    differ : (m : ℕ) → g.number < m → g.number ≡ n → (b : Bool) → (m == n) ≡ b → b ≡ false
    differ m less same true is = absurd (omega (arith, eqb-true m n is, less, same))
    differ m less same false is = refl

    go : (b : Bool) → (g.number == n) ≡ b → picked tokens_ended (if is_asking n gets then end_asking n ∷ [] else []) ≡ numbers (filter (λ g. g.number == n) gets)
        → picked tokens_ended (if b || is_asking n gets then end_asking n ∷ [] else [])
        ≡ numbers (if b then g ∷ filter (λ g. g.number == n) gets else filter (λ g. g.number == n) gets)
    go true is ih =
        let same : g.number ≡ n = eqb-true g.number n is in
        let rest = none_else n gets (all_weaker (λ (h : TokensGet). g.number < h.number) (λ (h : TokensGet). (h.number == n) ≡ false) (λ h less. differ h.number less same (h.number == n) refl) gets up.0) in
        λ i. sym same i ∷ sym rest i
    go false is ih = ih

one_of : (n : ℕ) (gets : List TokensGet) → Ascend (λ (g : TokensGet). g.number) gets
    → picked tokens_ended (if is_asking n gets then end_asking n ∷ [] else []) ≡ numbers (filter (λ g. (g.number == n) || false) gets)
one_of n gets up = only_one n gets up ∙ (λ i. numbers (filter (λ g. sym (or_false (g.number == n)) i) gets))

moment_ends : (ends : List (ℕ × List Replied)) (over : List ℕ) → picked tokens_ended (ends_effects ends over) ≡ over
moment_ends ends over =
    let first = flat_map last_hands ends in
    let timeouts = map (hand_answer timeout_error) over in
    let gets = map end_get (map (λ (end : ℕ × List Replied). end.0) ends) in
    picked_behind tokens_ended (first ++ timeouts ++ gets) (map end_asking over)
    (picked_behind tokens_ended (first ++ timeouts) gets
    (picked_behind tokens_ended first timeouts (last_none ends) ∙ none_mapped (hand_answer timeout_error) (λ n. refl) over)
    ∙ none_mapped end_get (λ n. refl) (map (λ (end : ℕ × List Replied). end.0) ends))
    ∙ askings_picked over

-- the ends that an event tells are those of the gets of tokens that it ends
abbrev pub TokensLost : Known → Event → Option ℕ → Option (List ℕ) → Type 0
TokensLost known e number text = picked tokens_ended (effects_on known number text e) ≡ numbers (filter (λ g. ends_asking g e) known.watch.gets)

pub tokens_lost : (known : Known) (e : Event) (number : Option ℕ) (text : Option (List ℕ)) → Ascend (λ (g : TokensGet). g.number) known.watch.gets → TokensLost known e number text
tokens_lost known (Get key settings inquiry to) number text up =
    asked_none known (OwnKey key) (draws_of known number text (Get key settings inquiry to)) number text (record { settings = settings; inquiry = inquiry; querier = None }) ∙ ends_none known.watch.gets
tokens_lost known (QuerierGet id inquiry to) number text up = go (querier_at id known.queriers) ∙ ends_none known.watch.gets
  where
    go : (o : Option QuerierRow)
        → picked tokens_ended (with_gets (asks_of inquiry o) [] (request_effects known.timeout known.keys (QuerierKey id) (drawn_by known.queryables known.handing (asks_of inquiry o) NoValue number text) number text (asks_of inquiry o))
        (told_effects known.gets known.watch.gets text (asks_of inquiry o))) ≡ []
    go None = refl
    go (Some row) = asked_none known (QuerierKey id) (drawn_by known.queryables known.handing (asks_of inquiry (Some row)) NoValue number text) number text (question_of row inquiry)
tokens_lost known (Undeclare querier_sort id) number text up =
    picked_behind tokens_ended (others_of known number text (Undeclare querier_sort id)) (cut_effects (QuerierEnds id) known.gets) (others_none known number text (Undeclare querier_sort id) (λ m is. cc))
    ∙ none_mapped end_get (λ n. refl) (ended_numbers (QuerierEnds id) known.gets) ∙ ends_none known.watch.gets
tokens_lost known (Cancel token) number text up =
    picked_behind tokens_ended (cut_effects (CancelledBy token) known.gets) (cancelled_ends token known.watch.gets) (none_mapped end_get (λ n. refl) (ended_numbers (CancelledBy token) known.gets))
    ∙ askings_picked (numbers_with token known.watch.gets)
tokens_lost known (Tick moment) number text up = moment_ends (ends_at moment known.gets) (over_at moment known.watch.gets)
tokens_lost known Close number text up =
    let gets = map end_get (map (λ (g : OpenGet). g.row.number) known.gets) in
    picked_behind tokens_ended (others_of known number text Close) (gets ++ asking_ends known.watch.gets) (others_none known number text Close (λ m is. cc))
    ∙ picked_behind tokens_ended gets (asking_ends known.watch.gets) (none_mapped end_get (λ n. refl) (map (λ (g : OpenGet). g.row.number) known.gets))
    ∙ askings_picked (numbers known.watch.gets)
    ∙ sym (ap numbers (all_kept known.watch.gets))
tokens_lost known (reply_event value key update quality) number text up =
    answer_none (answering known) (OwnKey key) (value_at value known.handing.values) quality _ text ∙ ends_none known.watch.gets
tokens_lost known (ReplyErr value error) number text up = error_none (answering known) (value_at value known.handing.values) _ ∙ ends_none known.watch.gets
tokens_lost known (Finish value) number text up = finish_none known.gets (finished (value_at value known.handing.values) known.handing.values) ∙ ends_none known.watch.gets
tokens_lost known (Share value) number text up = ends_none known.watch.gets
tokens_lost known (Net (request_message request)) number text up =
    requested_none request.rid (draws_of known number text (Net (request_message request))) ∙ ends_none known.watch.gets
tokens_lost known (Net (response_message response)) number text up = response_none known.gets response response.answered text ∙ ends_none known.watch.gets
tokens_lost known (Net (ResponseFinal rid)) number text up = final_none rid (final_outcome Network (get_at rid known.gets)) ∙ ends_none known.watch.gets
tokens_lost known (Net (DeclareFinal (Some n))) number text up = one_of n known.watch.gets up
tokens_lost known (Net (DeclareFinal None)) number text up = ends_none known.watch.gets
tokens_lost known e number text up = others_none known number text e (λ m is. cc) ∙ ends_none known.watch.gets
