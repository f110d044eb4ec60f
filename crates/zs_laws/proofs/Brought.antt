-- All that an event brings about, for whatever says something of effects: where that holds of each effect by itself, of nothing and of effects
-- behind others, and of what a publication hands out, it holds of all of it. So such a proof need not walk the kinds of events.
use Rattle.std.proofs.Common.{ℕ, Bool, true, false, List, [], ◌∷◌, ◌++◌, Option, Some, None}
use Rattle.std.specs.Prelude.{◌==◌, map, is_some, if◌then◌else◌}
use Rattle.std.specs.List.{flat_map, find}
use Rattle.zs_wire.specs.declared.message.Message.{Message}
use Rattle.zs_wire.specs.declared.message.Message.TheVariants.{Request as request_message, ResponseFinal}
use Rattle.zs_wire.specs.declared.response.Answered.{Answered}
use Rattle.zs_wire.specs.declared.response.Answered.TheVariants.{Reply, Err as Error}
use Rattle.zs_wire.specs.declared.response.Response.{Response}
use Rattle.zs_wire.specs.declared.sample_kind.SampleKind.{SampleKind}
use Rattle.zs_wire.specs.declared.sample_kind.SampleKind.TheVariants.{Put as put_kind, Delete as delete_kind}
use Rattle.zs_sample.specs.Reply.{Replied}
use Rattle.zs_sample.specs.declared.sample_fields.SampleFields.{SampleFields}
use Rattle.zs_query.specs.Gets.{get_at, peek_at, final_outcome, ends_at, timeout_error}
use Rattle.zs_query.specs.declared.open_get.OpenGet.{OpenGet}
use Rattle.zs_query.specs.declared.outcome.Outcome.{Outcome}
use Rattle.zs_query.specs.declared.outcome.Outcome.TheVariants as outcome
use Rattle.zs_query.specs.declared.outcome.Peek.{Peek}
use Rattle.zs_query.specs.declared.outcome.Peek.TheVariants as peek
use Rattle.zs_query.specs.Types.{QueryValue, Finished, Unknown, MoreLeft, Last}
use Rattle.zs_query.specs.declared.side.Side.TheVariants.{Network, Local}
use Rattle.zs_query.specs.Asked.{QuerierEnds, CancelledBy}
use Rattle.zs_query.specs.Unfinished.{value_at, finished}
use Rattle.zs_subscriptions.specs.Recipients.{has_network}
use Rattle.zs_tables.specs.LivelinessGets.{is_asking, over_at, numbers_with}
use Rattle.zs_tables.specs.Liveliness.{met_keys, hearers}
use Rattle.zs_tables.specs.Types.{LivelinessGet as a_liveliness_get, LivelinessSub, RemoteToken}
use Rattle.zs_tables.specs.declared.queryable.QueryableRow.{QueryableRow}
use Rattle.zs_subscriptions.specs.declared.subscriber.SubRow.{SubRow}
use Rattle.zs_events.specs.declared.event.Event.{Event}
use Rattle.zs_events.specs.declared.turn.Effect.{Effect}
use Rattle.zs_events.specs.declared.turn.Effect.TheVariants.{Send, Hand}
use Rattle.zs_events.specs.declared.turn.HandOver.TheVariants.{Sample as sample_for, Reply as reply_for}
use Rattle.zs_events.specs.declared.turn.Kind.{Kind}
use Rattle.zs_events.specs.declared.turn.Kind.TheVariants.{LivelinessSubscriber, Get as get_kind, LivelinessGet as asking_kind}
use Rattle.zs_events.specs.Kinds.{NamedKey, ToGets, NoGet, Asks, AsksBy, Answers, EndsSide, Reaches, EndsQuerier, Cancels, EndsAll, ToValues, NoValue, Requested, AnswersBy, AnswersError, SharesValue, GivesBack, ToLiveliness, NoToken, Subscribes, AsksTokens, TellsToken, EndsToken, EndsAnswers, row_of}
use Rattle.zs_model.specs.declared.publisher.PubRow.{PubRow}
use Rattle.zs_model.specs.Gets.{sample_reply}
use Rattle.zs_model.specs.Answers.{local_reply, local_error}
use Rattle.zs_model.specs.Questions.{request_of}
use Rattle.zs_model.specs.Sends.{OwnKeys, wire_form, declaration_of, sends_of}
use Rattle.zs_model.specs.Tokens.{answers, is_remote_token}
use Rattle.zs_model.specs.LivelinessEffects.{Watch, token_sample, hand_token, hand_remote_token, token_reply, hand_answer, end_asking, cancelled_ends, asking_ends, token_hands, history_hands, declared_hands, answer_hands, ended_text, watch_effects}
use Rattle.zs_model.specs.GetEffects.{hand_reply, hand_query, end_get, last_hands, request_sends, ends_effects, reply_effects, response_effects, final_effects, ended_numbers, cut_effects, told_effects, request_effects, with_gets}
use Rattle.zs_model.specs.ValueEffects.{Answering, error_effects, replied_effects, reply_for_value, answer_effects, answer_error_effects, finish_effects, value_effects, with_values}
use Rattle.zs_model.specs.Effects.{Known, to_gets_for, draws_of, answering, entity_sends, hands_of, ends_of, effects_on}
use Rattle.zs_laws.proofs.EntityEnds.{HoldsOfEnds, ends_cases}
use Rattle.zs_laws.proofs.Sends.{entity_cases, sends_cases}

-- what holds of what ends (of nothing, of one behind another), of what is sent, and of all that is handed out but samples for subscribers
pub record HoldsOfEach (P : List Effect → Type 0) : Type 0 where
  pub ends : HoldsOfEnds P
  pub sent : (m : Message) → P (Send m ∷ [])
  pub token : (id : ℕ) (sample : SampleFields) → P (Hand (sample_for LivelinessSubscriber id sample) ∷ [])
  pub reply : (kind : Kind) (number : ℕ) (reply : Replied) → P (Hand (reply_for kind number reply) ∷ [])
  pub query : (v : QueryValue) → P (hand_query v ∷ [])

module _ (P : List Effect → Type 0) (h : HoldsOfEach P) where
  -- of each of several
  pub all_map : {X : Type 0} (f : X → Effect) → ((x : X) → P (f x ∷ [])) → (xs : List X) → P (map f xs)
  all_map f each [] = h.ends.none
  all_map f each (x ∷ xs) = h.ends.both (f x ∷ []) (map f xs) (each x) (all_map f each xs)

  all_flat : {X : Type 0} (f : X → List Effect) → ((x : X) → P (f x)) → (xs : List X) → P (flat_map f xs)
  all_flat f each [] = h.ends.none
  all_flat f each (x ∷ xs) = h.ends.both (f x) (flat_map f xs) (each x) (all_flat f each xs)

  all_if : (b : Bool) (xs ys : List Effect) → P xs → P ys → P (if b then xs else ys)
  all_if true xs ys x y = x
  all_if false xs ys x y = y

  -- what is sent of keys and publications
  all_sent : (k : OwnKeys) (pubs : List PubRow) (number : Option ℕ) (text : Option (List ℕ)) (e : Event) → P (sends_of k pubs number text e)
  all_sent k pubs number text e =
      sends_cases P h.ends.none k pubs number text e (λ n t drew named. h.sent _) (λ n. h.sent _) (h.sent _) (λ t c named is sent. h.sent _)

  -- what is sent of entities
  all_entity : (known : Known) (number : Option ℕ) (text : Option (List ℕ)) (e : Event) → P (entity_sends known e number text)
  all_entity known number text e = entity_cases P h.ends.none known e number text (λ what id t key is named. h.sent _) (λ what id is. h.sent _)

  -- what ends
  all_ends : (queryables : List QueryableRow) (rows : List SubRow) (lsubs : List LivelinessSub) (e : Event) → P (ends_of queryables rows lsubs e)
  all_ends queryables rows lsubs e = ends_cases P h.ends queryables rows lsubs e

  -- what those hear who want to know of tokens
  all_tokens : (kind : SampleKind) (before : Bool) (text : Option (List ℕ)) (subs : List LivelinessSub) → P (token_hands kind before text subs)
  all_tokens kind before None subs = h.ends.none
  all_tokens kind before (Some text) subs = all_map (hand_token kind text) (λ n. h.token n (token_sample kind text)) (hearers before text subs)

  all_history : (history : Bool) (number : Option ℕ) (text : Option (List ℕ)) (tokens : List RemoteToken) → P (history_hands history number text tokens)
  all_history true (Some id) (Some text) tokens = all_map (hand_remote_token id) (λ key. h.token id (token_sample put_kind key.text)) (met_keys text tokens)
  all_history true (Some id) None tokens = h.ends.none
  all_history true None text tokens = h.ends.none
  all_history false number text tokens = h.ends.none

  all_answer : (interest : Option ℕ) (text : Option (List ℕ)) → P (answer_hands interest text)
  all_answer None text = h.ends.none
  all_answer (Some number) None = h.ends.none
  all_answer (Some number) (Some text) = h.reply asking_kind number (token_reply text)

  all_watch : (watch : Watch) (number : Option ℕ) (text : Option (List ℕ)) (to : ToLiveliness) (ends : List Effect) → P ends → P (watch_effects watch number text to ends)
  all_watch watch number text NoToken ends quiet = quiet
  all_watch watch number text (Subscribes history) ends quiet = all_history history number text watch.remote_tokens
  all_watch watch number text (AsksTokens timeout token) ends quiet = h.ends.none
  all_watch watch number text (TellsToken id interest) ends quiet =
      all_if (answers interest watch.gets) (answer_hands interest text) (declared_hands watch id interest text) (all_answer interest text)
      (all_if (is_remote_token id watch.remote_tokens) [] (token_hands put_kind (is_some interest) text watch.subs) h.ends.none (all_tokens put_kind (is_some interest) text watch.subs))
  all_watch watch number text (EndsToken id interest) ends quiet =
      all_tokens delete_kind (is_some interest) (ended_text (find (λ t. t.number == id) watch.remote_tokens) text) watch.subs
  all_watch watch number text (EndsAnswers None) ends quiet = h.ends.none
  all_watch watch number text (EndsAnswers (Some n)) ends quiet = all_if (is_asking n watch.gets) (end_asking n ∷ []) [] (h.ends.one asking_kind n) h.ends.none

  -- what gets are told
  all_reply : (p : Peek) (number : ℕ) (reply : Replied) → P (reply_effects p number reply)
  all_reply peek.Handed number reply = h.reply get_kind number reply
  all_reply peek.Unknown number reply = h.ends.none
  all_reply peek.Unmatched number reply = h.ends.none
  all_reply peek.Kept number reply = h.ends.none
  all_reply peek.Dropped number reply = h.ends.none

  all_response : (gets : List OpenGet) (response : Response) (answered : Answered) (text : Option (List ℕ)) → P (response_effects gets response answered text)
  all_response gets response (Reply body) None = h.ends.none
  all_response gets response (Reply body) (Some text) = all_reply (peek_at (get_at response.rid gets) (sample_reply text response body)) response.rid (sample_reply text response body)
  all_response gets response (Error value) text = h.reply get_kind response.rid _

  all_replies : (number : ℕ) (replies : List Replied) → P (map (hand_reply number) replies)
  all_replies number replies = all_map (hand_reply number) (λ reply. h.reply get_kind number reply) replies

  all_final : (number : ℕ) (out : Outcome) → P (final_effects number out)
  all_final number (outcome.Ended replies) = h.ends.both (map (hand_reply number) replies) (end_get number ∷ []) (all_replies number replies) (h.ends.one get_kind number)
  all_final number outcome.Unknown = h.ends.none
  all_final number outcome.Unmatched = h.ends.none
  all_final number outcome.Kept = h.ends.none
  all_final number outcome.Dropped = h.ends.none
  all_final number (outcome.Handed reply) = h.ends.none
  all_final number outcome.Counted = h.ends.none
  all_final number outcome.Repeated = h.ends.none

  all_get_ends : (numbers : List ℕ) → P (map end_get numbers)
  all_get_ends numbers = all_map end_get (λ n. h.ends.one get_kind n) numbers

  all_asking_ends : (numbers : List ℕ) → P (map end_asking numbers)
  all_asking_ends numbers = all_map end_asking (λ n. h.ends.one asking_kind n) numbers

  all_all_ends : (ends : List (ℕ × List Replied)) (over : List ℕ) → P (ends_effects ends over)
  all_all_ends ends over =
      let first = flat_map last_hands ends in
      let errors = map (hand_answer timeout_error) over in
      let numbers = map (λ (end : ℕ × List Replied). end.0) ends in
      h.ends.both (first ++ errors ++ map end_get numbers) (map end_asking over)
      (h.ends.both (first ++ errors) (map end_get numbers)
      (h.ends.both first errors (all_flat last_hands (λ end. all_replies end.0 end.1) ends) (all_map (hand_answer timeout_error) (λ n. h.reply asking_kind n timeout_error) over))
      (all_get_ends numbers))
      (all_asking_ends over)

  all_told : (gets : List OpenGet) (asking : List a_liveliness_get) (text : Option (List ℕ)) (to : ToGets) → P (told_effects gets asking text to)
  all_told gets asking text NoGet = h.ends.none
  all_told gets asking text (Asks question) = h.ends.none
  all_told gets asking text (AsksBy id question) = h.ends.none
  all_told gets asking text (Answers response) = all_response gets response response.answered text
  all_told gets asking text (EndsSide rid) = all_final rid (final_outcome Network (get_at rid gets))
  all_told gets asking text (Reaches moment) = all_all_ends (ends_at moment gets) (over_at moment asking)
  all_told gets asking text (EndsQuerier id) = all_get_ends (ended_numbers (QuerierEnds id) gets)
  all_told gets asking text (Cancels token) = h.ends.both (cut_effects (CancelledBy token) gets) (cancelled_ends token asking) (all_get_ends (ended_numbers (CancelledBy token) gets)) (all_asking_ends (numbers_with token asking))
  all_told gets asking text EndsAll =
      h.ends.both (map end_get (map (λ (g : OpenGet). g.row.number) gets)) (asking_ends asking) (all_get_ends (map (λ (g : OpenGet). g.row.number) gets)) (all_asking_ends (map (λ (g : a_liveliness_get). g.number) asking))

  -- what is asked
  all_queries : (values : List QueryValue) → P (map hand_query values)
  all_queries values = all_map hand_query h.query values

  all_asked : (default : ℕ) (k : OwnKeys) (key : NamedKey) (values : List QueryValue) (number : Option ℕ) (text : Option (List ℕ)) (to : ToGets) → P (request_effects default k key values number text to)
  all_asked default k key [] (Some number) (Some text) (Asks q) =
      all_if (has_network q.settings.destination) (Send (request_message (request_of default (wire_form k text (declaration_of k text key)) number q)) ∷ []) (end_get number ∷ []) (h.sent _) (h.ends.one get_kind number)
  all_asked default k key (v ∷ values) (Some number) (Some text) (Asks q) =
      h.ends.both (request_sends default (wire_form k text (declaration_of k text key)) number q) (map hand_query (v ∷ values))
      (all_if (has_network q.settings.destination) (Send (request_message (request_of default (wire_form k text (declaration_of k text key)) number q)) ∷ []) [] (h.sent _) h.ends.none)
      (all_queries (v ∷ values))
  all_asked default k key values None text (Asks q) = h.ends.none
  all_asked default k key values (Some number) None (Asks q) = h.ends.none
  all_asked default k key values number text NoGet = h.ends.none
  all_asked default k key values number text (AsksBy id q) = h.ends.none
  all_asked default k key values number text (EndsQuerier id) = h.ends.none
  all_asked default k key values number text (Cancels token) = h.ends.none
  all_asked default k key values number text (Answers response) = h.ends.none
  all_asked default k key values number text (EndsSide rid) = h.ends.none
  all_asked default k key values number text (Reaches moment) = h.ends.none
  all_asked default k key values number text EndsAll = h.ends.none

  -- what comes of query values
  all_finished : (gets : List OpenGet) (f : Finished) → P (finish_effects gets f)
  all_finished gets Unknown = h.ends.none
  all_finished gets MoreLeft = h.ends.none
  all_finished gets (Last row) =
      all_if row.local (final_effects row.rid (final_outcome Local (get_at row.rid gets))) (Send (ResponseFinal row.rid) ∷ []) (all_final row.rid (final_outcome Local (get_at row.rid gets))) (h.sent (ResponseFinal row.rid))

  all_error : (o : Option OpenGet) (number : ℕ) (reply : Replied) → P (error_effects o number reply)
  all_error None number reply = h.ends.none
  all_error (Some g) number reply = h.reply get_kind number reply

  all_values : (a : Answering) (key : NamedKey) (drawn : List QueryValue) (text : Option (List ℕ)) (to : ToValues) → P (value_effects a key drawn text to)
  all_values a key drawn text NoValue = h.ends.none
  all_values a key [] text (Requested request) = h.sent _
  all_values a key (v ∷ drawn) text (Requested request) = all_queries (v ∷ drawn)
  all_values a key drawn text (AnswersBy value body quality) = go (value_at value a.values) text
    where
      by : (v : QueryValue) (text : List ℕ) → P (reply_for_value a key v.queryable v.row quality body text)
      by v text =
          all_if v.row.local (replied_effects a.gets v.row.rid (local_reply a.zid v.queryable v.row quality body text)) _
          (all_reply (peek_at (get_at v.row.rid a.gets) (local_reply a.zid v.queryable v.row quality body text)) v.row.rid (local_reply a.zid v.queryable v.row quality body text)) (h.sent _)

      go : (o : Option QueryValue) (text : Option (List ℕ)) → P (answer_effects a key o quality body text)
      go None text = h.ends.none
      go (Some v) None = h.ends.none
      go (Some v) (Some text) = by v text
  all_values a key drawn text (AnswersError value error) = go (value_at value a.values)
    where
      go : (o : Option QueryValue) → P (answer_error_effects a o error)
      go None = h.ends.none
      go (Some v) =
          all_if v.row.local (error_effects (get_at v.row.rid a.gets) v.row.rid (local_error a.zid v.queryable error)) _
          (all_error (get_at v.row.rid a.gets) v.row.rid (local_error a.zid v.queryable error)) (h.sent _)
  all_values a key drawn text (SharesValue value) = h.ends.none
  all_values a key drawn text (GivesBack value) = all_finished a.gets (finished (value_at value a.values) a.values)

  -- and all of it, where it holds of what is handed out of a publication
  all_with_values : (to : ToValues) (xs ys : List Effect) → P xs → P ys → P (with_values to xs ys)
  all_with_values NoValue xs ys x y = x
  all_with_values (Requested request) xs ys x y = y
  all_with_values (AnswersBy value body quality) xs ys x y = y
  all_with_values (AnswersError value error) xs ys x y = y
  all_with_values (SharesValue value) xs ys x y = y
  all_with_values (GivesBack value) xs ys x y = y

  all_with_gets : (to : ToGets) (others asked told : List Effect) → P others → P asked → P told → P (with_gets to others asked told)
  all_with_gets NoGet others asked told o a t = o
  all_with_gets (Asks question) others asked told o a t = a
  all_with_gets (AsksBy id question) others asked told o a t = o
  all_with_gets (Answers response) others asked told o a t = t
  all_with_gets (EndsSide rid) others asked told o a t = t
  all_with_gets (Reaches moment) others asked told o a t = t
  all_with_gets (EndsQuerier id) others asked told o a t = h.ends.both others told o t
  all_with_gets (Cancels token) others asked told o a t = t
  all_with_gets EndsAll others asked told o a t = h.ends.both others told o t

  pub brought : (known : Known) (number : Option ℕ) (text : Option (List ℕ)) (e : Event) → P (hands_of known.subs known.pubs text e) → P (effects_on known number text e)
  brought known number text e handed_out =
      let sends = sends_of known.keys known.pubs number text e in
      let entities = entity_sends known e number text in
      let handed = hands_of known.subs known.pubs text e in
      let ends = ends_of known.queryables known.subs known.watch.subs e in
      let watched = watch_effects known.watch number text (row_of e).to_liveliness ends in
      let values = value_effects (answering known) (row_of e).key (draws_of known number text e) text (row_of e).to_values in
      let asked = request_effects known.timeout known.keys (row_of e).key (draws_of known number text e) number text (to_gets_for known e) in
      let told = told_effects known.gets known.watch.gets text (to_gets_for known e) in
      let others_hold : P (sends ++ entities ++ handed ++ watched) =
      h.ends.both (sends ++ entities ++ handed) watched
      (h.ends.both (sends ++ entities) handed
      (h.ends.both sends entities (all_sent known.keys known.pubs number text e) (all_entity known number text e))
      handed_out)
      (all_watch known.watch number text (row_of e).to_liveliness ends (all_ends known.queryables known.subs known.watch.subs e)) in
      all_with_gets (to_gets_for known e) (with_values (row_of e).to_values (sends ++ entities ++ handed ++ watched) values) asked told
      (all_with_values (row_of e).to_values (sends ++ entities ++ handed ++ watched) values others_hold
      (all_values (answering known) (row_of e).key (draws_of known number text e) text (row_of e).to_values))
      (all_asked known.timeout known.keys (row_of e).key (draws_of known number text e) number text (to_gets_for known e))
      (all_told known.gets known.watch.gets text (to_gets_for known e))
