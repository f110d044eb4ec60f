-- What gets of tokens are handed of an event.
use Rattle.std.proofs.Common.{◌≡◌, ◌<◌, ℕ, List, [], ◌∷◌, ◌++◌, Bool, true, false, Option, Some, None, refl, sym, ◌∙◌, ap, arith, map}
use Rattle.std.proofs.lemmas.Bool.{eqb-true}
use Rattle.std.proofs.lemmas.List.Concat.{flat_map-append}
use mathlib.Core.List.{append-nil}
use Rattle.std.specs.Prelude.{◌==◌, ◌&&◌, ◌||◌, not, filter, is_some, if◌then◌else◌}
use Rattle.std.specs.List.{AllByRecursion, find, flat_map}
use Rattle.zs_sample.specs.Encoding.{encoding_of}
use Rattle.zs_sample.specs.Reply.{Replied}
use Rattle.zs_wire.specs.declared.body.Body.{Body}
use Rattle.zs_wire.specs.declared.body.Value.{Value}
use Rattle.zs_wire.specs.declared.message.Message.TheVariants.{DeclareToken as token_message, Request as request_message, Response as response_message, ResponseFinal}
use Rattle.zs_wire.specs.declared.response.Answered.{Answered}
use Rattle.zs_wire.specs.declared.response.Answered.TheVariants.{Reply, Err as Error}
use Rattle.zs_wire.specs.declared.response.Response.{Response}
use Rattle.zs_wire.specs.declared.sample_kind.SampleKind.{SampleKind}
use Rattle.zs_wire.specs.declared.sample_kind.SampleKind.TheVariants.{Put as put_kind, Delete as delete_kind}
use Rattle.zs_wire.specs.declared.wire_expr.WireExpr.{WireExpr}
use Rattle.zs_tables.specs.Liveliness.{met_keys, hearers}
use Rattle.zs_tables.specs.LivelinessGets.{is_asking, is_over, over_at, numbers_with}
use Rattle.zs_tables.specs.MatchingLaws.{differ}
use Rattle.zs_subscriptions.specs.Recipients.{has_network}
use Rattle.zs_tables.specs.declared.listener.ListenerRow.{ListenerRow}
use Rattle.zs_tables.specs.Types.{LivelinessGet as TokensGet, LivelinessSub, RemoteToken}
use Rattle.zs_subscriptions.specs.declared.subscriber.SubRow.{SubRow}
use Rattle.zs_query.specs.declared.open_get.OpenGet.{OpenGet}
use Rattle.zs_query.specs.declared.outcome.Outcome.{Outcome}
use Rattle.zs_query.specs.declared.outcome.Outcome.TheVariants as outcome
use Rattle.zs_query.specs.declared.outcome.Peek.{Peek}
use Rattle.zs_query.specs.declared.outcome.Peek.TheVariants as peek
use Rattle.zs_query.specs.Types.{QueryValue, Finished, Unknown, MoreLeft, Last}
use Rattle.zs_query.specs.declared.side.Side.TheVariants.{Local, Network}
use Rattle.zs_query.specs.Asked.{QuerierEnds, CancelledBy}
use Rattle.zs_query.specs.Gets.{get_at, peek_at, final_outcome, ends_at, timeout_error}
use Rattle.zs_query.specs.Unfinished.{value_at, finished}
use Rattle.zs_subscriptions.proofs.Ascending.{ascend_filter}
use Rattle.zs_query.proofs.Ascending.{all_append, all_weaker}
use Rattle.zs_subscriptions.specs.Ascending.{Ascend}
use Rattle.zs_events.specs.declared.event.Event.{Event}
use Rattle.zs_events.specs.declared.event.Event.TheVariants.{Undeclare, Close, Net, Get, QuerierGet, Cancel, Tick, Reply as reply_event, ReplyErr, Finish, Share}
use Rattle.zs_events.specs.declared.entity_kind.EntityKind.TheVariants.{Querier as querier_sort}
use Rattle.zs_events.specs.declared.publication.ReplyQuality.{ReplyQuality}
use Rattle.zs_events.specs.declared.turn.Effect.{Effect}
use Rattle.zs_events.specs.declared.turn.Effect.TheVariants.{Send, Hand, End, Matching}
use Rattle.zs_events.specs.declared.turn.HandOver.TheVariants.{Sample as sample_for, Reply as reply_for}
use Rattle.zs_events.specs.declared.turn.Kind.TheVariants.{Subscriber, Listener as listener_kind, LivelinessGet as tokens_kind}
use Rattle.zs_events.specs.declared.turn.Refusal.{Refusal}
use Rattle.zs_events.specs.Turn.{answered}
use Rattle.zs_events.specs.Updates.{body_of}
use Rattle.zs_events.specs.Kinds.{NamedKey, OwnKey, QuerierKey, Question, ToGets, Reaches, NoValue, Publishes, NoContent, OwnContent, ByPublisher, ToLiveliness, NoToken, Subscribes, AsksTokens, TellsToken, EndsToken, EndsAnswers, row_of}
use Rattle.zs_model.specs.declared.querier.QuerierRow.{QuerierRow}
use Rattle.zs_model.specs.Answers.{quality_of, local_reply, local_error, response_by}
use Rattle.zs_model.specs.declared.settings.Settings.{Settings}
use Rattle.zs_model.specs.Causes.{refusal_of}
use Rattle.zs_model.specs.Entry.{Entry, is_closed}
use Rattle.zs_model.specs.GetEffects.{hand_reply, hand_query, end_get, last_hands, reply_effects, response_effects, final_effects, ends_effects, ended_numbers, cut_effects, ask_effects, asked_effects, request_effects, told_effects, with_gets}
use Rattle.zs_model.specs.Gets.{sample_reply}
use Rattle.zs_model.specs.HeldKeys.{named_text}
use Rattle.zs_model.specs.Listeners.{is_listener, listener_ends}
use Rattle.zs_model.specs.Live.{live_listeners}
use Rattle.zs_model.specs.LivelinessEffects.{Watch, hand_token, hand_remote_token, hand_answer, token_reply, end_asking, cancelled_ends, asking_ends, token_hands, history_hands, declared_hands, answer_hands, ended_text, watch_effects}
use Rattle.zs_model.specs.Matching.{is_matched, turned, listener_effects}
use Rattle.zs_model.specs.Past.{past_of, entry_of}
use Rattle.zs_model.specs.Publications.{Publication, sample_on, allows}
use Rattle.zs_model.specs.Publishers.{resolved}
use Rattle.zs_model.specs.Queriers.{querier_at, question_of, asks_of}
use Rattle.zs_model.specs.Questions.{request_of}
use Rattle.zs_model.specs.Sends.{full_wire, wire_form, declaration_of, sends_of}
use Rattle.zs_model.specs.Tokens.{answers, is_remote_token, asking_now}
use Rattle.zs_model.specs.Values.{drawn_by}
use Rattle.zs_model.specs.ValueEffects.{Answering, requested_effects, replied_effects, answer_effects, answer_error_effects, finish_effects}
use Rattle.zs_model.specs.Effects.{Known, known_of, answering, draws_of, entity_sends, hands_of, hands_for, publication_on, ends_of, effects_on, effects_behind}
use Rattle.zs_laws.specs.Handed.{accepted_alone}
use Rattle.zs_laws.proofs.EntityEnds.{ends_cases}
use Rattle.zs_effects.specs.Answered.{answered_at, answered_to, answer_for, timeout_for, TokensGetsAreHanded, OthersAreAnsweredNothing}
use Rattle.zs_effects.proofs.Rising.{IsSending}
use Rattle.zs_effects.proofs.Rows.{askings_below}
use Rattle.zs_effects.proofs.Sending.{front_sent}
use Rattle.zs_effects.proofs.Ascending.{others_of}

-- nothing is handed to the get of tokens of a number
module _ (n : ℕ) where
  abbrev Quiet : Effect → Type 0
  Quiet x = answered_at n x ≡ []

  none : (fx : List Effect) → AllByRecursion Quiet fx → answered_to n fx ≡ []
  none [] all = refl
  none (x ∷ fx) all = λ i. all.0 i ++ none fx all.1 i

  mapped : {X : Type 0} (f : X → Effect) → ((x : X) → Quiet (f x)) → (xs : List X) → AllByRecursion Quiet (map f xs)
  mapped f quiet [] = tt
  mapped f quiet (x ∷ xs) = (quiet x, mapped f quiet xs)

  if_quiet : (b : Bool) (x : Effect) → Quiet x → AllByRecursion Quiet (if b then x ∷ [] else [])
  if_quiet true x quiet = (quiet, tt)
  if_quiet false x quiet = tt

  -- what is sent
  sending_quiet : (x : Effect) → IsSending x → Quiet x
  sending_quiet (Hand (reply_for tokens_kind number reply)) is = absurd (omega (arith, is.0))
  sending_quiet x is = refl

  front_quiet : (known : Known) (number : Option ℕ) (text : Option (List ℕ)) (e : Event) → AllByRecursion Quiet (sends_of known.keys known.pubs number text e ++ entity_sends known e number text)
  front_quiet known number text e =
      all_weaker IsSending Quiet (λ x is. sending_quiet x is) (sends_of known.keys known.pubs number text e ++ entity_sends known e number text) (front_sent known number text e)

  -- what is published, and what ends
  published_quiet : (rows : List SubRow) (text : Option (List ℕ)) (p : Publishes) → AllByRecursion Quiet (hands_for rows (publication_on text p))
  published_quiet rows text NoContent = tt
  published_quiet rows None (OwnContent c) = tt
  published_quiet rows (Some text) (OwnContent c) =
      let p : Publication = record { local = c.local; destination = c.destination; sample = sample_on text c } in
      mapped (λ (row : SubRow). Hand (sample_for Subscriber row.id p.sample)) (λ row. refl) (filter (allows p) rows)
  published_quiet rows None (ByPublisher id c) = tt
  published_quiet rows (Some text) (ByPublisher id c) = tt

  ends_quiet : (known : Known) (e : Event) → AllByRecursion Quiet (ends_of known.queryables known.subs known.watch.subs e)
  ends_quiet known e = ends_cases (AllByRecursion Quiet) (record { none = tt; both = all_append Quiet; one = λ kind id. (refl, tt) }) known.queryables known.subs known.watch.subs e

  -- what subscribers to liveliness are told
  tokens_quiet : (kind : SampleKind) (before : Bool) (text : Option (List ℕ)) (subs : List LivelinessSub) → AllByRecursion Quiet (token_hands kind before text subs)
  tokens_quiet kind before None subs = tt
  tokens_quiet kind before (Some text) subs = mapped (hand_token kind text) (λ id. refl) (hearers before text subs)

  history_quiet : (history : Bool) (number : Option ℕ) (text : Option (List ℕ)) (tokens : List RemoteToken) → AllByRecursion Quiet (history_hands history number text tokens)
  history_quiet true (Some id) (Some text) tokens = mapped (hand_remote_token id) (λ key. refl) (met_keys text tokens)
  history_quiet true (Some id) None tokens = tt
  history_quiet true None text tokens = tt
  history_quiet false number text tokens = tt

  told_quiet : (watch : Watch) (id : ℕ) (interest : Option ℕ) (text : Option (List ℕ)) → AllByRecursion Quiet (declared_hands watch id interest text)
  told_quiet watch id interest text = go (is_remote_token id watch.remote_tokens)
    where
      go : (b : Bool) → AllByRecursion Quiet (if b then [] else token_hands put_kind (is_some interest) text watch.subs)
      go true = tt
      go false = tokens_quiet put_kind (is_some interest) text watch.subs

  abbrev TellsNone : ToLiveliness → Type 0
  TellsNone (TellsToken id interest) = ⊥
  TellsNone to = Unit {0}

  watch_quiet : (watch : Watch) (number : Option ℕ) (text : Option (List ℕ)) (to : ToLiveliness) (ends : List Effect) → TellsNone to → AllByRecursion Quiet ends
      → AllByRecursion Quiet (watch_effects watch number text to ends)
  watch_quiet watch number text NoToken ends is all = all
  watch_quiet watch number text (Subscribes history) ends is all = history_quiet history number text watch.remote_tokens
  watch_quiet watch number text (AsksTokens timeout token) ends is all = tt
  watch_quiet watch number text (TellsToken id interest) ends is all = absurd is
  watch_quiet watch number text (EndsToken id interest) ends is all = tokens_quiet delete_kind (is_some interest) (ended_text (find (λ t. t.number == id) watch.remote_tokens) text) watch.subs
  watch_quiet watch number text (EndsAnswers None) ends is all = tt
  watch_quiet watch number text (EndsAnswers (Some m)) ends is all = if_quiet (is_asking m watch.gets) (end_asking m) refl

  others_quiet : (known : Known) (number : Option ℕ) (text : Option (List ℕ)) (e : Event) → TellsNone (row_of e).to_liveliness → AllByRecursion Quiet (others_of known number text e)
  others_quiet known number text e is =
      all_append Quiet (sends_of known.keys known.pubs number text e ++ entity_sends known e number text ++ hands_of known.subs known.pubs text e) _
      (all_append Quiet (sends_of known.keys known.pubs number text e ++ entity_sends known e number text) (hands_of known.subs known.pubs text e)
      (front_quiet known number text e) (published_quiet known.subs text (resolved known.pubs (row_of e).publishes)))
      (watch_quiet known.watch number text (row_of e).to_liveliness (ends_of known.queryables known.subs known.watch.subs e) is (ends_quiet known e))

  -- what gets are told
  reply_quiet : (p : Peek) (number : ℕ) (reply : Replied) → AllByRecursion Quiet (reply_effects p number reply)
  reply_quiet peek.Handed number reply = (refl, tt)
  reply_quiet peek.Unknown number reply = tt
  reply_quiet peek.Unmatched number reply = tt
  reply_quiet peek.Kept number reply = tt
  reply_quiet peek.Dropped number reply = tt

  final_quiet : (number : ℕ) (out : Outcome) → AllByRecursion Quiet (final_effects number out)
  final_quiet number (outcome.Ended replies) = all_append Quiet (map (hand_reply number) replies) (end_get number ∷ []) (mapped (hand_reply number) (λ r. refl) replies) (refl, tt)
  final_quiet number outcome.Counted = tt
  final_quiet number outcome.Unknown = tt
  final_quiet number outcome.Unmatched = tt
  final_quiet number outcome.Kept = tt
  final_quiet number outcome.Dropped = tt
  final_quiet number (outcome.Handed reply) = tt
  final_quiet number outcome.Repeated = tt

  response_quiet : (gets : List OpenGet) (response : Response) (answered : Answered) (text : Option (List ℕ)) → AllByRecursion Quiet (response_effects gets response answered text)
  response_quiet gets response (Reply body) None = tt
  response_quiet gets response (Reply body) (Some text) = reply_quiet (peek_at (get_at response.rid gets) (sample_reply text response body)) response.rid (sample_reply text response body)
  response_quiet gets response (Error value) text = (refl, tt)

  answered_quiet : (a : Answering) (key : NamedKey) (o : Option QueryValue) (quality : ReplyQuality) (body : Body) (text : Option (List ℕ)) → AllByRecursion Quiet (answer_effects a key o quality body text)
  answered_quiet a key None quality body text = tt
  answered_quiet a key (Some v) quality body None = tt
  answered_quiet a key (Some v) quality body (Some text) = go v.row.local
    where
      go : (b : Bool)
          → AllByRecursion Quiet (if b then replied_effects a.gets v.row.rid (local_reply a.zid v.queryable v.row quality body text)
          else Send (response_message (response_by a.zid v.queryable v.row.rid (wire_form a.keys text (declaration_of a.keys text key)) (quality_of quality v.row.qos) (Reply body))) ∷ [])
      go true = reply_quiet (peek_at (get_at v.row.rid a.gets) (local_reply a.zid v.queryable v.row quality body text)) v.row.rid (local_reply a.zid v.queryable v.row quality body text)
      go false = (refl, tt)

  error_quiet : (a : Answering) (o : Option QueryValue) (error : Value) → AllByRecursion Quiet (answer_error_effects a o error)
  error_quiet a None error = tt
  error_quiet a (Some v) error = go v.row.local (is_some (get_at v.row.rid a.gets))
    where
      go : (b o : Bool)
          → AllByRecursion Quiet (if b then if o then hand_reply v.row.rid (local_error a.zid v.queryable error) ∷ [] else []
          else Send (response_message (response_by a.zid v.queryable v.row.rid (full_wire v.row.key.text) v.row.qos (Error error))) ∷ [])
      go true true = (refl, tt)
      go true false = tt
      go false o = (refl, tt)

  finish_quiet : (gets : List OpenGet) (f : Finished) → AllByRecursion Quiet (finish_effects gets f)
  finish_quiet gets Unknown = tt
  finish_quiet gets MoreLeft = tt
  finish_quiet gets (Last row) = go row.local
    where
      go : (b : Bool) → AllByRecursion Quiet (if b then final_effects row.rid (final_outcome Local (get_at row.rid gets)) else Send (ResponseFinal row.rid) ∷ [])
      go true = final_quiet row.rid (final_outcome Local (get_at row.rid gets))
      go false = (refl, tt)

  queries_quiet : (values : List QueryValue) → AllByRecursion Quiet (map hand_query values)
  queries_quiet values = mapped hand_query (λ v. refl) values

  requested_quiet : (rid : ℕ) (drawn : List QueryValue) → AllByRecursion Quiet (requested_effects rid drawn)
  requested_quiet rid [] = (refl, tt)
  requested_quiet rid (v ∷ drawn) = queries_quiet (v ∷ drawn)

  asking_quiet : (default : ℕ) (wire : WireExpr) (number : ℕ) (q : Question) (values : List QueryValue) → AllByRecursion Quiet (ask_effects default wire number q values)
  asking_quiet default wire number q [] = go (has_network q.settings.destination)
    where
      go : (b : Bool) → AllByRecursion Quiet (if b then Send (request_message (request_of default wire number q)) ∷ [] else end_get number ∷ [])
      go true = (refl, tt)
      go false = (refl, tt)
  asking_quiet default wire number q (v ∷ values) =
      all_append Quiet (if has_network q.settings.destination then Send (request_message (request_of default wire number q)) ∷ [] else []) (map hand_query (v ∷ values))
      (if_quiet (has_network q.settings.destination) (Send (request_message (request_of default wire number q))) refl) (queries_quiet (v ∷ values))

  asked_quiet : (known : Known) (key : NamedKey) (values : List QueryValue) (number : Option ℕ) (text : Option (List ℕ)) (q : Question)
      → AllByRecursion Quiet (asked_effects known.timeout known.keys key values number text q)
  asked_quiet known key values None text q = tt
  asked_quiet known key values (Some number) None q = tt
  asked_quiet known key values (Some number) (Some text) q = asking_quiet known.timeout (wire_form known.keys text (declaration_of known.keys text key)) number q values

  gets_quiet : (gets asking : List ℕ) → AllByRecursion Quiet (map end_get gets ++ map end_asking asking)
  gets_quiet gets asking = all_append Quiet (map end_get gets) (map end_asking asking) (mapped end_get (λ m. refl) gets) (mapped end_asking (λ m. refl) asking)

  last_quiet : (ends : List (ℕ × List Replied)) → AllByRecursion Quiet (flat_map last_hands ends)
  last_quiet [] = tt
  last_quiet (end ∷ ends) = all_append Quiet (last_hands end) (flat_map last_hands ends) (mapped (hand_reply end.0) (λ r. refl) end.1) (last_quiet ends)

  -- what an event hands an open get of tokens, and one that is not open
  abbrev Due : Bool → List TokensGet → Option (List ℕ) → ToLiveliness → ToGets → List Replied
  Due live gets text to to_gets = if live then answer_for n to text ++ timeout_for n gets to_gets else []

  quiet_due : (live : Bool) (fx : List Effect) → AllByRecursion Quiet fx → answered_to n fx ≡ (if live then [] else [])
  quiet_due true fx all = none fx all
  quiet_due false fx all = none fx all

  -- deadlines: a get has one
  missing : (gets : List TokensGet) → AllByRecursion (λ (g : TokensGet). (g.number == n) ≡ false) gets → answered_to n (map (hand_answer timeout_error) (map (λ (g : TokensGet). g.number) gets)) ≡ []
  missing [] all = refl
  missing (g ∷ gets) all = go (g.number == n) all.0 (missing gets all.1)
    where
      go : (b : Bool) → b ≡ false → answered_to n (map (hand_answer timeout_error) (map (λ (g : TokensGet). g.number) gets)) ≡ []
          → (if b then timeout_error ∷ [] else []) ++ answered_to n (map (hand_answer timeout_error) (map (λ (g : TokensGet). g.number) gets)) ≡ []
      go true is ih = cc
      go false is ih = ih

  timeouts_are : (gets : List TokensGet) → Ascend (λ (g : TokensGet). g.number) gets
      → answered_to n (map (hand_answer timeout_error) (map (λ (g : TokensGet). g.number) gets)) ≡ (if is_asking n gets then timeout_error ∷ [] else [])
  timeouts_are [] up = refl
  timeouts_are (g ∷ gets) up = go (g.number == n) refl (timeouts_are gets up.1)
    where
      apart : (m : TokensGet) → g.number < m.number → (g.number == n) ≡ true → (m.number == n) ≡ false
      apart m less same = other (m.number == n) refl
        where
          other : (b : Bool) → (m.number == n) ≡ b → b ≡ false
          other true is = absurd (omega (arith, eqb-true m.number n is, eqb-true g.number n same, less))
          other false is = refl

      go : (b : Bool) → (g.number == n) ≡ b → answered_to n (map (hand_answer timeout_error) (map (λ (g : TokensGet). g.number) gets)) ≡ (if is_asking n gets then timeout_error ∷ [] else [])
          → (if b then timeout_error ∷ [] else []) ++ answered_to n (map (hand_answer timeout_error) (map (λ (g : TokensGet). g.number) gets)) ≡ (if b || is_asking n gets then timeout_error ∷ [] else [])
      go true is ih =
          ap (λ (rest : List Replied). timeout_error ∷ rest)
          (missing gets (all_weaker (λ (m : TokensGet). g.number < m.number) (λ (m : TokensGet). (m.number == n) ≡ false) (λ m less. apart m less is) gets up.0))
      go false is ih = ih

  none_left : (keep : TokensGet → Bool) (gets : List TokensGet) → is_asking n gets ≡ false → is_asking n (filter keep gets) ≡ false
  none_left keep [] lacks = refl
  none_left keep (g ∷ gets) lacks = go (g.number == n) refl lacks (keep g) (none_left keep gets)
    where
      go : (b : Bool) → (g.number == n) ≡ b → (b || is_asking n gets) ≡ false → (k : Bool) → (is_asking n gets ≡ false → is_asking n (filter keep gets) ≡ false)
          → is_asking n (if k then g ∷ filter keep gets else filter keep gets) ≡ false
      go true is lacks k ih = cc
      go false is lacks true ih = rw is (ih lacks)
      go false is lacks false ih = ih lacks

  moment_due : (moment : ℕ) (gets : List OpenGet) (asking : List TokensGet) → Ascend (λ (g : TokensGet). g.number) asking → (live : Bool) → is_asking n asking ≡ live
      → answered_to n (ends_effects (ends_at moment gets) (over_at moment asking)) ≡ (if live then timeout_for n asking (Reaches moment) else [])
  moment_due moment gets asking up live is =
      let ends = ends_at moment gets in
      let over = over_at moment asking in
      let first = flat_map last_hands ends in
      let timeouts = map (hand_answer timeout_error) over in
      let others = map end_get (map (λ (end : ℕ × List Replied). end.0) ends) in
      flat_map-append (answered_at n) (first ++ timeouts ++ others) (map end_asking over)
      ∙ (λ i. flat_map-append (answered_at n) (first ++ timeouts) others i ++ none (map end_asking over) (mapped end_asking (λ m. refl) over) i)
      ∙ (λ i. flat_map-append (answered_at n) first timeouts i ++ none others (mapped end_get (λ m. refl) (map (λ (end : ℕ × List Replied). end.0) ends)) i ++ [])
      ∙ (λ i. none first (last_quiet ends) i ++ timeouts_are (filter (is_over moment) asking) (ascend_filter (λ (g : TokensGet). g.number) (is_over moment) asking up) i ++ [] ++ [])
      ∙ by_open live is (is_asking n (filter (is_over moment) asking)) refl
    where
      by_open : (live : Bool) → is_asking n asking ≡ live → (over : Bool) → is_asking n (filter (is_over moment) asking) ≡ over
          → (if over then timeout_error ∷ [] else []) ++ [] ++ [] ≡ (if live then if over then timeout_error ∷ [] else [] else [])
      by_open true is true due = refl
      by_open true is false due = refl
      by_open false is true due = absurd (no (sym (none_left (is_over moment) asking is) ∙ due))
        where
          no : false ≡ true → ⊥
          no same = cc
      by_open false is false due = refl

  -- an answer
  answered_due : (watch : Watch) (id : ℕ) (interest : Option ℕ) (text : Option (List ℕ)) (live : Bool) → is_asking n watch.gets ≡ live
      → answered_to n (if answers interest watch.gets then answer_hands interest text else declared_hands watch id interest text) ≡ (if live then answer_for n (TellsToken id interest) text ++ [] else [])
  answered_due watch id None text true is = none (declared_hands watch id None text) (told_quiet watch id None text)
  answered_due watch id None text false is = none (declared_hands watch id None text) (told_quiet watch id None text)
  answered_due watch id (Some m) None live is = go (is_asking m watch.gets) live
    where
      go : (b live : Bool) → answered_to n (if b then [] else declared_hands watch id (Some m) None) ≡ (if live then [] else [])
      go true true = refl
      go true false = refl
      go false true = none (declared_hands watch id (Some m) None) (told_quiet watch id (Some m) None)
      go false false = none (declared_hands watch id (Some m) None) (told_quiet watch id (Some m) None)
  answered_due watch id (Some m) (Some text) live is = go (is_asking m watch.gets) refl (m == n) refl live is
    where
      told : answered_to n (declared_hands watch id (Some m) (Some text)) ≡ []
      told = none (declared_hands watch id (Some m) (Some text)) (told_quiet watch id (Some m) (Some text))

      clash : (b live : Bool) → is_asking m watch.gets ≡ b → (m == n) ≡ true → is_asking n watch.gets ≡ live → b ≡ live
      clash b live is_m same is_n = sym is_m ∙ ap (λ (k : ℕ). is_asking k watch.gets) (eqb-true m n same) ∙ is_n

      go : (b : Bool) → is_asking m watch.gets ≡ b → (t : Bool) → (m == n) ≡ t → (live : Bool) → is_asking n watch.gets ≡ live
          → answered_to n (if b then hand_answer (token_reply text) m ∷ [] else declared_hands watch id (Some m) (Some text)) ≡ (if live then (if t then token_reply text ∷ [] else []) ++ [] else [])
      go true is_m true same true is_n = rw same refl
      go true is_m true same false is_n = let no : true ≡ false = clash true false is_m same is_n in cc
      go true is_m false same true is_n = rw same refl
      go true is_m false same false is_n = rw same refl
      go false is_m true same true is_n = let no : false ≡ true = clash false true is_m same is_n in cc
      go false is_m true same false is_n = told
      go false is_m false same true is_n = told
      go false is_m false same false is_n = told

  token_due : (known : Known) (number : Option ℕ) (text : Option (List ℕ)) (id : ℕ) (wire : WireExpr) (interest : Option ℕ) (live : Bool) → is_asking n known.watch.gets ≡ live
      → answered_to n (others_of known number text (Net (token_message id wire interest))) ≡ (if live then answer_for n (TellsToken id interest) text ++ [] else [])
  token_due known number text id wire interest live is =
      let e : Event = Net (token_message id wire interest) in
      let front = sends_of known.keys known.pubs number text e ++ entity_sends known e number text in
      flat_map-append (answered_at n) (front ++ []) (watch_effects known.watch number text (TellsToken id interest) [])
      ∙ (λ i. none (front ++ []) (all_append Quiet front [] (front_quiet known number text e) tt) i ++ answered_due known.watch id interest text live is i)

  -- all that an event brings about by itself
  all_due : (known : Known) (number : Option ℕ) (text : Option (List ℕ)) (e : Event) → Ascend (λ (g : TokensGet). g.number) known.watch.gets → (live : Bool) → is_asking n known.watch.gets ≡ live
      → answered_to n (effects_on known number text e) ≡ Due live known.watch.gets text (row_of e).to_liveliness (row_of e).to_gets
  all_due known number text (Get key settings inquiry to) up live is =
      quiet_due live (effects_on known number text (Get key settings inquiry to)) (asked_quiet known (OwnKey key) (draws_of known number text (Get key settings inquiry to)) number text (record { settings = settings; inquiry = inquiry; querier = None }))
  all_due known number text (QuerierGet id inquiry to) up live is = go (querier_at id known.queriers)
    where
      go : (o : Option QuerierRow)
          → answered_to n (with_gets (asks_of inquiry o) [] (request_effects known.timeout known.keys (QuerierKey id) (drawn_by known.queryables known.handing (asks_of inquiry o) NoValue number text) number text (asks_of inquiry o))
          (told_effects known.gets known.watch.gets text (asks_of inquiry o))) ≡ (if live then [] else [])
      go None = quiet_due live [] tt
      go (Some row) =
          quiet_due live (asked_effects known.timeout known.keys (QuerierKey id) (drawn_by known.queryables known.handing (asks_of inquiry (Some row)) NoValue number text) number text (question_of row inquiry))
          (asked_quiet known (QuerierKey id) (drawn_by known.queryables known.handing (asks_of inquiry (Some row)) NoValue number text) number text (question_of row inquiry))
  all_due known number text (Undeclare querier_sort id) up live is =
      let e : Event = Undeclare querier_sort id in
      quiet_due live (others_of known number text e ++ cut_effects (QuerierEnds id) known.gets)
      (all_append Quiet (others_of known number text e) (cut_effects (QuerierEnds id) known.gets) (others_quiet known number text e tt)
      (mapped end_get (λ m. refl) (ended_numbers (QuerierEnds id) known.gets)))
  all_due known number text (Cancel token) up live is =
      quiet_due live (cut_effects (CancelledBy token) known.gets ++ cancelled_ends token known.watch.gets) (gets_quiet (ended_numbers (CancelledBy token) known.gets) (numbers_with token known.watch.gets))
  all_due known number text (Tick moment) up live is = moment_due moment known.gets known.watch.gets up live is
  all_due known number text Close up live is =
      quiet_due live (others_of known number text Close ++ (map end_get (map (λ (g : OpenGet). g.row.number) known.gets) ++ asking_ends known.watch.gets))
      (all_append Quiet (others_of known number text Close) (map end_get (map (λ (g : OpenGet). g.row.number) known.gets) ++ asking_ends known.watch.gets) (others_quiet known number text Close tt)
      (gets_quiet (map (λ (g : OpenGet). g.row.number) known.gets) (map (λ (g : TokensGet). g.number) known.watch.gets)))
  all_due known number text (reply_event value key update quality) up live is =
      quiet_due live (effects_on known number text (reply_event value key update quality)) (answered_quiet (answering known) (OwnKey key) (value_at value known.handing.values) quality (body_of [] update) text)
  all_due known number text (ReplyErr value error) up live is = quiet_due live (effects_on known number text (ReplyErr value error)) (error_quiet (answering known) (value_at value known.handing.values) (record error { encoding = encoding_of error.encoding }))
  all_due known number text (Finish value) up live is = quiet_due live (effects_on known number text (Finish value)) (finish_quiet known.gets (finished (value_at value known.handing.values) known.handing.values))
  all_due known number text (Share value) up live is = quiet_due live [] tt
  all_due known number text (Net (request_message request)) up live is = quiet_due live (effects_on known number text (Net (request_message request))) (requested_quiet request.rid (draws_of known number text (Net (request_message request))))
  all_due known number text (Net (response_message response)) up live is = quiet_due live (effects_on known number text (Net (response_message response))) (response_quiet known.gets response response.answered text)
  all_due known number text (Net (ResponseFinal rid)) up live is = quiet_due live (effects_on known number text (Net (ResponseFinal rid))) (final_quiet rid (final_outcome Network (get_at rid known.gets)))
  all_due known number text (Net (token_message id wire interest)) up live is = token_due known number text id wire interest live is
  all_due known number text e up live is = quiet_due live (effects_on known number text e) (others_quiet known number text e tt)

  -- listeners hear nothing else
  heard_quiet : (past : List Entry) (x : Entry) → AllByRecursion Quiet (listener_effects past x)
  heard_quiet past x =
      let gone : ListenerRow → Bool = λ row. not (is_listener row.id (live_listeners (x ∷ past))) in
      let before : ListenerRow → Bool = λ row. is_listener row.id (live_listeners past) && is_matched past row in
      let after : ListenerRow → Bool = is_matched (x ∷ past) in
      all_append Quiet (listener_ends (filter gone (live_listeners past))) (turned before after (live_listeners (x ∷ past)))
      (mapped (λ (row : ListenerRow). End listener_kind row.id) (λ row. refl) (filter gone (live_listeners past)))
      (mapped (λ (row : ListenerRow). Matching row.id (after row)) (λ row. refl) (filter (λ row. differ (before row) (after row)) (live_listeners (x ∷ past))))

append_nil : (xs : List Replied) → xs ++ [] ≡ xs
append_nil xs = append-nil xs

-- an event by its answer
turn_due : (s : Settings) (h : List Event) (e : Event) (n : ℕ) (live : Bool) → is_asking n (asking_now s (past_of s h)) ≡ live → (b : Bool) (o : Option Refusal)
    → answered_to n (if b then answered o None [] else answered o (entry_of s (past_of s h) e).number (effects_behind s (past_of s h) e)).effects
    ≡ (if live then accepted_alone o b (answer_for n (row_of e).to_liveliness (named_text (past_of s h) e) ++ timeout_for n (asking_now s (past_of s h)) (row_of e).to_gets) else [])
turn_due s h e n true is true (Some refusal) = refl
turn_due s h e n true is true None = refl
turn_due s h e n true is false (Some refusal) = refl
turn_due s h e n false is true (Some refusal) = refl
turn_due s h e n false is true None = refl
turn_due s h e n false is false (Some refusal) = refl
turn_due s h e n true is false None =
    let past = past_of s h in
    let x = entry_of s past e in
    let fx = effects_on (known_of s past) x.number (named_text past e) e in
    flat_map-append (answered_at n) fx (listener_effects past x)
    ∙ (λ i. all_due n (known_of s past) x.number (named_text past e) e (askings_below s h).ascend true is i ++ none n (listener_effects past x) (heard_quiet n past x) i)
    ∙ append_nil (answer_for n (row_of e).to_liveliness (named_text past e) ++ timeout_for n (asking_now s past) (row_of e).to_gets)
turn_due s h e n false is false None =
    let past = past_of s h in
    let x = entry_of s past e in
    let fx = effects_on (known_of s past) x.number (named_text past e) e in
    flat_map-append (answered_at n) fx (listener_effects past x)
    ∙ (λ i. all_due n (known_of s past) x.number (named_text past e) e (askings_below s h).ascend false is i ++ none n (listener_effects past x) (heard_quiet n past x) i)

pub tokens_gets_are_handed : TokensGetsAreHanded
tokens_gets_are_handed s h e n is = turn_due s h e n true is (is_closed (past_of s h)) (refusal_of s (past_of s h) e)

pub others_are_answered_nothing : OthersAreAnsweredNothing
others_are_answered_nothing s h e n is = turn_due s h e n false is (is_closed (past_of s h)) (refusal_of s (past_of s h) e)
