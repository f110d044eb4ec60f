-- What a side is behind an event and the answers to the queries that it brings.
use Rattle.std.proofs.Common.{◌≡◌, ◌+◌, ◌≤◌, ℕ, List, [], ◌∷◌, ◌++◌, Bool, true, false, Option, Some, None, refl, sym, ◌∙◌, ap, subst, arith, map}
use Rattle.std.specs.Prelude.{◌==◌, ◌&&◌, ◌||◌, not, filter, is_some, encode_utf8_all, if◌then◌else◌}
use Rattle.std.specs.List.{AllByRecursion}
use Rattle.std.specs.Option.{IfSome}
use Rattle.std.specs.Str.{chars}
use Rattle.std.proofs.lemmas.Bool.Decides.{nat_tests}
use Rattle.std.proofs.lemmas.List.{append_assoc}
use Rattle.zs_keys.specs.Matching.{intersects}
use Rattle.zs_wire.specs.declared.message.Message.{Message}
use Rattle.zs_wire.specs.declared.message.Message.TheVariants.{Request as request_message, Response as response_message, ResponseFinal}
use Rattle.zs_wire.specs.declared.quality.QoSType.{QoSType}
use Rattle.zs_wire.specs.declared.request.ConsolidationMode.{ConsolidationMode}
use Rattle.zs_wire.specs.declared.request.ConsolidationMode.TheVariants as by
use Rattle.zs_wire.specs.declared.request.Request.{Request}
use Rattle.zs_query.specs.Types.{RequestRow}
use Rattle.zs_sample.specs.Reply.{Replied}
use Rattle.zs_query.specs.declared.open_get.OpenGet.{OpenGet}
use Rattle.zs_query.specs.declared.side.Side.TheVariants.{Network}
use Rattle.zs_query.specs.Asked.{Quiet, FinalOf}
use Rattle.zs_query.specs.Gets.{get_at}
use Rattle.zs_query.specs.Kept.{kept}
use Rattle.zs_query.specs.Laws.{kept_in, get_after}
use Rattle.zs_events.specs.declared.event.Event.{Event}
use Rattle.zs_events.specs.declared.event.Event.TheVariants.{Net}
use Rattle.zs_events.specs.declared.turn.Answer.{Answer}
use Rattle.zs_events.specs.declared.turn.Effect.{Effect}
use Rattle.zs_events.specs.declared.turn.Refusal.{Refusal}
use Rattle.zs_events.specs.Kinds.{Draws, NoNumber, EntityNumber, QueryNumber, ValueNumber, CancellationNumber, KeyNumber, StatusOf, NoGet, row_of}
use Rattle.zs_model.specs.declared.settings.Settings.{Settings}
use Rattle.zs_model.specs.Causes.{refusal_of}
use Rattle.zs_model.specs.Counters.{draws_query, next_query}
use Rattle.zs_model.specs.Gets.{sample_reply, news_of, open_now}
use Rattle.zs_model.specs.HeldKeys.{wire_text, named_text}
use Rattle.zs_model.specs.Live.{live_queriers, to_gets_of}
use Rattle.zs_model.specs.Past.{past_of}
use Rattle.zs_model.specs.Queriers.{to_gets_by}
use Rattle.zs_model.specs.Questions.{request_of}
use Rattle.zs_model.specs.Received.{messages_of}
use Rattle.zs_model.specs.Sends.{full_wire}
use Rattle.zs_model.specs.Values.{get_request, network_request, handing_of, values_now}
use Rattle.zs_model.specs.Effects.{effects}
use Rattle.zs_laws.specs.Ended.{begun, EndsOfGets}
use Rattle.zs_laws.specs.Handed.{handed_to, errors_by, is_last, heard_at, GetsAreHanded, OthersAreHandedNothing}
use Rattle.zs_delivery.specs.Linked.{Side, with_event}
use Rattle.zs_events.specs.Updates.{body_of}
use Rattle.zs_keeping.specs.Answering.{update_of, answers_of, answers_to}
use Rattle.zs_store.specs.Store.{Write}
use Rattle.zs_replicas.specs.Replicas.{effects_at, stored}
use Rattle.zs_replica_gets.specs.Steps.{answerer, question, asking_settings}
use Rattle.zs_replica_gets.specs.Responding.{response_with, answer_messages}
use Rattle.zs_replica_gets.specs.Gets.{ends}
use Rattle.zs_replica_gets.proofs.Kept.{reply_by, pushed}
use Rattle.zs_replica_gets.proofs.Pasts.{effects_refused, unasked, Calm, Asking, refused_calm, refused_asking}
use Rattle.zs_replica_gets.proofs.Queries.{AsksNone}
use Rattle.zs_replica_gets.proofs.Turns.{IsQuiet, quiet_asks, quiet_calm, quiet_asking}
use Rattle.zs_replica_gets.proofs.Answered.{Fits, asking, value_of}
use Rattle.zs_replica_gets.proofs.Questions.{Waits, answer_accepted, drawn_if, asks_calm, asks_next, asks_other, asks_waits, asks_sends, asks_brings, takes_calm, takes_asking, takes_sends, takes_brings}
use Rattle.zs_replica_gets.proofs.Responses.{response_calm, response_sends, response_asks, response_other, final_calm, final_sends, final_asks, final_keeps, response_waits, response_next, final_fine, final_asking}
use Rattle.zs_replica_gets.proofs.Told.{IsSilent, handed_nothing, handed_kept, ends_is}
use Rattle.zs_replica_gets.proofs.Runs.{run, run_effects, same_effects, same_sent, IsNothing, nothing_append, nothing_at_all, IsText, IsLatest, silent_at, quiet_at, reply_at, nothing_more, Ran, responses, run_remote, run_other, run_own}

-- an event with the answers that it brings, and a side behind them
abbrev pub with_answers : Settings → Event → List Event → List Event
with_answers s e h = e ∷ answers_to answerer (stored s (e ∷ h)) (effects_at s h e)

abbrev pub block : Settings → Event → Side → Side
block s e side = run s (with_answers s e side.history) side

abbrev pub block_effects : Settings → Event → Side → List Effect
block_effects s e side = run_effects s (with_answers s e side.history) side.history

abbrev pub Blocked : Settings → List ℕ → ℕ → Event → Side → Option OpenGet → ℕ → List Message → Type 0
Blocked s keys n e side at number messages = Ran s keys n (with_answers s e side.history) side at number messages

-- an event that brings no query
pub none_brought : (s : Settings) (h : List Event) (e : Event) → AsksNone (effects s h e).effects → answers_to answerer (stored s (e ∷ h)) (effects_at s h e) ≡ []
none_brought s h e none = ap (answers_to answerer (stored s (e ∷ h))) (same_effects s h e) ∙ none (stored s (e ∷ h))

pub single : (s : Settings) (keys : List ℕ) (n : ℕ) (e : Event) (side : Side) (at : Option OpenGet) (number : ℕ) (messages : List Message)
    → AsksNone (effects s side.history e).effects → Calm s keys (e ∷ side.history) [] → Asking s (e ∷ side.history) n at number
    → messages_of (effects s side.history e).effects ≡ messages → IsNothing n (effects s side.history e).effects → Blocked s keys n e side at number messages
single s keys n e side at number messages none calm asking sent nothing =
    subst (λ (es : List Event). Ran s keys n (e ∷ es) side at number messages) (sym (none_brought s side.history e none)) (record {
      calm = calm;
      asking = asking;
      sent = ap (λ (ms : List Message). side.waiting ++ ms) (same_sent s side.history e ∙ sent);
      nothing = nothing_append n (effects_at s side.history e) [] (subst (IsNothing n) (sym (same_effects s side.history e)) nothing) (nothing_at_all n);
    })

-- an event before others
pub chained : (s : Settings) (keys : List ℕ) (n : ℕ) (e : Event) (es : List Event) (side : Side) (at : Option OpenGet) (number : ℕ) (one more : List Message)
    → messages_of (effects s side.history e).effects ≡ one → IsNothing n (effects s side.history e).effects → Ran s keys n es (with_event s e side) at number more
    → Ran s keys n (e ∷ es) side at number (one ++ more)
chained s keys n e es side at number one more sent nothing rest = record {
  calm = rest.calm;
  asking = rest.asking;
  sent = rest.sent ∙ ap (λ (ms : List Message). (side.waiting ++ ms) ++ more) (same_sent s side.history e ∙ sent) ∙ append_assoc side.waiting one more;
  nothing =
      nothing_append n (effects_at s side.history e) (run_effects s es (e ∷ side.history)) (subst (IsNothing n) (sym (same_effects s side.history e)) nothing) rest.nothing;
}

stays_open : (b : Bool) → ((b || false) && not b) ≡ false
stays_open true = refl
stays_open false = refl

none_begun : (draws : Draws) (answer : Answer) → draws_query draws ≡ false → begun draws answer ≡ []
none_begun NoNumber answer is = refl
none_begun EntityNumber answer is = refl
none_begun QueryNumber answer is = cc
none_begun ValueNumber answer is = refl
none_begun CancellationNumber answer is = refl
none_begun KeyNumber answer is = refl
none_begun (StatusOf kind id) answer is = refl

module _ (open_law : GetsAreHanded) (others_law : OthersAreHandedNothing) (ends_law : EndsOfGets) (s : Settings) (keys : List ℕ) (n : ℕ) (side : Side) (at : Option OpenGet) (number : ℕ) (latest : IsLatest at)
    (calm : Calm s keys side.history []) (before : Asking s side.history n at number) where
  abbrev h : List Event
  h = side.history

  -- a refused event does nothing
  refused_nothing : (e : Event) (refusal : Refusal) → refusal_of s (past_of s h) e ≡ Some refusal → IsNothing n (effects s h e).effects
  refused_nothing e refusal refused = subst (IsNothing n) (sym (effects_refused s h e refusal refused)) (nothing_at_all n)

  pub refused_block : (e : Event) (refusal : Refusal) → refusal_of s (past_of s h) e ≡ Some refusal → Blocked s keys n e side at number []
  refused_block e refusal refused =
      single s keys n e side at number [] (λ store. ap (answers_to answerer store) (effects_refused s h e refusal refused)) (refused_calm s keys h e [] refusal refused calm)
      (refused_asking s h e n at number refusal refused before) (ap messages_of (effects_refused s h e refusal refused)) (refused_nothing e refusal refused)

  -- nor does a quiet one to gets
  quiet_nothing : (e : Event) → IsQuiet e → IsNothing n (effects s h e).effects
  quiet_nothing e quiet =
      let to : to_gets_of (past_of s h) e ≡ NoGet = ap (to_gets_by (live_queriers (past_of s h))) quiet.gets in
      record {
        handed =
            handed_nothing open_law others_law ends_law s h e n at before.get latest
            (silent_at n at (heard_at s (past_of s h) e) Quiet (λ i. news_of s.zid (values_now (past_of s h)) (to i) (quiet.values i) (named_text (past_of s h) e)) (quiet_at n at))
            (λ m i. errors_by s.zid (open_now s (past_of s h)) (values_now (past_of s h)) m (to i) (quiet.values i));
        ended =
            ends_is open_law others_law ends_law s h e n at at [] before.get (quiet_asking s keys h e [] n at number quiet calm before).get (none_begun (row_of e).draws (effects s h e).answer quiet.draws)
            ∙ stays_open (is_some at);
      }

  pub quiet_block : (e : Event) → IsQuiet e → Blocked s keys n e side at number (messages_of (effects s h e).effects)
  quiet_block e quiet =
      single s keys n e side at number (messages_of (effects s h e).effects) (quiet_asks s keys h e [] quiet calm) (quiet_calm s keys h e [] quiet calm)
      (quiet_asking s keys h e [] n at number quiet calm before) refl (quiet_nothing e quiet)

  -- a response for another get, and a final
  response_nothing : (zid rid : ℕ) (qos : QoSType) (w : Write) (behind : Option OpenGet) → get_at n (open_now s (past_of s (Net (response_message (response_with zid rid qos w)) ∷ h))) ≡ behind → is_some behind ≡ is_some at
      → IsNothing n (effects s h (Net (response_message (response_with zid rid qos w)))).effects
  response_nothing zid rid qos w behind is same = record {
    handed = handed_nothing open_law others_law ends_law s h (Net (response_message (response_with zid rid qos w))) n at before.get latest (reply_at n rid (sample_reply (encode_utf8_all (chars w.key)) (response_with zid rid qos w) (body_of [] (update_of w.entry))) at) (λ m. refl);
    ended =
        ends_is open_law others_law ends_law s h (Net (response_message (response_with zid rid qos w))) n at behind [] before.get is refl
        ∙ ap (λ (b : Bool). (is_some at || false) && not b) same ∙ stays_open (is_some at);
  }

  pub response_block : (zid rid : ℕ) (qos : QoSType) (w : Write) → (rid == n) ≡ false → Blocked s keys n (Net (response_message (response_with zid rid qos w))) side at number []
  response_block zid rid qos w apart =
      let e = Net (response_message (response_with zid rid qos w)) in
      single s keys n e side at number [] (response_asks s keys h calm zid rid qos w) (response_calm s keys h calm zid rid qos w) (response_other s keys h calm zid rid qos w n at number apart before)
      (response_sends s keys h calm zid rid qos w) (response_nothing zid rid qos w at (response_other s keys h calm zid rid qos w n at number apart before).get refl)

  turned : (a b : ℕ) → (b == a) ≡ false → (a == b) ≡ false
  turned a b is = grind (arith, nat_tests, is)

  other_final : (rid : ℕ) (at : Option OpenGet) → (n == rid) ≡ false → IfSome at (λ g. IsSilent n g (FinalOf rid Network))
  other_final rid None is = tt
  other_final rid (Some g) is = ap (λ (b : Bool). b && is_last Network g.row) is

  pub final_block : (rid : ℕ) → (rid == n) ≡ false → Blocked s keys n (Net (ResponseFinal rid)) side at number []
  final_block rid apart =
      let e = Net (ResponseFinal rid) in
      let behind = final_keeps s keys h calm rid n at number apart before in
      single s keys n e side at number [] (final_asks s keys h calm rid) (final_calm s keys h calm rid) behind (final_sends s keys h calm rid) (record {
        handed = handed_nothing open_law others_law ends_law s h e n at before.get latest (other_final rid at (turned n rid apart)) (λ m. refl);
        ended = ends_is open_law others_law ends_law s h e n at at [] before.get behind.get refl ∙ stays_open (is_some at);
      })

  -- an accepted request, on a key that is sent by its text
  module _ (r : Request) (key : List ℕ) (named : wire_text (past_of s h) r.wire ≡ Some key) (fine : refusal_of s (past_of s h) (Net (request_message r)) ≡ None)
      (texts : AllByRecursion IsText (stored s (Net (request_message r) ∷ h))) where
    abbrev e : Event
    e = Net (request_message r)

    abbrev value : ℕ
    value = (handing_of (past_of s h)).next

    took : Asking s (e ∷ h) n at number
    took = takes_asking s keys h calm r key named fine n at number before

    request_nothing : IsNothing n (effects s h e).effects
    request_nothing = record {
      handed = handed_nothing open_law others_law ends_law s h e n at before.get latest (quiet_at n at) (λ m. refl);
      ended = ends_is open_law others_law ends_law s h e n at at [] before.get took.get refl ∙ stays_open (is_some at);
    }

    by_meeting : (b : Bool) → intersects key keys ≡ b
        → Ran s keys n (e ∷ (if b then answers_of value key (stored s (e ∷ h)) else [])) side at number
        (map (λ w. response_message (response_with s.zid r.rid r.qos w)) (if b then filter (λ w. intersects key w.key) (stored s (e ∷ h)) else []) ++ ResponseFinal r.rid ∷ [])
    by_meeting true is =
        chained s keys n e (answers_of value key (stored s (e ∷ h))) side at number [] (responses s.zid r.rid r.qos key (stored s (e ∷ h)) ++ ResponseFinal r.rid ∷ []) (takes_sends s keys h calm r key named fine ∙ ap (λ (b : Bool). if b then [] else ResponseFinal r.rid ∷ []) is) request_nothing
        (run_remote open_law others_law ends_law s keys n value (handing_of (past_of s h)).handed (network_request key r) refl at number latest (stored s (e ∷ h)) (with_event s e side) texts
        (subst (λ (b : Bool). Calm s keys (e ∷ h) (drawn_if b (value_of (handing_of (past_of s h)).next (handing_of (past_of s h)).handed (network_request key r)))) is (takes_calm s keys h calm r key named fine)) took)
    by_meeting false is = record {
      calm = subst (λ (b : Bool). Calm s keys (e ∷ h) (drawn_if b (value_of (handing_of (past_of s h)).next (handing_of (past_of s h)).handed (network_request key r)))) is (takes_calm s keys h calm r key named fine);
      asking = took;
      sent =
          ap (λ (ms : List Message). side.waiting ++ ms)
          (same_sent s h e ∙ takes_sends s keys h calm r key named fine ∙ ap (λ (b : Bool). if b then [] else ResponseFinal r.rid ∷ []) is);
      nothing = nothing_append n (effects_at s h e) [] (subst (IsNothing n) (sym (same_effects s h e)) request_nothing) (nothing_at_all n);
    }

    pub request_block : Blocked s keys n e side at number (answer_messages s.zid r.rid r.qos keys key (stored s (e ∷ h)))
    request_block =
        subst (λ (es : List Event). Ran s keys n (e ∷ es) side at number (answer_messages s.zid r.rid r.qos keys key (stored s (e ∷ h))))
        (sym (ap (answers_to answerer (stored s (e ∷ h))) (same_effects s h e) ∙ takes_brings s keys h calm r key named fine (stored s (e ∷ h))))
        (by_meeting (intersects key keys) refl)

  -- an accepted get of another number
  module _ (text : List ℕ) (fine : refusal_of s (past_of s h) (question text) ≡ None) (apart : (next_query s (past_of s h) == n) ≡ false)
      (texts : AllByRecursion IsText (stored s (question text ∷ h))) where
    abbrev q : Event
    q = question text

    abbrev k : List ℕ
    k = encode_utf8_all text

    asked_other : Asking s (q ∷ h) n at (number + 1)
    asked_other = asks_other s keys h calm text fine n at number apart before

    other_nothing : IsNothing n (effects s h q).effects
    other_nothing = record {
      handed = handed_nothing open_law others_law ends_law s h q n at before.get latest (quiet_at n at) (λ m. refl);
      ended =
          ends_is open_law others_law ends_law s h q n at at (next_query s (past_of s h) ∷ []) before.get asked_other.get (ap (begun QueryNumber) (answer_accepted s h q calm.unshut fine))
          ∙ ap (λ (b : Bool). (is_some at || (b || false)) && not (is_some at)) apart ∙ stays_open (is_some at);
    }

    pub other_block : Blocked s keys n q side at (number + 1) (request_message (request_of s.default_timeout (full_wire k) (next_query s (past_of s h)) asking) ∷ [])
    other_block =
        subst (λ (es : List Event). Ran s keys n (q ∷ es) side at (number + 1) (request_message (request_of s.default_timeout (full_wire k) (next_query s (past_of s h)) asking) ∷ []))
        (sym (ap (answers_to answerer (stored s (q ∷ h))) (same_effects s h q) ∙ asks_brings s keys h calm text fine (stored s (q ∷ h))))
        (go (intersects k keys) refl)
      where
        go : (b : Bool) → intersects k keys ≡ b
            → Ran s keys n (q ∷ (if b then answers_of (handing_of (past_of s h)).next k (stored s (q ∷ h)) else [])) side at (number + 1)
            (request_message (request_of s.default_timeout (full_wire k) (next_query s (past_of s h)) asking) ∷ [])
        go true is =
            chained s keys n q (answers_of (handing_of (past_of s h)).next k (stored s (q ∷ h))) side at (number + 1) (request_message (request_of s.default_timeout (full_wire k) (next_query s (past_of s h)) asking) ∷ []) [] (asks_sends s keys h calm text fine) other_nothing
            (run_other open_law others_law ends_law s keys n (handing_of (past_of s h)).next (handing_of (past_of s h)).handed (get_request (next_query s (past_of s h)) k asking) refl apart at (number + 1) latest
            (stored s (q ∷ h)) (with_event s q side) texts
            (subst (λ (b : Bool). Calm s keys (q ∷ h) (drawn_if b (value_of (handing_of (past_of s h)).next (handing_of (past_of s h)).handed (get_request (next_query s (past_of s h)) k asking)))) is (asks_calm s keys h calm text fine))
            asked_other)
        go false is = record {
          calm = subst (λ (b : Bool). Calm s keys (q ∷ h) (drawn_if b (value_of (handing_of (past_of s h)).next (handing_of (past_of s h)).handed (get_request (next_query s (past_of s h)) k asking)))) is (asks_calm s keys h calm text fine);
          asking = asked_other;
          sent = ap (λ (ms : List Message). side.waiting ++ ms) (same_sent s h q ∙ asks_sends s keys h calm text fine);
          nothing = nothing_append n (effects_at s h q) [] (subst (IsNothing n) (sym (same_effects s h q)) other_nothing) (nothing_at_all n);
        }

-- what a side has had of its own store
abbrev pub own_part : ℕ → QoSType → List ℕ → List ℕ → List Write → List Replied
own_part zid qos keys key store = if intersects key keys then pushed zid answerer qos key store [] else []

-- a get behind its own session's answers
pub record AskedBlock (s : Settings) (keys : List ℕ) (text : List ℕ) (side : Side) : Type 0 where
  pub calm : Calm s keys (block s (question text) side).history []
  pub waits : Waits (next_query s (past_of s side.history)) (encode_utf8_all text) false true
      (own_part s.zid asking_settings.qos keys (encode_utf8_all text) (stored s (question text ∷ side.history)))
      (get_at (next_query s (past_of s side.history)) (open_now s (past_of s (block s (question text) side).history)))
  pub next : next_query s (past_of s (block s (question text) side).history) ≡ next_query s (past_of s side.history) + 1
  pub sent : (block s (question text) side).waiting ≡ side.waiting ++ request_message (request_of s.default_timeout (full_wire (encode_utf8_all text)) (next_query s (past_of s side.history)) asking) ∷ []
  pub nothing : IsNothing (next_query s (past_of s side.history)) (block_effects s (question text) side)

-- the same of any events behind it
record AskedRunIf (s : Settings) (keys : List ℕ) (text : List ℕ) (side : Side) (b : Bool) (es : List Event) : Type 0 where
  calm : Calm s keys (run s (question text ∷ es) side).history []
  waits : Waits (next_query s (past_of s side.history)) (encode_utf8_all text) false true
      (if b then pushed s.zid answerer asking_settings.qos (encode_utf8_all text) (stored s (question text ∷ side.history)) [] else [])
      (get_at (next_query s (past_of s side.history)) (open_now s (past_of s (run s (question text ∷ es) side).history)))
  next : next_query s (past_of s (run s (question text ∷ es) side).history) ≡ next_query s (past_of s side.history) + 1
  sent : (run s (question text ∷ es) side).waiting ≡ side.waiting ++ request_message (request_of s.default_timeout (full_wire (encode_utf8_all text)) (next_query s (past_of s side.history)) asking) ∷ []
  nothing : IsNothing (next_query s (past_of s side.history)) (run_effects s (question text ∷ es) side.history)

module _ (open_law : GetsAreHanded) (others_law : OthersAreHandedNothing) (ends_law : EndsOfGets) (s : Settings) (keys : List ℕ) (side : Side)
    (calm : Calm s keys side.history []) (text : List ℕ) (fine : refusal_of s (past_of s side.history) (question text) ≡ None)
    (texts : AllByRecursion IsText (stored s (question text ∷ side.history))) where
  abbrev p : List Event
  p = side.history

  abbrev ask : Event
  ask = question text

  abbrev asked_key : List ℕ
  asked_key = encode_utf8_all text

  abbrev m : ℕ
  m = next_query s (past_of s p)

  abbrev own_row : RequestRow
  own_row = get_request m asked_key asking

  new : get_at m (open_now s (past_of s p)) ≡ None
  new = unasked s p m (least m)
    where
      least : (n : ℕ) → n ≤ n
      least n = omega arith

  ask_nothing : IsNothing m (effects s p ask).effects
  ask_nothing =
      let waits = asks_waits s keys p calm text fine in
      record {
        handed = handed_nothing open_law others_law ends_law s p ask m None new tt tt (λ m. refl);
        ended =
            ends_is open_law others_law ends_law s p ask m None (Some (get_after waits.row [])) (m ∷ []) new waits.is (ap (begun QueryNumber) (answer_accepted s p ask calm.unshut fine))
            ∙ and_false ((m == m) || false);
      }
    where
      and_false : (b : Bool) → (b && false) ≡ false
      and_false true = refl
      and_false false = refl

  -- its values, and what it waits for, by whether it meets the queryable
  abbrev calm_if : Bool → Type 0
  calm_if b = Calm s keys (ask ∷ p) (drawn_if b (value_of (handing_of (past_of s p)).next (handing_of (past_of s p)).handed own_row))

  abbrev waits_if : Bool → Type 0
  waits_if b = Waits m asked_key b true [] (get_at m (open_now s (past_of s (ask ∷ p))))

  by_own_meeting : (b : Bool) → intersects asked_key keys ≡ b → calm_if b → waits_if b
      → AskedRunIf s keys text side b (if b then answers_of (handing_of (past_of s p)).next asked_key (stored s (ask ∷ p)) else [])
  by_own_meeting true is values waits =
      let had = run_own open_law others_law ends_law s keys m (handing_of (past_of s p)).next (handing_of (past_of s p)).handed own_row refl refl (m + 1) (stored s (ask ∷ p)) (with_event s ask side)
      (get_at m (open_now s (past_of s (ask ∷ p)))) [] texts values (record { get = refl; next = asks_next s keys p calm text fine }) waits in
      record {
        calm = had.calm;
        waits = had.waits;
        next = had.next;
        sent = had.sent ∙ ap (λ (ms : List Message). side.waiting ++ ms) (same_sent s p ask ∙ asks_sends s keys p calm text fine);
        nothing = nothing_append m (effects_at s p ask) (run_effects s (answers_of (handing_of (past_of s p)).next asked_key (stored s (ask ∷ p))) (ask ∷ p)) (subst (IsNothing m) (sym (same_effects s p ask)) ask_nothing) had.nothing;
      }
  by_own_meeting false is values waits = record {
    calm = values;
    waits = waits;
    next = asks_next s keys p calm text fine;
    sent = ap (λ (ms : List Message). side.waiting ++ ms) (same_sent s p ask ∙ asks_sends s keys p calm text fine);
    nothing = nothing_append m (effects_at s p ask) [] (subst (IsNothing m) (sym (same_effects s p ask)) ask_nothing) (nothing_at_all m);
  }

  pub asked_block : AskedBlock s keys text side
  asked_block =
      let own = subst (λ (es : List Event). AskedRunIf s keys text side (intersects asked_key keys) es)
      (sym (ap (answers_to answerer (stored s (ask ∷ p))) (same_effects s p ask) ∙ asks_brings s keys p calm text fine (stored s (ask ∷ p))))
      (by_own_meeting (intersects asked_key keys) refl (asks_calm s keys p calm text fine) (asks_waits s keys p calm text fine)) in
      record { calm = own.calm; waits = own.waits; next = own.next; sent = own.sent; nothing = own.nothing }

-- the final of a get that waits for it alone
pub record FinalBlock (s : Settings) (keys : List ℕ) (n : ℕ) (side : Side) (replies : List Replied) (number : ℕ) : Type 0 where
  pub calm : Calm s keys (block s (Net (ResponseFinal n)) side).history []
  pub asking : Asking s (block s (Net (ResponseFinal n)) side).history n None number
  pub sent : (block s (Net (ResponseFinal n)) side).waiting ≡ side.waiting
  pub handed : handed_to n (block_effects s (Net (ResponseFinal n)) side) ≡ kept replies
  pub ended : ends n (block_effects s (Net (ResponseFinal n)) side) ≡ true

-- and one response more
pub record ReplyBlock (s : Settings) (keys : List ℕ) (n : ℕ) (key : List ℕ) (e : Event) (side : Side) (replies : List Replied) (number : ℕ) : Type 0 where
  pub calm : Calm s keys (block s e side).history []
  pub waits : Waits n key false true replies (get_at n (open_now s (past_of s (block s e side).history)))
  pub next : next_query s (past_of s (block s e side).history) ≡ number
  pub sent : (block s e side).waiting ≡ side.waiting
  pub nothing : IsNothing n (block_effects s e side)

module _ (open_law : GetsAreHanded) (others_law : OthersAreHandedNothing) (ends_law : EndsOfGets) (s : Settings) (keys : List ℕ) (n : ℕ) (side : Side) (calm : Calm s keys side.history []) (key : List ℕ)
    (replies : List Replied) (at : Option OpenGet) (number : ℕ) (before : Asking s side.history n at number) (waits : Waits n key false true replies at) where
  abbrev g : OpenGet
  g = get_after waits.row replies

  here : get_at n (open_now s (past_of s side.history)) ≡ Some g
  here = before.get ∙ waits.is

  same_number : (n : ℕ) → (n == n) ≡ true
  same_number n = grind (arith, nat_tests)

  kept_all : (mode : ConsolidationMode) → mode ≡ by.Latest → kept_in mode replies ≡ kept replies
  kept_all mode is = ap (λ (mode : ConsolidationMode). kept_in mode replies) is

  last_one : is_last Network waits.row ≡ true
  last_one = (λ i. waits.wants_network i && not (waits.wants_local i))

  pub own_final : FinalBlock s keys n side replies number
  own_final =
      let e = Net (ResponseFinal n) in
      let behind = final_asking s keys side.history calm n key replies at number before waits in
      let fx : block_effects s e side ≡ (effects s side.history e).effects =
      ap (λ (es : List Event). run_effects s (e ∷ es) side.history) (none_brought s side.history e (final_asks s keys side.history calm n))
      ∙ nothing_effects (effects_at s side.history e) ∙ same_effects s side.history e in
      let one : block s e side ≡ with_event s e side = ap (λ (es : List Event). run s (e ∷ es) side) (none_brought s side.history e (final_asks s keys side.history calm n)) in
      record {
        calm = subst (λ (x : Side). Calm s keys x.history []) (sym one) (final_calm s keys side.history calm n);
        asking = subst (λ (x : Side). Asking s x.history n None number) (sym one) behind;
        sent = ap (λ (x : Side). x.waiting) one ∙ ap (λ (ms : List Message). side.waiting ++ ms) (same_sent s side.history e ∙ final_sends s keys side.history calm n) ∙ nothing_more side.waiting;
        handed =
            ap (handed_to n) fx
            ∙ handed_kept open_law others_law ends_law s side.history e n g Network here calm.unshut (final_fine s keys side.history calm n key replies at number before waits) refl last_one (same_number n) (λ m. refl)
            ∙ kept_all waits.row.mode waits.mode;
        ended = ap (ends n) fx ∙ ends_is open_law others_law ends_law s side.history e n (Some g) None [] here behind.get refl;
      }
    where
      nothing_effects : (fx : List Effect) → fx ++ [] ≡ fx
      nothing_effects [] = refl
      nothing_effects (x ∷ fx) = ap (λ (rest : List Effect). x ∷ rest) (nothing_effects fx)

  pub own_response : (zid : ℕ) (qos : QoSType) (w : Write) → Fits key w → ReplyBlock s keys n key (Net (response_message (response_with zid n qos w))) side (reply_by zid answerer qos w ∷ replies) number
  own_response zid qos w fits =
      let e = Net (response_message (response_with zid n qos w)) in
      let more = response_waits s keys side.history calm n key replies at number before waits zid qos w fits in
      let next = response_next s keys side.history calm n key replies at number before waits zid qos w fits in
      let one : block s e side ≡ with_event s e side = ap (λ (es : List Event). run s (e ∷ es) side) (none_brought s side.history e (response_asks s keys side.history calm zid n qos w)) in
      record {
        calm = subst (λ (x : Side). Calm s keys x.history []) (sym one) (response_calm s keys side.history calm zid n qos w);
        waits = subst (λ (x : Side). Waits n key false true (reply_by zid answerer qos w ∷ replies) (get_at n (open_now s (past_of s x.history)))) (sym one) more;
        next = ap (λ (x : Side). next_query s (past_of s x.history)) one ∙ next;
        sent = ap (λ (x : Side). x.waiting) one ∙ ap (λ (ms : List Message). side.waiting ++ ms) (same_sent s side.history e ∙ response_sends s keys side.history calm zid n qos w) ∙ nothing_more side.waiting;
        nothing =
            subst (λ (es : List Event). IsNothing n (run_effects s (e ∷ es) side.history)) (sym (none_brought s side.history e (response_asks s keys side.history calm zid n qos w)))
            (nothing_append n (effects_at s side.history e) [] (subst (IsNothing n) (sym (same_effects s side.history e)) (record {
              handed = handed_nothing open_law others_law ends_law s side.history e n (Some g) here waits.mode tt (λ m. refl);
              ended = ends_is open_law others_law ends_law s side.history e n (Some g) (Some (get_after more.row (reply_by zid answerer qos w ∷ replies))) [] here more.is refl;
            })) (nothing_at_all n));
      }
