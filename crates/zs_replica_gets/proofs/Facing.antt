-- What stands of a get behind each event of the other side.
use Rattle.std.proofs.Common.{◌≡◌, ◌⊎◌, inl, inr, ℕ, List, [], ◌∷◌, ◌++◌, Bool, true, false, Option, Some, None, refl, sym, ◌∙◌, ap, subst}
use Rattle.std.specs.Prelude.{◌==◌, encode_utf8_all, if◌then◌else◌}
use Rattle.std.specs.List.{AllByRecursion}
use Rattle.std.specs.Str.{chars}
use Rattle.zs_wire.specs.declared.message.Message.{Message}
use Rattle.zs_wire.specs.declared.message.Message.TheVariants.{DeclareSubscriber, DeclareQueryable, Push, Request as request_message, Response as response_message, ResponseFinal}
use Rattle.zs_wire.specs.declared.request.Request.{Request}
use Rattle.zs_wire.specs.declared.response.Response.{Response}
use Rattle.zs_query.specs.declared.open_get.OpenGet.{OpenGet}
use Rattle.zs_events.specs.declared.event.Event.{Event}
use Rattle.zs_events.specs.declared.event.Event.TheVariants.{Net}
use Rattle.zs_events.specs.declared.turn.Answer.{Answer}
use Rattle.zs_events.specs.declared.turn.Refusal.{Refusal}
use Rattle.zs_model.specs.declared.settings.Settings.{Settings}
use Rattle.zs_model.specs.Causes.{refusal_of}
use Rattle.zs_model.specs.Counters.{next_query}
use Rattle.zs_model.specs.HeldKeys.{wire_text}
use Rattle.zs_model.specs.Past.{past_of}
use Rattle.zs_model.specs.Questions.{request_of}
use Rattle.zs_model.specs.Received.{messages_of}
use Rattle.zs_model.specs.Sends.{full_wire}
use Rattle.zs_model.specs.Effects.{effects}
use Rattle.zs_laws.specs.Ended.{EndsOfGets}
use Rattle.zs_laws.specs.Handed.{GetsAreHanded, OthersAreHandedNothing}
use Rattle.zs_delivery.specs.Linked.{Side, LinkLine}
use Rattle.zs_store.specs.Store.{Write}
use Rattle.zs_keeping.specs.Answering.{answers_to}
use Rattle.zs_replicas.specs.Replicas.{stored}
use Rattle.zs_replica_gets.specs.Steps.{answerer, asking_settings, meeting, question}
use Rattle.zs_replica_gets.specs.Responding.{response_with, answer_messages}
use Rattle.zs_replica_gets.specs.Asked.{Stage, Unasked, Asked, Answered, Over, answered}
use Rattle.zs_replica_gets.proofs.Kept.{from_both}
use Rattle.zs_replica_gets.proofs.Pasts.{effects_refused, Calm, Asking, refused_calm}
use Rattle.zs_replica_gets.proofs.Queries.{AsksNone}
use Rattle.zs_replica_gets.proofs.Turns.{IsQuiet, quiet_asks, quiet_sent, quiet_calm, quiet_subscriber, quiet_queryable, quiet_push}
use Rattle.zs_replica_gets.proofs.Answered.{asking}
use Rattle.zs_replica_gets.proofs.Questions.{answer_accepted}
use Rattle.zs_replica_gets.proofs.Responses.{response_calm, response_sends, response_asks, final_calm, final_sends, final_asks}
use Rattle.zs_replica_gets.proofs.Runs.{run, IsText, IsLatest, same_sent}
use Rattle.zs_replica_gets.proofs.Blocks.{block, none_brought, own_part, request_block, other_block, asked_block}
use Rattle.zs_replica_gets.proofs.Talk.{requests, responses_for, responses_append, plain_responses, answers_other, answers_own, IsRequest, IsKnown, plain_known, answers_known, known_append, fed_both, all_fit, InStage, Talk}
use Rattle.zs_replica_gets.proofs.Moving.{answer_refused, read_key, same_number, head_of, tail_of, side_with, behind_there, without_here}

-- a side that was given an event, as the other sees it
record Rested (t : Settings) (keys : List ℕ) (e : Event) (y : Side) (ms : List Message) : Type 0 where
  calm : Calm t keys (block t e y).history []
  sent : (block t e y).waiting ≡ y.waiting ++ ms

rests : (t : Settings) (keys : List ℕ) (e : Event) (y : Side) (ms : List Message) → AsksNone (effects t y.history e).effects → Calm t keys (e ∷ y.history) [] → messages_of (effects t y.history e).effects ≡ ms
    → Rested t keys e y ms
rests t keys e y ms none calm sent =
    let one : block t e y ≡ run t (e ∷ []) y = ap (λ (es : List Event). run t (e ∷ es) y) (none_brought t y.history e none) in
    record {
      calm = subst (λ (x : Side). Calm t keys x.history []) (sym one) calm;
      sent = ap (λ (x : Side). x.waiting) one ∙ ap (λ (ms : List Message). y.waiting ++ ms) (same_sent t y.history e ∙ sent);
    }

module _ (open_law : GetsAreHanded) (others_law : OthersAreHandedNothing) (ends_law : EndsOfGets) (s t : Settings) (keys : List ℕ) (mine theirs : List LinkLine → List Write) (n : ℕ) where
  abbrev Talks : Side → Side → Stage → Type 0
  Talks x y stage = Talk s t keys mine theirs x y n stage

  -- the other side is behind an event
  rested_there : (x y : Side) (stage : Stage) (e : Event) (ms : List Message) → Rested t keys e y ms → responses_for n ms ≡ [] → AllByRecursion IsKnown ms → Talks x y stage → Talks x (block t e y) stage
  rested_there x y stage e ms rest none known talk = behind_there s t keys mine theirs n x y (block t e y) stage talk ms rest.calm rest.sent none known

  pub quiet_there : (x y : Side) (stage : Stage) (e : Event) → IsQuiet e → Talks x y stage → Talks x (block t e y) stage
  quiet_there x y stage e quiet talk =
      let plain = quiet_sent t keys y.history e [] quiet talk.there in
      rested_there x y stage e (messages_of (effects t y.history e).effects)
      (rests t keys e y (messages_of (effects t y.history e).effects) (quiet_asks t keys y.history e [] quiet talk.there) (quiet_calm t keys y.history e [] quiet talk.there) refl)
      (plain_responses n (messages_of (effects t y.history e).effects) plain) (plain_known (messages_of (effects t y.history e).effects) plain) talk

  refused_there : (x y : Side) (stage : Stage) (e : Event) (refusal : Refusal) → refusal_of t (past_of t y.history) e ≡ Some refusal → Talks x y stage → Talks x (block t e y) stage
  refused_there x y stage e refusal refused talk =
      rested_there x y stage e []
      (rests t keys e y [] (λ store. ap (answers_to answerer store) (effects_refused t y.history e refusal refused)) (refused_calm t keys y.history e [] refusal refused talk.there)
      (ap messages_of (effects_refused t y.history e refusal refused))) refl tt talk

  -- what it asks itself under a number
  pub record AsksToo (y : Side) : Type 0 where
    pub at : Option OpenGet
    pub number : ℕ
    pub asks : Asking t y.history n at number
    pub latest : IsLatest at

  pub asks_there : (x y : Side) (stage : Stage) (text : List ℕ) → encode_utf8_all (chars (encode_utf8_all text)) ≡ encode_utf8_all text → AllByRecursion IsText (stored t (question text ∷ y.history)) → AsksToo y
      → Talks x y stage → Talks x (block t (question text) y) stage
  asks_there x y stage text spelled texts too talk = go (refusal_of t (past_of t y.history) (question text)) refl
    where
      message : Message
      message = request_message (request_of t.default_timeout (full_wire (encode_utf8_all text)) (next_query t (past_of t y.history)) asking)

      accepted_there : (fine : refusal_of t (past_of t y.history) (question text) ≡ None) (b : Bool) → (next_query t (past_of t y.history) == n) ≡ b → Talk s t keys mine theirs x (block t (question text) y) n stage
      accepted_there fine false apart =
          let b = other_block open_law others_law ends_law t keys n y too.at too.number too.latest talk.there too.asks text fine apart texts in
          behind_there s t keys mine theirs n x y (block t (question text) y) stage talk (message ∷ []) b.calm b.sent refl (record { key = encode_utf8_all text; is = refl; spelled = spelled }, tt)
      accepted_there fine true same =
          let b = asked_block open_law others_law ends_law t keys y talk.there text fine texts in
          behind_there s t keys mine theirs n x y (block t (question text) y) stage talk (message ∷ []) b.calm b.sent refl (record { key = encode_utf8_all text; is = refl; spelled = spelled }, tt)

      go : (o : Option Refusal) → refusal_of t (past_of t y.history) (question text) ≡ o → Talk s t keys mine theirs x (block t (question text) y) n stage
      go (Some refusal) refused = refused_there x y stage (question text) refusal refused talk
      go None fine = accepted_there fine (next_query t (past_of t y.history) == n) refl

  -- it is given a request of another get
  given_there_other : (h : List Event) (r : Request) (later : List Message) (y : Side) (stage : Stage) → IsRequest r → (r.rid == n) ≡ false → AllByRecursion IsText (stored t (Net (request_message r) ∷ y.history)) → AsksToo y
      → Talks (side_with h (request_message r ∷ later)) y stage → Talks (side_with h later) (block t (Net (request_message r)) y) stage
  given_there_other h r later y stage known apart texts too talk = go (refusal_of t (past_of t y.history) (Net (request_message r))) refl
    where
      left : Talk s t keys mine theirs (side_with h later) y n stage
      left = without_here s t keys mine theirs n h (request_message r) later y stage talk (ap (λ (b : Bool). (if b then r ∷ [] else []) ++ requests n later) apart)

      go : (o : Option Refusal) → refusal_of t (past_of t y.history) (Net (request_message r)) ≡ o → Talk s t keys mine theirs (side_with h later) (block t (Net (request_message r)) y) n stage
      go (Some refusal) refused = refused_there (side_with h later) y stage (Net (request_message r)) refusal refused left
      go None fine =
          let b = request_block open_law others_law ends_law t keys n y too.at too.number too.latest talk.there too.asks r known.key (read_key t y.history r known) fine texts in
          let store = stored t (Net (request_message r) ∷ y.history) in
          behind_there s t keys mine theirs n (side_with h later) y (block t (Net (request_message r)) y) stage left (answer_messages t.zid r.rid r.qos keys known.key store) b.calm b.sent
          (answers_other n t.zid r.rid r.qos (meeting keys known.key store) apart) (answers_known t.zid r.rid r.qos (meeting keys known.key store))

  -- it is given the request of the get
  given_there_own : (h : List Event) (r : Request) (later : List Message) (y : Side) (stage : Stage) (links : List LinkLine) → IsRequest r → AllByRecursion IsText (stored t (Net (request_message r) ∷ y.history)) → AsksToo y
      → theirs links ≡ stored t (Net (request_message r) ∷ y.history)
      → (talk : Talks (side_with h (request_message r ∷ later)) y stage)
      → (state : InStage s t keys mine theirs n (r ∷ requests n later) (responses_for n y.waiting) talk.at talk.number stage)
      → Talks (side_with h later) (block t (Net (request_message r)) y) (answered (effects t y.history (Net (request_message r))).answer links stage)
  given_there_own h r later y Unasked links known texts too its talk state = absurd (let never = state.none in cc)
  given_there_own h r later y (Answered key own others) links known texts too its talk state = absurd (let never = state.none in cc)
  given_there_own h r later y Over links known texts too its talk state = absurd (let never = state.none in cc)
  given_there_own h r later y (Asked key own) links known texts too its talk state = by_sent state.sent
    where
      request : Request
      request = request_of s.default_timeout (full_wire key) n asking

      none_apart : (r : Request) (rs : List Request) → r ∷ rs ≡ [] → ⊥
      none_apart r rs is = cc

      left : requests n later ≡ [] → Talk s t keys mine theirs (side_with h later) y n (Asked key own)
      left none = record {
        at = talk.at;
        number = talk.number;
        here = talk.here;
        asks = talk.asks;
        there = talk.there;
        known = talk.known.1;
        known_there = talk.known_there;
        state = record { spelled = state.spelled; waits = state.waits; before = state.before; sent = inr none; silent = state.silent };
      }

      go : r ≡ request_of s.default_timeout (full_wire key) n asking → requests n later ≡ [] → (o : Option Refusal) → refusal_of t (past_of t y.history) (Net (request_message r)) ≡ o
          → Talk s t keys mine theirs (side_with h later) (block t (Net (request_message r)) y) n (answered (effects t y.history (Net (request_message r))).answer links (Asked key own))
      go is none (Some refusal) refused =
          subst (λ (a : Answer). Talk s t keys mine theirs (side_with h later) (block t (Net (request_message r)) y) n (answered a links (Asked key own))) (sym (answer_refused t y.history (Net (request_message r)) refusal refused))
          (refused_there (side_with h later) y (Asked key own) (Net (request_message r)) refusal refused (left none))
      go is none None fine =
          let store = stored t (Net (request_message r) ∷ y.history) in
          let named : wire_text (past_of t y.history) r.wire ≡ Some key = ap (λ (r : Request). wire_text (past_of t y.history) r.wire) is ∙ ap Some state.spelled in
          let b = request_block open_law others_law ends_law t keys n y too.at too.number too.latest talk.there too.asks r key named fine texts in
          let sent : (block t (Net (request_message r)) y).waiting ≡ y.waiting ++ answer_messages t.zid n asking_settings.qos keys key store =
          b.sent ∙ ap (λ (r' : Request). y.waiting ++ answer_messages t.zid r'.rid r'.qos keys key store) is in
          subst (λ (a : Answer). Talk s t keys mine theirs (side_with h later) (block t (Net (request_message r)) y) n (answered a links (Asked key own))) (sym (answer_accepted t y.history (Net (request_message r)) talk.there.unshut fine))
          (record {
            at = talk.at;
            number = talk.number;
            here = talk.here;
            asks = talk.asks;
            there = b.calm;
            known = talk.known.1;
            known_there = subst (AllByRecursion IsKnown) (sym sent) (known_append y.waiting (answer_messages t.zid n asking_settings.qos keys key store) talk.known_there (answers_known t.zid n asking_settings.qos (meeting keys key store)));
            state = record {
              replies = own_part s.zid asking_settings.qos keys key (mine own);
              rest = meeting keys key store;
              waits = state.waits;
              whole = fed_both s.zid t.zid keys key (mine own) store ∙ ap (λ (others : List Write). from_both s.zid t.zid answerer asking_settings.qos keys key (mine own) others) (sym its);
              fitting = all_fit keys key store texts;
              before = state.before;
              none = none;
              coming =
                  ap (responses_for n) sent ∙ responses_append n y.waiting (answer_messages t.zid n asking_settings.qos keys key store)
                  ∙ (λ i. state.silent i ++ answers_own n t.zid asking_settings.qos (meeting keys key store) (same_number n) i);
            };
          })

      by_sent : (r ∷ requests n later ≡ request_of s.default_timeout (full_wire key) n asking ∷ []) ⊎ (r ∷ requests n later ≡ [])
          → Talk s t keys mine theirs (side_with h later) (block t (Net (request_message r)) y) n (answered (effects t y.history (Net (request_message r))).answer links (Asked key own))
      by_sent (inl is) =
          go (head_of r (request_of s.default_timeout (full_wire key) n asking) (requests n later) [] is) (tail_of r (request_of s.default_timeout (full_wire key) n asking) (requests n later) [] is)
          (refusal_of t (past_of t y.history) (Net (request_message r))) refl
      by_sent (inr is) = absurd (none_apart r (requests n later) is)

  -- what the stage becomes of the asker's oldest message
  abbrev pub request_given : Message → Answer → List LinkLine → Stage → Stage
  request_given (request_message r) answer links stage = if r.rid == n then answered answer links stage else stage
  request_given m answer links stage = stage

  pub given_there : (h : List Event) (m : Message) (later : List Message) (y : Side) (stage : Stage) (links : List LinkLine) → AllByRecursion IsText (stored t (Net m ∷ y.history)) → AsksToo y
      → theirs links ≡ stored t (Net m ∷ y.history) → Talks (side_with h (m ∷ later)) y stage → IsKnown m
      → Talks (side_with h later) (block t (Net m) y) (request_given m (effects t y.history (Net m)).answer links stage)
  given_there h (DeclareSubscriber id wire) later y stage links texts too its talk known =
      quiet_there (side_with h later) y stage (Net (DeclareSubscriber id wire)) (quiet_subscriber id wire) (without_here s t keys mine theirs n h (DeclareSubscriber id wire) later y stage talk refl)
  given_there h (DeclareQueryable id complete wire) later y stage links texts too its talk known =
      quiet_there (side_with h later) y stage (Net (DeclareQueryable id complete wire)) (quiet_queryable id complete wire) (without_here s t keys mine theirs n h (DeclareQueryable id complete wire) later y stage talk refl)
  given_there h (Push push) later y stage links texts too its talk known =
      quiet_there (side_with h later) y stage (Net (Push push)) (quiet_push push) (without_here s t keys mine theirs n h (Push push) later y stage talk refl)
  given_there h (response_message r) later y stage links texts too its talk known =
      let left = without_here s t keys mine theirs n h (response_message r) later y stage talk refl in
      subst (λ (r : Response). Talk s t keys mine theirs (side_with h later) (block t (Net (response_message r)) y) n stage) (sym known.is)
      (rested_there (side_with h later) y stage (Net (response_message (response_with known.zid known.rid known.qos known.write))) []
      (rests t keys _ y [] (response_asks t keys y.history talk.there known.zid known.rid known.qos known.write) (response_calm t keys y.history talk.there known.zid known.rid known.qos known.write)
      (response_sends t keys y.history talk.there known.zid known.rid known.qos known.write)) refl tt left)
  given_there h (ResponseFinal rid) later y stage links texts too its talk known =
      rested_there (side_with h later) y stage (Net (ResponseFinal rid)) []
      (rests t keys (Net (ResponseFinal rid)) y [] (final_asks t keys y.history talk.there rid) (final_calm t keys y.history talk.there rid) (final_sends t keys y.history talk.there rid)) refl tt
      (without_here s t keys mine theirs n h (ResponseFinal rid) later y stage talk refl)
  given_there h (request_message r) later y stage links texts too its talk known = go (r.rid == n) refl
    where
      go : (b : Bool) → (r.rid == n) ≡ b
          → Talk s t keys mine theirs (side_with h later) (block t (Net (request_message r)) y) n (if b then answered (effects t y.history (Net (request_message r))).answer links stage else stage)
      go false apart = given_there_other h r later y stage known apart texts too talk
      go true same =
          given_there_own h r later y stage links known texts too its talk
          (subst (λ (reqs : List Request). InStage s t keys mine theirs n reqs (responses_for n y.waiting) talk.at talk.number stage) (ap (λ (b : Bool). (if b then r ∷ [] else []) ++ requests n later) same) talk.state)
  given_there h m later y stage links texts too its talk known = absurd known
