-- What stands of a get behind each event of its own side.
use Rattle.std.proofs.Common.{◌≡◌, inl, ◌+◌, ◌<◌, ℕ, List, [], ◌∷◌, ◌++◌, Bool, true, false, Option, Some, None, refl, sym, ◌∙◌, ap, subst, arith, map, true≢false}
use Rattle.std.specs.Prelude.{◌==◌, encode_utf8_all, if◌then◌else◌}
use Rattle.std.specs.List.{AllByRecursion}
use Rattle.std.specs.Str.{chars}
use Rattle.std.proofs.lemmas.Bool.{eqb-true}
use Rattle.zs_wire.specs.declared.message.Message.{Message}
use Rattle.zs_wire.specs.declared.message.Message.TheVariants.{DeclareSubscriber, DeclareQueryable, Push, Request as request_message, Response as response_message, ResponseFinal}
use Rattle.zs_wire.specs.declared.request.Request.{Request}
use Rattle.zs_wire.specs.declared.response.Response.{Response}
use Rattle.zs_query.specs.declared.open_get.OpenGet.{OpenGet}
use Rattle.zs_query.specs.Gets.{get_at}
use Rattle.zs_query.specs.Kept.{kept}
use Rattle.zs_events.specs.declared.event.Event.{Event}
use Rattle.zs_events.specs.declared.event.Event.TheVariants.{Net}
use Rattle.zs_events.specs.declared.turn.Answer.{Answer}
use Rattle.zs_events.specs.declared.turn.Effect.{Effect}
use Rattle.zs_events.specs.declared.turn.Refusal.{Refusal}
use Rattle.zs_model.specs.declared.settings.Settings.{Settings}
use Rattle.zs_model.specs.Causes.{refusal_of}
use Rattle.zs_model.specs.Counters.{next_query}
use Rattle.zs_model.specs.Gets.{open_now}
use Rattle.zs_model.specs.Past.{past_of}
use Rattle.zs_model.specs.Questions.{request_of}
use Rattle.zs_model.specs.Received.{messages_of}
use Rattle.zs_model.specs.Sends.{full_wire}
use Rattle.zs_model.specs.Effects.{effects}
use Rattle.zs_laws.specs.Ended.{EndsOfGets}
use Rattle.zs_laws.specs.Handed.{handed_to, GetsAreHanded, OthersAreHandedNothing}
use Rattle.zs_delivery.specs.Linked.{Side, LinkLine}
use Rattle.zs_store.specs.Store.{Write}
use Rattle.zs_replicas.specs.Replicas.{stored}
use Rattle.zs_replica_gets.specs.Steps.{answerer, asking_settings, meeting, question}
use Rattle.zs_replica_gets.specs.Responding.{response_with, answer_messages}
use Rattle.zs_replica_gets.specs.Asked.{Stage, Unasked, Asked, Answered, Over, asked, brings_final}
use Rattle.zs_replica_gets.specs.Gets.{ends}
use Rattle.zs_replica_gets.proofs.Kept.{reply_by, from_both}
use Rattle.zs_replica_gets.proofs.Turns.{IsQuiet, quiet_sent, quiet_subscriber, quiet_queryable, quiet_push}
use Rattle.zs_replica_gets.proofs.Answered.{Fits, asking}
use Rattle.zs_replica_gets.proofs.Questions.{Waits, answer_accepted}
use Rattle.zs_replica_gets.proofs.Runs.{IsNothing, IsText, IsLatest}
use Rattle.zs_replica_gets.proofs.Blocks.{block, block_effects, own_part, refused_block, quiet_block, response_block, final_block, request_block, other_block, asked_block, own_final, own_response}
use Rattle.zs_replica_gets.proofs.Talk.{requests, responses_for, requests_append, nothing_behind, plain_requests, answers_no_requests, IsRequest, IsResponse, IsKnown, plain_known, answers_known, known_append, fed, InStage, Talk, latest}
use Rattle.zs_replica_gets.proofs.Moving.{answer_refused, read_key, same_number, tail_of, side_with, behind_here, without_there}

module _ (open_law : GetsAreHanded) (others_law : OthersAreHandedNothing) (ends_law : EndsOfGets) (s t : Settings) (keys : List ℕ) (mine theirs : List LinkLine → List Write) (n : ℕ) where
  abbrev Talks : Side → Side → Stage → Type 0
  Talks x y stage = Talk s t keys mine theirs x y n stage

  is_latest : (x y : Side) (stage : Stage) (talk : Talks x y stage) → IsLatest talk.at
  is_latest x y stage talk = latest s t keys mine theirs n (requests n x.waiting) (responses_for n y.waiting) talk.at talk.number stage talk.state

  -- what the asker's side makes of an event that is nothing to the get
  pub record Went (x y : Side) (stage : Stage) (fx : List Effect) : Type 0 where
    pub talk : Talk s t keys mine theirs x y n stage
    pub nothing : IsNothing n fx

  pub quiet_here : (x y : Side) (stage : Stage) (e : Event) → IsQuiet e → Talks x y stage → Went (block s e x) y stage (block_effects s e x)
  quiet_here x y stage e quiet talk =
      let b = quiet_block open_law others_law ends_law s keys n x talk.at talk.number (is_latest x y stage talk) talk.here talk.asks e quiet in
      let plain = quiet_sent s keys x.history e [] quiet talk.here in
      record {
        talk = behind_here s t keys mine theirs n x (block s e x) y stage talk (messages_of (effects s x.history e).effects) b.calm b.asking b.sent (plain_requests n (messages_of (effects s x.history e).effects) plain) (plain_known (messages_of (effects s x.history e).effects) plain);
        nothing = b.nothing;
      }

  refused_here : (x y : Side) (stage : Stage) (e : Event) (refusal : Refusal) → refusal_of s (past_of s x.history) e ≡ Some refusal → Talks x y stage → Went (block s e x) y stage (block_effects s e x)
  refused_here x y stage e refusal refused talk =
      let b = refused_block open_law others_law ends_law s keys n x talk.at talk.number (is_latest x y stage talk) talk.here talk.asks e refusal refused in
      record { talk = behind_here s t keys mine theirs n x (block s e x) y stage talk [] b.calm b.asking b.sent refl tt; nothing = b.nothing }

  -- one number more was drawn by another get
  raised : (reqs : List Request) (ans : List Message) (at : Option OpenGet) (number : ℕ) (stage : Stage)
      → InStage s t keys mine theirs n reqs ans at number stage → InStage s t keys mine theirs n reqs ans at (number + 1) stage
  raised reqs ans at number Unasked state =
      record { gone = state.gone; none = state.none; silent = state.silent }
  raised reqs ans at number (Asked key own) state =
      let before = state.before in
      record { spelled = state.spelled; waits = state.waits; before = omega (arith, before); sent = state.sent; silent = state.silent }
  raised reqs ans at number (Answered key own others) state =
      let before = state.before in
      record {
        replies = state.replies;
        rest = state.rest;
        waits = state.waits;
        whole = state.whole;
        fitting = state.fitting;
        before = omega (arith, before);
        none = state.none;
        coming = state.coming;
      }
  raised reqs ans at number Over state =
      let before = state.before in
      record { gone = state.gone; before = omega (arith, before); none = state.none; silent = state.silent }

  -- the next number is that of no get yet
  is_unasked : (reqs : List Request) (ans : List Message) (at : Option OpenGet) (number : ℕ) (stage : Stage) → number ≡ n → InStage s t keys mine theirs n reqs ans at number stage → (reqs ≡ []) × (ans ≡ [])
  is_unasked reqs ans at number Unasked is state = (state.none, state.silent)
  is_unasked reqs ans at number (Asked key own) is state = let before = state.before in absurd (omega (arith, before, is))
  is_unasked reqs ans at number (Answered key own others) is state = let before = state.before in absurd (omega (arith, before, is))
  is_unasked reqs ans at number Over is state = let before = state.before in absurd (omega (arith, before, is))

  -- the asker's side asks
  module _ (x y : Side) (stage : Stage) (text : List ℕ) (links : List LinkLine) (spelled : encode_utf8_all (chars (encode_utf8_all text)) ≡ encode_utf8_all text)
      (its : mine links ≡ stored s (question text ∷ x.history)) (texts : AllByRecursion IsText (stored s (question text ∷ x.history))) (talk : Talks x y stage) where
    abbrev q : Event
    q = question text

    abbrev k : List ℕ
    k = encode_utf8_all text

    abbrev m : ℕ
    m = next_query s (past_of s x.history)

    request_is : (b : Bool) → (m == n) ≡ b → requests n (request_message (request_of s.default_timeout (full_wire k) m asking) ∷ []) ≡ (if b then request_of s.default_timeout (full_wire k) m asking ∷ [] else [])
    request_is true is = ap (λ (b : Bool). (if b then request_of s.default_timeout (full_wire k) m asking ∷ [] else []) ++ []) is
    request_is false is = ap (λ (b : Bool). (if b then request_of s.default_timeout (full_wire k) m asking ∷ [] else []) ++ []) is

    known_request : AllByRecursion IsKnown (request_message (request_of s.default_timeout (full_wire k) m asking) ∷ [])
    known_request = (record { key = k; is = refl; spelled = spelled }, tt)

    by_number : (fine : refusal_of s (past_of s x.history) q ≡ None) (b : Bool) → (m == n) ≡ b → Went (block s q x) y (if b then Asked k links else stage) (block_effects s q x)
    by_number fine false apart =
        let b = other_block open_law others_law ends_law s keys n x talk.at talk.number (is_latest x y stage talk) talk.here talk.asks text fine apart texts in
        record {
          talk = record {
            at = talk.at;
            number = talk.number + 1;
            here = b.calm;
            asks = b.asking;
            there = talk.there;
            known = subst (AllByRecursion IsKnown) (sym b.sent) (known_append x.waiting (request_message (request_of s.default_timeout (full_wire k) m asking) ∷ []) talk.known known_request);
            known_there = talk.known_there;
            state =
                subst (λ (reqs : List Request). InStage s t keys mine theirs n reqs (responses_for n y.waiting) talk.at (talk.number + 1) stage)
                (sym (ap (requests n) b.sent ∙ requests_append n x.waiting (request_message (request_of s.default_timeout (full_wire k) m asking) ∷ []) ∙ ap (λ (more : List Request). requests n x.waiting ++ more) (request_is false apart) ∙ nothing_behind (requests n x.waiting)))
                (raised (requests n x.waiting) (responses_for n y.waiting) talk.at talk.number stage talk.state);
          };
          nothing = b.nothing;
        }
    by_number fine true same =
        let its_number : m ≡ n = eqb-true m n same in
        let b = asked_block open_law others_law ends_law s keys x talk.here text fine texts in
        let none = is_unasked (requests n x.waiting) (responses_for n y.waiting) talk.at talk.number stage (sym talk.asks.next ∙ its_number) talk.state in
        record {
          talk = record {
            at = get_at n (open_now s (past_of s (block s q x).history));
            number = m + 1;
            here = b.calm;
            asks = record { get = refl; next = b.next };
            there = talk.there;
            known = subst (AllByRecursion IsKnown) (sym b.sent) (known_append x.waiting (request_message (request_of s.default_timeout (full_wire k) m asking) ∷ []) talk.known known_request);
            known_there = talk.known_there;
            state = record {
              spelled = spelled;
              waits =
                  subst (λ (store : List Write). Waits n k false true (own_part s.zid asking_settings.qos keys k store) (get_at n (open_now s (past_of s (block s q x).history)))) (sym its)
                  (subst (λ (j : ℕ). Waits j k false true (own_part s.zid asking_settings.qos keys k (stored s (q ∷ x.history))) (get_at j (open_now s (past_of s (block s q x).history)))) its_number b.waits);
              before = behind_it m its_number;
              sent = inl (
                  ap (requests n) b.sent ∙ requests_append n x.waiting (request_message (request_of s.default_timeout (full_wire k) m asking) ∷ [])
                  ∙ (λ i. none.0 i ++ request_is true same i)
                  ∙ ap (λ (j : ℕ). request_of s.default_timeout (full_wire k) j asking ∷ []) its_number);
              silent = none.1;
            };
          };
          nothing = subst (λ (j : ℕ). IsNothing j (block_effects s q x)) its_number b.nothing;
        }
      where
        behind_it : (j : ℕ) → j ≡ n → n < j + 1
        behind_it j is = omega (arith, is)

    pub asks_here : Went (block s q x) y (asked n k (effects s x.history q).answer links stage) (block_effects s q x)
    asks_here = go (refusal_of s (past_of s x.history) q) refl
      where
        go : (o : Option Refusal) → refusal_of s (past_of s x.history) q ≡ o → Went (block s q x) y (asked n k (effects s x.history q).answer links stage) (block_effects s q x)
        go (Some refusal) refused =
            subst (λ (a : Answer). Went (block s q x) y (asked n k a links stage) (block_effects s q x)) (sym (answer_refused s x.history q refusal refused))
            (refused_here x y stage q refusal refused talk)
        go None fine =
            subst (λ (a : Answer). Went (block s q x) y (asked n k a links stage) (block_effects s q x)) (sym (answer_accepted s x.history q talk.here.unshut fine))
            (by_number fine (m == n) refl)

  -- what it is handed at its final
  pub record HandsOver (stage : Stage) (fx : List Effect) : Type 0 where
    pub key : List ℕ
    pub own : List LinkLine
    pub others : List LinkLine
    pub answered : stage ≡ Answered key own others
    pub handed : handed_to n fx ≡ kept (from_both s.zid t.zid answerer asking_settings.qos keys key (mine own) (theirs others))
    pub ended : ends n fx ≡ true

  -- the asker is given the oldest message of the other side
  pub record Given (x y : Side) (final : Bool) (stage : Stage) (after : Stage) (fx : List Effect) : Type 0 where
    pub talk : Talk s t keys mine theirs x y n after
    pub hands : final ≡ true → HandsOver stage fx
    pub waits : final ≡ false → IsNothing n fx

  no_final : (x y : Side) (stage : Stage) (fx : List Effect) → Went x y stage fx → Given x y false stage stage fx
  no_final x y stage fx went = record { talk = went.talk; hands = λ is. absurd (true≢false (sym is)); waits = λ is. went.nothing }

  -- a plain message
  given_quiet : (x : Side) (h : List Event) (m : Message) (later : List Message) (stage : Stage) → IsQuiet (Net m) → responses_for n (m ∷ later) ≡ responses_for n later → Talks x (side_with h (m ∷ later)) stage
      → Went (block s (Net m) x) (side_with h later) stage (block_effects s (Net m) x)
  given_quiet x h m later stage quiet same talk = quiet_here x (side_with h later) stage (Net m) quiet (without_there s t keys mine theirs n x h m later stage talk same)

  -- a request of the other side
  given_request : (x : Side) (h : List Event) (r : Request) (later : List Message) (stage : Stage) → IsRequest r → AllByRecursion IsText (stored s (Net (request_message r) ∷ x.history))
      → Talks x (side_with h (request_message r ∷ later)) stage → Went (block s (Net (request_message r)) x) (side_with h later) stage (block_effects s (Net (request_message r)) x)
  given_request x h r later stage known texts talk = go (refusal_of s (past_of s x.history) (Net (request_message r))) refl
    where
      left : Talk s t keys mine theirs x (side_with h later) n stage
      left = without_there s t keys mine theirs n x h (request_message r) later stage talk refl

      go : (o : Option Refusal) → refusal_of s (past_of s x.history) (Net (request_message r)) ≡ o
          → Went (block s (Net (request_message r)) x) (side_with h later) stage (block_effects s (Net (request_message r)) x)
      go (Some refusal) refused = refused_here x (side_with h later) stage (Net (request_message r)) refusal refused left
      go None fine =
          let b = request_block open_law others_law ends_law s keys n x left.at left.number (is_latest x (side_with h later) stage left) left.here left.asks r known.key (read_key s x.history r known) fine texts in
          let store = stored s (Net (request_message r) ∷ x.history) in
          record {
            talk = behind_here s t keys mine theirs n x (block s (Net (request_message r)) x) (side_with h later) stage left (answer_messages s.zid r.rid r.qos keys known.key store) b.calm b.asking b.sent
                (answers_no_requests n s.zid r.rid r.qos (meeting keys known.key store)) (answers_known s.zid r.rid r.qos (meeting keys known.key store));
            nothing = b.nothing;
          }

  -- a response to another get
  given_other : (x : Side) (h : List Event) (r : Response) (later : List Message) (stage : Stage) → IsResponse r → (r.rid == n) ≡ false → Talks x (side_with h (response_message r ∷ later)) stage
      → Went (block s (Net (response_message r)) x) (side_with h later) stage (block_effects s (Net (response_message r)) x)
  given_other x h r later stage known apart talk =
      let left = without_there s t keys mine theirs n x h (response_message r) later stage talk (ap (λ (b : Bool). (if b then response_message r ∷ [] else []) ++ responses_for n later) apart) in
      subst (λ (r : Response). Went (block s (Net (response_message r)) x) (side_with h later) stage (block_effects s (Net (response_message r)) x)) (sym known.is)
      (let b = response_block open_law others_law ends_law s keys n x left.at left.number (is_latest x (side_with h later) stage left) left.here left.asks known.zid known.rid known.qos known.write
      (ap (λ (r : Response). r.rid == n) (sym known.is) ∙ apart) in
      record {
        talk = behind_here s t keys mine theirs n x (block s (Net (response_message (response_with known.zid known.rid known.qos known.write))) x) (side_with h later) stage left [] b.calm b.asking b.sent refl tt;
        nothing = b.nothing;
      })

  -- a response to the get
  given_own : (x : Side) (h : List Event) (r : Response) (later : List Message) (stage : Stage) → (r.rid == n) ≡ true → (talk : Talks x (side_with h (response_message r ∷ later)) stage)
      → (state : InStage s t keys mine theirs n (requests n x.waiting) (response_message r ∷ responses_for n later) talk.at talk.number stage)
      → Went (block s (Net (response_message r)) x) (side_with h later) stage (block_effects s (Net (response_message r)) x)
  given_own x h r later Unasked same talk state = absurd (let never = state.silent in cc)
  given_own x h r later (Asked key own) same talk state = absurd (let never = state.silent in cc)
  given_own x h r later Over same talk state = absurd (let never = state.silent in cc)
  given_own x h r later (Answered key own others) same talk state = go state.rest state.fitting state.whole state.coming
    where
      final_apart : (r : Response) (ms : List Message) → response_message r ∷ ms ≡ ResponseFinal n ∷ [] → ⊥
      final_apart r ms is = cc

      inner : (a b : Response) (ms ns : List Message) → response_message a ∷ ms ≡ response_message b ∷ ns → a ≡ b
      inner a b ms ns is = cc

      go : (rest : List Write) → AllByRecursion (Fits key) rest → fed t.zid rest state.replies ≡ from_both s.zid t.zid answerer asking_settings.qos keys key (mine own) (theirs others)
          → response_message r ∷ responses_for n later ≡ map (λ w. response_message (response_with t.zid n asking_settings.qos w)) rest ++ ResponseFinal n ∷ []
          → Went (block s (Net (response_message r)) x) (side_with h later) (Answered key own others) (block_effects s (Net (response_message r)) x)
      go [] fitting whole coming = absurd (final_apart r (responses_for n later) coming)
      go (w ∷ rest) fitting whole coming =
          let is : r ≡ response_with t.zid n asking_settings.qos w = inner r (response_with t.zid n asking_settings.qos w) (responses_for n later) (map (λ w. response_message (response_with t.zid n asking_settings.qos w)) rest ++ ResponseFinal n ∷ []) coming in
          let b = own_response open_law others_law ends_law s keys n x talk.here key state.replies talk.at talk.number talk.asks state.waits t.zid asking_settings.qos w fitting.0 in
          subst (λ (r : Response). Went (block s (Net (response_message r)) x) (side_with h later) (Answered key own others) (block_effects s (Net (response_message r)) x)) (sym is) (record {
            talk = record {
              at = get_at n (open_now s (past_of s (block s (Net (response_message (response_with t.zid n asking_settings.qos w))) x).history));
              number = talk.number;
              here = b.calm;
              asks = record { get = refl; next = b.next };
              there = talk.there;
              known = subst (AllByRecursion IsKnown) (sym b.sent) talk.known;
              known_there = talk.known_there.1;
              state = record {
                replies = reply_by t.zid answerer asking_settings.qos w ∷ state.replies;
                rest = rest;
                waits = b.waits;
                whole = whole;
                fitting = fitting.1;
                before = state.before;
                none = ap (requests n) b.sent ∙ state.none;
                coming = tail_of (response_message r) (response_message (response_with t.zid n asking_settings.qos w)) (responses_for n later) (map (λ w. response_message (response_with t.zid n asking_settings.qos w)) rest ++ ResponseFinal n ∷ []) coming;
              };
            };
            nothing = b.nothing;
          })

  -- the final of another get
  given_final_other : (x : Side) (h : List Event) (rid : ℕ) (later : List Message) (stage : Stage) → (rid == n) ≡ false → Talks x (side_with h (ResponseFinal rid ∷ later)) stage
      → Went (block s (Net (ResponseFinal rid)) x) (side_with h later) stage (block_effects s (Net (ResponseFinal rid)) x)
  given_final_other x h rid later stage apart talk =
      let left = without_there s t keys mine theirs n x h (ResponseFinal rid) later stage talk (ap (λ (b : Bool). (if b then ResponseFinal rid ∷ [] else []) ++ responses_for n later) apart) in
      let b = final_block open_law others_law ends_law s keys n x left.at left.number (is_latest x (side_with h later) stage left) left.here left.asks rid apart in
      record { talk = behind_here s t keys mine theirs n x (block s (Net (ResponseFinal rid)) x) (side_with h later) stage left [] b.calm b.asking b.sent refl tt; nothing = b.nothing }

  -- the final of the get
  record EndsAt (x : Side) (h : List Event) (later : List Message) (stage : Stage) : Type 0 where
    talk : Talk s t keys mine theirs (block s (Net (ResponseFinal n)) x) (side_with h later) n Over
    hands : HandsOver stage (block_effects s (Net (ResponseFinal n)) x)

  given_final_own : (x : Side) (h : List Event) (later : List Message) (stage : Stage) (talk : Talks x (side_with h (ResponseFinal n ∷ later)) stage)
      → (state : InStage s t keys mine theirs n (requests n x.waiting) (ResponseFinal n ∷ responses_for n later) talk.at talk.number stage) → EndsAt x h later stage
  given_final_own x h later Unasked talk state = absurd (let never = state.silent in cc)
  given_final_own x h later (Asked key own) talk state = absurd (let never = state.silent in cc)
  given_final_own x h later Over talk state = absurd (let never = state.silent in cc)
  given_final_own x h later (Answered key own others) talk state = go state.rest state.whole state.coming
    where
      response_apart : (r : Response) (ms ns : List Message) → ResponseFinal n ∷ ms ≡ response_message r ∷ ns → ⊥
      response_apart r ms ns is = cc

      go : (rest : List Write) → fed t.zid rest state.replies ≡ from_both s.zid t.zid answerer asking_settings.qos keys key (mine own) (theirs others)
          → ResponseFinal n ∷ responses_for n later ≡ map (λ w. response_message (response_with t.zid n asking_settings.qos w)) rest ++ ResponseFinal n ∷ [] → EndsAt x h later (Answered key own others)
      go (w ∷ rest) whole coming =
          absurd (response_apart (response_with t.zid n asking_settings.qos w) (responses_for n later) (map (λ w. response_message (response_with t.zid n asking_settings.qos w)) rest ++ ResponseFinal n ∷ []) coming)
      go [] whole coming =
          let b = own_final open_law others_law ends_law s keys n x talk.here key state.replies talk.at talk.number talk.asks state.waits in
          record {
            talk = record {
              at = None;
              number = talk.number;
              here = b.calm;
              asks = b.asking;
              there = talk.there;
              known = subst (AllByRecursion IsKnown) (sym b.sent) talk.known;
              known_there = talk.known_there.1;
              state = record {
                gone = refl;
                before = state.before;
                none = ap (requests n) b.sent ∙ state.none;
                silent = tail_of (ResponseFinal n) (ResponseFinal n) (responses_for n later) [] coming;
              };
            };
            hands = record { key = key; own = own; others = others; answered = refl; handed = b.handed ∙ ap kept whole; ended = b.ended };
          }

  pub given_here : (x : Side) (h : List Event) (m : Message) (later : List Message) (stage : Stage) → AllByRecursion IsText (stored s (Net m ∷ x.history)) → Talks x (side_with h (m ∷ later)) stage → IsKnown m
      → Given (block s (Net m) x) (side_with h later) (brings_final n (m ∷ later)) stage (if brings_final n (m ∷ later) then Over else stage) (block_effects s (Net m) x)
  given_here x h (DeclareSubscriber id wire) later stage texts talk known =
      no_final _ _ stage _ (given_quiet x h (DeclareSubscriber id wire) later stage (quiet_subscriber id wire) refl talk)
  given_here x h (DeclareQueryable id complete wire) later stage texts talk known =
      no_final _ _ stage _ (given_quiet x h (DeclareQueryable id complete wire) later stage (quiet_queryable id complete wire) refl talk)
  given_here x h (Push push) later stage texts talk known = no_final _ _ stage _ (given_quiet x h (Push push) later stage (quiet_push push) refl talk)
  given_here x h (request_message r) later stage texts talk known = no_final _ _ stage _ (given_request x h r later stage known texts talk)
  given_here x h (response_message r) later stage texts talk known = no_final _ _ stage _ (go (r.rid == n) refl)
    where
      go : (b : Bool) → (r.rid == n) ≡ b → Went (block s (Net (response_message r)) x) (side_with h later) stage (block_effects s (Net (response_message r)) x)
      go false apart = given_other x h r later stage known apart talk
      go true same =
          given_own x h r later stage same talk
          (subst (λ (ans : List Message). InStage s t keys mine theirs n (requests n x.waiting) ans talk.at talk.number stage)
          (ap (λ (b : Bool). (if b then response_message r ∷ [] else []) ++ responses_for n later) same) talk.state)
  given_here x h (ResponseFinal rid) later stage texts talk known = go (rid == n) refl
    where
      own_end : Talk s t keys mine theirs x (side_with h (ResponseFinal n ∷ later)) n stage → EndsAt x h later stage
      own_end own =
          given_final_own x h later stage own
          (subst (λ (ans : List Message). InStage s t keys mine theirs n (requests n x.waiting) ans own.at own.number stage)
          (ap (λ (b : Bool). (if b then ResponseFinal n ∷ [] else []) ++ responses_for n later) (same_number n)) own.state)

      go : (b : Bool) → (rid == n) ≡ b → Given (block s (Net (ResponseFinal rid)) x) (side_with h later) b stage (if b then Over else stage) (block_effects s (Net (ResponseFinal rid)) x)
      go false apart = no_final _ _ stage _ (given_final_other x h rid later stage apart talk)
      go true same =
          let its : rid ≡ n = eqb-true rid n same in
          subst (λ (k : ℕ). Given (block s (Net (ResponseFinal k)) x) (side_with h later) true stage Over (block_effects s (Net (ResponseFinal k)) x)) (sym its)
          (let end = own_end (subst (λ (k : ℕ). Talk s t keys mine theirs x (side_with h (ResponseFinal k ∷ later)) n stage) its talk) in
          record { talk = end.talk; hands = λ is. end.hands; waits = λ is. absurd (true≢false is) })
  given_here x h m later stage texts talk known = absurd known
