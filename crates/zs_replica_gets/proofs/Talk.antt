-- What stands between two linked sessions of a get of one of them.
use Rattle.std.proofs.Common.{◌≡◌, ◌⊎◌, ◌<◌, ℕ, List, [], ◌∷◌, ◌++◌, Bool, true, false, Option, None, refl, sym, ◌∙◌, ap, subst, cond, map}
use Rattle.std.specs.Prelude.{◌==◌, filter, encode_utf8_all, if◌then◌else◌}
use Rattle.std.specs.List.{AllByRecursion}
use Rattle.std.specs.Str.{chars}
use Rattle.zs_keys.specs.Matching.{intersects}
use Rattle.zs_wire.specs.declared.message.Message.{Message}
use Rattle.zs_wire.specs.declared.message.Message.TheVariants.{DeclareSubscriber, DeclareQueryable, Push, Request as request_message, Response as response_message, ResponseFinal}
use Rattle.zs_wire.specs.declared.quality.QoSType.{QoSType}
use Rattle.zs_wire.specs.declared.request.Request.{Request}
use Rattle.zs_wire.specs.declared.response.Response.{Response}
use Rattle.zs_sample.specs.Reply.{Replied}
use Rattle.zs_query.specs.declared.open_get.OpenGet.{OpenGet}
use Rattle.zs_model.specs.declared.settings.Settings.{Settings}
use Rattle.zs_model.specs.Questions.{request_of}
use Rattle.zs_model.specs.Sends.{full_wire}
use Rattle.zs_delivery.specs.Linked.{Side, LinkLine}
use Rattle.zs_store.specs.Store.{Write}
use Rattle.zs_replica_gets.specs.Steps.{answerer, asking_settings, meeting}
use Rattle.zs_replica_gets.specs.Responding.{response_with}
use Rattle.zs_replica_gets.specs.Asked.{Stage, Unasked, Asked, Answered, Over}
use Rattle.zs_replica_gets.proofs.Kept.{reply_by, pushed, from_both}
use Rattle.zs_replica_gets.proofs.Pasts.{Calm, Asking}
use Rattle.zs_replica_gets.proofs.Turns.{IsPlain}
use Rattle.zs_replica_gets.proofs.Answered.{Fits, asking}
use Rattle.zs_replica_gets.proofs.Questions.{Waits}
use Rattle.zs_replica_gets.proofs.Runs.{IsText, IsLatest, fits}
use Rattle.zs_replica_gets.proofs.Blocks.{own_part}

-- the requests of a get among messages, and its responses and finals
abbrev pub request_in : ℕ → Message → List Request
request_in n (request_message r) = if r.rid == n then r ∷ [] else []
request_in n m = []

abbrev pub requests : ℕ → List Message → List Request
requests n [] = []
requests n (m ∷ ms) = request_in n m ++ requests n ms

abbrev pub answer_in : ℕ → Message → List Message
answer_in n (response_message r) = if r.rid == n then response_message r ∷ [] else []
answer_in n (ResponseFinal rid) = if rid == n then ResponseFinal rid ∷ [] else []
answer_in n m = []

abbrev pub responses_for : ℕ → List Message → List Message
responses_for n [] = []
responses_for n (m ∷ ms) = answer_in n m ++ responses_for n ms

three : {X : Type 0} (xs ys zs : List X) → (xs ++ ys) ++ zs ≡ xs ++ (ys ++ zs)
three [] ys zs = refl
three (x ∷ xs) ys zs = ap (λ rest. x ∷ rest) (three xs ys zs)

pub nothing_behind : {X : Type 0} (xs : List X) → xs ++ [] ≡ xs
nothing_behind [] = refl
nothing_behind (x ∷ xs) = ap (λ rest. x ∷ rest) (nothing_behind xs)

pub requests_append : (n : ℕ) (xs ys : List Message) → requests n (xs ++ ys) ≡ requests n xs ++ requests n ys
requests_append n [] ys = refl
requests_append n (x ∷ xs) ys = ap (λ (rest : List Request). request_in n x ++ rest) (requests_append n xs ys) ∙ sym (three (request_in n x) (requests n xs) (requests n ys))

pub responses_append : (n : ℕ) (xs ys : List Message) → responses_for n (xs ++ ys) ≡ responses_for n xs ++ responses_for n ys
responses_append n [] ys = refl
responses_append n (x ∷ xs) ys = ap (λ (rest : List Message). answer_in n x ++ rest) (responses_append n xs ys) ∙ sym (three (answer_in n x) (responses_for n xs) (responses_for n ys))

-- plain messages are none of them
pub plain_requests : (n : ℕ) (ms : List Message) → AllByRecursion IsPlain ms → requests n ms ≡ []
plain_requests n [] plain = refl
plain_requests n (DeclareSubscriber id wire ∷ ms) plain = plain_requests n ms plain.1
plain_requests n (DeclareQueryable id complete wire ∷ ms) plain = plain_requests n ms plain.1
plain_requests n (Push push ∷ ms) plain = plain_requests n ms plain.1
plain_requests n (m ∷ ms) plain = absurd plain.0

pub plain_responses : (n : ℕ) (ms : List Message) → AllByRecursion IsPlain ms → responses_for n ms ≡ []
plain_responses n [] plain = refl
plain_responses n (DeclareSubscriber id wire ∷ ms) plain = plain_responses n ms plain.1
plain_responses n (DeclareQueryable id complete wire ∷ ms) plain = plain_responses n ms plain.1
plain_responses n (Push push ∷ ms) plain = plain_responses n ms plain.1
plain_responses n (m ∷ ms) plain = absurd plain.0

-- answers are no requests
pub answers_no_requests : (n zid rid : ℕ) (qos : QoSType) (ws : List Write) → requests n (map (λ w. response_message (response_with zid rid qos w)) ws ++ ResponseFinal rid ∷ []) ≡ []
answers_no_requests n zid rid qos [] = refl
answers_no_requests n zid rid qos (w ∷ ws) = answers_no_requests n zid rid qos ws

-- those to another get, and those to the get
pub answers_other : (n zid rid : ℕ) (qos : QoSType) (ws : List Write) → (rid == n) ≡ false
    → responses_for n (map (λ w. response_message (response_with zid rid qos w)) ws ++ ResponseFinal rid ∷ []) ≡ []
answers_other n zid rid qos [] apart = ap (λ (b : Bool). (if b then ResponseFinal rid ∷ [] else []) ++ []) apart
answers_other n zid rid qos (w ∷ ws) apart =
    ap (λ (b : Bool). (if b then response_message (response_with zid rid qos w) ∷ [] else []) ++ responses_for n (map (λ w. response_message (response_with zid rid qos w)) ws ++ ResponseFinal rid ∷ [])) apart
    ∙ answers_other n zid rid qos ws apart

pub answers_own : (n zid : ℕ) (qos : QoSType) (ws : List Write) → (n == n) ≡ true
    → responses_for n (map (λ w. response_message (response_with zid n qos w)) ws ++ ResponseFinal n ∷ []) ≡ map (λ w. response_message (response_with zid n qos w)) ws ++ ResponseFinal n ∷ []
answers_own n zid qos [] same = ap (λ (b : Bool). (if b then ResponseFinal n ∷ [] else []) ++ []) same
answers_own n zid qos (w ∷ ws) same =
    ap (λ (b : Bool). (if b then response_message (response_with zid n qos w) ∷ [] else []) ++ responses_for n (map (λ w. response_message (response_with zid n qos w)) ws ++ ResponseFinal n ∷ [])) same
    ∙ ap (λ (ms : List Message). response_message (response_with zid n qos w) ∷ ms) (answers_own n zid qos ws same)

-- the messages of sessions with stores
pub record IsRequest (r : Request) : Type 0 where
  pub key : List ℕ
  pub is : r.wire ≡ full_wire key
  pub spelled : encode_utf8_all (chars key) ≡ key

pub record IsResponse (r : Response) : Type 0 where
  pub zid : ℕ
  pub rid : ℕ
  pub qos : QoSType
  pub write : Write
  pub is : r ≡ response_with zid rid qos write

abbrev pub IsKnown : Message → Type 0
IsKnown (DeclareSubscriber id wire) = Unit {0}
IsKnown (DeclareQueryable id complete wire) = Unit {0}
IsKnown (Push push) = Unit {0}
IsKnown (request_message r) = IsRequest r
IsKnown (response_message r) = IsResponse r
IsKnown (ResponseFinal rid) = Unit {0}
IsKnown m = ⊥

pub plain_known : (ms : List Message) → AllByRecursion IsPlain ms → AllByRecursion IsKnown ms
plain_known [] plain = tt
plain_known (DeclareSubscriber id wire ∷ ms) plain = (tt, plain_known ms plain.1)
plain_known (DeclareQueryable id complete wire ∷ ms) plain = (tt, plain_known ms plain.1)
plain_known (Push push ∷ ms) plain = (tt, plain_known ms plain.1)
plain_known (m ∷ ms) plain = absurd plain.0

pub answers_known : (zid rid : ℕ) (qos : QoSType) (ws : List Write) → AllByRecursion IsKnown (map (λ w. response_message (response_with zid rid qos w)) ws ++ ResponseFinal rid ∷ [])
answers_known zid rid qos [] = (tt, tt)
answers_known zid rid qos (w ∷ ws) = (record { zid = zid; rid = rid; qos = qos; write = w; is = refl }, answers_known zid rid qos ws)

pub known_append : (xs ys : List Message) → AllByRecursion IsKnown xs → AllByRecursion IsKnown ys → AllByRecursion IsKnown (xs ++ ys)
known_append [] ys first second = second
known_append (x ∷ xs) ys first second = (first.0, known_append xs ys first.1 second)

-- the replies with these, one by one
abbrev pub fed : ℕ → List Write → List Replied → List Replied
fed zid [] replies = replies
fed zid (w ∷ ws) replies = fed zid ws (reply_by zid answerer asking_settings.qos w ∷ replies)

pub fed_all : (zid : ℕ) (key : List ℕ) (store : List Write) (replies : List Replied) → fed zid (filter (λ w. intersects key w.key) store) replies ≡ pushed zid answerer asking_settings.qos key store replies
fed_all zid key [] replies = refl
fed_all zid key (w ∷ store) replies = go (intersects key w.key) (λ replies. fed_all zid key store replies)
  where
    go : (b : Bool) → ((replies : List Replied) → fed zid (filter (λ w. intersects key w.key) store) replies ≡ pushed zid answerer asking_settings.qos key store replies) → fed zid (cond b (w ∷ filter (λ w. intersects key w.key) store) (filter (λ w. intersects key w.key) store)) replies
        ≡ pushed zid answerer asking_settings.qos key store (if b then reply_by zid answerer asking_settings.qos w ∷ replies else replies)
    go true rest = rest (reply_by zid answerer asking_settings.qos w ∷ replies)
    go false rest = rest replies

-- what is fed of the other's store makes the whole
pub fed_both : (s t : ℕ) (keys key : List ℕ) (own others : List Write)
    → fed t (meeting keys key others) (own_part s asking_settings.qos keys key own) ≡ from_both s t answerer asking_settings.qos keys key own others
fed_both s t keys key own others = go (intersects key keys)
  where
    go : (b : Bool) → fed t (if b then filter (λ w. intersects key w.key) others else []) (if b then pushed s answerer asking_settings.qos key own [] else [])
        ≡ (if b then pushed t answerer asking_settings.qos key others (pushed s answerer asking_settings.qos key own []) else [])
    go true = fed_all t key others (pushed s answerer asking_settings.qos key own [])
    go false = refl

-- what meets a key fits it
pub all_fit : (keys key : List ℕ) (store : List Write) → AllByRecursion IsText store → AllByRecursion (Fits key) (meeting keys key store)
all_fit keys key store texts = go (intersects key keys) (each store texts)
  where
    each : (store : List Write) → AllByRecursion IsText store → AllByRecursion (Fits key) (filter (λ w. intersects key w.key) store)
    each [] texts = tt
    each (w ∷ store) texts = at (intersects key w.key) refl (each store texts.1)
      where
        at : (b : Bool) → intersects key w.key ≡ b → AllByRecursion (Fits key) (filter (λ w. intersects key w.key) store)
            → AllByRecursion (Fits key) (cond b (w ∷ filter (λ w. intersects key w.key) store) (filter (λ w. intersects key w.key) store))
        at true is rest = (fits key w texts.0 is, rest)
        at false is rest = rest

    go : (b : Bool) → AllByRecursion (Fits key) (filter (λ w. intersects key w.key) store) → AllByRecursion (Fits key) (if b then filter (λ w. intersects key w.key) store else [])
    go true all = all
    go false all = tt

-- what stands of a get in each stage, by what it has heard and what waits of its request and of its answers
pub record IsUnasked (reqs : List Request) (ans : List Message) (at : Option OpenGet) : Type 0 where
  pub gone : at ≡ None
  pub none : reqs ≡ []
  pub silent : ans ≡ []

pub record IsAsked (s : Settings) (keys key : List ℕ) (own : List Write) (n : ℕ) (reqs : List Request) (ans : List Message) (at : Option OpenGet) (number : ℕ) : Type 0 where
  pub spelled : encode_utf8_all (chars key) ≡ key
  pub waits : Waits n key false true (own_part s.zid asking_settings.qos keys key own) at
  pub before : n < number
  pub sent : (reqs ≡ request_of s.default_timeout (full_wire key) n asking ∷ []) ⊎ (reqs ≡ [])
  pub silent : ans ≡ []

pub record IsAnswered (s t : Settings) (keys key : List ℕ) (own others : List Write) (n : ℕ) (reqs : List Request) (ans : List Message) (at : Option OpenGet) (number : ℕ) : Type 0 where
  pub replies : List Replied
  pub rest : List Write
  pub waits : Waits n key false true replies at
  pub whole : fed t.zid rest replies ≡ from_both s.zid t.zid answerer asking_settings.qos keys key own others
  pub fitting : AllByRecursion (Fits key) rest
  pub before : n < number
  pub none : reqs ≡ []
  pub coming : ans ≡ map (λ w. response_message (response_with t.zid n asking_settings.qos w)) rest ++ ResponseFinal n ∷ []

pub record IsOver (n number : ℕ) (reqs : List Request) (ans : List Message) (at : Option OpenGet) : Type 0 where
  pub gone : at ≡ None
  pub before : n < number
  pub none : reqs ≡ []
  pub silent : ans ≡ []

abbrev pub InStage : Settings → Settings → List ℕ → (List LinkLine → List Write) → (List LinkLine → List Write) → ℕ → List Request → List Message → Option OpenGet → ℕ → Stage → Type 0
InStage s t keys mine theirs n reqs ans at number Unasked = IsUnasked reqs ans at
InStage s t keys mine theirs n reqs ans at number (Asked key own) = IsAsked s keys key (mine own) n reqs ans at number
InStage s t keys mine theirs n reqs ans at number (Answered key own others) = IsAnswered s t keys key (mine own) (theirs others) n reqs ans at number
InStage s t keys mine theirs n reqs ans at number Over = IsOver n number reqs ans at

pub record Talk (s t : Settings) (keys : List ℕ) (mine theirs : List LinkLine → List Write) (x y : Side) (n : ℕ) (stage : Stage) : Type 0 where
  pub at : Option OpenGet
  pub number : ℕ
  pub here : Calm s keys x.history []
  pub asks : Asking s x.history n at number
  pub there : Calm t keys y.history []
  pub known : AllByRecursion IsKnown x.waiting
  pub known_there : AllByRecursion IsKnown y.waiting
  pub state : InStage s t keys mine theirs n (requests n x.waiting) (responses_for n y.waiting) at number stage

waits_latest : (n : ℕ) (key : List ℕ) (a b : Bool) (replies : List Replied) (at : Option OpenGet) → Waits n key a b replies at → IsLatest at
waits_latest n key a b replies at waits = subst IsLatest (sym waits.is) waits.mode

-- the get is handed the newest at its end, if it is open
pub latest : (s t : Settings) (keys : List ℕ) (mine theirs : List LinkLine → List Write) (n : ℕ) (reqs : List Request) (ans : List Message) (at : Option OpenGet) (number : ℕ) (stage : Stage)
    → InStage s t keys mine theirs n reqs ans at number stage → IsLatest at
latest s t keys mine theirs n reqs ans at number Unasked state = subst IsLatest (sym state.gone) tt
latest s t keys mine theirs n reqs ans at number (Asked key own) state = waits_latest n key false true _ at state.waits
latest s t keys mine theirs n reqs ans at number (Answered key own others) state = waits_latest n key false true _ at state.waits
latest s t keys mine theirs n reqs ans at number Over state = subst IsLatest (sym state.gone) tt
