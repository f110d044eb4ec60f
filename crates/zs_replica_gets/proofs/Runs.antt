-- A side that answers a query from its store, event by event.
use Rattle.std.proofs.Common.{◌≡◌, ℕ, List, [], ◌∷◌, ◌++◌, Bool, true, false, Option, Some, None, refl, sym, ◌∙◌, ap, subst, cond, arith, map}
use Rattle.std.specs.Prelude.{◌==◌, ◌&&◌, ◌||◌, not, filter, option_map, is_some, if◌then◌else◌}
use Rattle.std.specs.List.{AllByRecursion, list_any}
use Rattle.std.specs.Option.{IfSome}
use Rattle.std.specs.Str.{IsUtf8}
use Rattle.std.proofs.lemmas.Str.{encodes-chars}
use Rattle.std.proofs.lemmas.Bool.Decides.{nat_tests}
use Rattle.std.proofs.lemmas.List.{append_assoc}
use Rattle.zs_keys.specs.Matching.{intersects}
use Rattle.zs_keys.specs.Text.{is_canonical}
use Rattle.zs_wire.specs.declared.message.Message.{Message}
use Rattle.zs_wire.specs.declared.message.Message.TheVariants.{Response as response_message, ResponseFinal}
use Rattle.zs_wire.specs.declared.quality.QoSType.{QoSType}
use Rattle.zs_wire.specs.declared.request.ConsolidationMode.TheVariants as by
use Rattle.zs_sample.specs.Reply.{Replied}
use Rattle.zs_query.specs.declared.open_get.OpenGet.{OpenGet}
use Rattle.zs_query.specs.declared.outcome.Outcome.{Outcome}
use Rattle.zs_query.specs.declared.outcome.Outcome.TheVariants as outcome
use Rattle.zs_query.specs.Types.{QueryValue, RequestRow}
use Rattle.zs_query.specs.declared.side.Side.TheVariants.{Local}
use Rattle.zs_query.specs.Asked.{News, Quiet, ReplyTo, FinalOf}
use Rattle.zs_query.specs.Gets.{get_at, replied, less, less_final, final_outcome, after_final}
use Rattle.zs_query.specs.Laws.{get_after}
use Rattle.zs_query.proofs.Standing.{stands}
use Rattle.zs_events.specs.declared.event.Event.{Event}
use Rattle.zs_events.specs.declared.event.Event.TheVariants.{Finish}
use Rattle.zs_events.specs.declared.turn.Effect.{Effect}
use Rattle.zs_model.specs.declared.settings.Settings.{Settings}
use Rattle.zs_model.specs.Answers.{local_reply, news_of_finished}
use Rattle.zs_model.specs.Counters.{next_query}
use Rattle.zs_model.specs.Gets.{open_now}
use Rattle.zs_model.specs.Past.{past_of}
use Rattle.zs_model.specs.Received.{messages_of}
use Rattle.zs_model.specs.Effects.{effects}
use Rattle.zs_laws.specs.Ended.{get_ended, with_number, picked, EndsOfGets}
use Rattle.zs_laws.specs.Handed.{handed_at, handed_to, is_last, heard_at, GetsAreHanded, OthersAreHandedNothing}
use Rattle.zs_delivery.specs.Linked.{Side, sent_at, with_event}
use Rattle.zs_events.specs.Updates.{body_of}
use Rattle.zs_keeping.specs.Answering.{update_of, plain_quality, reply_of, replies_of, answers_of}
use Rattle.zs_store.specs.Store.{Write}
use Rattle.zs_replicas.specs.Replicas.{effects_at}
use Rattle.zs_replica_gets.specs.Steps.{answerer}
use Rattle.zs_replica_gets.specs.Responding.{response_with}
use Rattle.zs_replica_gets.specs.Gets.{ends}
use Rattle.zs_replica_gets.proofs.Kept.{reply_by, pushed}
use Rattle.zs_replica_gets.proofs.Pasts.{Calm, Asking, get_with, final_other}
use Rattle.zs_replica_gets.proofs.Answered.{Fits, value_of, reply_calm, reply_news, remote_asking, local_asking, remote_sends, local_sends, finish_calm, finish_remote, finish_local, finish_sends_final, finish_sends_none, last_value}
use Rattle.zs_replica_gets.proofs.Questions.{Waits}
use Rattle.zs_replica_gets.proofs.Told.{IsSilent, handed_nothing, ends_is}

-- a side that takes these events, and what they bring about
abbrev pub run : Settings → List Event → Side → Side
run s [] side = side
run s (e ∷ es) side = run s es (with_event s e side)

abbrev pub run_effects : Settings → List Event → List Event → List Effect
run_effects s [] h = []
run_effects s (e ∷ es) h = effects_at s h e ++ run_effects s es (e ∷ h)

pub same_effects : (s : Settings) (h : List Event) (e : Event) → effects_at s h e ≡ (effects s h e).effects
unfolding effects_at
same_effects s h e = refl

pub same_sent : (s : Settings) (h : List Event) (e : Event) → sent_at s h e ≡ messages_of (effects s h e).effects
unfolding sent_at
same_sent s h e = refl

pub handed_append : (n : ℕ) (xs ys : List Effect) → handed_to n (xs ++ ys) ≡ handed_to n xs ++ handed_to n ys
handed_append n [] ys = refl
handed_append n (x ∷ xs) ys = ap (λ (rest : List Replied). handed_at n x ++ rest) (handed_append n xs ys) ∙ sym (append_assoc (handed_at n x) (handed_to n xs) (handed_to n ys))

picked_append : (xs ys : List Effect) → picked get_ended (xs ++ ys) ≡ picked get_ended xs ++ picked get_ended ys
picked_append [] ys = refl
picked_append (x ∷ xs) ys = ap (with_number (get_ended x)) (picked_append xs ys) ∙ go (get_ended x)
  where
    go : (o : Option ℕ) → with_number o (picked get_ended xs ++ picked get_ended ys) ≡ with_number o (picked get_ended xs) ++ picked get_ended ys
    go None = refl
    go (Some n) = refl

any_append : (n : ℕ) (xs ys : List ℕ) → list_any (λ m. m == n) (xs ++ ys) ≡ (list_any (λ m. m == n) xs || list_any (λ m. m == n) ys)
any_append n [] ys = refl
any_append n (x ∷ xs) ys = go (x == n) (any_append n xs ys)
  where
    go : (b : Bool) → list_any (λ m. m == n) (xs ++ ys) ≡ (list_any (λ m. m == n) xs || list_any (λ m. m == n) ys)
        → (b || list_any (λ m. m == n) (xs ++ ys)) ≡ ((b || list_any (λ m. m == n) xs) || list_any (λ m. m == n) ys)
    go true ih = refl
    go false ih = ih

pub ends_append : (n : ℕ) (xs ys : List Effect) → ends n (xs ++ ys) ≡ (ends n xs || ends n ys)
ends_append n xs ys = ap (list_any (λ m. m == n)) (picked_append xs ys) ∙ any_append n (picked get_ended xs) (picked get_ended ys)

-- nothing for the get of a number
pub record IsNothing (n : ℕ) (fx : List Effect) : Type 0 where
  pub handed : handed_to n fx ≡ []
  pub ended : ends n fx ≡ false

pub nothing_append : (n : ℕ) (xs ys : List Effect) → IsNothing n xs → IsNothing n ys → IsNothing n (xs ++ ys)
nothing_append n xs ys first second = record {
  handed = handed_append n xs ys ∙ (λ i. first.handed i ++ second.handed i);
  ended = ends_append n xs ys ∙ (λ i. first.ended i || second.ended i);
}

pub nothing_at_all : (n : ℕ) → IsNothing n []
nothing_at_all n = record { handed = refl; ended = refl }

-- a key that is a text and a canonical key expression, and an entry at one
pub record IsKey (key : List ℕ) : Type 0 where
  pub utf8 : IsUtf8 key
  pub canonical : is_canonical key ≡ true

abbrev pub IsText : Write → Type 0
IsText w = IsKey w.key

pub fits : (key : List ℕ) (w : Write) → IsText w → intersects key w.key ≡ true → Fits key w
fits key w text meets = record { spelled = encodes-chars w.key text.utf8; canonical = text.canonical; meets = meets }

-- the get of a number is handed the newest at its end, if it is open
abbrev pub IsLatest : Option OpenGet → Type 0
IsLatest at = IfSome at (λ g. g.row.mode ≡ by.Latest)

same_number : (n : ℕ) → (n == n) ≡ true
same_number n = grind (arith, nat_tests)

and_false : (b : Bool) → (b && false) ≡ false
and_false true = refl
and_false false = refl

stays_open : (b : Bool) → ((b || false) && not b) ≡ false
stays_open true = refl
stays_open false = refl

pub silent_at : (n : ℕ) (at : Option OpenGet) (news news' : News) → news ≡ news' → IfSome at (λ g. IsSilent n g news') → IfSome at (λ g. IsSilent n g news)
silent_at n at news news' is silent = subst (λ (x : News). IfSome at (λ g. IsSilent n g x)) (sym is) silent

pub quiet_at : (n : ℕ) (at : Option OpenGet) → IfSome at (λ g. IsSilent n g Quiet)
quiet_at n None = tt
quiet_at n (Some g) = tt

pub reply_at : (n m : ℕ) (r : Replied) (at : Option OpenGet) → IfSome at (λ g. IsSilent n g (ReplyTo m r))
reply_at n m r None = tt
reply_at n m r (Some g) = tt

pub nothing_more : (ms : List Message) → ms ++ [] ≡ ms
nothing_more [] = refl
nothing_more (m ∷ ms) = ap (λ (rest : List Message). m ∷ rest) (nothing_more ms)

-- what a side is behind all its answers
pub record Ran (s : Settings) (keys : List ℕ) (n : ℕ) (es : List Event) (side : Side) (at : Option OpenGet) (number : ℕ) (messages : List Message) : Type 0 where
  pub calm : Calm s keys (run s es side).history []
  pub asking : Asking s (run s es side).history n at number
  pub sent : (run s es side).waiting ≡ side.waiting ++ messages
  pub nothing : IsNothing n (run_effects s es side.history)

-- the responses with all that meets a key
abbrev pub responses : ℕ → ℕ → QoSType → List ℕ → List Write → List Message
responses zid rid qos key store = map (λ w. response_message (response_with zid rid qos w)) (filter (λ w. intersects key w.key) store)

module _ (open_law : GetsAreHanded) (others_law : OthersAreHandedNothing) (ends_law : EndsOfGets) (s : Settings) (keys : List ℕ) (n : ℕ) where
  -- to a request from the network
  module _ (value request : ℕ) (row : RequestRow) (remote : row.local ≡ false) (at : Option OpenGet) (number : ℕ) (latest : IsLatest at) where
    abbrev v : QueryValue
    v = value_of value request row

    one_reply : (h : List Event) (calm : Calm s keys h (v ∷ [])) (asking : Asking s h n at number) (w : Write) (fine : Fits row.key.text w) → IsNothing n (effects_at s h (reply_of value w))
    one_reply h calm asking w fine =
        subst (IsNothing n) (sym (same_effects s h (reply_of value w))) (record {
          handed =
              handed_nothing open_law others_law ends_law s h (reply_of value w) n at asking.get latest
              (silent_at n at (heard_at s (past_of s h) (reply_of value w)) Quiet (reply_news s keys h v calm w fine ∙ ap (λ (b : Bool). if b then ReplyTo row.rid (local_reply s.zid answerer row plain_quality (body_of [] (update_of w.entry)) w.key) else Quiet) remote) (quiet_at n at)) (λ m. refl);
          ended =
              ends_is open_law others_law ends_law s h (reply_of value w) n at at [] asking.get (remote_asking s keys h v calm w fine remote n at number asking).get refl ∙ stays_open (is_some at);
        })

    one_finish : (h : List Event) (calm : Calm s keys h (v ∷ [])) (asking : Asking s h n at number) → IsNothing n (effects_at s h (Finish value))
    one_finish h calm asking =
        subst (IsNothing n) (sym (same_effects s h (Finish value))) (record {
          handed =
              handed_nothing open_law others_law ends_law s h (Finish value) n at asking.get latest
              (silent_at n at (heard_at s (past_of s h) (Finish value)) Quiet
              (ap news_of_finished (last_value s keys h v calm) ∙ ap (λ (b : Bool). if b then FinalOf row.rid Local else Quiet) remote) (quiet_at n at)) (λ m. refl);
          ended =
              ends_is open_law others_law ends_law s h (Finish value) n at at [] asking.get (finish_remote s keys h v calm remote n at number asking).get refl ∙ stays_open (is_some at);
        })

    pub run_remote : (store : List Write) (side : Side) → AllByRecursion IsText store → Calm s keys side.history (v ∷ []) → Asking s side.history n at number
        → Ran s keys n (answers_of value row.key.text store) side at number (responses s.zid row.rid row.qos row.key.text store ++ ResponseFinal row.rid ∷ [])
    run_remote [] side texts calm asking = record {
      calm = finish_calm s keys side.history v calm;
      asking = finish_remote s keys side.history v calm remote n at number asking;
      sent = ap (λ (ms : List Message). side.waiting ++ ms) (same_sent s side.history (Finish value) ∙ finish_sends_final s keys side.history v calm remote);
      nothing = nothing_append n (effects_at s side.history (Finish value)) [] (one_finish side.history calm asking) (nothing_at_all n);
    }
    run_remote (w ∷ store) side texts calm asking = go (intersects row.key.text w.key) refl (λ x calm asking. run_remote store x texts.1 calm asking)
      where
        go : (b : Bool) → intersects row.key.text w.key ≡ b
            → ((x : Side) → Calm s keys x.history (v ∷ []) → Asking s x.history n at number
            → Ran s keys n (answers_of value row.key.text store) x at number (responses s.zid row.rid row.qos row.key.text store ++ ResponseFinal row.rid ∷ []))
            → Ran s keys n (((if b then reply_of value w ∷ [] else []) ++ replies_of value row.key.text store) ++ Finish value ∷ []) side at number
            (map (λ w. response_message (response_with s.zid row.rid row.qos w)) (cond b (w ∷ filter (λ w. intersects row.key.text w.key) store) (filter (λ w. intersects row.key.text w.key) store)) ++ ResponseFinal row.rid ∷ [])
        go false is later = later side calm asking
        go true is later =
            let fine = fits row.key.text w texts.0 is in
            let more = with_event s (reply_of value w) side in
            let rest = later more (reply_calm s keys side.history v calm w fine) (remote_asking s keys side.history v calm w fine remote n at number asking) in
            record {
              calm = rest.calm;
              asking = rest.asking;
              sent =
                  rest.sent
                  ∙ ap (λ (sent : List Message). (side.waiting ++ sent) ++ (responses s.zid row.rid row.qos row.key.text store ++ ResponseFinal row.rid ∷ []))
                  (same_sent s side.history (reply_of value w) ∙ remote_sends s keys side.history v calm w fine remote)
                  ∙ append_assoc side.waiting (response_message (response_with s.zid row.rid row.qos w) ∷ []) (responses s.zid row.rid row.qos row.key.text store ++ ResponseFinal row.rid ∷ []);
              nothing =
                  nothing_append n (effects_at s side.history (reply_of value w)) (run_effects s (answers_of value row.key.text store) more.history)
                  (one_reply side.history calm asking w fine) rest.nothing;
            }

  -- to a get of this session with another number
  module _ (value request : ℕ) (row : RequestRow) (local : row.local ≡ true) (apart : (row.rid == n) ≡ false) (at : Option OpenGet) (number : ℕ) (latest : IsLatest at) where
    abbrev u : QueryValue
    u = value_of value request row

    other_asking : (h : List Event) (calm : Calm s keys h (u ∷ [])) (asking : Asking s h n at number) (w : Write) (fine : Fits row.key.text w) → Asking s (reply_of value w ∷ h) n at number
    other_asking h calm asking w fine =
        subst (λ (o : Option OpenGet). Asking s (reply_of value w ∷ h) n o number)
        (ap (λ (b : Bool). if b then option_map (replied (reply_by s.zid answerer row.qos w)) at else at) apart) (local_asking s keys h u calm w fine local n at number asking)

    other_ended : (h : List Event) (calm : Calm s keys h (u ∷ [])) (asking : Asking s h n at number) → Asking s (Finish value ∷ h) n at number
    other_ended h calm asking =
        let behind = finish_local s keys h u calm local n at number asking in
        record { get = behind.get ∙ final_other n row.rid Local (open_now s (past_of s h)) apart ∙ asking.get; next = behind.next }

    other_reply : (h : List Event) (calm : Calm s keys h (u ∷ [])) (asking : Asking s h n at number) (w : Write) (fine : Fits row.key.text w) → IsNothing n (effects_at s h (reply_of value w))
    other_reply h calm asking w fine =
        subst (IsNothing n) (sym (same_effects s h (reply_of value w))) (record {
          handed =
              handed_nothing open_law others_law ends_law s h (reply_of value w) n at asking.get latest
              (silent_at n at (heard_at s (past_of s h) (reply_of value w)) _ (reply_news s keys h u calm w fine ∙ ap (λ (b : Bool). if b then ReplyTo row.rid (local_reply s.zid answerer row plain_quality (body_of [] (update_of w.entry)) w.key) else Quiet) local)
              (reply_at n row.rid (local_reply s.zid answerer row plain_quality (body_of [] (update_of w.entry)) w.key) at)) (λ m. refl);
          ended =
              ends_is open_law others_law ends_law s h (reply_of value w) n at at [] asking.get (other_asking h calm asking w fine).get refl ∙ stays_open (is_some at);
        })

    other_final : (at : Option OpenGet) → (n == row.rid) ≡ false → IfSome at (λ g. IsSilent n g (FinalOf row.rid Local))
    other_final None is = tt
    other_final (Some g) is = ap (λ (b : Bool). b && is_last Local g.row) is

    other_finish : (h : List Event) (calm : Calm s keys h (u ∷ [])) (asking : Asking s h n at number) → IsNothing n (effects_at s h (Finish value))
    other_finish h calm asking =
        subst (IsNothing n) (sym (same_effects s h (Finish value))) (record {
          handed =
              handed_nothing open_law others_law ends_law s h (Finish value) n at asking.get latest
              (silent_at n at (heard_at s (past_of s h) (Finish value)) (FinalOf row.rid Local)
              (ap news_of_finished (last_value s keys h u calm) ∙ ap (λ (b : Bool). if b then FinalOf row.rid Local else Quiet) local) (other_final at (turned n row.rid apart))) (λ m. refl);
          ended =
              ends_is open_law others_law ends_law s h (Finish value) n at at [] asking.get (other_ended h calm asking).get refl ∙ stays_open (is_some at);
        })
      where
        turned : (a b : ℕ) → (b == a) ≡ false → (a == b) ≡ false
        turned a b is = grind (arith, nat_tests, is)

    pub run_other : (store : List Write) (side : Side) → AllByRecursion IsText store → Calm s keys side.history (u ∷ []) → Asking s side.history n at number
        → Ran s keys n (answers_of value row.key.text store) side at number []
    run_other [] side texts calm asking = record {
      calm = finish_calm s keys side.history u calm;
      asking = other_ended side.history calm asking;
      sent = ap (λ (ms : List Message). side.waiting ++ ms) (same_sent s side.history (Finish value) ∙ finish_sends_none s keys side.history u calm local);
      nothing = nothing_append n (effects_at s side.history (Finish value)) [] (other_finish side.history calm asking) (nothing_at_all n);
    }
    run_other (w ∷ store) side texts calm asking = go (intersects row.key.text w.key) refl (λ x calm asking. run_other store x texts.1 calm asking)
      where
        go : (b : Bool) → intersects row.key.text w.key ≡ b
            → ((x : Side) → Calm s keys x.history (u ∷ []) → Asking s x.history n at number → Ran s keys n (answers_of value row.key.text store) x at number [])
            → Ran s keys n (((if b then reply_of value w ∷ [] else []) ++ replies_of value row.key.text store) ++ Finish value ∷ []) side at number []
        go false is later = later side calm asking
        go true is later =
            let fine = fits row.key.text w texts.0 is in
            let more = with_event s (reply_of value w) side in
            let rest = later more (reply_calm s keys side.history u calm w fine) (other_asking side.history calm asking w fine) in
            record {
              calm = rest.calm;
              asking = rest.asking;
              sent =
                  rest.sent
                  ∙ ap (λ (sent : List Message). (side.waiting ++ sent) ++ []) (same_sent s side.history (reply_of value w) ∙ local_sends s keys side.history u calm w fine local)
                  ∙ append_assoc side.waiting [] [];
              nothing =
                  nothing_append n (effects_at s side.history (reply_of value w)) (run_effects s (answers_of value row.key.text store) more.history)
                  (other_reply side.history calm asking w fine) rest.nothing;
            }

  -- to the get itself, which waits for both sides
  module _ (value request : ℕ) (row : RequestRow) (local : row.local ≡ true) (own : row.rid ≡ n) (number : ℕ) where
    abbrev x : QueryValue
    x = value_of value request row

    is_own : (row.rid == n) ≡ true
    is_own = ap (λ (m : ℕ). m == n) own ∙ same_number n

    waits_latest : (key : List ℕ) (a b : Bool) (replies : List Replied) (at : Option OpenGet) → Waits n key a b replies at → IsLatest at
    waits_latest key a b replies at waits = subst IsLatest (sym waits.is) waits.mode

    more_replies : (h : List Event) (calm : Calm s keys h (x ∷ [])) (at : Option OpenGet) (replies : List Replied) (asking : Asking s h n at number) → Waits n row.key.text true true replies at
        → (w : Write) (fine : Fits row.key.text w)
        → Waits n row.key.text true true (reply_by s.zid answerer row.qos w ∷ replies) (get_at n (open_now s (past_of s (reply_of value w ∷ h))))
    more_replies h calm at replies asking waits w fine = record {
      row = waits.row;
      is =
          (local_asking s keys h x calm w fine local n at number asking).get
          ∙ ap (λ (b : Bool). if b then option_map (replied (reply_by s.zid answerer row.qos w)) at else at) is_own
          ∙ ap (option_map (replied (reply_by s.zid answerer row.qos w))) waits.is
          ∙ ap Some (stands waits.row replies (reply_by s.zid answerer row.qos w)
          (ap (λ (text : List ℕ). waits.row.any_key || intersects text w.key) waits.text ∙ ap (λ (b : Bool). waits.row.any_key || b) fine.meets ∙ or_true waits.row.any_key)).after;
      number = waits.number;
      text = waits.text;
      mode = waits.mode;
      wants_local = waits.wants_local;
      wants_network = waits.wants_network;
    }
      where
        or_true : (b : Bool) → (b || true) ≡ true
        or_true true = refl
        or_true false = refl

    own_reply : (h : List Event) (calm : Calm s keys h (x ∷ [])) (at : Option OpenGet) (replies : List Replied) (asking : Asking s h n at number) → Waits n row.key.text true true replies at
        → (w : Write) (fine : Fits row.key.text w) → IsNothing n (effects_at s h (reply_of value w))
    unfolding more_replies
    own_reply h calm at replies asking waits w fine =
        subst (IsNothing n) (sym (same_effects s h (reply_of value w))) (record {
          handed =
              handed_nothing open_law others_law ends_law s h (reply_of value w) n at asking.get (waits_latest row.key.text true true replies at waits)
              (silent_at n at (heard_at s (past_of s h) (reply_of value w)) _ (reply_news s keys h x calm w fine ∙ ap (λ (b : Bool). if b then ReplyTo row.rid (local_reply s.zid answerer row plain_quality (body_of [] (update_of w.entry)) w.key) else Quiet) local)
              (reply_at n row.rid (local_reply s.zid answerer row plain_quality (body_of [] (update_of w.entry)) w.key) at)) (λ m. refl);
          ended =
              ends_is open_law others_law ends_law s h (reply_of value w) n (Some (get_after waits.row replies)) (Some (get_after waits.row (reply_by s.zid answerer row.qos w ∷ replies))) [] (asking.get ∙ waits.is)
              (more_replies h calm at replies asking waits w fine).is refl;
        })

    -- behind its own session's final it waits for the other side alone
    counted : (h : List Event) (calm : Calm s keys h (x ∷ [])) (at : Option OpenGet) (replies : List Replied) (asking : Asking s h n at number) (waits : Waits n row.key.text true true replies at)
        → get_at n (open_now s (past_of s (Finish value ∷ h))) ≡ Some (get_after (less Local waits.row) replies)
    counted h calm at replies asking waits =
        (finish_local s keys h x calm local n at number asking).get
        ∙ ap (λ (m : ℕ). get_at n (after_final (final_outcome Local (get_at m (open_now s (past_of s h)))) Local m (open_now s (past_of s h)))) own
        ∙ ap (λ (o : Outcome). get_at n (after_final o Local n (open_now s (past_of s h))))
        (ap (final_outcome Local) (asking.get ∙ waits.is)
        ∙ ap (λ (b : Bool). if b then if waits.row.network_wanted then outcome.Counted else outcome.Ended (get_after waits.row replies).kept else outcome.Repeated) waits.wants_local
        ∙ ap (λ (b : Bool). if b then outcome.Counted else outcome.Ended (get_after waits.row replies).kept) waits.wants_network)
        ∙ get_with n (less_final Local) (λ g. refl) (open_now s (past_of s h))
        ∙ ap (option_map (less_final Local)) (asking.get ∙ waits.is)

    own_finish : (h : List Event) (calm : Calm s keys h (x ∷ [])) (at : Option OpenGet) (replies : List Replied) (asking : Asking s h n at number) → Waits n row.key.text true true replies at
        → IsNothing n (effects_at s h (Finish value))
    own_finish h calm at replies asking waits =
        subst (IsNothing n) (sym (same_effects s h (Finish value))) (record {
          handed =
              handed_nothing open_law others_law ends_law s h (Finish value) n (Some (get_after waits.row replies)) (asking.get ∙ waits.is) waits.mode
              (subst (IsSilent n (get_after waits.row replies)) (sym (ap news_of_finished (last_value s keys h x calm) ∙ ap (λ (b : Bool). if b then FinalOf row.rid Local else Quiet) local)) not_last) (λ m. refl);
          ended =
              ends_is open_law others_law ends_law s h (Finish value) n (Some (get_after waits.row replies)) (Some (get_after (less Local waits.row) replies)) [] (asking.get ∙ waits.is)
              (counted h calm at replies asking waits) refl;
        })
      where
        not_last : (n == row.rid && is_last Local waits.row) ≡ false
        not_last =
            ap (λ (b : Bool). n == row.rid && (waits.row.local_wanted && not b)) waits.wants_network
            ∙ ap (λ (b : Bool). n == row.rid && b) (and_false waits.row.local_wanted) ∙ and_false (n == row.rid)

    -- what it is behind all answers
    pub record Had (es : List Event) (side : Side) (replies : List Replied) : Type 0 where
      pub calm : Calm s keys (run s es side).history []
      pub waits : Waits n row.key.text false true replies (get_at n (open_now s (past_of s (run s es side).history)))
      pub next : next_query s (past_of s (run s es side).history) ≡ number
      pub sent : (run s es side).waiting ≡ side.waiting
      pub nothing : IsNothing n (run_effects s es side.history)

    pub run_own : (store : List Write) (side : Side) (at : Option OpenGet) (replies : List Replied) → AllByRecursion IsText store → Calm s keys side.history (x ∷ []) → Asking s side.history n at number
        → Waits n row.key.text true true replies at → Had (answers_of value row.key.text store) side (pushed s.zid answerer row.qos row.key.text store replies)
    run_own [] side at replies texts calm asking waits = record {
      calm = finish_calm s keys side.history x calm;
      waits = record {
        row = less Local waits.row;
        is = counted side.history calm at replies asking waits;
        number = waits.number;
        text = waits.text;
        mode = waits.mode;
        wants_local = ap (λ (b : Bool). b && false) waits.wants_local;
        wants_network = ap (λ (b : Bool). b && true) waits.wants_network;
      };
      next = (finish_local s keys side.history x calm local n at number asking).next;
      sent =
          ap (λ (ms : List Message). side.waiting ++ ms) (same_sent s side.history (Finish value) ∙ finish_sends_none s keys side.history x calm local) ∙ nothing_more side.waiting;
      nothing = nothing_append n (effects_at s side.history (Finish value)) [] (own_finish side.history calm at replies asking waits) (nothing_at_all n);
    }
    run_own (w ∷ store) side at replies texts calm asking waits =
        go (intersects row.key.text w.key) refl (λ y at replies calm asking waits. run_own store y at replies texts.1 calm asking waits)
      where
        go : (b : Bool) → intersects row.key.text w.key ≡ b
            → ((y : Side) (at : Option OpenGet) (replies : List Replied) → Calm s keys y.history (x ∷ []) → Asking s y.history n at number → Waits n row.key.text true true replies at
            → Had (answers_of value row.key.text store) y (pushed s.zid answerer row.qos row.key.text store replies))
            → Had (((if b then reply_of value w ∷ [] else []) ++ replies_of value row.key.text store) ++ Finish value ∷ []) side
            (pushed s.zid answerer row.qos row.key.text store (if b then reply_by s.zid answerer row.qos w ∷ replies else replies))
        go false is later = later side at replies calm asking waits
        go true is later =
            let fine = fits row.key.text w texts.0 is in
            let more = with_event s (reply_of value w) side in
            let rest = later more (get_at n (open_now s (past_of s (reply_of value w ∷ side.history)))) (reply_by s.zid answerer row.qos w ∷ replies) (reply_calm s keys side.history x calm w fine)
            (record { get = refl; next = (local_asking s keys side.history x calm w fine local n at number asking).next }) (more_replies side.history calm at replies asking waits w fine) in
            record {
              calm = rest.calm;
              waits = rest.waits;
              next = rest.next;
              sent =
                  rest.sent
                  ∙ ap (λ (sent : List Message). side.waiting ++ sent) (same_sent s side.history (reply_of value w) ∙ local_sends s keys side.history x calm w fine local)
                  ∙ nothing_more side.waiting;
              nothing =
                  nothing_append n (effects_at s side.history (reply_of value w)) (run_effects s (answers_of value row.key.text store) more.history)
                  (own_reply side.history calm at replies asking waits w fine) rest.nothing;
            }
