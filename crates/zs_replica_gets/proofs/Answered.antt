-- How a session answers a query from its store: each reply, and then the end.
use Rattle.std.proofs.Common.{◌≡◌, ℕ, List, [], ◌∷◌, ◌++◌, Bool, true, false, Option, Some, None, refl, sym, ◌∙◌, ap, subst, cond, arith}
use Rattle.std.specs.Prelude.{◌==◌, ◌&&◌, ◌||◌, not, option_map, is_some, encode_utf8_all, if◌then◌else◌}
use Rattle.std.specs.Str.{chars}
use Rattle.std.proofs.lemmas.Bool.Decides.{nat_tests}
use Rattle.zs_keys.specs.Matching.{intersects}
use Rattle.zs_keys.specs.Text.{is_canonical}
use Rattle.zs_wire.specs.Parameters.{trimmed_text, contains_name, any_key_name}
use Rattle.zs_wire.specs.declared.message.Message.{Message}
use Rattle.zs_wire.specs.declared.message.Message.TheVariants.{Response as response_message, ResponseFinal}
use Rattle.zs_wire.specs.declared.response.Answered.TheVariants.{Reply as with_value}
use Rattle.zs_query.specs.declared.side.Side.TheVariants.{Local}
use Rattle.zs_query.specs.declared.open_get.OpenGet.{OpenGet}
use Rattle.zs_query.specs.Types.{QueryValue, Finished, MoreLeft, Last, RequestRow}
use Rattle.zs_query.specs.Asked.{News, Quiet, ReplyTo, FinalOf, gets_after}
use Rattle.zs_query.specs.Gets.{get_at, with_get, replied, final_outcome, after_final, peek_at}
use Rattle.zs_query.specs.RequestTable.{Handing}
use Rattle.zs_query.specs.Unfinished.{value_at, without_value, has_other, finished}
use Rattle.zs_events.specs.declared.event.Event.{Event}
use Rattle.zs_events.specs.declared.event.Event.TheVariants.{Finish}
use Rattle.zs_events.specs.declared.key_arg.KeyArg.TheVariants.{Text}
use Rattle.zs_events.specs.declared.turn.Effect.{Effect}
use Rattle.zs_events.specs.declared.turn.Effect.TheVariants.{Send}
use Rattle.zs_events.specs.Kinds.{Question, OwnKey, row_of}
use Rattle.zs_events.specs.Updates.{body_of}
use Rattle.zs_model.specs.declared.settings.Settings.{Settings}
use Rattle.zs_model.specs.Answers.{response_by, is_disjoint_from, news_of_reply, news_of_finished, local_reply}
use Rattle.zs_model.specs.Causes.{holds, in_order, first_that, refusal_of}
use Rattle.zs_model.specs.Counters.{next_query}
use Rattle.zs_model.specs.Entry.{is_closed}
use Rattle.zs_model.specs.Gets.{open_now}
use Rattle.zs_model.specs.Past.{past_of}
use Rattle.zs_model.specs.Received.{messages_of}
use Rattle.zs_model.specs.Sends.{full_wire}
use Rattle.zs_model.specs.ValueEffects.{replied_effects, answer_effects, finish_effects}
use Rattle.zs_model.specs.GetEffects.{final_effects}
use Rattle.zs_model.specs.Values.{values_now}
use Rattle.zs_model.specs.Effects.{known_of, answering, effects}
use Rattle.zs_laws.proofs.SentMessages.{no_messages_in_reply, no_messages_in_final}
use Rattle.zs_delivery.proofs.Accepting.{sight_of}
use Rattle.zs_keeping.specs.Answering.{reply_of, update_of, plain_quality, answers_to}
use Rattle.zs_store.specs.Store.{Write}
use Rattle.zs_replica_gets.specs.Steps.{asking_settings, asking_inquiry, answerer}
use Rattle.zs_replica_gets.proofs.Kept.{reply_by}
use Rattle.zs_replica_gets.proofs.Pasts.{joins, Stays, rows_stay, open_stays, Calm, Asking, handing_behind, gets_behind, get_with, get_with_other, replied_keeps}
use Rattle.zs_replica_gets.proofs.Queries.{AsksNone, none_replied, none_final}
use Rattle.zs_replica_gets.proofs.Turns.{sent_behind, asked_behind}

-- what is asked, and the value of a query that the queryable is handed: of a get of this session, or of a request from the network
abbrev pub asking : Question
asking = record { settings = asking_settings; inquiry = asking_inquiry; querier = None }

abbrev pub value_of : ℕ → ℕ → RequestRow → QueryValue
value_of number request row = record { value = number; queryable = answerer; request = request; row = row }

same_number : (n : ℕ) → (n == n) ≡ true
same_number n = grind (arith, nat_tests)

pub found_value : (v : QueryValue) → value_at v.value (v ∷ []) ≡ Some v
found_value v = ap (λ (b : Bool). if b then Some v else None) (same_number v.value)

and_false : (b : Bool) → (b && false) ≡ false
and_false true = refl
and_false false = refl

or_true : (b : Bool) → (b || true) ≡ true
or_true true = refl
or_true false = refl

alone : (v : QueryValue) → has_other v (v ∷ []) ≡ false
alone v =
    ap (λ (b : Bool). ((v.request == v.request) && not b) || false) (same_number v.value)
    ∙ ap (λ (b : Bool). b || false) (and_false (v.request == v.request))

finishes : (v : QueryValue) → finished (value_at v.value (v ∷ [])) (v ∷ []) ≡ Last v.row
finishes v = ap (λ (o : Option QueryValue). finished o (v ∷ [])) (found_value v) ∙ ap (λ (b : Bool). if b then MoreLeft else Last v.row) (alone v)

nothing_more : (ms : List Message) → ms ++ [] ≡ ms
nothing_more [] = refl
nothing_more (m ∷ ms) = ap (λ (rest : List Message). m ∷ rest) (nothing_more ms)

-- one of two effects
when_true : {X : Type 0} (f : List Effect → X) (b : Bool) (xs ys : List Effect) → b ≡ true → f (if b then xs else ys) ≡ f xs
when_true f b xs ys is = ap (λ (b : Bool). f (if b then xs else ys)) is

when_false : {X : Type 0} (f : List Effect → X) (b : Bool) (xs ys : List Effect) → b ≡ false → f (if b then xs else ys) ≡ f ys
when_false f b xs ys is = ap (λ (b : Bool). f (if b then xs else ys)) is

none_either : (b : Bool) (xs ys : List Effect) → AsksNone xs → AsksNone ys → AsksNone (if b then xs else ys)
none_either true xs ys first second = first
none_either false xs ys first second = second

-- the answer's events
abbrev pub replying : QueryValue → Write → Event
replying v w = reply_of v.value w

reply_stays : (v : QueryValue) (w : Write) → Stays (replying v w)
reply_stays v w = record { open_still = refl; declares_none = λ number text. refl; draws_none = λ id number. refl; ends_none = λ id. refl }

finish_stays : (value : ℕ) → Stays (Finish value)
finish_stays value = record { open_still = refl; declares_none = λ number text. refl; draws_none = λ id number. refl; ends_none = λ id. refl }

reply_causes : (value : ℕ) (w : Write) (c owed disjoint : Bool) → c ≡ false → owed ≡ true → disjoint ≡ false → is_canonical (encode_utf8_all (chars w.key)) ≡ true
    → first_that (holds c (row_of (reply_of value w)) (record (sight_of (Some (encode_utf8_all (chars w.key)))) { owed = owed; disjoint = disjoint })) in_order ≡ None
reply_causes value w c owed disjoint unshut is apart canonical =
    subst (λ (b : Bool). first_that (holds b (row_of (reply_of value w)) (record (sight_of (Some (encode_utf8_all (chars w.key)))) { owed = owed; disjoint = disjoint })) in_order ≡ None) (sym unshut)
    (subst (λ (b : Bool). first_that (holds false (row_of (reply_of value w)) (record (sight_of (Some (encode_utf8_all (chars w.key)))) { owed = b; disjoint = disjoint })) in_order ≡ None) (sym is)
    (subst (λ (b : Bool). first_that (holds false (row_of (reply_of value w)) (record (sight_of (Some (encode_utf8_all (chars w.key)))) { owed = true; disjoint = b })) in_order ≡ None) (sym apart)
    (rw canonical refl)))

finish_causes : (value : ℕ) (c owed : Bool) → c ≡ false → owed ≡ true
    → first_that (holds c (row_of (Finish value)) (record (sight_of None) { owed = owed })) in_order ≡ None
finish_causes value c owed unshut is =
    subst (λ (b : Bool). first_that (holds b (row_of (Finish value)) (record (sight_of None) { owed = owed })) in_order ≡ None) (sym unshut)
    (subst (λ (b : Bool). first_that (holds false (row_of (Finish value)) (record (sight_of None) { owed = b })) in_order ≡ None) (sym is) refl)

-- an entry whose key is a text and a canonical key expression, and meets the query's
pub record Fits (key : List ℕ) (w : Write) : Type 0 where
  pub spelled : encode_utf8_all (chars w.key) ≡ w.key
  pub canonical : is_canonical w.key ≡ true
  pub meets : intersects key w.key ≡ true

apart_none : (v : QueryValue) (w : Write) → Fits v.row.key.text w → is_disjoint_from (Some v) (Some (encode_utf8_all (chars w.key))) ≡ false
apart_none v w fits =
    ap (λ (text : List ℕ). is_disjoint_from (Some v) (Some text)) fits.spelled
    ∙ ap (λ (b : Bool). not (contains_name any_key_name (trimmed_text (encode_utf8_all v.row.parameters)) || b)) fits.meets
    ∙ ap not (or_true (contains_name any_key_name (trimmed_text (encode_utf8_all v.row.parameters))))

module _ (s : Settings) (keys : List ℕ) (h : List Event) (v : QueryValue) (calm : Calm s keys h (v ∷ [])) where
  -- what a reply to a get of this session brings about, and to a request from the network; and the end of the answers
  abbrev local_fx : Write → List ℕ → List Effect
  local_fx w text = replied_effects (open_now s (past_of s h)) v.row.rid (local_reply s.zid v.queryable v.row plain_quality (body_of [] (update_of w.entry)) text)

  abbrev remote_fx : Write → List ℕ → List Effect
  remote_fx w text = Send (response_message (response_by s.zid v.queryable v.row.rid (full_wire text) v.row.qos (with_value (body_of [] (update_of w.entry))))) ∷ []

  abbrev local_end : List Effect
  local_end = final_effects v.row.rid (final_outcome Local (get_at v.row.rid (open_now s (past_of s h))))

  abbrev remote_end : List Effect
  remote_end = Send (ResponseFinal v.row.rid) ∷ []

  here : value_at v.value (values_now (past_of s h)) ≡ Some v
  here = ap (value_at v.value) calm.values ∙ found_value v

  -- a reply is accepted
  pub reply_accepted : (w : Write) → Fits v.row.key.text w → refusal_of s (past_of s h) (replying v w) ≡ None
  reply_accepted w fits =
      reply_causes v.value w (is_closed (past_of s h)) (is_some (value_at v.value (values_now (past_of s h))))
      (is_disjoint_from (value_at v.value (values_now (past_of s h))) (Some (encode_utf8_all (chars w.key)))) calm.unshut (ap (λ (o : Option QueryValue). is_some o) here)
      (ap (λ (o : Option QueryValue). is_disjoint_from o (Some (encode_utf8_all (chars w.key)))) here ∙ apart_none v w fits)
      (ap is_canonical fits.spelled ∙ fits.canonical)

  pub reply_calm : (w : Write) → Fits v.row.key.text w → Calm s keys (replying v w ∷ h) (v ∷ [])
  reply_calm w fits = record {
    unshut = open_stays s (past_of s h) (replying v w) (reply_stays v w) calm.unshut;
    rows = rows_stay s (past_of s h) (replying v w) (reply_stays v w) ∙ calm.rows;
    values = ap (λ (h : Handing). h.values) (handing_behind s h (replying v w) calm.unshut (reply_accepted w fits) 0 tt) ∙ calm.values;
  }

  -- what gets hear of it
  pub reply_news : (w : Write) → Fits v.row.key.text w
      → news_of_reply s.zid plain_quality (body_of [] (update_of w.entry)) (value_at v.value (values_now (past_of s h))) (Some (encode_utf8_all (chars w.key)))
      ≡ (if v.row.local then ReplyTo v.row.rid (local_reply s.zid v.queryable v.row plain_quality (body_of [] (update_of w.entry)) w.key) else Quiet)
  reply_news w fits =
      ap (λ (o : Option QueryValue). news_of_reply s.zid plain_quality (body_of [] (update_of w.entry)) o (Some (encode_utf8_all (chars w.key)))) here
      ∙ ap (λ (text : List ℕ). if v.row.local then ReplyTo v.row.rid (local_reply s.zid v.queryable v.row plain_quality (body_of [] (update_of w.entry)) text) else Quiet) fits.spelled

  reply_gets : (w : Write) → Fits v.row.key.text w
      → open_now s (past_of s (replying v w ∷ h))
      ≡ gets_after (if v.row.local then ReplyTo v.row.rid (local_reply s.zid v.queryable v.row plain_quality (body_of [] (update_of w.entry)) w.key) else Quiet) (open_now s (past_of s h))
  reply_gets w fits =
      gets_behind s h (replying v w) calm.unshut (reply_accepted w fits) refl
      ∙ ap (λ (news : News). gets_after news (open_now s (past_of s h))) (reply_news w fits)

  reply_next : (w : Write) → Fits v.row.key.text w → next_query s (past_of s (replying v w ∷ h)) ≡ next_query s (past_of s h)
  reply_next w fits = ap (next_query s) (joins s h (replying v w) calm.unshut (reply_accepted w fits))

  -- to a request of the network it changes no get, and is sent
  pub remote_asking : (w : Write) → Fits v.row.key.text w → v.row.local ≡ false → (n : ℕ) (at : Option OpenGet) (number : ℕ) → Asking s h n at number → Asking s (replying v w ∷ h) n at number
  remote_asking w fits remote n at number asking = record {
    get =
        ap (get_at n) (reply_gets w fits
        ∙ ap (λ (b : Bool). gets_after (if b then ReplyTo v.row.rid (local_reply s.zid v.queryable v.row plain_quality (body_of [] (update_of w.entry)) w.key) else Quiet) (open_now s (past_of s h))) remote)
        ∙ asking.get;
    next = reply_next w fits ∙ asking.next;
  }

  -- to a get it is one reply more
  pub local_asking : (w : Write) → Fits v.row.key.text w → v.row.local ≡ true → (n : ℕ) (at : Option OpenGet) (number : ℕ) → Asking s h n at number
      → Asking s (replying v w ∷ h) n (if v.row.rid == n then option_map (replied (reply_by s.zid v.queryable v.row.qos w)) at else at) number
  local_asking w fits local n at number asking = record {
    get =
        ap (get_at n) (reply_gets w fits
        ∙ ap (λ (b : Bool). gets_after (if b then ReplyTo v.row.rid (local_reply s.zid v.queryable v.row plain_quality (body_of [] (update_of w.entry)) w.key) else Quiet) (open_now s (past_of s h))) local)
        ∙ go (v.row.rid == n) refl
        ∙ ap (λ (o : Option OpenGet). if v.row.rid == n then option_map (replied (reply_by s.zid v.queryable v.row.qos w)) o else o) asking.get;
    next = reply_next w fits ∙ asking.next;
  }
    where
      go : (b : Bool) → (v.row.rid == n) ≡ b
          → get_at n (with_get v.row.rid (replied (reply_by s.zid v.queryable v.row.qos w)) (open_now s (past_of s h)))
          ≡ (if b then option_map (replied (reply_by s.zid v.queryable v.row.qos w)) (get_at n (open_now s (past_of s h))) else get_at n (open_now s (past_of s h)))
      go true is =
          ap (λ (m : ℕ). get_at n (with_get m (replied (reply_by s.zid v.queryable v.row.qos w)) (open_now s (past_of s h)))) (same v.row.rid n is)
          ∙ get_with n (replied (reply_by s.zid v.queryable v.row.qos w)) (replied_keeps (reply_by s.zid v.queryable v.row.qos w)) (open_now s (past_of s h))
        where
          same : (a b : ℕ) → (a == b) ≡ true → a ≡ b
          same a b is = grind (arith, nat_tests, is)
      go false is = get_with_other n v.row.rid (replied (reply_by s.zid v.queryable v.row.qos w)) (replied_keeps (reply_by s.zid v.queryable v.row.qos w)) (open_now s (past_of s h)) is

  -- what a reply sends: a response, or to a get nothing
  reply_sends : (w : Write) → Fits v.row.key.text w
      → messages_of (effects s h (replying v w)).effects
      ≡ messages_of (answer_effects (answering (known_of s (past_of s h))) (OwnKey (Text (chars w.key))) (Some v) plain_quality (body_of [] (update_of w.entry)) (Some w.key))
  reply_sends w fits =
      sent_behind s h (replying v w) calm.unshut (reply_accepted w fits)
      ∙ nothing_more (messages_of (answer_effects (answering (known_of s (past_of s h))) (OwnKey (Text (chars w.key))) (value_at v.value (values_now (past_of s h))) plain_quality (body_of [] (update_of w.entry)) (Some (encode_utf8_all (chars w.key)))))
      ∙ ap (λ (o : Option QueryValue). messages_of (answer_effects (answering (known_of s (past_of s h))) (OwnKey (Text (chars w.key))) o plain_quality (body_of [] (update_of w.entry)) (Some (encode_utf8_all (chars w.key))))) here
      ∙ ap (λ (text : List ℕ). messages_of (answer_effects (answering (known_of s (past_of s h))) (OwnKey (Text (chars w.key))) (Some v) plain_quality (body_of [] (update_of w.entry)) (Some text))) fits.spelled

  pub remote_sends : (w : Write) → Fits v.row.key.text w → v.row.local ≡ false
      → messages_of (effects s h (replying v w)).effects
      ≡ response_message (response_by s.zid v.queryable v.row.rid (full_wire w.key) v.row.qos (with_value (body_of [] (update_of w.entry)))) ∷ []
  remote_sends w fits remote =
      reply_sends w fits
      ∙ when_false messages_of v.row.local (local_fx w w.key) (remote_fx w w.key) remote

  pub local_sends : (w : Write) → Fits v.row.key.text w → v.row.local ≡ true → messages_of (effects s h (replying v w)).effects ≡ []
  local_sends w fits local =
      reply_sends w fits
      ∙ when_true messages_of v.row.local (local_fx w w.key) (remote_fx w w.key) local
      ∙ no_messages_in_reply (peek_at (get_at v.row.rid (open_now s (past_of s h))) (local_reply s.zid v.queryable v.row plain_quality (body_of [] (update_of w.entry)) w.key)) v.row.rid
      (local_reply s.zid v.queryable v.row plain_quality (body_of [] (update_of w.entry)) w.key)

  pub reply_asks : (w : Write) → Fits v.row.key.text w → AsksNone (effects s h (replying v w)).effects
  reply_asks w fits store =
      asked_behind s h (replying v w) store calm.unshut (reply_accepted w fits)
      ∙ ap (λ (o : Option QueryValue). answers_to answerer store (answer_effects (answering (known_of s (past_of s h))) (OwnKey (Text (chars w.key))) o plain_quality (body_of [] (update_of w.entry)) (Some (encode_utf8_all (chars w.key))))) here
      ∙ none_either v.row.local (local_fx w (encode_utf8_all (chars w.key))) (remote_fx w (encode_utf8_all (chars w.key)))
      (none_replied (peek_at (get_at v.row.rid (open_now s (past_of s h))) (local_reply s.zid v.queryable v.row plain_quality (body_of [] (update_of w.entry)) (encode_utf8_all (chars w.key)))) v.row.rid
      (local_reply s.zid v.queryable v.row plain_quality (body_of [] (update_of w.entry)) (encode_utf8_all (chars w.key)))) (λ store. refl) store

  -- the end is accepted
  pub finish_accepted : refusal_of s (past_of s h) (Finish v.value) ≡ None
  finish_accepted = finish_causes v.value (is_closed (past_of s h)) (is_some (value_at v.value (values_now (past_of s h)))) calm.unshut (ap (λ (o : Option QueryValue). is_some o) here)

  none_left : without_value v.value (v ∷ []) ≡ []
  none_left = ap (λ (b : Bool). cond (not b) (v ∷ []) []) (same_number v.value)

  pub finish_calm : Calm s keys (Finish v.value ∷ h) []
  finish_calm = record {
    unshut = open_stays s (past_of s h) (Finish v.value) (finish_stays v.value) calm.unshut;
    rows = rows_stay s (past_of s h) (Finish v.value) (finish_stays v.value) ∙ calm.rows;
    values =
        ap (λ (h : Handing). h.values) (handing_behind s h (Finish v.value) calm.unshut finish_accepted 0 tt)
        ∙ ap (without_value v.value) calm.values ∙ none_left;
  }

  pub last_value : finished (value_at v.value (values_now (past_of s h))) (values_now (past_of s h)) ≡ Last v.row
  last_value = ap (λ (values : List QueryValue). finished (value_at v.value values) values) calm.values ∙ finishes v

  finish_gets : open_now s (past_of s (Finish v.value ∷ h)) ≡ gets_after (if v.row.local then FinalOf v.row.rid Local else Quiet) (open_now s (past_of s h))
  finish_gets =
      gets_behind s h (Finish v.value) calm.unshut finish_accepted refl
      ∙ ap (λ (f : Finished). gets_after (news_of_finished f) (open_now s (past_of s h))) last_value

  finish_next : next_query s (past_of s (Finish v.value ∷ h)) ≡ next_query s (past_of s h)
  finish_next = ap (next_query s) (joins s h (Finish v.value) calm.unshut finish_accepted)

  pub finish_remote : v.row.local ≡ false → (n : ℕ) (at : Option OpenGet) (number : ℕ) → Asking s h n at number → Asking s (Finish v.value ∷ h) n at number
  finish_remote remote n at number asking = record {
    get =
        ap (get_at n) (finish_gets ∙ ap (λ (b : Bool). gets_after (if b then FinalOf v.row.rid Local else Quiet) (open_now s (past_of s h))) remote) ∙ asking.get;
    next = finish_next ∙ asking.next;
  }

  pub finish_local : v.row.local ≡ true → (n : ℕ) (at : Option OpenGet) (number : ℕ) → Asking s h n at number
      → Asking s (Finish v.value ∷ h) n (get_at n (after_final (final_outcome Local (get_at v.row.rid (open_now s (past_of s h)))) Local v.row.rid (open_now s (past_of s h)))) number
  finish_local local n at number asking = record {
    get = ap (get_at n) (finish_gets ∙ ap (λ (b : Bool). gets_after (if b then FinalOf v.row.rid Local else Quiet) (open_now s (past_of s h))) local);
    next = finish_next ∙ asking.next;
  }

  finish_sends : messages_of (effects s h (Finish v.value)).effects ≡ messages_of (finish_effects (open_now s (past_of s h)) (Last v.row))
  finish_sends =
      sent_behind s h (Finish v.value) calm.unshut finish_accepted
      ∙ nothing_more (messages_of (finish_effects (open_now s (past_of s h)) (finished (value_at v.value (values_now (past_of s h))) (values_now (past_of s h)))))
      ∙ ap (λ (f : Finished). messages_of (finish_effects (open_now s (past_of s h)) f)) last_value

  pub finish_sends_final : v.row.local ≡ false → messages_of (effects s h (Finish v.value)).effects ≡ ResponseFinal v.row.rid ∷ []
  finish_sends_final remote = finish_sends ∙ when_false messages_of v.row.local local_end remote_end remote

  pub finish_sends_none : v.row.local ≡ true → messages_of (effects s h (Finish v.value)).effects ≡ []
  finish_sends_none local = finish_sends ∙ when_true messages_of v.row.local local_end remote_end local ∙ no_messages_in_final v.row.rid (final_outcome Local (get_at v.row.rid (open_now s (past_of s h))))

  pub finish_asks : AsksNone (effects s h (Finish v.value)).effects
  finish_asks store =
      asked_behind s h (Finish v.value) store calm.unshut finish_accepted
      ∙ ap (λ (f : Finished). answers_to answerer store (finish_effects (open_now s (past_of s h)) f)) last_value
      ∙ none_either v.row.local local_end remote_end (none_final v.row.rid (final_outcome Local (get_at v.row.rid (open_now s (past_of s h))))) (λ store. refl) store
