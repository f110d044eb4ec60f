-- What the responses and the final of the other side make of a get.
use Rattle.std.proofs.Common.{◌≡◌, ℕ, List, [], ◌∷◌, Bool, true, false, Option, Some, None, refl, sym, ◌∙◌, ap, subst}
use Rattle.std.specs.Prelude.{◌==◌, ◌||◌, option_map, encode_utf8_all, if◌then◌else◌}
use Rattle.std.specs.Str.{chars}
use Rattle.zs_keys.specs.Matching.{intersects}
use Rattle.zs_keys.specs.Text.{is_canonical}
use Rattle.zs_wire.specs.declared.message.Message.TheVariants.{Response as response_message, ResponseFinal}
use Rattle.zs_wire.specs.declared.quality.QoSType.{QoSType}
use Rattle.zs_wire.specs.declared.request.ConsolidationMode.{ConsolidationMode}
use Rattle.zs_wire.specs.declared.request.ConsolidationMode.TheVariants as by
use Rattle.zs_wire.specs.declared.response.Response.{Response}
use Rattle.zs_sample.specs.Reply.{Replied}
use Rattle.zs_query.specs.declared.side.Side.TheVariants.{Network}
use Rattle.zs_query.specs.declared.open_get.OpenGet.{OpenGet}
use Rattle.zs_query.specs.declared.outcome.Outcome.{Outcome}
use Rattle.zs_query.specs.declared.outcome.Outcome.TheVariants as outcome
use Rattle.zs_query.specs.declared.outcome.Peek.TheVariants as peek
use Rattle.zs_query.specs.RequestTable.{Handing}
use Rattle.zs_query.specs.Gets.{get_at, with_get, takes_key, peek_at, replied, final_outcome, after_final}
use Rattle.zs_query.specs.Kept.{passes_all}
use Rattle.zs_query.specs.Laws.{get_after, peek_in}
use Rattle.zs_query.specs.Marks.{key_of}
use Rattle.zs_query.proofs.Standing.{stands}
use Rattle.zs_events.specs.declared.event.Event.{Event}
use Rattle.zs_events.specs.declared.event.Event.TheVariants.{Net}
use Rattle.zs_events.specs.declared.turn.Refusal.{Refusal}
use Rattle.zs_events.specs.Kinds.{row_of}
use Rattle.zs_events.specs.Updates.{body_of}
use Rattle.zs_model.specs.declared.settings.Settings.{Settings}
use Rattle.zs_model.specs.Causes.{holds, in_order, first_that, refusal_of}
use Rattle.zs_model.specs.Counters.{next_query}
use Rattle.zs_model.specs.Entry.{is_closed}
use Rattle.zs_model.specs.Gets.{is_unmet, is_unwanted, open_now, sample_reply}
use Rattle.zs_model.specs.Past.{past_of}
use Rattle.zs_model.specs.Received.{messages_of}
use Rattle.zs_model.specs.Effects.{effects}
use Rattle.zs_delivery.proofs.Accepting.{sight_of}
use Rattle.zs_keeping.specs.Answering.{update_of, answers_to}
use Rattle.zs_store.specs.Store.{Write}
use Rattle.zs_replica_gets.specs.Steps.{answerer}
use Rattle.zs_replica_gets.specs.Responding.{response_with}
use Rattle.zs_replica_gets.proofs.Kept.{reply_by}
use Rattle.zs_replica_gets.proofs.Pasts.{joins, effects_refused, Stays, rows_stay, open_stays, Calm, Asking, refused_calm, refused_asking, handing_behind, gets_behind, get_with, get_with_other, get_without, replied_keeps, final_other}
use Rattle.zs_replica_gets.proofs.Queries.{AsksNone, none_replied, none_final}
use Rattle.zs_replica_gets.proofs.Turns.{sent_behind, asked_behind}
use Rattle.zs_replica_gets.proofs.Answered.{Fits}
use Rattle.zs_replica_gets.proofs.Questions.{Waits}

response_stays : (r : Response) → Stays (Net (response_message r))
response_stays r = record { open_still = refl; declares_none = λ number text. refl; draws_none = λ id number. refl; ends_none = λ id. refl }

final_stays : (rid : ℕ) → Stays (Net (ResponseFinal rid))
final_stays rid = record { open_still = refl; declares_none = λ number text. refl; draws_none = λ id number. refl; ends_none = λ id. refl }

module _ (s : Settings) (keys : List ℕ) (h : List Event) (calm : Calm s keys h []) where
  module _ (zid rid : ℕ) (qos : QoSType) (w : Write) where
    abbrev pub coming : Event
    coming = Net (response_message (response_with zid rid qos w))

    pub response_calm : Calm s keys (coming ∷ h) []
    response_calm = go (refusal_of s (past_of s h) coming) refl
      where
        go : (o : Option Refusal) → refusal_of s (past_of s h) coming ≡ o → Calm s keys (coming ∷ h) []
        go (Some refusal) refused = refused_calm s keys h coming [] refusal refused calm
        go None fine = record {
          unshut = open_stays s (past_of s h) coming (response_stays (response_with zid rid qos w)) calm.unshut;
          rows = rows_stay s (past_of s h) coming (response_stays (response_with zid rid qos w)) ∙ calm.rows;
          values = ap (λ (h : Handing). h.values) (handing_behind s h coming calm.unshut fine 0 tt) ∙ calm.values;
        }

    pub response_sends : messages_of (effects s h coming).effects ≡ []
    response_sends = go (refusal_of s (past_of s h) coming) refl
      where
        go : (o : Option Refusal) → refusal_of s (past_of s h) coming ≡ o → messages_of (effects s h coming).effects ≡ []
        go (Some refusal) refused = ap messages_of (effects_refused s h coming refusal refused)
        go None fine = sent_behind s h coming calm.unshut fine

    pub response_asks : AsksNone (effects s h coming).effects
    response_asks = go (refusal_of s (past_of s h) coming) refl
      where
        go : (o : Option Refusal) → refusal_of s (past_of s h) coming ≡ o → AsksNone (effects s h coming).effects
        go (Some refusal) refused store = ap (answers_to answerer store) (effects_refused s h coming refusal refused)
        go None fine store = asked_behind s h coming store calm.unshut fine ∙ none_replied (peek_at (get_at rid (open_now s (past_of s h))) (sample_reply (encode_utf8_all (chars w.key)) (response_with zid rid qos w) (body_of [] (update_of w.entry)))) rid (sample_reply (encode_utf8_all (chars w.key)) (response_with zid rid qos w) (body_of [] (update_of w.entry))) store

    -- another get stays
    pub response_other : (n : ℕ) (at : Option OpenGet) (number : ℕ) → (rid == n) ≡ false → Asking s h n at number → Asking s (coming ∷ h) n at number
    response_other n at number apart before = go (refusal_of s (past_of s h) coming) refl
      where
        go : (o : Option Refusal) → refusal_of s (past_of s h) coming ≡ o → Asking s (coming ∷ h) n at number
        go (Some refusal) refused = refused_asking s h coming n at number refusal refused before
        go None fine = record {
          get =
              ap (get_at n) (gets_behind s h coming calm.unshut fine refl)
              ∙ get_with_other n rid (replied (sample_reply (encode_utf8_all (chars w.key)) (response_with zid rid qos w) (body_of [] (update_of w.entry)))) (replied_keeps (sample_reply (encode_utf8_all (chars w.key)) (response_with zid rid qos w) (body_of [] (update_of w.entry)))) (open_now s (past_of s h)) apart
              ∙ before.get;
          next = ap (next_query s) (joins s h coming calm.unshut fine) ∙ before.next;
        }

  -- a final changes no values, sends nothing and asks nothing
  module _ (rid : ℕ) where
    abbrev pub ending : Event
    ending = Net (ResponseFinal rid)

    pub final_calm : Calm s keys (ending ∷ h) []
    final_calm = go (refusal_of s (past_of s h) ending) refl
      where
        go : (o : Option Refusal) → refusal_of s (past_of s h) ending ≡ o → Calm s keys (ending ∷ h) []
        go (Some refusal) refused = refused_calm s keys h ending [] refusal refused calm
        go None fine = record {
          unshut = open_stays s (past_of s h) ending (final_stays rid) calm.unshut;
          rows = rows_stay s (past_of s h) ending (final_stays rid) ∙ calm.rows;
          values = ap (λ (h : Handing). h.values) (handing_behind s h ending calm.unshut fine 0 tt) ∙ calm.values;
        }

    pub final_sends : messages_of (effects s h ending).effects ≡ []
    final_sends = go (refusal_of s (past_of s h) ending) refl
      where
        go : (o : Option Refusal) → refusal_of s (past_of s h) ending ≡ o → messages_of (effects s h ending).effects ≡ []
        go (Some refusal) refused = ap messages_of (effects_refused s h ending refusal refused)
        go None fine = sent_behind s h ending calm.unshut fine

    pub final_asks : AsksNone (effects s h ending).effects
    final_asks = go (refusal_of s (past_of s h) ending) refl
      where
        go : (o : Option Refusal) → refusal_of s (past_of s h) ending ≡ o → AsksNone (effects s h ending).effects
        go (Some refusal) refused store = ap (answers_to answerer store) (effects_refused s h ending refusal refused)
        go None fine store = asked_behind s h ending store calm.unshut fine ∙ none_final rid (final_outcome Network (get_at rid (open_now s (past_of s h)))) store

    pub final_keeps : (n : ℕ) (at : Option OpenGet) (number : ℕ) → (rid == n) ≡ false → Asking s h n at number → Asking s (ending ∷ h) n at number
    final_keeps n at number apart before = go (refusal_of s (past_of s h) ending) refl
      where
        go : (o : Option Refusal) → refusal_of s (past_of s h) ending ≡ o → Asking s (ending ∷ h) n at number
        go (Some refusal) refused = refused_asking s h ending n at number refusal refused before
        go None fine = record {
          get = ap (get_at n) (gets_behind s h ending calm.unshut fine refl) ∙ final_other n rid Network (open_now s (past_of s h)) apart ∙ before.get;
          next = ap (next_query s) (joins s h ending calm.unshut fine) ∙ before.next;
        }

-- a response is accepted where its get is open and takes its key
response_causes : (zid rid : ℕ) (qos : QoSType) (w : Write) (c idle : Bool) → c ≡ false → idle ≡ false → is_canonical (encode_utf8_all (chars w.key)) ≡ true
    → first_that (holds c (row_of (Net (response_message (response_with zid rid qos w)))) (record (sight_of (Some (encode_utf8_all (chars w.key)))) { idle = idle })) in_order ≡ None
response_causes zid rid qos w c idle unshut wanted canonical =
    subst (λ (b : Bool). first_that (holds b (row_of (Net (response_message (response_with zid rid qos w)))) (record (sight_of (Some (encode_utf8_all (chars w.key)))) { idle = idle })) in_order ≡ None) (sym unshut)
    (subst (λ (b : Bool). first_that (holds false (row_of (Net (response_message (response_with zid rid qos w)))) (record (sight_of (Some (encode_utf8_all (chars w.key)))) { idle = b })) in_order ≡ None) (sym wanted)
    (rw canonical refl))

final_causes : (rid : ℕ) (c idle : Bool) → c ≡ false → idle ≡ false → first_that (holds c (row_of (Net (ResponseFinal rid))) (record (sight_of None) { idle = idle })) in_order ≡ None
final_causes rid c idle unshut wanted =
    subst (λ (b : Bool). first_that (holds b (row_of (Net (ResponseFinal rid))) (record (sight_of None) { idle = idle })) in_order ≡ None) (sym unshut)
    (subst (λ (b : Bool). first_that (holds false (row_of (Net (ResponseFinal rid))) (record (sight_of None) { idle = b })) in_order ≡ None) (sym wanted) refl)

or_true : (b : Bool) → (b || true) ≡ true
or_true true = refl
or_true false = refl

met_in : (mode : ConsolidationMode) (pass : Bool) → mode ≡ by.Latest → is_unmet (peek_in mode pass) ≡ false
met_in mode pass is = ap (λ (m : ConsolidationMode). is_unmet (peek_in m pass)) is ∙ go pass
  where
    go : (pass : Bool) → is_unmet (if pass then peek.Kept else peek.Dropped) ≡ false
    go true = refl
    go false = refl

module _ (s : Settings) (keys : List ℕ) (h : List Event) (calm : Calm s keys h []) (n : ℕ) (key : List ℕ) (replies : List Replied) (at : Option OpenGet) (number : ℕ)
    (before : Asking s h n at number) (waits : Waits n key false true replies at) where
  found : get_at n (open_now s (past_of s h)) ≡ Some (get_after waits.row replies)
  found = before.get ∙ waits.is

  -- a response is one reply more
  module _ (zid : ℕ) (qos : QoSType) (w : Write) (fits : Fits key w) where
    abbrev one : Event
    one = Net (response_message (response_with zid n qos w))

    takes : takes_key waits.row (key_of (reply_by zid answerer qos w)) ≡ true
    takes =
        ap (λ (text : List ℕ). waits.row.any_key || intersects text w.key) waits.text
        ∙ ap (λ (b : Bool). waits.row.any_key || b) fits.meets ∙ or_true waits.row.any_key

    same_reply : sample_reply (encode_utf8_all (chars w.key)) (response_with zid n qos w) (body_of [] (update_of w.entry)) ≡ reply_by zid answerer qos w
    same_reply = ap (λ (text : List ℕ). sample_reply text (response_with zid n qos w) (body_of [] (update_of w.entry))) fits.spelled

    wanted : is_unmet (peek_at (get_at n (open_now s (past_of s h))) (sample_reply (encode_utf8_all (chars w.key)) (response_with zid n qos w) (body_of [] (update_of w.entry)))) ≡ false
    wanted =
        (λ i. is_unmet (peek_at (found i) (same_reply i)))
        ∙ ap is_unmet (stands waits.row replies (reply_by zid answerer qos w) takes).outcome
        ∙ met_in waits.row.mode (passes_all replies (reply_by zid answerer qos w)) waits.mode

    response_fine : refusal_of s (past_of s h) one ≡ None
    response_fine =
        response_causes zid n qos w (is_closed (past_of s h))
        (is_unmet (peek_at (get_at n (open_now s (past_of s h))) (sample_reply (encode_utf8_all (chars w.key)) (response_with zid n qos w) (body_of [] (update_of w.entry)))))
        calm.unshut wanted (ap is_canonical fits.spelled ∙ fits.canonical)

    pub response_waits : Waits n key false true (reply_by zid answerer qos w ∷ replies) (get_at n (open_now s (past_of s (one ∷ h))))
    response_waits = record {
      row = waits.row;
      is =
          ap (get_at n) (gets_behind s h one calm.unshut response_fine refl)
          ∙ ap (λ (r : Replied). get_at n (with_get n (replied r) (open_now s (past_of s h)))) same_reply
          ∙ get_with n (replied (reply_by zid answerer qos w)) (replied_keeps (reply_by zid answerer qos w)) (open_now s (past_of s h))
          ∙ ap (option_map (replied (reply_by zid answerer qos w))) found
          ∙ ap Some (stands waits.row replies (reply_by zid answerer qos w) takes).after;
      number = waits.number;
      text = waits.text;
      mode = waits.mode;
      wants_local = waits.wants_local;
      wants_network = waits.wants_network;
    }

    pub response_next : next_query s (past_of s (one ∷ h)) ≡ number
    response_next = ap (next_query s) (joins s h one calm.unshut response_fine) ∙ before.next

  -- the final ends it
  abbrev last : Event
  last = Net (ResponseFinal n)

  pub final_is : final_outcome Network (get_at n (open_now s (past_of s h))) ≡ outcome.Ended (get_after waits.row replies).kept
  final_is =
      ap (final_outcome Network) found
      ∙ ap (λ (b : Bool). if b then if waits.row.local_wanted then outcome.Counted else outcome.Ended (get_after waits.row replies).kept else outcome.Repeated) waits.wants_network
      ∙ ap (λ (b : Bool). if b then outcome.Counted else outcome.Ended (get_after waits.row replies).kept) waits.wants_local

  pub final_fine : refusal_of s (past_of s h) last ≡ None
  final_fine =
      final_causes n (is_closed (past_of s h)) (is_unwanted (final_outcome Network (get_at n (open_now s (past_of s h))))) calm.unshut (ap is_unwanted final_is)

  pub final_asking : Asking s (last ∷ h) n None number
  final_asking = record {
    get =
        ap (get_at n) (gets_behind s h last calm.unshut final_fine refl)
        ∙ ap (λ (o : Outcome). get_at n (after_final o Network n (open_now s (past_of s h)))) final_is
        ∙ get_without n (open_now s (past_of s h));
    next = ap (next_query s) (joins s h last calm.unshut final_fine) ∙ before.next;
  }
