-- What a get makes of a session whose queryable answers from its store, and what a request from the other side does.
use Rattle.std.proofs.Common.{◌≡◌, ◌+◌, ◌≤◌, ℕ, List, [], ◌∷◌, ◌++◌, Bool, true, false, Option, Some, None, refl, ◌∙◌, ap, cond, arith, map}
use Rattle.std.specs.Prelude.{◌==◌, ◌&&◌, ◌||◌, not, encode_utf8_all, if◌then◌else◌}
use Rattle.std.specs.List.{list_any}
use Rattle.std.proofs.lemmas.Bool.Decides.{nat_tests}
use mathlib.Core.List.{append-nil}
use Rattle.zs_keys.specs.Matching.{intersects}
use Rattle.zs_wire.specs.declared.message.Message.{Message}
use Rattle.zs_wire.specs.declared.message.Message.TheVariants.{Request as request_message, ResponseFinal}
use Rattle.zs_wire.specs.declared.request.ConsolidationMode.TheVariants as by
use Rattle.zs_wire.specs.declared.request.Request.{Request}
use Rattle.zs_wire.specs.declared.wire_expr.WireExpr.{WireExpr}
use Rattle.zs_sample.specs.Reply.{Replied}
use Rattle.zs_tables.specs.declared.queryable.QueryableRow.{QueryableRow}
use Rattle.zs_query.specs.declared.get_row.GetRow.{GetRow}
use Rattle.zs_query.specs.declared.open_get.OpenGet.{OpenGet}
use Rattle.zs_query.specs.Types.{QueryValue, RequestRow}
use Rattle.zs_query.specs.Asked.{Asked, is_end, waiting, waits, replies_in, open_gets, opened}
use Rattle.zs_query.specs.Gets.{get_at, fresh}
use Rattle.zs_query.specs.Laws.{get_after}
use Rattle.zs_query.specs.RequestTable.{Handing, with_handed}
use Rattle.zs_query.specs.Unfinished.{values_from}
use Rattle.zs_query.proofs.Hearing.{open_more}
use Rattle.zs_events.specs.declared.event.Event.{Event}
use Rattle.zs_events.specs.declared.event.Event.TheVariants.{Net}
use Rattle.zs_events.specs.declared.turn.Answer.TheVariants.{Ok as accepted}
use Rattle.zs_events.specs.declared.turn.Refusal.{Refusal}
use Rattle.zs_events.specs.Turn.{answered}
use Rattle.zs_events.specs.Kinds.{NoGet, Requested}
use Rattle.zs_model.specs.declared.settings.Settings.{Settings}
use Rattle.zs_model.specs.Causes.{refusal_of}
use Rattle.zs_model.specs.Counters.{next_query}
use Rattle.zs_model.specs.Entry.{is_closed}
use Rattle.zs_model.specs.GetEffects.{ask_effects}
use Rattle.zs_model.specs.Gets.{own_news, moment_of, asked, open_now}
use Rattle.zs_model.specs.HeldKeys.{wire_text}
use Rattle.zs_model.specs.Live.{live_queryables}
use Rattle.zs_model.specs.Past.{entry_of, past_of}
use Rattle.zs_model.specs.Questions.{row_asked, request_of}
use Rattle.zs_model.specs.Received.{messages_of}
use Rattle.zs_model.specs.Sends.{full_wire}
use Rattle.zs_model.specs.ValueEffects.{requested_effects}
use Rattle.zs_model.specs.Values.{met_by_get, met_by_request, get_request, network_request, handing_of}
use Rattle.zs_model.specs.Effects.{known_of, effects_on, effects_behind, effects}
use Rattle.zs_model.proofs.Values.{handing_next}
use Rattle.zs_laws.proofs.SentMessages.{no_messages_in_queries, told_by_event}
use Rattle.zs_keeping.specs.Answering.{answers_of, answers_to}
use Rattle.zs_store.specs.Store.{Write}
use Rattle.zs_replica_gets.specs.Steps.{answerer, answerer_row, question}
use Rattle.zs_replica_gets.proofs.Pasts.{joins, Stays, rows_stay, open_stays, Calm, Asking, handing_behind, gets_behind, unasked}
use Rattle.zs_replica_gets.proofs.Turns.{sent_behind, asked_behind}
use Rattle.zs_replica_gets.proofs.Answered.{asking, value_of}

pub answer_accepted : (s : Settings) (h : List Event) (e : Event) → is_closed (past_of s h) ≡ false → refusal_of s (past_of s h) e ≡ None
    → (effects s h e).answer ≡ accepted (entry_of s (past_of s h) e).number
answer_accepted s h e unshut fine =
    ap (λ (c : Bool). (if c then answered (refusal_of s (past_of s h) e) None []
    else answered (refusal_of s (past_of s h) e) (entry_of s (past_of s h) e).number (effects_behind s (past_of s h) e)).answer) unshut
    ∙ ap (λ (o : Option Refusal). (answered o (entry_of s (past_of s h) e).number (effects_behind s (past_of s h) e)).answer) fine

-- an open get that is handed the newest of each key at its end, what it waits for, and the replies that it has had
pub record Waits (n : ℕ) (key : List ℕ) (local network : Bool) (replies : List Replied) (at : Option OpenGet) : Type 0 where
  pub row : GetRow
  pub is : at ≡ Some (get_after row replies)
  pub number : row.number ≡ n
  pub text : row.key.text ≡ key
  pub mode : row.mode ≡ by.Latest
  pub wants_local : row.local_wanted ≡ local
  pub wants_network : row.network_wanted ≡ network

same_number : (n : ℕ) → (n == n) ≡ true
same_number n = grind (arith, nat_tests)

and_false : (b : Bool) → (b && false) ≡ false
and_false true = refl
and_false false = refl

or_true : (b : Bool) → (b || true) ≡ true
or_true true = refl
or_true false = refl

nothing_more : (ms : List Message) → ms ++ [] ≡ ms
nothing_more [] = refl
nothing_more (m ∷ ms) = ap (λ (rest : List Message). m ∷ rest) (nothing_more ms)

-- one get more behind others
more_other : (n : ℕ) (g : OpenGet) (gets : List OpenGet) → (g.row.number == n) ≡ false → get_at n (gets ++ g ∷ []) ≡ get_at n gets
more_other n g [] apart = ap (λ (b : Bool). if b then Some g else None) apart
more_other n g (x ∷ gets) apart = ap (λ (o : Option OpenGet). if x.row.number == n then Some x else o) (more_other n g gets apart)

more_same : (n : ℕ) (g : OpenGet) (gets : List OpenGet) → (g.row.number == n) ≡ true → get_at n gets ≡ None → get_at n (gets ++ g ∷ []) ≡ Some g
more_same n g [] same none = ap (λ (b : Bool). if b then Some g else None) same
more_same n g (x ∷ gets) same none = go (x.row.number == n) none (more_same n g gets same)
  where
    go : (b : Bool) → (if b then Some x else get_at n gets) ≡ None → (get_at n gets ≡ None → get_at n (gets ++ g ∷ []) ≡ Some g)
        → (if b then Some x else get_at n (gets ++ g ∷ [])) ≡ Some g
    go true none ih = cc
    go false none ih = ih none

question_stays : (text : List ℕ) → Stays (question text)
question_stays text = record { open_still = refl; declares_none = λ number text. refl; draws_none = λ id number. refl; ends_none = λ id. refl }

request_stays : (r : Request) → Stays (Net (request_message r))
request_stays r = record { open_still = refl; declares_none = λ number text. refl; draws_none = λ id number. refl; ends_none = λ id. refl }

-- whom it meets
abbrev pub met_if : Bool → List ℕ
met_if b = if b then answerer ∷ [] else []

met_by_question : (keys key : List ℕ) → met_by_get (answerer_row keys ∷ []) asking key ≡ met_if (intersects key keys)
met_by_question keys key = go (intersects key keys)
  where
    go : (b : Bool) → map (λ (q : QueryableRow). q.id) (cond b (answerer_row keys ∷ []) []) ≡ met_if b
    go true = refl
    go false = refl

met_by_other : (keys key : List ℕ) (r : Request) → met_by_request (answerer_row keys ∷ []) r key ≡ met_if (intersects key keys)
met_by_other keys key r = go (intersects key keys)
  where
    go : (b : Bool) → map (λ (q : QueryableRow). q.id) (cond b (answerer_row keys ∷ []) []) ≡ met_if b
    go true = refl
    go false = refl

-- the values behind it
abbrev pub drawn_if : Bool → QueryValue → List QueryValue
drawn_if b v = if b then v ∷ [] else []

handed_if : (b : Bool) (row : RequestRow) (h : Handing) → h.values ≡ [] → (with_handed row (met_if b) h).values ≡ drawn_if b (value_of h.next h.handed row)
handed_if true row h none = ap (λ (values : List QueryValue). values ++ value_of h.next h.handed row ∷ []) none
handed_if false row h none = none

from_if : (b : Bool) (row : RequestRow) (h : Handing) → values_from h.next h.handed row (met_if b) ≡ drawn_if b (value_of h.next h.handed row)
from_if true row h = refl
from_if false row h = refl

-- what a get sends, and the queries that it brings
ask_sends : (default : ℕ) (wire : WireExpr) (number : ℕ) (values : List QueryValue)
    → messages_of (ask_effects default wire number asking values) ≡ request_message (request_of default wire number asking) ∷ []
ask_sends default wire number [] = refl
ask_sends default wire number (v ∷ values) = ap (λ (ms : List Message). request_message (request_of default wire number asking) ∷ ms) (no_messages_in_queries (v ∷ values))

ask_brings : (default : ℕ) (wire : WireExpr) (number value request : ℕ) (key : List ℕ) (b : Bool) (store : List Write)
    → answers_to answerer store (ask_effects default wire number asking (drawn_if b (value_of value request (get_request number key asking))))
    ≡ (if b then answers_of value key store else [])
ask_brings default wire number value request key true store = append-nil (answers_of value key store)
ask_brings default wire number value request key false store = refl

request_sends : (rid value request : ℕ) (row : RequestRow) (b : Bool)
    → messages_of (requested_effects rid (drawn_if b (value_of value request row))) ≡ (if b then [] else ResponseFinal rid ∷ [])
request_sends rid value request row true = refl
request_sends rid value request row false = refl

request_brings : (rid value request : ℕ) (row : RequestRow) (b : Bool) (store : List Write)
    → answers_to answerer store (requested_effects rid (drawn_if b (value_of value request row))) ≡ (if b then answers_of value row.key.text store else [])
request_brings rid value request row true store = append-nil (answers_of value row.key.text store)
request_brings rid value request row false store = refl

module _ (s : Settings) (keys : List ℕ) (h : List Event) (calm : Calm s keys h []) where
  -- an accepted get
  module _ (text : List ℕ) (fine : refusal_of s (past_of s h) (question text) ≡ None) where
    abbrev pub own_value : QueryValue
    own_value = value_of (handing_of (past_of s h)).next (handing_of (past_of s h)).handed (get_request (next_query s (past_of s h)) (encode_utf8_all text) asking)

    met_is : met_by_get (live_queryables (past_of s h)) asking (encode_utf8_all text) ≡ met_if (intersects (encode_utf8_all text) keys)
    met_is = ap (λ (rows : List QueryableRow). met_by_get rows asking (encode_utf8_all text)) calm.rows ∙ met_by_question keys (encode_utf8_all text)

    pub asks_calm : Calm s keys (question text ∷ h) (drawn_if (intersects (encode_utf8_all text) keys) own_value)
    asks_calm = record {
      unshut = open_stays s (past_of s h) (question text) (question_stays text) calm.unshut;
      rows = rows_stay s (past_of s h) (question text) (question_stays text) ∙ calm.rows;
      values =
          ap (λ (h : Handing). h.values) (handing_behind s h (question text) calm.unshut fine (next_query s (past_of s h)) refl)
          ∙ ap (λ (met : List ℕ). (with_handed (get_request (next_query s (past_of s h)) (encode_utf8_all text) asking) met (handing_of (past_of s h))).values) met_is
          ∙ handed_if (intersects (encode_utf8_all text) keys) (get_request (next_query s (past_of s h)) (encode_utf8_all text) asking) (handing_of (past_of s h)) calm.values;
    }

    pub asks_next : next_query s (past_of s (question text ∷ h)) ≡ next_query s (past_of s h) + 1
    asks_next = ap (next_query s) (joins s h (question text) calm.unshut fine)

    -- the get as it is asked
    abbrev asked_get : List ℕ → Asked
    asked_get met = record {
      row = row_asked s.default_timeout (moment_of (past_of s h)) (next_query s (past_of s h)) (encode_utf8_all text) asking;
      since = own_news (next_query s (past_of s h)) asking met;
    }

    unended : (b : Bool) → list_any (is_end (asked_get (met_if b)).row) (asked_get (met_if b)).since ≡ false
    unended true = refl
    unended false = refl

    unreplied : (b : Bool) → replies_in (asked_get (met_if b)).row (asked_get (met_if b)).since ≡ []
    unreplied true = refl
    unreplied false = refl

    open_asked : (b : Bool) → intersects (encode_utf8_all text) keys ≡ b
        → open_now s (past_of s (question text ∷ h)) ≡ opened (waiting (asked_get (met_if b))) (open_now s (past_of s h))
    open_asked b is =
        ap (open_now s) (joins s h (question text) calm.unshut fine)
        ∙ ap (λ (met : List ℕ). open_gets (asked s (past_of s h) ++ asked_get met ∷ [])) (met_is ∙ ap met_if is)
        ∙ open_more (asked_get (met_if b)) (asked s (past_of s h)) (unended b) (unreplied b)

    local_is : (b : Bool) → (waiting (asked_get (met_if b))).local_wanted ≡ b
    local_is true = refl
    local_is false = ap (λ (b : Bool). true && not ((b && true) || false)) (same_number (next_query s (past_of s h)))

    network_is : (b : Bool) → (waiting (asked_get (met_if b))).network_wanted ≡ true
    network_is true = refl
    network_is false = ap (λ (b : Bool). true && not (b || false)) (and_false (next_query s (past_of s h) == next_query s (past_of s h)))

    waits_is : (b : Bool) → waits (waiting (asked_get (met_if b))) ≡ true
    waits_is true = refl
    waits_is false = ap (λ (b : Bool). (waiting (asked_get (met_if false))).local_wanted || b) (network_is false) ∙ or_true (waiting (asked_get (met_if false))).local_wanted

    open_behind : (b : Bool) → intersects (encode_utf8_all text) keys ≡ b
        → open_now s (past_of s (question text ∷ h)) ≡ open_now s (past_of s h) ++ fresh (waiting (asked_get (met_if b))) ∷ []
    open_behind b is =
        open_asked b is
        ∙ ap (λ (c : Bool). if c then open_now s (past_of s h) ++ fresh (waiting (asked_get (met_if b))) ∷ [] else open_now s (past_of s h)) (waits_is b)

    -- another get stays
    pub asks_other : (n : ℕ) (at : Option OpenGet) (number : ℕ) → (next_query s (past_of s h) == n) ≡ false → Asking s h n at number → Asking s (question text ∷ h) n at (number + 1)
    asks_other n at number apart before = record {
      get =
          ap (get_at n) (open_behind (intersects (encode_utf8_all text) keys) refl)
          ∙ more_other n (fresh (waiting (asked_get (met_if (intersects (encode_utf8_all text) keys))))) (open_now s (past_of s h)) apart
          ∙ before.get;
      next = asks_next ∙ ap (λ (k : ℕ). k + 1) before.next;
    }

    -- and it waits for both sides, or where it meets no queryable for the other alone
    pub asks_waits : Waits (next_query s (past_of s h)) (encode_utf8_all text) (intersects (encode_utf8_all text) keys) true [] (get_at (next_query s (past_of s h)) (open_now s (past_of s (question text ∷ h))))
    asks_waits = record {
      row = waiting (asked_get (met_if (intersects (encode_utf8_all text) keys)));
      is =
          ap (get_at (next_query s (past_of s h))) (open_behind (intersects (encode_utf8_all text) keys) refl)
          ∙ more_same (next_query s (past_of s h)) (fresh (waiting (asked_get (met_if (intersects (encode_utf8_all text) keys))))) (open_now s (past_of s h))
          (same_number (next_query s (past_of s h))) (unasked s h (next_query s (past_of s h)) (least (next_query s (past_of s h))));
      number = refl;
      text = refl;
      mode = refl;
      wants_local = local_is (intersects (encode_utf8_all text) keys);
      wants_network = network_is (intersects (encode_utf8_all text) keys);
    }
      where
        least : (n : ℕ) → n ≤ n
        least n = omega arith

    drawn_is : values_from (handing_of (past_of s h)).next (handing_of (past_of s h)).handed (get_request (next_query s (past_of s h)) (encode_utf8_all text) asking)
        (met_by_get (live_queryables (past_of s h)) asking (encode_utf8_all text))
        ≡ drawn_if (intersects (encode_utf8_all text) keys) own_value
    drawn_is =
        ap (values_from (handing_of (past_of s h)).next (handing_of (past_of s h)).handed (get_request (next_query s (past_of s h)) (encode_utf8_all text) asking)) met_is
        ∙ from_if (intersects (encode_utf8_all text) keys) (get_request (next_query s (past_of s h)) (encode_utf8_all text) asking) (handing_of (past_of s h))

    -- it sends its request
    pub asks_sends : messages_of (effects s h (question text)).effects
        ≡ request_message (request_of s.default_timeout (full_wire (encode_utf8_all text)) (next_query s (past_of s h)) asking) ∷ []
    asks_sends =
        sent_behind s h (question text) calm.unshut fine
        ∙ nothing_more (messages_of (ask_effects s.default_timeout (full_wire (encode_utf8_all text)) (next_query s (past_of s h)) asking
        (values_from (handing_of (past_of s h)).next (handing_of (past_of s h)).handed (get_request (next_query s (past_of s h)) (encode_utf8_all text) asking)
        (met_by_get (live_queryables (past_of s h)) asking (encode_utf8_all text)))))
        ∙ ask_sends s.default_timeout (full_wire (encode_utf8_all text)) (next_query s (past_of s h))
        (values_from (handing_of (past_of s h)).next (handing_of (past_of s h)).handed (get_request (next_query s (past_of s h)) (encode_utf8_all text) asking) (met_by_get (live_queryables (past_of s h)) asking (encode_utf8_all text)))

    -- and brings its own session's query, where it meets the queryable
    pub asks_brings : (store : List Write) → answers_to answerer store (effects s h (question text)).effects
        ≡ (if intersects (encode_utf8_all text) keys then answers_of (handing_of (past_of s h)).next (encode_utf8_all text) store else [])
    asks_brings store =
        asked_behind s h (question text) store calm.unshut fine
        ∙ ap (λ (values : List QueryValue). answers_to answerer store (ask_effects s.default_timeout (full_wire (encode_utf8_all text)) (next_query s (past_of s h)) asking values)) drawn_is
        ∙ ask_brings s.default_timeout (full_wire (encode_utf8_all text)) (next_query s (past_of s h)) (handing_of (past_of s h)).next (handing_of (past_of s h)).handed (encode_utf8_all text)
        (intersects (encode_utf8_all text) keys) store

  -- an accepted request, on a key that is sent by its text
  module _ (r : Request) (key : List ℕ) (named : wire_text (past_of s h) r.wire ≡ Some key) (fine : refusal_of s (past_of s h) (Net (request_message r)) ≡ None) where
    abbrev pub their_value : QueryValue
    their_value = value_of (handing_of (past_of s h)).next (handing_of (past_of s h)).handed (network_request key r)

    their_met : met_by_request (live_queryables (past_of s h)) r key ≡ met_if (intersects key keys)
    their_met = ap (λ (rows : List QueryableRow). met_by_request rows r key) calm.rows ∙ met_by_other keys key r

    pub takes_calm : Calm s keys (Net (request_message r) ∷ h) (drawn_if (intersects key keys) their_value)
    takes_calm = record {
      unshut = open_stays s (past_of s h) (Net (request_message r)) (request_stays r) calm.unshut;
      rows = rows_stay s (past_of s h) (Net (request_message r)) (request_stays r) ∙ calm.rows;
      values =
          ap (λ (h : Handing). h.values) (handing_behind s h (Net (request_message r)) calm.unshut fine 0 tt
          ∙ ap (λ (o : Option (List ℕ)). handing_next (live_queryables (past_of s h)) NoGet (Requested r) None o (handing_of (past_of s h))) named)
          ∙ ap (λ (met : List ℕ). (with_handed (network_request key r) met (handing_of (past_of s h))).values) their_met
          ∙ handed_if (intersects key keys) (network_request key r) (handing_of (past_of s h)) calm.values;
    }

    pub takes_asking : (n : ℕ) (at : Option OpenGet) (number : ℕ) → Asking s h n at number → Asking s (Net (request_message r) ∷ h) n at number
    takes_asking n at number before = record {
      get = ap (get_at n) (gets_behind s h (Net (request_message r)) calm.unshut fine refl) ∙ before.get;
      next = ap (next_query s) (joins s h (Net (request_message r)) calm.unshut fine) ∙ before.next;
    }

    their_drawn : values_from (handing_of (past_of s h)).next (handing_of (past_of s h)).handed (network_request key r) (met_by_request (live_queryables (past_of s h)) r key)
        ≡ drawn_if (intersects key keys) their_value
    their_drawn =
        ap (values_from (handing_of (past_of s h)).next (handing_of (past_of s h)).handed (network_request key r)) their_met
        ∙ from_if (intersects key keys) (network_request key r) (handing_of (past_of s h))

    -- where it meets no queryable its final is sent at once
    pub takes_sends : messages_of (effects s h (Net (request_message r))).effects ≡ (if intersects key keys then [] else ResponseFinal r.rid ∷ [])
    takes_sends =
        sent_behind s h (Net (request_message r)) calm.unshut fine
        ∙ ap (λ (o : Option (List ℕ)). told_by_event (known_of s (past_of s h)) None o (Net (request_message r))) named
        ∙ nothing_more (messages_of (requested_effects r.rid
        (values_from (handing_of (past_of s h)).next (handing_of (past_of s h)).handed (network_request key r) (met_by_request (live_queryables (past_of s h)) r key))))
        ∙ ap (λ (values : List QueryValue). messages_of (requested_effects r.rid values)) their_drawn
        ∙ request_sends r.rid (handing_of (past_of s h)).next (handing_of (past_of s h)).handed (network_request key r) (intersects key keys)

    pub takes_brings : (store : List Write) → answers_to answerer store (effects s h (Net (request_message r))).effects
        ≡ (if intersects key keys then answers_of (handing_of (past_of s h)).next key store else [])
    takes_brings store =
        asked_behind s h (Net (request_message r)) store calm.unshut fine
        ∙ ap (λ (o : Option (List ℕ)). answers_to answerer store (effects_on (known_of s (past_of s h)) None o (Net (request_message r)))) named
        ∙ ap (λ (values : List QueryValue). answers_to answerer store (requested_effects r.rid values)) their_drawn
        ∙ request_brings r.rid (handing_of (past_of s h)).next (handing_of (past_of s h)).handed (network_request key r) (intersects key keys) store
