-- Each message of an event is read as the text of its key by a receiver that knows the numbers.
use Rattle.std.proofs.Common.{◌≡◌, ◌≤◌, ℕ, List, [], ◌∷◌, ◌++◌, Bool, true, false, Option, Some, None, refl, sym, ◌∙◌, ap, subst, arith, length, take, drop, map}
use Rattle.std.specs.Prelude.{◌==◌, ◌&&◌, not, unwrap_or, option_map, chars, if◌then◌else◌, encode_utf8_all, IsUtf8}
use Rattle.std.specs.Option.{IfSome}
use Rattle.std.specs.List.{starts_with, find, AllByRecursion}
use Rattle.std.proofs.lemmas.Bool.{eqb-true}
use Rattle.std.proofs.lemmas.Bool.Decides.{Decides-eqb}
use Rattle.std.proofs.lemmas.Slice.Eq.{starts_is}
use Rattle.std.proofs.lemmas.Str.{encodes-chars, IsUtf8-drop, IsCharBoundary-from_take}
use Rattle.std.proofs.lemmas.List.{length-append}
use Rattle.std.proofs.Math.Seq.{take-append_seam}
use mathlib.Core.List.{append-nil}
use Rattle.zs_keys.specs.Key.{Key as a_key}
use Rattle.zs_keys.specs.declared.declaration.Declared.{Declared}
use Rattle.zs_wire.specs.declared.message.Message.{Message}
use Rattle.zs_wire.specs.declared.message.Message.TheVariants.{DeclareKeyExpr, Request as request_message, Response as response_message, ResponseFinal}
use Rattle.zs_keys.specs.Matching.{includes}
use Rattle.zs_subscriptions.specs.Recipients.{has_network}
use Rattle.zs_wire.specs.declared.wire_expr.WireExpr.{WireExpr}
use Rattle.zs_subscriptions.specs.Numbers.{key_at}
use Rattle.zs_events.specs.declared.event.Event.{Event}
use Rattle.zs_events.specs.declared.event.Event.TheVariants.{Net, ReplyErr}
use Rattle.zs_events.specs.declared.key_arg.KeyArg.{KeyArg}
use Rattle.zs_events.specs.declared.turn.Effect.TheVariants.{Send}
use Rattle.zs_events.specs.Kinds.{NamedKey, Question, ToGets, NoGet, Asks, AsksBy, Answers, EndsSide, Reaches, EndsQuerier, Cancels, EndsAll, ToValues, NoValue, Requested, AnswersBy, AnswersError, SharesValue, GivesBack, message_row, row_of}
use Rattle.zs_wire.specs.declared.body.Value.{Value}
use Rattle.zs_wire.specs.declared.response.Answered.TheVariants.{Reply, Err as Error}
use Rattle.zs_query.specs.declared.side.Side.TheVariants.{Local}
use Rattle.zs_query.specs.Types.{QueryValue, RequestRow, Finished, Unknown, MoreLeft, Last}
use Rattle.zs_query.specs.Unfinished.{value_at, finished}
use Rattle.zs_query.specs.Gets.{get_at, peek_at, final_outcome}
use Rattle.zs_model.specs.Questions.{request_of}
use Rattle.zs_model.specs.GetEffects.{hand_query, end_get, request_sends, ask_effects, final_effects, asked_effects, request_effects}
use Rattle.zs_model.specs.Answers.{quality_of, local_reply, local_error, response_by}
use Rattle.zs_model.specs.ValueEffects.{Answering, error_effects, replied_effects, answer_effects, answer_error_effects, finish_effects, value_effects}
use Rattle.zs_model.specs.declared.settings.Settings.{Settings}
use Rattle.zs_world.specs.World.{World}
use Rattle.zs_model.specs.Groups.{aggregate_of, share_text}
use Rattle.zs_model.specs.Sends.{has_front, goes_by_number, full_wire, number_wire, wire_form, declared_by, declaration_of, group_wire, push_with, sends_of}
use Rattle.zs_model.specs.Effects.{to_gets_for, draws_of, answering, key_wire, entity_sends}
use Rattle.zs_world.specs.Decisions.{own_keys_at, known_at}
use Rattle.zs_model.specs.Received.{messages_of, sent_behind, number_text, read_as, spoken_by, AreReadAs, AreSpelled}
use Rattle.zs_laws.proofs.SentMessages.{messages_append, told_beside, no_messages_in_reply, no_messages_in_final, no_messages_in_queries, no_messages_in_error, value_cases, asked_by, answered_by, told_by_event}
use Rattle.zs_laws.proofs.Sends.{Announced, ASubscriber, APublisher, announcement, aggregates_for, announced_wire, Retracted, OfSubscriber, retraction, announced, entity_cases, sends_alone, sends_cases}
use Rattle.zs_events.specs.declared.turn.Effect.{Effect}

-- what a receiver of these messages knows of numbers is what the table has, and its texts are UTF-8
pub record IsTold (w : World) (before : List Message) : Type 0 where
  pub numbers : (n : ℕ) → number_text n before ≡ option_map (λ (key : a_key). key.text) (key_at n w.keys.local_resources)
  pub spelled : (n : ℕ) (key : a_key) → key_at n w.keys.local_resources ≡ Some key → IsUtf8 key.text

-- a text that begins with a front is the front and what stands behind it
pub front_and_rest : (text front : List ℕ) → starts_with (λ a b. a == b) text front ≡ true → text ≡ front ++ drop (length front) text
front_and_rest text front starts = (starts_is Decides-eqb text front (starts_with (λ a b. a == b) text front) refl).0 starts

-- a key in full is read as its text
pub full_read : (text : List ℕ) (before : List Message) → IsUtf8 text → read_as before (full_wire text) ≡ Some text
full_read text before utf8 = ap (λ (t : List ℕ). Some t) (encodes-chars text utf8)

-- what goes by its number is read as its text
pub number_read : (w : World) (text : List ℕ) (d : Declared) (before : List Message) → IsTold w before → IsUtf8 text → goes_by_number (own_keys_at w) text d ≡ true
    → read_as before (number_wire text d) ≡ Some text
number_read w text d before told utf8 goes =
    by (d.tag == w.settings.tag) (d.number == 0) refl (key_at d.number w.keys.local_resources) refl goes
  where
    held : (key : a_key) → key_at d.number w.keys.local_resources ≡ Some key → (n : Bool) → length key.text ≡ d.prefix_len → starts_with (λ a b. a == b) text key.text ≡ true
        → (if false then Some (encode_utf8_all (chars (drop d.prefix_len text))) else option_map (λ (t : List ℕ). t ++ encode_utf8_all (chars (drop d.prefix_len text))) (number_text d.number before)) ≡ Some text
    held key at n long starts =
        let knows : number_text d.number before ≡ Some key.text = told.numbers d.number ∙ ap (option_map (λ (key : a_key). key.text)) at in
        let split : text ≡ key.text ++ drop (length key.text) text = front_and_rest text key.text starts in
        let within : length key.text ≤ length text = omega (arith, ap length split, length-append key.text (drop (length key.text) text)) in
        let front : take (length key.text) text ≡ key.text = ap (take (length key.text)) split ∙ take-append_seam key.text (drop (length key.text) text) in
        let back : IsUtf8 (drop (length key.text) text) =
        IsUtf8-drop text (length key.text) utf8 (IsCharBoundary-from_take text (length key.text) utf8 within (subst IsUtf8 (sym front) (told.spelled d.number key at))) in
        let rest : encode_utf8_all (chars (drop d.prefix_len text)) ≡ drop (length key.text) text =
        ap (λ (i : ℕ). encode_utf8_all (chars (drop i text))) (sym long) ∙ encodes-chars (drop (length key.text) text) back in
        ap (option_map (λ (t : List ℕ). t ++ encode_utf8_all (chars (drop d.prefix_len text)))) knows
        ∙ ap (λ (t : List ℕ). Some (key.text ++ t)) rest ∙ ap (λ (t : List ℕ). Some t) (sym split)

    by_front : (key : a_key) → key_at d.number w.keys.local_resources ≡ Some key → (l s : Bool) → (length key.text == d.prefix_len) ≡ l → starts_with (λ a b. a == b) text key.text ≡ s
        → (l && s) ≡ true
        → (if false then Some (encode_utf8_all (chars (drop d.prefix_len text))) else option_map (λ (t : List ℕ). t ++ encode_utf8_all (chars (drop d.prefix_len text))) (number_text d.number before)) ≡ Some text
    by_front key at true true long starts both = held key at true (eqb-true (length key.text) d.prefix_len long) starts
    by_front key at true false long starts both = cc
    by_front key at false s long starts both = cc

    by : (t n : Bool) → (d.number == 0) ≡ n → (o : Option a_key) → key_at d.number w.keys.local_resources ≡ o
        → (t && not n && has_front text d.prefix_len (option_map (λ (key : a_key). key.text) o)) ≡ true
        → (if n then Some (encode_utf8_all (chars (drop d.prefix_len text))) else option_map (λ (t : List ℕ). t ++ encode_utf8_all (chars (drop d.prefix_len text))) (number_text d.number before)) ≡ Some text
    by true false z (Some key) at goes = by_front key at (length key.text == d.prefix_len) (starts_with (λ a b. a == b) text key.text) refl refl goes
    by true false z None at goes = cc
    by true true z o at goes = cc
    by false n z o at goes = cc

-- so the form that a message gives a key is read as its text
pub form_read : (w : World) (text : List ℕ) (declaration : Option Declared) (before : List Message) → IsTold w before → IsUtf8 text
    → read_as before (wire_form (own_keys_at w) text declaration) ≡ Some text
form_read w text None before told utf8 = full_read text before utf8
form_read w text (Some d) before told utf8 = go (goes_by_number (own_keys_at w) text d) refl
  where
    go : (b : Bool) → goes_by_number (own_keys_at w) text d ≡ b → read_as before (if b then number_wire text d else full_wire text) ≡ Some text
    go true goes = number_read w text d before told utf8 goes
    go false goes = full_read text before utf8

-- what a get sends: its request, or nothing
pub request_cases : (P : List Message → Type 0) → P [] → (default : ℕ) (wire : WireExpr) (number : ℕ) (q : Question) (values : List QueryValue)
    → P (request_message (request_of default wire number q) ∷ []) → P (messages_of (ask_effects default wire number q values))
request_cases P none default wire number q [] request = go (has_network q.settings.destination)
  where
    go : (b : Bool) → P (messages_of (if b then Send (request_message (request_of default wire number q)) ∷ [] else end_get number ∷ []))
    go true = request
    go false = none
request_cases P none default wire number q (v ∷ values) request = subst P (sym all) (go (has_network q.settings.destination))
  where
    all : messages_of (request_sends default wire number q ++ map hand_query (v ∷ values)) ≡ messages_of (request_sends default wire number q)
    all =
        messages_append (request_sends default wire number q) (map hand_query (v ∷ values))
        ∙ ap (λ (ms : List Message). messages_of (request_sends default wire number q) ++ ms) (no_messages_in_queries (v ∷ values))
        ∙ append-nil (messages_of (request_sends default wire number q))

    go : (b : Bool) → P (messages_of (if b then Send (request_message (request_of default wire number q)) ∷ [] else []))
    go true = request
    go false = none

-- and so is a request
pub request_read : (w : World) (key : NamedKey) (values : List QueryValue) (number : Option ℕ) (text : Option (List ℕ)) (q : Question) (before : List Message) → IsTold w before → IfSome text IsUtf8
    → AreReadAs w.settings text before (messages_of (asked_effects w.settings.default_timeout (own_keys_at w) key values number text q))
request_read w key values None None q before told utf8 = tt
request_read w key values None (Some text) q before told utf8 = tt
request_read w key values (Some number) None q before told utf8 = tt
request_read w key values (Some number) (Some text) q before told utf8 =
    request_cases (AreReadAs w.settings (Some text) before) tt w.settings.default_timeout (wire_form (own_keys_at w) text (declaration_of (own_keys_at w) text key)) number q values
    (form_read w text (declaration_of (own_keys_at w) text key) before told utf8, tt)

pub sends_read : (w : World) (number : Option ℕ) (text : Option (List ℕ)) (e : Event) (before : List Message) → IsTold w before → IfSome text IsUtf8
    → AreReadAs w.settings text before (messages_of (sends_of (own_keys_at w) w.entities.pubs number text e))
sends_read w number text e before told utf8 =
    sends_cases (λ fx. AreReadAs w.settings text before (messages_of fx)) tt (own_keys_at w) w.entities.pubs number text e
    (λ n t drew named. so t named (DeclareKeyExpr n (full_wire t)) (full_read t before (spelled t named), tt)) (λ n. (tt, tt)) (tt, tt)
    (λ t c named is sent. so t named (push_with (wire t) c) (form_read w t (declaration_of (own_keys_at w) t (row_of e).key) before told (spelled t named), tt))
  where
    wire : List ℕ → WireExpr
    wire t = wire_form (own_keys_at w) t (declaration_of (own_keys_at w) t (row_of e).key)

    spelled : (t : List ℕ) → text ≡ Some t → IsUtf8 t
    spelled t named = subst (λ (o : Option (List ℕ)). IfSome o IsUtf8) named utf8

    so : (t : List ℕ) → text ≡ Some t → (m : Message) → AreReadAs w.settings (Some t) before (m ∷ []) → AreReadAs w.settings text before (m ∷ [])
    so t named m read = subst (λ (o : Option (List ℕ)). AreReadAs w.settings o before (m ∷ [])) (sym named) read

-- what holds of each element holds of one that is found
pub found_one : (P : a_key → Type 0) (p : a_key → Bool) (keys : List a_key) (key : a_key) → AllByRecursion P keys → find p keys ≡ Some key → P key
found_one P p [] key all found = cc
found_one P p (k ∷ keys) key all found = go (p k) found (found_one P p keys key all.1)
  where
    go : (b : Bool) → (if b then Some k else find p keys) ≡ Some key → (find p keys ≡ Some key → P key) → P key
    go true found ih = let same : k ≡ key = cc in subst P same all.0
    go false found ih = ih found

-- the declaration of a group is read as the text that the group shares
pub group_read : (w : World) (aggregates : List a_key) (text : List ℕ) (key : KeyArg) (before : List Message) → IsTold w before → AllByRecursion (λ a. IsUtf8 a.text) aggregates → IsUtf8 text
    → read_as before (group_wire aggregates text (key_wire (own_keys_at w) text key)) ≡ Some (share_text aggregates text)
group_read w aggregates text key before told spelled utf8 = go (aggregate_of aggregates text) refl
  where
    go : (o : Option a_key) → aggregate_of aggregates text ≡ o
        → read_as before (unwrap_or (option_map (λ a. full_wire a.text) o) (key_wire (own_keys_at w) text key)) ≡ Some (unwrap_or (option_map (λ (a : a_key). a.text) o) text)
    go None found = form_read w text (declared_by (own_keys_at w) text key) before told utf8
    go (Some a) found = full_read a.text before (found_one (λ (k : a_key). IsUtf8 k.text) (λ a. includes a.text text) aggregates a spelled found)

-- what an event announces is read as the text that its key shares
announced_read : (w : World) (what : Announced) (id : ℕ) (t : List ℕ) (wire : WireExpr) (before : List Message) → read_as before wire ≡ Some (share_text (aggregates_for (known_at w) what) t)
    → AreReadAs w.settings (Some t) before (announcement what id wire ∷ [])
announced_read w ASubscriber id t wire before is = (is, tt)
announced_read w what id t wire before is = (is, tt)

retracted_read : (w : World) (what : Retracted) (id : ℕ) (text : Option (List ℕ)) (before : List Message) → AreReadAs w.settings text before (retraction what id ∷ [])
retracted_read w OfSubscriber id text before = (tt, tt)
retracted_read w what id text before = (tt, tt)

spelled_for : (w : World) (what : Announced) → AreSpelled w.settings → AllByRecursion (λ a. IsUtf8 a.text) (aggregates_for (known_at w) what)
spelled_for w ASubscriber spelled = spelled.0
spelled_for w APublisher spelled = spelled.1
spelled_for w what spelled = tt

pub groups_read : (w : World) (number : Option ℕ) (text : Option (List ℕ)) (e : Event) (before : List Message) → IsTold w before → AreSpelled w.settings → IfSome text IsUtf8
    → AreReadAs w.settings text (sent_behind (messages_of (sends_of (own_keys_at w) w.entities.pubs number text e)) before) (messages_of (entity_sends (known_at w) e number text))
groups_read w number text e before told spelled utf8 =
    entity_cases (λ fx. AreReadAs w.settings text (sent_behind (messages_of sends) before) (messages_of fx)) tt (known_at w) e number text begun
    (λ what id is. retracted_read w what id text (sent_behind (messages_of sends) before))
  where
    sends : List Effect
    sends = sends_of (own_keys_at w) w.entities.pubs number text e

    begun : (what : Announced) (id : ℕ) (t : List ℕ) (key : KeyArg) → announced e ≡ Some what → text ≡ Some t
        → AreReadAs w.settings text (sent_behind (messages_of sends) before) (announcement what id (announced_wire (known_at w) what t key) ∷ [])
    begun what id t key is named =
        let wire = announced_wire (known_at w) what t key in
        let read = group_read w (aggregates_for (known_at w) what) t key before told (spelled_for w what spelled) (subst (λ (o : Option (List ℕ)). IfSome o IsUtf8) named utf8) in
        subst (λ (fx : List Effect). AreReadAs w.settings text (sent_behind (messages_of fx) before) (announcement what id wire ∷ [])) (sym (sends_alone (own_keys_at w) w.entities.pubs number text e what is))
        (subst (λ (o : Option (List ℕ)). AreReadAs w.settings o before (announcement what id wire ∷ [])) (sym named) (announced_read w what id t wire before read))

pub both_read : (s : Settings) (text : Option (List ℕ)) (before xs ys : List Message) → AreReadAs s text before xs → AreReadAs s text (sent_behind xs before) ys → AreReadAs s text before (xs ++ ys)
both_read s text before [] ys front back = back
both_read s text before (x ∷ xs) ys front back = (front.0, both_read s text (x ∷ before) xs ys front.1 back)

-- a request tells no number
pub request_tells : (w : World) (key : NamedKey) (values : List QueryValue) (number : Option ℕ) (text : Option (List ℕ)) (q : Question) (before : List Message) (n : ℕ)
    → number_text n (sent_behind (messages_of (asked_effects w.settings.default_timeout (own_keys_at w) key values number text q)) before) ≡ number_text n before
request_tells w key values None None q before n = refl
request_tells w key values None (Some text) q before n = refl
request_tells w key values (Some number) None q before n = refl
request_tells w key values (Some number) (Some text) q before n =
    request_cases (λ (ms : List Message). number_text n (sent_behind ms before) ≡ number_text n before) refl w.settings.default_timeout _ number q values refl

-- the request of a get is read, and told, whatever the event is
pub asks_read : (w : World) (key : NamedKey) (values : List QueryValue) (number : Option ℕ) (text : Option (List ℕ)) (to : ToGets) (before : List Message) → IsTold w before → IfSome text IsUtf8
    → AreReadAs w.settings text before (messages_of (request_effects w.settings.default_timeout (own_keys_at w) key values number text to))
asks_read w key values number text (Asks q) before told utf8 = request_read w key values number text q before told utf8
asks_read w key values number text NoGet before told utf8 = tt
asks_read w key values number text (AsksBy id q) before told utf8 = tt
asks_read w key values number text (EndsQuerier id) before told utf8 = tt
asks_read w key values number text (Cancels token) before told utf8 = tt
asks_read w key values number text (Answers response) before told utf8 = tt
asks_read w key values number text (EndsSide rid) before told utf8 = tt
asks_read w key values number text (Reaches moment) before told utf8 = tt
asks_read w key values number text EndsAll before told utf8 = tt

pub asks_told : (w : World) (key : NamedKey) (values : List QueryValue) (number : Option ℕ) (text : Option (List ℕ)) (to : ToGets) (before : List Message) → IsTold w before
    → IsTold w (sent_behind (messages_of (request_effects w.settings.default_timeout (own_keys_at w) key values number text to)) before)
asks_told w key values number text (Asks q) before told = record { numbers = λ n. request_tells w key values number text q before n ∙ told.numbers n; spelled = told.spelled }
asks_told w key values number text NoGet before told = told
asks_told w key values number text (AsksBy id q) before told = told
asks_told w key values number text (EndsQuerier id) before told = told
asks_told w key values number text (Cancels token) before told = told
asks_told w key values number text (Answers response) before told = told
asks_told w key values number text (EndsSide rid) before told = told
asks_told w key values number text (Reaches moment) before told = told
asks_told w key values number text EndsAll before told = told

-- an answer tells no number
pub answers_told : (w : World) (a : Answering) (key : NamedKey) (drawn : List QueryValue) (text : Option (List ℕ)) (to : ToValues) (before : List Message) → IsTold w before
    → IsTold w (sent_behind (messages_of (value_effects a key drawn text to)) before)
answers_told w a key drawn text to before told = record {
  numbers = λ n. value_cases (λ (ms : List Message). number_text n (sent_behind ms before) ≡ number_text n before) refl (λ r. refl) (λ rid. refl) a key drawn text to ∙ told.numbers n;
  spelled = told.spelled;
}

-- whether an answer is an error
abbrev pub is_error : ToValues → Bool
is_error (AnswersError value error) = true
is_error to = false

-- any other answer is read as the text of its key
pub answers_read : (w : World) (key : NamedKey) (drawn : List QueryValue) (text : Option (List ℕ)) (to : ToValues) (before : List Message) → is_error to ≡ false → IsTold w before → IfSome text IsUtf8
    → AreReadAs w.settings text before (messages_of (value_effects (answering (known_at w)) key drawn text to))
answers_read w key drawn text NoValue before plain told utf8 = tt
answers_read w key [] text (Requested request) before plain told utf8 = (tt, tt)
answers_read w key (v ∷ drawn) text (Requested request) before plain told utf8 = subst (AreReadAs w.settings text before) (sym (no_messages_in_queries (v ∷ drawn))) tt
answers_read w key drawn text (AnswersBy value body quality) before plain told utf8 = go (value_at value w.handing.values) text utf8
  where
    by : (v : QueryValue) (text : List ℕ) → IsUtf8 text → (b : Bool)
        → AreReadAs w.settings (Some text) before (messages_of (if b then replied_effects w.asking.gets v.row.rid (local_reply w.settings.zid v.queryable v.row quality body text)
        else Send (response_message (response_by w.settings.zid v.queryable v.row.rid (wire_form (own_keys_at w) text (declaration_of (own_keys_at w) text key)) (quality_of quality v.row.qos) (Reply body))) ∷ []))
    by v text utf8 true =
        subst (AreReadAs w.settings (Some text) before) (sym (no_messages_in_reply (peek_at (get_at v.row.rid w.asking.gets) (local_reply w.settings.zid v.queryable v.row quality body text)) v.row.rid (local_reply w.settings.zid v.queryable v.row quality body text))) tt
    by v text utf8 false = (form_read w text (declaration_of (own_keys_at w) text key) before told utf8, tt)

    go : (o : Option QueryValue) (text : Option (List ℕ)) → IfSome text IsUtf8
        → AreReadAs w.settings text before (messages_of (answer_effects (answering (known_at w)) key o quality body text))
    go None text utf8 = tt
    go (Some v) None utf8 = tt
    go (Some v) (Some text) utf8 = by v text utf8 v.row.local
answers_read w key drawn text (AnswersError value error) before plain told utf8 = cc
answers_read w key drawn text (SharesValue value) before plain told utf8 = tt
answers_read w key drawn text (GivesBack value) before plain told utf8 = go (finished (value_at value w.handing.values) w.handing.values)
  where
    by : (row : RequestRow) (b : Bool)
        → AreReadAs w.settings text before (messages_of (if b then final_effects row.rid (final_outcome Local (get_at row.rid w.asking.gets)) else Send (ResponseFinal row.rid) ∷ []))
    by row true = subst (AreReadAs w.settings text before) (sym (no_messages_in_final row.rid (final_outcome Local (get_at row.rid w.asking.gets)))) tt
    by row false = (tt, tt)

    go : (f : Finished) → AreReadAs w.settings text before (messages_of (finish_effects w.asking.gets f))
    go Unknown = tt
    go MoreLeft = tt
    go (Last row) = by row row.local

-- an error is read as the text of its query's key
pub error_read : (w : World) (o : Option QueryValue) (error : Value) (before : List Message) → IfSome (option_map (λ (v : QueryValue). v.row.key.text) o) IsUtf8
    → AreReadAs w.settings (option_map (λ (v : QueryValue). v.row.key.text) o) before (messages_of (answer_error_effects (answering (known_at w)) o error))
error_read w None error before utf8 = tt
error_read w (Some v) error before utf8 = go v.row.local
  where
    go : (b : Bool)
        → AreReadAs w.settings (Some v.row.key.text) before (messages_of (if b then error_effects (get_at v.row.rid w.asking.gets) v.row.rid (local_error w.settings.zid v.queryable error)
        else Send (response_message (response_by w.settings.zid v.queryable v.row.rid (full_wire v.row.key.text) v.row.qos (Error error))) ∷ []))
    go true =
        subst (AreReadAs w.settings (Some v.row.key.text) before)
        (sym (no_messages_in_error (get_at v.row.rid w.asking.gets) v.row.rid (local_error w.settings.zid v.queryable error))) tt
    go false = (full_read v.row.key.text before utf8, tt)

pub plain_read : (w : World) (number : Option ℕ) (text : Option (List ℕ)) (e : Event) (before : List Message) → is_error (row_of e).to_values ≡ false → IsTold w before → AreSpelled w.settings → IfSome text IsUtf8
    → AreReadAs w.settings text before (told_by_event (known_at w) number text e)
plain_read w number text e before plain told spelled utf8 =
    let drawn = draws_of (known_at w) number text e in
    let asked = asked_by (known_at w) number text e in
    let answered = answered_by (known_at w) number text e in
    let behind : IsTold w (sent_behind asked before) = asks_told w (row_of e).key drawn number text (to_gets_for (known_at w) e) before told in
    let last : IsTold w (sent_behind answered (sent_behind asked before)) =
    answers_told w (answering (known_at w)) (row_of e).key drawn text (row_of e).to_values (sent_behind asked before) behind in
    both_read w.settings text before asked (answered ++ told_beside (known_at w) number text e)
    (asks_read w (row_of e).key drawn number text (to_gets_for (known_at w) e) before told utf8)
    (both_read w.settings text (sent_behind asked before) answered (told_beside (known_at w) number text e)
    (answers_read w (row_of e).key drawn text (row_of e).to_values (sent_behind asked before) plain behind utf8)
    (both_read w.settings text (sent_behind answered (sent_behind asked before)) (messages_of (sends_of (own_keys_at w) w.entities.pubs number text e)) (messages_of (entity_sends (known_at w) e number text))
    (sends_read w number text e (sent_behind answered (sent_behind asked before)) last utf8)
    (groups_read w number text e (sent_behind answered (sent_behind asked before)) last spelled utf8)))

-- what the messages of any event but an error name is its key
pub spoken_plain : (values : List QueryValue) (to : ToValues) (text : Option (List ℕ)) → is_error to ≡ false → spoken_by values to text ≡ text
spoken_plain values NoValue text plain = refl
spoken_plain values (AnswersError value error) text plain = cc
spoken_plain values to text plain = refl

-- no message from the network is an error that this session answers
pub net_error : (message : Message) → is_error (message_row message).to_values ≡ false
net_error (request_message request) = refl
net_error message = refl

pub unless_error : (w : World) (number : Option ℕ) (text : Option (List ℕ)) (e : Event) (before : List Message) → is_error (row_of e).to_values ≡ false → IsTold w before → AreSpelled w.settings → IfSome text IsUtf8
    → AreReadAs w.settings (spoken_by w.handing.values (row_of e).to_values text) before (told_by_event (known_at w) number text e)
unless_error w number text e before plain told spelled utf8 =
    subst (λ (o : Option (List ℕ)). AreReadAs w.settings o before (told_by_event (known_at w) number text e)) (sym (spoken_plain w.handing.values (row_of e).to_values text plain))
    (plain_read w number text e before plain told spelled utf8)

pub event_read : (w : World) (number : Option ℕ) (text : Option (List ℕ)) (e : Event) (before : List Message) → IsTold w before → AreSpelled w.settings → IfSome text IsUtf8
    → IfSome (spoken_by w.handing.values (row_of e).to_values text) IsUtf8
    → AreReadAs w.settings (spoken_by w.handing.values (row_of e).to_values text) before (told_by_event (known_at w) number text e)
event_read w number text (ReplyErr value error) before told spelled utf8 spoken =
    subst (AreReadAs w.settings (option_map (λ (v : QueryValue). v.row.key.text) (value_at value w.handing.values)) before) (sym (append-nil _))
    (error_read w (value_at value w.handing.values) _ before spoken)
event_read w number text (Net message) before told spelled utf8 spoken = unless_error w number text (Net message) before (net_error message) told spelled utf8
event_read w number text e before told spelled utf8 spoken = unless_error w number text e before refl told spelled utf8
