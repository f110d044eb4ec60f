-- What an event hands to the get of a number.
use Rattle.std.proofs.Common.{◌≡◌, ◌<◌, ℕ, List, [], ◌∷◌, ◌++◌, Bool, true, false, Option, Some, None, refl, sym, ◌∙◌, ap, arith, map}
use Rattle.std.specs.Prelude.{◌==◌, ◌&&◌, filter, is_some, if◌then◌else◌}
use Rattle.std.specs.List.{AllByRecursion, flat_map}
use Rattle.std.proofs.lemmas.Bool.{eqb-true}
use mathlib.Core.List.{append-nil}
use Rattle.zs_sample.specs.Reply.{Replied}
use Rattle.zs_wire.specs.declared.body.Body.{Body}
use Rattle.zs_wire.specs.declared.body.Value.{Value}
use Rattle.zs_wire.specs.declared.message.Message.TheVariants.{Request as request_message, Response as response_message, ResponseFinal}
use Rattle.zs_wire.specs.declared.response.Answered.{Answered}
use Rattle.zs_wire.specs.declared.response.Answered.TheVariants.{Reply, Err as Error}
use Rattle.zs_wire.specs.declared.response.Response.{Response}
use Rattle.zs_wire.specs.declared.wire_expr.WireExpr.{WireExpr}
use Rattle.zs_subscriptions.specs.Recipients.{has_network}
use Rattle.zs_tables.specs.LivelinessGets.{numbers_with, over_at}
use Rattle.zs_tables.specs.Types.{LivelinessGet as TokensGet}
use Rattle.zs_query.specs.declared.open_get.OpenGet.{OpenGet}
use Rattle.zs_query.specs.declared.outcome.Outcome.{Outcome}
use Rattle.zs_query.specs.declared.outcome.Outcome.TheVariants as outcome
use Rattle.zs_query.specs.declared.outcome.Peek.{Peek}
use Rattle.zs_query.specs.declared.outcome.Peek.TheVariants as peek
use Rattle.zs_query.specs.Types.{QueryValue, Finished, Unknown, MoreLeft, Last}
use Rattle.zs_query.specs.declared.side.Side.{Side}
use Rattle.zs_query.specs.declared.side.Side.TheVariants.{Local, Network}
use Rattle.zs_query.specs.Ascending.{Ascend}
use Rattle.zs_query.specs.Asked.{News, Quiet, ReplyTo, FinalOf, AtMoment, QuerierEnds, CancelledBy, AllEnd}
use Rattle.zs_query.specs.Gets.{get_at, peek_at, final_outcome, is_due, end_of, ends_at, timeout_error}
use Rattle.zs_query.specs.Unfinished.{value_at, finished}
use Rattle.zs_query.proofs.Ascending.{all_weaker}
use Rattle.zs_events.specs.declared.event.Event.{Event}
use Rattle.zs_events.specs.declared.event.Event.TheVariants.{Undeclare, Close, Net, Get, QuerierGet, Cancel, Tick, Reply as reply_event, ReplyErr, Finish, Share}
use Rattle.zs_events.specs.declared.entity_kind.EntityKind.TheVariants.{Querier as querier_sort}
use Rattle.zs_events.specs.declared.publication.ReplyQuality.{ReplyQuality}
use Rattle.zs_events.specs.declared.turn.Effect.{Effect}
use Rattle.zs_events.specs.declared.turn.Effect.TheVariants.{Send}
use Rattle.zs_events.specs.Kinds.{NamedKey, OwnKey, QuerierKey, Question, NoValue, row_of}
use Rattle.zs_model.specs.declared.querier.QuerierRow.{QuerierRow}
use Rattle.zs_model.specs.Answers.{quality_of, local_reply, local_error, response_by, news_of_reply, news_of_finished}
use Rattle.zs_model.specs.GetEffects.{hand_reply, hand_query, end_get, last_hands, reply_effects, response_effects, final_effects, ends_effects, ended_numbers, cut_effects, ask_effects, asked_effects, request_effects, told_effects, with_gets}
use Rattle.zs_model.specs.Gets.{news_of, sample_reply, error_reply, response_news}
use Rattle.zs_model.specs.LivelinessEffects.{hand_answer, end_asking, cancelled_ends, asking_ends}
use Rattle.zs_model.specs.Queriers.{querier_at, question_of, asks_of}
use Rattle.zs_model.specs.Questions.{request_of}
use Rattle.zs_model.specs.Sends.{full_wire, wire_form, declaration_of}
use Rattle.zs_model.specs.Values.{drawn_by}
use Rattle.zs_model.specs.ValueEffects.{Answering, requested_effects, replied_effects, answer_effects, answer_error_effects, finish_effects}
use Rattle.zs_model.specs.Effects.{Known, to_gets_for, answering, draws_of, effects_on}
use Rattle.zs_laws.specs.Handed.{handed_at, handed_to, error_of, error_by, errors_by}
use Rattle.zs_laws.proofs.Around.{Around, others_of, others_around}
use Rattle.zs_laws.proofs.Picking.{any_all}

pub handed_append : (n : ℕ) (xs ys : List Effect) → handed_to n (xs ++ ys) ≡ handed_to n xs ++ handed_to n ys
handed_append n [] ys = refl
handed_append n (x ∷ xs) ys = ap (λ (rest : List Replied). handed_at n x ++ rest) (handed_append n xs ys) ∙ sym (three (handed_at n x) (handed_to n xs) (handed_to n ys))
  where
    three : (xs ys zs : List Replied) → (xs ++ ys) ++ zs ≡ xs ++ (ys ++ zs)
    three [] ys zs = refl
    three (x ∷ xs) ys zs = ap (λ (rest : List Replied). x ∷ rest) (three xs ys zs)

pub handed_none : (n : ℕ) (xs : List Effect) → AllByRecursion (λ x. handed_at n x ≡ []) xs → handed_to n xs ≡ []
handed_none n [] all = refl
handed_none n (x ∷ xs) all = ap (λ (front : List Replied). front ++ handed_to n xs) all.0 ∙ handed_none n xs all.1

handed_behind : (n : ℕ) (xs ys : List Effect) → handed_to n xs ≡ [] → handed_to n (xs ++ ys) ≡ handed_to n ys
handed_behind n xs ys none = handed_append n xs ys ∙ ap (λ (rs : List Replied). rs ++ handed_to n ys) none

handed_before : (n : ℕ) (xs ys : List Effect) → handed_to n ys ≡ [] → handed_to n (xs ++ ys) ≡ handed_to n xs
handed_before n xs ys none = handed_append n xs ys ∙ ap (λ (rs : List Replied). handed_to n xs ++ rs) none ∙ append-nil (handed_to n xs)

-- what gets are told beside is no reply to them
no_reply_around : (n : ℕ) (known : Known) (e : Event) (number : Option ℕ) → Around known e number (λ x. handed_at n x ≡ [])
no_reply_around n known e number = record {
  sent = λ m. refl;
  sub = any_all _ (λ row sample. refl) known.subs;
  sub_end = any_all _ (λ row. refl) known.subs;
  queryable_end = any_all _ (λ row. refl) known.queryables;
  lsub = any_all _ (λ row sample. refl) known.watch.subs;
  lsub_end = any_all _ (λ row. refl) known.watch.subs;
  own = λ history same id is sample. refl;
  asking = any_all _ (λ g m same reply. refl) known.watch.gets;
  asking_end = λ k is. any_all _ (λ g m same. refl) known.watch.gets;
  ended_sub = λ id is. refl;
  ended_queryable = λ id is. refl;
  ended_lsub = λ id is. refl;
}

others_hand_none : (n : ℕ) (known : Known) (number : Option ℕ) (text : Option (List ℕ)) (e : Event) → handed_to n (others_of known number text e) ≡ []
others_hand_none n known number text e = handed_none n (others_of known number text e) (others_around (λ x. handed_at n x ≡ []) known number text e (no_reply_around n known e number))

ends_hand_none : (n : ℕ) (ns : List ℕ) → handed_to n (map end_get ns) ≡ []
ends_hand_none n [] = refl
ends_hand_none n (m ∷ ns) = ends_hand_none n ns

asking_hand_none : (n : ℕ) (ns : List ℕ) → handed_to n (map end_asking ns) ≡ []
asking_hand_none n [] = refl
asking_hand_none n (m ∷ ns) = asking_hand_none n ns

timeouts_hand_none : (n : ℕ) (reply : Replied) (ns : List ℕ) → handed_to n (map (hand_answer reply) ns) ≡ []
timeouts_hand_none n reply [] = refl
timeouts_hand_none n reply (m ∷ ns) = timeouts_hand_none n reply ns

queries_hand_none : (n : ℕ) (values : List QueryValue) → handed_to n (map hand_query values) ≡ []
queries_hand_none n [] = refl
queries_hand_none n (v ∷ values) = queries_hand_none n values

-- replies to one get
replies_handed : (n number : ℕ) (replies : List Replied) → handed_to n (map (hand_reply number) replies) ≡ (if number == n then replies else [])
replies_handed n number [] = go (number == n)
  where
    none : List Replied
    none = []

    go : (b : Bool) → none ≡ (if b then none else none)
    go true = refl
    go false = refl
replies_handed n number (reply ∷ replies) = go (number == n) (replies_handed n number replies)
  where
    go : (b : Bool) → handed_to n (map (hand_reply number) replies) ≡ (if b then replies else [])
        → (if b then reply ∷ [] else []) ++ handed_to n (map (hand_reply number) replies) ≡ (if b then reply ∷ replies else [])
    go true ih = ap (λ (rest : List Replied). reply ∷ rest) ih
    go false ih = ih

-- what the get of a number is handed of news, where it is open or not
abbrev pub peeked : Peek → Replied → List Replied
peeked peek.Handed reply = reply ∷ []
peeked peek.Unknown reply = []
peeked peek.Unmatched reply = []
peeked peek.Kept reply = []
peeked peek.Dropped reply = []

abbrev pub ended_with : Outcome → List Replied
ended_with (outcome.Ended replies) = replies
ended_with outcome.Counted = []
ended_with outcome.Unknown = []
ended_with outcome.Unmatched = []
ended_with outcome.Kept = []
ended_with outcome.Dropped = []
ended_with (outcome.Handed reply) = []
ended_with outcome.Repeated = []

abbrev pub at_end : ℕ → Option OpenGet → List Replied
at_end moment None = []
at_end moment (Some g) = if is_due moment g then g.kept ++ timeout_error ∷ [] else []

abbrev pub given_by : ℕ → List OpenGet → News → List Replied
given_by n gets (ReplyTo number reply) = if number == n then peeked (peek_at (get_at number gets) reply) reply else []
given_by n gets (FinalOf number side) = if number == n then ended_with (final_outcome side (get_at number gets)) else []
given_by n gets (AtMoment moment) = at_end moment (get_at n gets)
given_by n gets Quiet = []
given_by n gets (QuerierEnds id) = []
given_by n gets (CancelledBy token) = []
given_by n gets AllEnd = []

-- a reply
reply_given : (n : ℕ) (gets : List OpenGet) (number : ℕ) (reply : Replied) → handed_to n (reply_effects (peek_at (get_at number gets) reply) number reply) ≡ given_by n gets (ReplyTo number reply)
reply_given n gets number reply = go (number == n) (peek_at (get_at number gets) reply)
  where
    none : List Replied
    none = []

    nothing : (b : Bool) → none ≡ (if b then none else none)
    nothing true = refl
    nothing false = refl

    go : (b : Bool) (p : Peek) → handed_to n (reply_effects p number reply) ≡ (if number == n then peeked p reply else [])
    go b peek.Handed = append-nil (if number == n then reply ∷ [] else [])
    go b peek.Unknown = nothing (number == n)
    go b peek.Unmatched = nothing (number == n)
    go b peek.Kept = nothing (number == n)
    go b peek.Dropped = nothing (number == n)

-- a final
final_given : (n : ℕ) (gets : List OpenGet) (number : ℕ) (side : Side) → handed_to n (final_effects number (final_outcome side (get_at number gets))) ≡ given_by n gets (FinalOf number side)
final_given n gets number side = go (final_outcome side (get_at number gets))
  where
    none : List Replied
    none = []

    nothing : (b : Bool) → none ≡ (if b then none else none)
    nothing true = refl
    nothing false = refl

    go : (out : Outcome) → handed_to n (final_effects number out) ≡ (if number == n then ended_with out else [])
    go (outcome.Ended replies) = handed_before n (map (hand_reply number) replies) (end_get number ∷ []) refl ∙ replies_handed n number replies
    go outcome.Counted = nothing (number == n)
    go outcome.Unknown = nothing (number == n)
    go outcome.Unmatched = nothing (number == n)
    go outcome.Kept = nothing (number == n)
    go outcome.Dropped = nothing (number == n)
    go (outcome.Handed reply) = nothing (number == n)
    go outcome.Repeated = nothing (number == n)

-- a moment
none_due : (n moment : ℕ) (gets : List OpenGet) → AllByRecursion (λ (g : OpenGet). (g.row.number == n) ≡ false) gets → handed_to n (flat_map last_hands (ends_at moment gets)) ≡ []
none_due n moment [] all = refl
none_due n moment (g ∷ gets) all = go (is_due moment g) (none_due n moment gets all.1)
  where
    go : (b : Bool) → handed_to n (flat_map last_hands (ends_at moment gets)) ≡ []
        → handed_to n (flat_map last_hands (map end_of (if b then g ∷ filter (is_due moment) gets else filter (is_due moment) gets))) ≡ []
    go true ih =
        handed_behind n (last_hands (end_of g)) (flat_map last_hands (ends_at moment gets))
        (replies_handed n g.row.number (g.kept ++ timeout_error ∷ []) ∙ ap (λ (b : Bool). if b then g.kept ++ timeout_error ∷ [] else []) all.0)
        ∙ ih
    go false ih = ih

moment_given : (n moment : ℕ) (gets : List OpenGet) → Ascend (λ (g : OpenGet). g.row.number) gets → handed_to n (flat_map last_hands (ends_at moment gets)) ≡ at_end moment (get_at n gets)
moment_given n moment [] up = refl
moment_given n moment (g ∷ gets) up = go (g.row.number == n) refl (is_due moment g) refl (moment_given n moment gets up.1)
  where
    last : List Replied
    last = g.kept ++ timeout_error ∷ []

    others : (g.row.number == n) ≡ true → AllByRecursion (λ (h : OpenGet). (h.row.number == n) ≡ false) gets
    others same =
        all_weaker (λ (h : OpenGet). g.row.number < h.row.number) (λ (h : OpenGet). (h.row.number == n) ≡ false) (λ h less. differ h.row.number less (eqb-true g.row.number n same)) gets up.0
      where
        differ : (m : ℕ) → g.row.number < m → g.row.number ≡ n → (m == n) ≡ false
        differ m less same = go (m == n) refl
          where
            go : (b : Bool) → (m == n) ≡ b → b ≡ false
            go true is = absurd (omega (arith, eqb-true m n is, less, same))
            go false is = refl

    here : (b : Bool) → (g.row.number == n) ≡ b → handed_to n (map (hand_reply g.row.number) (g.kept ++ timeout_error ∷ [])) ≡ (if b then g.kept ++ timeout_error ∷ [] else [])
    here b is = replies_handed n g.row.number (g.kept ++ timeout_error ∷ []) ∙ ap (λ (b : Bool). if b then g.kept ++ timeout_error ∷ [] else []) is

    go : (b : Bool) → (g.row.number == n) ≡ b → (d : Bool) → is_due moment g ≡ d → handed_to n (flat_map last_hands (ends_at moment gets)) ≡ at_end moment (get_at n gets)
        → handed_to n (flat_map last_hands (map end_of (if d then g ∷ filter (is_due moment) gets else filter (is_due moment) gets)))
        ≡ at_end moment (if b then Some g else get_at n gets)
    go true same true due ih =
        handed_before n (last_hands (end_of g)) (flat_map last_hands (ends_at moment gets)) (none_due n moment gets (others same)) ∙ here true same
        ∙ sym (ap (λ (d : Bool). if d then g.kept ++ timeout_error ∷ [] else []) due)
    go true same false due ih = none_due n moment gets (others same) ∙ sym (ap (λ (d : Bool). if d then g.kept ++ timeout_error ∷ [] else []) due)
    go false other true due ih = handed_behind n (last_hands (end_of g)) (flat_map last_hands (ends_at moment gets)) (here false other) ∙ ih
    go false other false due ih = ih

all_given : (n : ℕ) (ends : List (ℕ × List Replied)) (over : List ℕ) → handed_to n (ends_effects ends over) ≡ handed_to n (flat_map last_hands ends)
all_given n ends over =
    let first = flat_map last_hands ends in
    let timeouts = map (hand_answer timeout_error) over in
    let ns = map (λ (end : ℕ × List Replied). end.0) ends in
    handed_before n (first ++ timeouts ++ map end_get ns) (map end_asking over) (asking_hand_none n over)
    ∙ handed_before n (first ++ timeouts) (map end_get ns) (ends_hand_none n ns)
    ∙ handed_before n first timeouts (timeouts_hand_none n timeout_error over)

-- a get that is asked is handed nothing
asking_hands : (n default : ℕ) (wire : WireExpr) (number : ℕ) (q : Question) (values : List QueryValue) → handed_to n (ask_effects default wire number q values) ≡ []
asking_hands n default wire number q [] = go (has_network q.settings.destination)
  where
    go : (b : Bool) → handed_to n (if b then Send (request_message (request_of default wire number q)) ∷ [] else end_get number ∷ []) ≡ []
    go true = refl
    go false = refl
asking_hands n default wire number q (v ∷ values) =
    handed_behind n (if has_network q.settings.destination then Send (request_message (request_of default wire number q)) ∷ [] else []) (map hand_query (v ∷ values)) (sent (has_network q.settings.destination))
    ∙ queries_hand_none n (v ∷ values)
  where
    sent : (b : Bool) → handed_to n (if b then Send (request_message (request_of default wire number q)) ∷ [] else []) ≡ []
    sent true = refl
    sent false = refl

asked_hands : (n : ℕ) (known : Known) (key : NamedKey) (values : List QueryValue) (number : Option ℕ) (text : Option (List ℕ)) (q : Question)
    → handed_to n (asked_effects known.timeout known.keys key values number text q) ≡ []
asked_hands n known key values None text q = refl
asked_hands n known key values (Some number) None q = refl
asked_hands n known key values (Some number) (Some text) q = asking_hands n known.timeout (wire_form known.keys text (declaration_of known.keys text key)) number q values

-- a response
response_given : (n : ℕ) (gets : List OpenGet) (response : Response) (answered : Answered) (text : Option (List ℕ))
    → handed_to n (response_effects gets response answered text) ≡ given_by n gets (response_news response answered text) ++ error_of n response answered
response_given n gets response (Reply body) None = refl
response_given n gets response (Reply body) (Some text) =
    reply_given n gets response.rid (sample_reply text response body) ∙ sym (append-nil (given_by n gets (ReplyTo response.rid (sample_reply text response body))))
response_given n gets response (Error value) text = append-nil (if response.rid == n then error_reply response value ∷ [] else [])

-- an answer
answer_given : (n : ℕ) (a : Answering) (key : NamedKey) (o : Option QueryValue) (quality : ReplyQuality) (body : Body) (text : Option (List ℕ))
    → handed_to n (answer_effects a key o quality body text) ≡ given_by n a.gets (news_of_reply a.zid quality body o text)
answer_given n a key None quality body text = refl
answer_given n a key (Some v) quality body None = refl
answer_given n a key (Some v) quality body (Some text) = go v.row.local
  where
    go : (b : Bool)
        → handed_to n (if b then replied_effects a.gets v.row.rid (local_reply a.zid v.queryable v.row quality body text)
        else Send (response_message (response_by a.zid v.queryable v.row.rid (wire_form a.keys text (declaration_of a.keys text key)) (quality_of quality v.row.qos) (Reply body))) ∷ [])
        ≡ given_by n a.gets (if b then ReplyTo v.row.rid (local_reply a.zid v.queryable v.row quality body text) else Quiet)
    go true = reply_given n a.gets v.row.rid (local_reply a.zid v.queryable v.row quality body text)
    go false = refl

error_given : (n : ℕ) (a : Answering) (o : Option QueryValue) (error : Value) → handed_to n (answer_error_effects a o error) ≡ error_by a.zid a.gets n o error
error_given n a None error = refl
error_given n a (Some v) error = go v.row.local (is_some (get_at v.row.rid a.gets))
  where
    go : (b o : Bool)
        → handed_to n (if b then if o then hand_reply v.row.rid (local_error a.zid v.queryable error) ∷ [] else []
        else Send (response_message (response_by a.zid v.queryable v.row.rid (full_wire v.row.key.text) v.row.qos (Error error))) ∷ [])
        ≡ (if b && o && v.row.rid == n then local_error a.zid v.queryable error ∷ [] else [])
    go true true = append-nil (if v.row.rid == n then local_error a.zid v.queryable error ∷ [] else [])
    go true false = refl
    go false o = refl

finish_given : (n : ℕ) (gets : List OpenGet) (f : Finished) → handed_to n (finish_effects gets f) ≡ given_by n gets (news_of_finished f)
finish_given n gets Unknown = refl
finish_given n gets MoreLeft = refl
finish_given n gets (Last row) = go row.local
  where
    go : (b : Bool)
        → handed_to n (if b then final_effects row.rid (final_outcome Local (get_at row.rid gets)) else Send (ResponseFinal row.rid) ∷ [])
        ≡ given_by n gets (if b then FinalOf row.rid Local else Quiet)
    go true = final_given n gets row.rid Local
    go false = refl

requested_given : (n rid : ℕ) (drawn : List QueryValue) → handed_to n (requested_effects rid drawn) ≡ []
requested_given n rid [] = refl
requested_given n rid (v ∷ drawn) = queries_hand_none n (v ∷ drawn)

-- what an event hands to the get of a number
abbrev pub GivenTo : ℕ → Known → Event → Option ℕ → Option (List ℕ) → Type 0
GivenTo n known e number text =
    handed_to n (effects_on known number text e)
    ≡ given_by n known.gets (news_of known.zid known.handing.values (to_gets_for known e) (row_of e).to_values text)
    ++ errors_by known.zid known.gets known.handing.values n (to_gets_for known e) (row_of e).to_values

pub given_to : (n : ℕ) (known : Known) (e : Event) (number : Option ℕ) (text : Option (List ℕ)) → Ascend (λ (g : OpenGet). g.row.number) known.gets → GivenTo n known e number text
given_to n known (Get key settings inquiry to) number text up = asked_hands n known (OwnKey key) _ number text _
given_to n known (QuerierGet id inquiry to) number text up = go (querier_at id known.queriers)
  where
    go : (o : Option QuerierRow)
        → handed_to n (with_gets (asks_of inquiry o) [] (request_effects known.timeout known.keys (QuerierKey id) (drawn_by known.queryables known.handing (asks_of inquiry o) NoValue number text) number text (asks_of inquiry o))
        (told_effects known.gets known.watch.gets text (asks_of inquiry o)))
        ≡ given_by n known.gets (news_of known.zid known.handing.values (asks_of inquiry o) NoValue text) ++ errors_by known.zid known.gets known.handing.values n (asks_of inquiry o) NoValue
    go None = refl
    go (Some row) = asked_hands n known (QuerierKey id) _ number text (question_of row inquiry)
given_to n known (Undeclare querier_sort id) number text up =
    handed_behind n (others_of known number text (Undeclare querier_sort id)) (cut_effects (QuerierEnds id) known.gets) (others_hand_none n known number text (Undeclare querier_sort id))
    ∙ ends_hand_none n (ended_numbers (QuerierEnds id) known.gets)
given_to n known (Cancel token) number text up =
    handed_behind n (cut_effects (CancelledBy token) known.gets) (cancelled_ends token known.watch.gets) (ends_hand_none n (ended_numbers (CancelledBy token) known.gets))
    ∙ asking_hand_none n (numbers_with token known.watch.gets)
given_to n known (Tick moment) number text up =
    all_given n (ends_at moment known.gets) (over_at moment known.watch.gets) ∙ moment_given n moment known.gets up ∙ sym (append-nil (at_end moment (get_at n known.gets)))
given_to n known Close number text up =
    let gets = map end_get (map (λ (g : OpenGet). g.row.number) known.gets) in
    handed_behind n (others_of known number text Close) (gets ++ asking_ends known.watch.gets) (others_hand_none n known number text Close)
    ∙ handed_behind n gets (asking_ends known.watch.gets) (ends_hand_none n (map (λ (g : OpenGet). g.row.number) known.gets))
    ∙ asking_hand_none n (map (λ (g : TokensGet). g.number) known.watch.gets)
given_to n known (reply_event value key update quality) number text up =
    answer_given n (answering known) (OwnKey key) (value_at value known.handing.values) quality _ text ∙ sym (append-nil _)
given_to n known (ReplyErr value error) number text up = error_given n (answering known) (value_at value known.handing.values) _
given_to n known (Finish value) number text up =
    finish_given n known.gets (finished (value_at value known.handing.values) known.handing.values) ∙ sym (append-nil _)
given_to n known (Share value) number text up = refl
given_to n known (Net (request_message request)) number text up = requested_given n request.rid (draws_of known number text (Net (request_message request)))
given_to n known (Net (response_message response)) number text up = response_given n known.gets response response.answered text
given_to n known (Net (ResponseFinal rid)) number text up = final_given n known.gets rid Network ∙ sym (append-nil _)
given_to n known e number text up = others_hand_none n known number text e
