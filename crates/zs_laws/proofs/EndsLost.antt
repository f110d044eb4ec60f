-- An event ends just those gets that its table leaves out.
use Rattle.std.proofs.Common.{◌≡◌, ◌<◌, ◌+◌, ℕ, List, [], ◌∷◌, ◌++◌, Bool, true, false, Option, Some, None, refl, sym, ◌∙◌, ap, subst, arith, map}
use Rattle.std.specs.Prelude.{◌==◌, ◌||◌, not, filter, is_some, if◌then◌else◌}
use Rattle.std.specs.List.{AllByRecursion, flat_map}
use mathlib.Core.List.{append-nil}
use Rattle.zs_sample.specs.Reply.{Replied}
use Rattle.zs_wire.specs.declared.body.Body.{Body}
use Rattle.zs_wire.specs.declared.body.Value.{Value}
use Rattle.zs_wire.specs.declared.message.Message.TheVariants.{Request as request_message, Response as response_message, ResponseFinal}
use Rattle.zs_wire.specs.declared.response.Answered.{Answered}
use Rattle.zs_wire.specs.declared.response.Answered.TheVariants.{Reply, Err as Error}
use Rattle.zs_wire.specs.declared.response.Response.{Response}
use Rattle.zs_wire.specs.declared.wire_expr.WireExpr.{WireExpr}
use Rattle.zs_subscriptions.specs.Recipients.{has_network}
use Rattle.zs_tables.specs.LivelinessGets.{numbers_with, over_at}
use Rattle.zs_tables.specs.Types.{LivelinessGet as TokensGet}
use Rattle.zs_query.specs.declared.get_row.GetRow.{GetRow}
use Rattle.zs_query.specs.declared.open_get.OpenGet.{OpenGet}
use Rattle.zs_query.specs.declared.outcome.Outcome.TheVariants as outcome
use Rattle.zs_query.specs.declared.outcome.Peek.{Peek}
use Rattle.zs_query.specs.declared.outcome.Peek.TheVariants as peek
use Rattle.zs_query.specs.Types.{QueryValue, RequestRow, Finished, Unknown, MoreLeft, Last}
use Rattle.zs_query.specs.declared.side.Side.{Side}
use Rattle.zs_query.specs.declared.side.Side.TheVariants.{Local, Network}
use Rattle.zs_query.specs.Ascending.{Ascend}
use Rattle.zs_query.specs.Gets.{get_at, with_get, without_get, fresh, peek_at, peek_get, replied, after_reply, other_side, wants, less_final, final_outcome, after_final, is_due, names, end_of, ends_at, timeout_error}
use Rattle.zs_query.specs.Asked.{Quiet, ReplyTo, FinalOf, QuerierEnds, CancelledBy, opened, gets_after}
use Rattle.zs_query.specs.Unfinished.{value_at, values_from, finished}
use Rattle.zs_query.specs.GetTable.{Asking}
use Rattle.zs_query.proofs.Ascending.{all_weaker}
use Rattle.zs_query.proofs.Searching.{find_none}
use Rattle.zs_events.specs.declared.event.Event.{Event}
use Rattle.zs_events.specs.declared.event.Event.TheVariants.{Undeclare, Close, Net, Get, QuerierGet, Cancel, Tick, Reply as reply_event, ReplyErr, Finish, Share}
use Rattle.zs_events.specs.declared.entity_kind.EntityKind.TheVariants.{Querier as querier_sort}
use Rattle.zs_events.specs.declared.publication.ReplyQuality.{ReplyQuality}
use Rattle.zs_events.specs.declared.turn.Answer.TheVariants.{Ok as accepted}
use Rattle.zs_events.specs.declared.turn.Effect.TheVariants.{Send}
use Rattle.zs_events.specs.Kinds.{NamedKey, OwnKey, QuerierKey, Question, Asks, ToValues, NoValue, QueryNumber, row_of}
use Rattle.zs_world.specs.World.{World}
use Rattle.zs_model.specs.declared.querier.QuerierRow.{QuerierRow}
use Rattle.zs_model.specs.Answers.{quality_of, local_reply, local_error, response_by, news_of_reply, news_of_finished}
use Rattle.zs_model.specs.Counters.{draws_query}
use Rattle.zs_model.specs.GetEffects.{hand_reply, hand_query, end_get, last_hands, reply_effects, response_effects, final_effects, ends_effects, ended_numbers, cut_effects, request_sends, ask_effects, asked_effects, request_effects, told_effects, with_gets}
use Rattle.zs_model.specs.Gets.{sample_reply, response_news}
use Rattle.zs_model.specs.LivelinessEffects.{hand_answer, end_asking, cancelled_ends, asking_ends}
use Rattle.zs_model.specs.Queriers.{querier_at, question_of, asks_of}
use Rattle.zs_model.specs.Questions.{is_some_met, row_waiting, request_of}
use Rattle.zs_model.specs.Sends.{full_wire, wire_form, declaration_of}
use Rattle.zs_model.specs.Values.{met_by_get, get_request, drawn_by}
use Rattle.zs_model.specs.ValueEffects.{Answering, requested_effects, replied_effects, error_effects, answer_effects, answer_error_effects, finish_effects}
use Rattle.zs_model.specs.Effects.{answering, draws_of, effects_on}
use Rattle.zs_world.specs.Decisions.{to_gets_at, known_at}
use Rattle.zs_model.proofs.Gets.{asking_by, IsAskedUnder}
use Rattle.zs_laws.specs.Ended.{get_ended, picked, begun}
use Rattle.zs_laws.proofs.Around.{others_of}
use Rattle.zs_laws.proofs.Leaving.{gone, none_gone, filter_more, only}
use Rattle.zs_laws.proofs.Picking.{picked_append, picked_behind, others_end_none, ends_picked, replies_picked, queries_picked, last_picked, timeouts_picked, asking_picked}

-- the numbers of gets, and those of them that are gone from others
abbrev pub numbers : List OpenGet → List ℕ
numbers gets = map (λ (g : OpenGet). g.row.number) gets

abbrev pub lost : List OpenGet → List ℕ → List ℕ
lost after ns = filter (λ n. not (is_some (get_at n after))) ns

pub nothing_lost : (gets : List OpenGet) → lost gets (numbers gets ++ []) ≡ []
nothing_lost gets = ap (lost gets) (append-nil (numbers gets)) ∙ none_gone (λ (g : OpenGet). g.row.number) gets

-- a change of one get loses none
pub keeps_row : (reply : Replied) (g : OpenGet) → (replied reply g).row ≡ g.row
keeps_row reply g = go (peek_get g reply)
  where
    go : (p : Peek) → (after_reply p reply g).row ≡ g.row
    go peek.Unknown = refl
    go peek.Unmatched = refl
    go peek.Kept = refl
    go peek.Dropped = refl
    go peek.Handed = refl

pub same_there : (number : ℕ) (change : OpenGet → OpenGet) → ((g : OpenGet) → (change g).row.number ≡ g.row.number) → (gets : List OpenGet) (n : ℕ)
    → is_some (get_at n (with_get number change gets)) ≡ is_some (get_at n gets)
same_there number change keeps [] n = refl
same_there number change keeps (g ∷ gets) n = ap (λ (k : ℕ). is_some (if k == n then Some new else get_at n (with_get number change gets))) its ∙ go (g.row.number == n) (same_there number change keeps gets n)
  where
    new : OpenGet
    new = if g.row.number == number then change g else g

    its : new.row.number ≡ g.row.number
    its = by (g.row.number == number)
      where
        by : (b : Bool) → (if b then change g else g).row.number ≡ g.row.number
        by true = keeps g
        by false = refl

    go : (b : Bool) → is_some (get_at n (with_get number change gets)) ≡ is_some (get_at n gets)
        → is_some (if b then Some new else get_at n (with_get number change gets)) ≡ is_some (if b then Some g else get_at n gets)
    go true ih = refl
    go false ih = ih

changed_lost : (number : ℕ) (change : OpenGet → OpenGet) → ((g : OpenGet) → (change g).row.number ≡ g.row.number) → (gets : List OpenGet) → lost (with_get number change gets) (numbers gets ++ []) ≡ []
changed_lost number change keeps gets = (λ i. filter (λ n. not (same_there number change keeps gets n i)) (numbers gets ++ [])) ∙ nothing_lost gets

-- those that a test leaves out are lost
left_lost : (ends : OpenGet → Bool) (gets : List OpenGet) → Ascend (λ (g : OpenGet). g.row.number) gets
    → numbers (filter ends gets) ≡ lost (filter (λ g. not (ends g)) gets) (numbers gets ++ [])
left_lost ends gets up =
    sym (filter_twice gets) ∙ sym (gone (λ (g : OpenGet). g.row.number) (λ g. not (ends g)) gets up) ∙ sym (ap (lost (filter (λ g. not (ends g)) gets)) (append-nil (numbers gets)))
  where
    twice : (b : Bool) → not (not b) ≡ b
    twice true = refl
    twice false = refl

    filter_twice : (gets : List OpenGet) → numbers (filter (λ g. not (not (ends g))) gets) ≡ numbers (filter ends gets)
    filter_twice gets = λ i. numbers (filter (λ g. twice (ends g) i) gets)

-- a reply, in the table and out of it
reply_lost : (number : ℕ) (reply : Replied) (gets : List OpenGet) → lost (gets_after (ReplyTo number reply) gets) (numbers gets ++ []) ≡ []
reply_lost number reply gets = changed_lost number (replied reply) (λ g. ap (λ (row : GetRow). row.number) (keeps_row reply g)) gets

reply_ends : (p : Peek) (number : ℕ) (reply : Replied) → picked get_ended (reply_effects p number reply) ≡ []
reply_ends peek.Handed number reply = refl
reply_ends peek.Unknown number reply = refl
reply_ends peek.Unmatched number reply = refl
reply_ends peek.Kept number reply = refl
reply_ends peek.Dropped number reply = refl

-- a final
final_lost : (side : Side) (number : ℕ) (gets : List OpenGet) → Ascend (λ (g : OpenGet). g.row.number) gets
    → picked get_ended (final_effects number (final_outcome side (get_at number gets))) ≡ lost (gets_after (FinalOf number side) gets) (numbers gets ++ [])
final_lost side number gets up = go (get_at number gets) refl
  where
    ended : (g : OpenGet) → get_at number gets ≡ Some g
        → picked get_ended (map (hand_reply number) g.kept ++ end_get number ∷ []) ≡ lost (without_get number gets) (numbers gets ++ [])
    ended g found =
        picked_behind get_ended (map (hand_reply number) g.kept) (end_get number ∷ []) (replies_picked number g.kept)
        ∙ sym (only (λ (g : OpenGet). g.row.number) number g gets up found)
        ∙ sym (gone (λ (g : OpenGet). g.row.number) (λ g. not (g.row.number == number)) gets up)
        ∙ sym (ap (lost (without_get number gets)) (append-nil (numbers gets)))

    by : (g : OpenGet) → get_at number gets ≡ Some g → (a b : Bool)
        → picked get_ended (final_effects number (if a then if b then outcome.Counted else outcome.Ended g.kept else outcome.Repeated))
        ≡ lost (after_final (if a then if b then outcome.Counted else outcome.Ended g.kept else outcome.Repeated) side number gets) (numbers gets ++ [])
    by g found true true = sym (changed_lost number (less_final side) (λ g. refl) gets)
    by g found true false = ended g found
    by g found false b = sym (nothing_lost gets)

    go : (o : Option OpenGet) → get_at number gets ≡ o
        → picked get_ended (final_effects number (final_outcome side o)) ≡ lost (after_final (final_outcome side o) side number gets) (numbers gets ++ [])
    go None found = sym (nothing_lost gets)
    go (Some g) found = by g found (wants side g.row) (wants (other_side side) g.row)

-- a get that is asked behind the others
asked_lost : (row : GetRow) (gets : List OpenGet) (b : Bool) → AllByRecursion (λ (g : OpenGet). g.row.number < row.number) gets
    → lost (if b then gets ++ fresh row ∷ [] else gets) (numbers gets ++ row.number ∷ []) ≡ (if b then [] else row.number ∷ [])
asked_lost row gets true below = ap (lost (gets ++ fresh row ∷ [])) (sym (behind gets)) ∙ none_gone (λ (g : OpenGet). g.row.number) (gets ++ fresh row ∷ [])
  where
    behind : (gets : List OpenGet) → numbers (gets ++ fresh row ∷ []) ≡ numbers gets ++ row.number ∷ []
    behind [] = refl
    behind (g ∷ gets) = ap (λ (ns : List ℕ). g.row.number ∷ ns) (behind gets)
asked_lost row gets false below =
    filter_more (λ n. not (is_some (get_at n gets))) (numbers gets) row.number
    ∙ ap (λ (ns : List ℕ). ns ++ (if not (is_some (get_at row.number gets)) then row.number ∷ [] else [])) (none_gone (λ (g : OpenGet). g.row.number) gets)
    ∙ ap (λ (o : Option OpenGet). if not (is_some o) then row.number ∷ [] else []) none
  where
    none : get_at row.number gets ≡ None
    none =
        find_none (λ (g : OpenGet). g.row.number) row.number gets
        (all_weaker (λ (g : OpenGet). g.row.number < row.number) (λ (g : OpenGet). g.row.number ≡ row.number → ⊥) (λ g less same. omega (arith, less, same)) gets below)

-- what asking one ends: itself, where it waits for nobody
asked_ends : (default : ℕ) (wire : WireExpr) (number : ℕ) (q : Question) (first request : ℕ) (row : RequestRow) (met : List ℕ)
    → picked get_ended (ask_effects default wire number q (values_from first request row met)) ≡ (if is_some_met met || has_network q.settings.destination then [] else number ∷ [])
asked_ends default wire number q first request row [] = go (has_network q.settings.destination)
  where
    go : (b : Bool) → picked get_ended (if b then Send (request_message (request_of default wire number q)) ∷ [] else end_get number ∷ []) ≡ (if b then [] else number ∷ [])
    go true = refl
    go false = refl
asked_ends default wire number q first request row (m ∷ met) =
    picked_behind get_ended (request_sends default wire number q) (map hand_query (values_from first request row (m ∷ met))) (sent (has_network q.settings.destination))
    ∙ queries_picked (values_from first request row (m ∷ met))
  where
    sent : (b : Bool) → picked get_ended (if b then Send (request_message (request_of default wire number q)) ∷ [] else []) ≡ []
    sent true = refl
    sent false = refl

-- the table behind an event
abbrev pub after : World → Event → Option (List ℕ) → Asking
after w e text = asking_by w.settings.default_timeout w.settings.zid w.entities.queryables w.handing.values (to_gets_at w e) (row_of e).to_values text w.asking

-- what an event ends is what its table loses
abbrev pub EndsLost : World → Event → Option ℕ → Option (List ℕ) → Type 0
EndsLost w e number text =
    picked get_ended (effects_on (known_at w) number text e) ≡ lost (after w e text).gets (numbers w.asking.gets ++ begun (row_of e).draws (accepted number))

-- what an event of such a world is like: its gets ascend below the next number, which a get is answered, and which it draws
pub record IsFit (w : World) (e : Event) (number : Option ℕ) (text : Option (List ℕ)) : Type 0 where
  pub ascend : Ascend (λ (g : OpenGet). g.row.number) w.asking.gets
  pub below : AllByRecursion (λ (g : OpenGet). g.row.number < w.asking.next) w.asking.gets
  pub under : IsAskedUnder (to_gets_at w e) number w.asking.next
  pub counted : (after w e text).next ≡ (if draws_query (row_of e).draws then w.asking.next + 1 else w.asking.next)

-- an event that asks a get
ask_ends : (w : World) (key : NamedKey) (q : Question) (text : List ℕ)
    → AllByRecursion (λ (g : OpenGet). g.row.number < w.asking.next) w.asking.gets
    → picked get_ended (ask_effects w.settings.default_timeout (wire_form (known_at w).keys text (declaration_of (known_at w).keys text key)) w.asking.next q
    (values_from w.handing.next w.handing.handed (get_request w.asking.next text q) (met_by_get w.entities.queryables q text)))
    ≡ lost (opened (row_waiting w.settings.default_timeout w.asking.moment w.asking.next text q (met_by_get w.entities.queryables q text)) w.asking.gets)
    (numbers w.asking.gets ++ w.asking.next ∷ [])
ask_ends w key q text below =
    let met = met_by_get w.entities.queryables q text in
    let row = row_waiting w.settings.default_timeout w.asking.moment w.asking.next text q met in
    asked_ends w.settings.default_timeout _ w.asking.next q w.handing.next w.handing.handed (get_request w.asking.next text q) met
    ∙ sym (asked_lost row w.asking.gets (is_some_met met || has_network q.settings.destination) below)

no_more : (n : ℕ) → n ≡ n + 1 → ⊥
no_more n same = omega (arith, same)

get_ends : (w : World) (key : NamedKey) (q : Question) (does : ToValues) (number : Option ℕ) (text : Option (List ℕ))
    → AllByRecursion (λ (g : OpenGet). g.row.number < w.asking.next) w.asking.gets → number ≡ Some w.asking.next
    → (asking_by w.settings.default_timeout w.settings.zid w.entities.queryables w.handing.values (Asks q) does text w.asking).next ≡ w.asking.next + 1
    → picked get_ended (asked_effects w.settings.default_timeout (known_at w).keys key (drawn_by w.entities.queryables w.handing (Asks q) does number text) number text q)
    ≡ lost (asking_by w.settings.default_timeout w.settings.zid w.entities.queryables w.handing.values (Asks q) does text w.asking).gets (numbers w.asking.gets ++ begun QueryNumber (accepted number))
get_ends w key q does number None below under counted = absurd (no_more w.asking.next counted)
get_ends w key q does number (Some text) below under counted =
    subst (λ (o : Option ℕ). picked get_ended (asked_effects w.settings.default_timeout (known_at w).keys key (drawn_by w.entities.queryables w.handing (Asks q) does o (Some text)) o (Some text) q)
    ≡ lost (opened (row_waiting w.settings.default_timeout w.asking.moment w.asking.next text q (met_by_get w.entities.queryables q text)) w.asking.gets) (numbers w.asking.gets ++ begun QueryNumber (accepted o)))
    (sym under) (ask_ends w key q text below)

-- a response
response_ends : (gets : List OpenGet) (response : Response) (answered : Answered) (text : Option (List ℕ))
    → picked get_ended (response_effects gets response answered text) ≡ lost (gets_after (response_news response answered text) gets) (numbers gets ++ [])
response_ends gets response (Reply body) None = sym (nothing_lost gets)
response_ends gets response (Reply body) (Some text) =
    reply_ends (peek_at (get_at response.rid gets) (sample_reply text response body)) response.rid (sample_reply text response body)
    ∙ sym (reply_lost response.rid (sample_reply text response body) gets)
response_ends gets response (Error value) text = sym (nothing_lost gets)

-- an answer
answer_ends : (a : Answering) (key : NamedKey) (o : Option QueryValue) (quality : ReplyQuality) (body : Body) (text : Option (List ℕ))
    → picked get_ended (answer_effects a key o quality body text) ≡ lost (gets_after (news_of_reply a.zid quality body o text) a.gets) (numbers a.gets ++ [])
answer_ends a key None quality body text = sym (nothing_lost a.gets)
answer_ends a key (Some v) quality body None = sym (nothing_lost a.gets)
answer_ends a key (Some v) quality body (Some text) = go v.row.local
  where
    go : (b : Bool)
        → picked get_ended (if b then replied_effects a.gets v.row.rid (local_reply a.zid v.queryable v.row quality body text)
        else Send (response_message (response_by a.zid v.queryable v.row.rid (wire_form a.keys text (declaration_of a.keys text key)) (quality_of quality v.row.qos) (Reply body))) ∷ [])
        ≡ lost (gets_after (if b then ReplyTo v.row.rid (local_reply a.zid v.queryable v.row quality body text) else Quiet) a.gets) (numbers a.gets ++ [])
    go true =
        reply_ends (peek_at (get_at v.row.rid a.gets) (local_reply a.zid v.queryable v.row quality body text)) v.row.rid (local_reply a.zid v.queryable v.row quality body text)
        ∙ sym (reply_lost v.row.rid (local_reply a.zid v.queryable v.row quality body text) a.gets)
    go false = sym (nothing_lost a.gets)

error_ends : (a : Answering) (o : Option QueryValue) (error : Value) → picked get_ended (answer_error_effects a o error) ≡ []
error_ends a None error = refl
error_ends a (Some v) error = go v.row.local (get_at v.row.rid a.gets)
  where
    go : (b : Bool) (o : Option OpenGet)
        → picked get_ended (if b then error_effects o v.row.rid (local_error a.zid v.queryable error)
        else Send (response_message (response_by a.zid v.queryable v.row.rid (full_wire v.row.key.text) v.row.qos (Error error))) ∷ []) ≡ []
    go true None = refl
    go true (Some g) = refl
    go false o = refl

finish_ends : (gets : List OpenGet) (f : Finished) → Ascend (λ (g : OpenGet). g.row.number) gets
    → picked get_ended (finish_effects gets f) ≡ lost (gets_after (news_of_finished f) gets) (numbers gets ++ [])
finish_ends gets Unknown up = sym (nothing_lost gets)
finish_ends gets MoreLeft up = sym (nothing_lost gets)
finish_ends gets (Last row) up = go row.local
  where
    go : (b : Bool)
        → picked get_ended (if b then final_effects row.rid (final_outcome Local (get_at row.rid gets)) else Send (ResponseFinal row.rid) ∷ [])
        ≡ lost (gets_after (if b then FinalOf row.rid Local else Quiet) gets) (numbers gets ++ [])
    go true = final_lost Local row.rid gets up
    go false = sym (nothing_lost gets)

requested_ends : (rid : ℕ) (drawn : List QueryValue) → picked get_ended (requested_effects rid drawn) ≡ []
requested_ends rid [] = refl
requested_ends rid (v ∷ drawn) = queries_picked (v ∷ drawn)

-- a moment, and the end of all
due_numbers : (moment : ℕ) (gets : List OpenGet) → map (λ (end : ℕ × List Replied). end.0) (ends_at moment gets) ≡ numbers (filter (is_due moment) gets)
due_numbers moment gets = go (filter (is_due moment) gets)
  where
    go : (gets : List OpenGet) → map (λ (end : ℕ × List Replied). end.0) (map end_of gets) ≡ numbers gets
    go [] = refl
    go (g ∷ gets) = ap (λ (ns : List ℕ). g.row.number ∷ ns) (go gets)

moment_ends : (ends : List (ℕ × List Replied)) (over : List ℕ) → picked get_ended (ends_effects ends over) ≡ map (λ (end : ℕ × List Replied). end.0) ends
moment_ends ends over =
    let first = flat_map last_hands ends in
    let timeouts = map (hand_answer timeout_error) over in
    let ns = map (λ (end : ℕ × List Replied). end.0) ends in
    picked_append get_ended (first ++ timeouts ++ map end_get ns) (map end_asking over)
    ∙ ap (λ (rest : List ℕ). picked get_ended (first ++ timeouts ++ map end_get ns) ++ rest) (asking_picked over)
    ∙ append-nil (picked get_ended (first ++ timeouts ++ map end_get ns))
    ∙ picked_behind get_ended (first ++ timeouts) (map end_get ns) (picked_behind get_ended first timeouts (last_picked ends) ∙ timeouts_picked timeout_error over)
    ∙ ends_picked ns

all_lost : (gets : List OpenGet) → lost [] (numbers gets ++ []) ≡ numbers gets
all_lost gets = ap (lost []) (append-nil (numbers gets)) ∙ all gets
  where
    all : (gets : List OpenGet) → lost [] (numbers gets) ≡ numbers gets
    all [] = refl
    all (g ∷ gets) = ap (λ (ns : List ℕ). g.row.number ∷ ns) (all gets)

-- an event that says nothing to gets
quiet_ends : (w : World) (e : Event) (number : Option ℕ) (text : Option (List ℕ)) → picked get_ended (others_of (known_at w) number text e) ≡ lost w.asking.gets (numbers w.asking.gets ++ [])
quiet_ends w e number text = others_end_none (known_at w) number text e ∙ sym (nothing_lost w.asking.gets)

-- one that ends an entity
undeclared_ends : (w : World) (number : Option ℕ) (text : Option (List ℕ)) (id : ℕ) → IsFit w (Undeclare querier_sort id) number text → EndsLost w (Undeclare querier_sort id) number text
undeclared_ends w number text id fit =
    picked_behind get_ended (others_of (known_at w) number text (Undeclare querier_sort id)) (cut_effects (QuerierEnds id) w.asking.gets)
    (others_end_none (known_at w) number text (Undeclare querier_sort id))
    ∙ ends_picked (ended_numbers (QuerierEnds id) w.asking.gets)
    ∙ left_lost (λ g. names id g.row.querier) w.asking.gets fit.ascend

pub ends_lost : (w : World) (e : Event) (number : Option ℕ) (text : Option (List ℕ)) → IsFit w e number text → EndsLost w e number text
ends_lost w (Get key settings inquiry to) number text fit =
    get_ends w (OwnKey key) (record { settings = settings; inquiry = inquiry; querier = None }) NoValue number text fit.below fit.under fit.counted
ends_lost w (QuerierGet id inquiry to) number text fit = go (querier_at id w.entities.queriers) fit.under fit.counted
  where
    go : (o : Option QuerierRow) → IsAskedUnder (asks_of inquiry o) number w.asking.next
        → (asking_by w.settings.default_timeout w.settings.zid w.entities.queryables w.handing.values (asks_of inquiry o) NoValue text w.asking).next ≡ w.asking.next + 1
        → picked get_ended (with_gets (asks_of inquiry o) [] (request_effects w.settings.default_timeout (known_at w).keys (QuerierKey id) (drawn_by w.entities.queryables w.handing (asks_of inquiry o) NoValue number text) number text (asks_of inquiry o))
        (told_effects w.asking.gets w.liveliness.gets text (asks_of inquiry o)))
        ≡ lost (asking_by w.settings.default_timeout w.settings.zid w.entities.queryables w.handing.values (asks_of inquiry o) NoValue text w.asking).gets (numbers w.asking.gets ++ begun QueryNumber (accepted number))
    go None under counted = absurd (no_more w.asking.next counted)
    go (Some row) under counted = get_ends w (QuerierKey id) (question_of row inquiry) NoValue number text fit.below under counted
ends_lost w (Undeclare querier_sort id) number text fit = undeclared_ends w number text id fit
ends_lost w (Cancel token) number text fit =
    picked_append get_ended (cut_effects (CancelledBy token) w.asking.gets) (cancelled_ends token w.liveliness.gets)
    ∙ ap (λ (ns : List ℕ). picked get_ended (cut_effects (CancelledBy token) w.asking.gets) ++ ns) (asking_picked (numbers_with token w.liveliness.gets))
    ∙ append-nil (picked get_ended (cut_effects (CancelledBy token) w.asking.gets))
    ∙ ends_picked (ended_numbers (CancelledBy token) w.asking.gets)
    ∙ left_lost (λ g. names token g.row.cancellation_token) w.asking.gets fit.ascend
ends_lost w (Tick moment) number text fit =
    moment_ends (ends_at moment w.asking.gets) (over_at moment w.liveliness.gets) ∙ due_numbers moment w.asking.gets ∙ left_lost (is_due moment) w.asking.gets fit.ascend
ends_lost w Close number text fit =
    let gets = map end_get (numbers w.asking.gets) in
    picked_behind get_ended (others_of (known_at w) number text Close) (gets ++ asking_ends w.liveliness.gets) (others_end_none (known_at w) number text Close)
    ∙ picked_append get_ended gets (asking_ends w.liveliness.gets)
    ∙ ap (λ (ns : List ℕ). picked get_ended gets ++ ns) (asking_picked (map (λ (g : TokensGet). g.number) w.liveliness.gets))
    ∙ append-nil (picked get_ended gets)
    ∙ ends_picked (numbers w.asking.gets)
    ∙ sym (all_lost w.asking.gets)
ends_lost w (reply_event value key update quality) number text fit =
    answer_ends (answering (known_at w)) (OwnKey key) (value_at value w.handing.values) quality _ text
ends_lost w (ReplyErr value error) number text fit = error_ends (answering (known_at w)) (value_at value w.handing.values) _ ∙ sym (nothing_lost w.asking.gets)
ends_lost w (Finish value) number text fit = finish_ends w.asking.gets (finished (value_at value w.handing.values) w.handing.values) fit.ascend
ends_lost w (Share value) number text fit = sym (nothing_lost w.asking.gets)
ends_lost w (Net (request_message request)) number text fit = requested_ends request.rid (draws_of (known_at w) number text (Net (request_message request))) ∙ sym (nothing_lost w.asking.gets)
ends_lost w (Net (response_message response)) number text fit = response_ends w.asking.gets response response.answered text
ends_lost w (Net (ResponseFinal rid)) number text fit = final_lost Network rid w.asking.gets fit.ascend
ends_lost w e number text fit = quiet_ends w e number text
