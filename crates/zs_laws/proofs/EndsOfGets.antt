-- The ends that an event tells are those of the gets that are open no longer.
use Rattle.std.proofs.Common.{◌≡◌, ◌<◌, ◌+◌, ℕ, List, [], ◌∷◌, ◌++◌, Bool, true, false, Option, Some, None, refl, sym, ◌∙◌, ap, subst, arith, map}
use Rattle.std.specs.Prelude.{◌==◌, ◌||◌, ◌&&◌, not, filter, is_some, if◌then◌else◌}
use Rattle.std.specs.List.{AllByRecursion, list_any}
use Rattle.std.proofs.lemmas.Bool.{eqb-true}
use mathlib.Core.List.{append-nil}
use Rattle.zs_tables.specs.declared.listener.ListenerRow.{ListenerRow}
use Rattle.zs_tables.specs.Matching.{status}
use Rattle.zs_tables.specs.MatchingLaws.{differ}
use Rattle.zs_query.specs.declared.get_row.GetRow.{GetRow}
use Rattle.zs_query.specs.declared.open_get.OpenGet.{OpenGet}
use Rattle.zs_query.specs.declared.outcome.Outcome.{Outcome}
use Rattle.zs_query.specs.declared.outcome.Outcome.TheVariants as outcome
use Rattle.zs_query.specs.declared.side.Side.{Side}
use Rattle.zs_query.specs.Ascending.{Ascend}
use Rattle.zs_query.specs.Gets.{get_at, fresh, replied, less_final, final_outcome, after_final, is_due, names}
use Rattle.zs_query.specs.Asked.{News, Quiet, ReplyTo, FinalOf, AtMoment, QuerierEnds, CancelledBy, AllEnd, Asked, is_open, state, waits, gets_after}
use Rattle.zs_query.specs.GetTable.{Asking}
use Rattle.zs_query.proofs.Ascending.{all_filter}
use Rattle.zs_query.proofs.Hearing.{all_map, open_ascend}
use Rattle.zs_events.specs.declared.event.Event.{Event}
use Rattle.zs_events.specs.declared.turn.Answer.{Answer}
use Rattle.zs_events.specs.declared.turn.Answer.TheVariants.{Ok as accepted, Refused}
use Rattle.zs_events.specs.declared.turn.Effect.{Effect}
use Rattle.zs_events.specs.declared.turn.Effect.TheVariants.{End, Matching}
use Rattle.zs_events.specs.declared.turn.Kind.TheVariants.{Get, Listener as listener_kind}
use Rattle.zs_events.specs.declared.turn.Refusal.{Refusal}
use Rattle.zs_events.specs.declared.turn.Turn.{Turn}
use Rattle.zs_events.specs.Kinds.{Draws, QueryNumber, ToGets, NoGet, Asks, AsksBy, Answers, EndsSide, Reaches, EndsQuerier, Cancels, EndsAll, ToValues, row_of}
use Rattle.zs_tables.specs.declared.queryable.QueryableRow.{QueryableRow}
use Rattle.zs_query.specs.Types.{QueryValue}
use Rattle.zs_model.specs.declared.settings.Settings.{Settings}
use Rattle.zs_world.specs.declared.change.Decision.{Decision}
use Rattle.zs_world.specs.World.{World, present_at}
use Rattle.zs_model.specs.Entry.{Entry, is_closed}
use Rattle.zs_model.specs.Causes.{refusal_of}
use Rattle.zs_model.specs.Past.{past_of, entry_of, with_entry}
use Rattle.zs_world.specs.Changes.{change_for, with_change}
use Rattle.zs_model.specs.Counters.{draws_query, next_query}
use Rattle.zs_model.specs.Gets.{asked, open_now, news_of}
use Rattle.zs_model.specs.Listeners.{is_listener, listener_ends}
use Rattle.zs_model.specs.Matching.{turned}
use Rattle.zs_model.specs.Questions.{row_waiting}
use Rattle.zs_model.specs.Values.{met_by_get}
use Rattle.zs_world.specs.Decisions.{text_for, to_gets_at, number_for, decision, with_listeners, listener_effects_at}
use Rattle.zs_standing.specs.Stands.{lives, world_of, world_after}
use Rattle.zs_model.specs.Effects.{effects, turn_of}
use Rattle.zs_standing.proofs.Changes.{made}
use Rattle.zs_standing.proofs.Decisions.{cases}
use Rattle.zs_model.proofs.Gets.{AreAsked, asking_by}
use Rattle.zs_standing.proofs.Saying.{IsMade}
use Rattle.zs_standing.proofs.Stands.{standing, same_turn, steps}
use Rattle.zs_laws.specs.Ended.{get_ended, with_number, picked, begun, EndsOfGets, EndedGetsStayEnded}
use Rattle.zs_laws.proofs.EndsLost.{numbers, lost, nothing_lost, same_there, keeps_row, after, IsFit, ends_lost}
use Rattle.zs_laws.proofs.Fresh.{number_answered, query_drawn}
use Rattle.zs_laws.proofs.Picking.{picked_append, picked_behind}

-- listeners are told no end but their own
ends_unheard : (word : Effect → Option ℕ) → ((id : ℕ) → word (End listener_kind id) ≡ None) → (rows : List ListenerRow) → picked word (listener_ends rows) ≡ []
ends_unheard word none [] = refl
ends_unheard word none (row ∷ rows) = λ i. with_number (none row.id i) (ends_unheard word none rows i)

statuses_unheard : (word : Effect → Option ℕ) → ((id : ℕ) (b : Bool) → word (Matching id b) ≡ None) → (after : ListenerRow → Bool) (rows : List ListenerRow)
    → picked word (map (λ (row : ListenerRow). Matching row.id (after row)) rows) ≡ []
statuses_unheard word none after [] = refl
statuses_unheard word none after (row ∷ rows) = λ i. with_number (none row.id (after row) i) (statuses_unheard word none after rows i)

pub heard_picked : (word : Effect → Option ℕ) → ((id : ℕ) → word (End listener_kind id) ≡ None) → ((id : ℕ) (b : Bool) → word (Matching id b) ≡ None) → (w v : World) (fx : List Effect)
    → picked word (fx ++ listener_effects_at w v) ≡ picked word fx
heard_picked word no_end no_status w v fx =
    let ended = filter (λ (row : ListenerRow). not (is_listener row.id v.matching.listeners)) w.matching.listeners in
    let before : ListenerRow → Bool = λ row. is_listener row.id w.matching.listeners && status (present_at w) row in
    let behind : ListenerRow → Bool = status (present_at v) in
    let hearing = filter (λ (row : ListenerRow). differ (before row) (behind row)) v.matching.listeners in
    picked_append word fx (listener_effects_at w v)
    ∙ ap (λ (ns : List ℕ). picked word fx ++ ns)
    (picked_behind word (listener_ends ended) (turned before behind v.matching.listeners) (ends_unheard word no_end ended) ∙ statuses_unheard word no_status behind hearing)
    ∙ append-nil (picked word fx)

-- no get is begun where nothing is answered
begun_refused : (draws : Draws) (refusal : Refusal) → begun draws (Refused refusal) ≡ []
begun_refused QueryNumber refusal = refl
begun_refused draws refusal = refl

begun_none : (draws : Draws) → begun draws (accepted None) ≡ []
begun_none QueryNumber = refl
begun_none draws = refl

-- the gets of a world that stands for a history
gets_ascend : (s : Settings) (h : List Event) → Ascend (λ (g : OpenGet). g.row.number) (world_after s h).asking.gets
gets_ascend s h =
    let st : AreAsked s (world_after s h).asking (past_of s h) = (standing s h).asking in
    subst (Ascend (λ (g : OpenGet). g.row.number)) (sym st.gets) (open_ascend (asked s (past_of s h)) st.ascend)

gets_below : (s : Settings) (h : List Event) → AllByRecursion (λ (g : OpenGet). g.row.number < (world_after s h).asking.next) (world_after s h).asking.gets
gets_below s h =
    let st : AreAsked s (world_after s h).asking (past_of s h) = (standing s h).asking in
    let next = (world_after s h).asking.next in
    subst (AllByRecursion (λ (g : OpenGet). g.row.number < next)) (sym st.gets)
    (all_map (λ (g : OpenGet). g.row.number < next) state (filter is_open (asked s (past_of s h))) (all_filter (λ (a : Asked). a.row.number < next) is_open (asked s (past_of s h)) st.below))

fits : (s : Settings) (h : List Event) (e : Event) → IsMade (world_after s h) (record { number = number_for (world_after s h) e; text = text_for (world_after s h) e; event = e }) (change_for (world_after s h) e)
    → IsFit (world_after s h) e (number_for (world_after s h) e) (text_for (world_after s h) e)
fits s h e m = record {
  ascend = gets_ascend s h;
  below = gets_below s h;
  under = m.gets.under;
  counted = sym (ap (λ (a : Asking). a.next) m.gets.asking) ∙ m.gets.counted;
}

by_tables : (s : Settings) (h : List Event) (e : Event)
    → picked get_ended (decision (world_after s h) e).turn.effects
    ≡ lost (world_after s (e ∷ h)).asking.gets (numbers (world_after s h).asking.gets ++ begun (row_of e).draws (decision (world_after s h) e).turn.answer)
by_tables s h e =
    let w = world_after s h in
    let P = λ (d : Decision) (past : List Entry). picked get_ended d.turn.effects ≡ lost (world_of s past).asking.gets (numbers w.asking.gets ++ begun (row_of e).draws d.turn.answer) in
    steps s h e P
    (cases w e (past_of s h) P
    (λ refusal number fx c. sym (ap (λ (ns : List ℕ). lost w.asking.gets (numbers w.asking.gets ++ ns)) (begun_refused (row_of e).draws refusal) ∙ nothing_lost w.asking.gets))
    (λ shut. sym (ap (λ (ns : List ℕ). lost w.asking.gets (numbers w.asking.gets ++ ns)) (begun_none (row_of e).draws) ∙ nothing_lost w.asking.gets))
    (λ unshut accepts.
    let m = made w e unshut accepts in
    ends_lost w e (number_for w e) (text_for w e) (fits s h e m)
    ∙ sym (ap (λ (a : Asking). lost a.gets (numbers w.asking.gets ++ begun (row_of e).draws (accepted (number_for w e)))) m.gets.asking)))

pub ends_of_gets : EndsOfGets
ends_of_gets s h e =
    let w = world_after s h in
    let st = standing s h in
    let turn : (with_listeners w (decision w e)).turn ≡ turn_of s (past_of s h) e = same_turn s w (past_of s h) e st in
    let before : w.asking.gets ≡ open_now s (past_of s h) = st.asking.gets in
    let behind : (world_after s (e ∷ h)).asking.gets ≡ open_now s (past_of s (e ∷ h)) = (standing s (e ∷ h)).asking.gets in
    sym (ap (λ (t : Turn). picked get_ended t.effects) turn)
    ∙ heard_picked get_ended (λ id. refl) (λ id b. refl) w (with_change (decision w e).change w) (decision w e).turn.effects
    ∙ by_tables s h e
    ∙ (λ i. lost (behind i) (numbers (before i) ++ begun (row_of e).draws (turn i).answer))

-- one that is not open, and not new, is not open behind an event
filtered : (keep : OpenGet → Bool) (n : ℕ) (gets : List OpenGet) → is_some (get_at n gets) ≡ false → is_some (get_at n (filter keep gets)) ≡ false
filtered keep n [] none = refl
filtered keep n (g ∷ gets) none = go (g.row.number == n) refl none (keep g) (filtered keep n gets)
  where
    go : (b : Bool) → (g.row.number == n) ≡ b → is_some (if b then Some g else get_at n gets) ≡ false → (k : Bool)
        → (is_some (get_at n gets) ≡ false → is_some (get_at n (filter keep gets)) ≡ false)
        → is_some (get_at n (if k then g ∷ filter keep gets else filter keep gets)) ≡ false
    go true same none k ih = cc
    go false other none true ih = rw other (ih none)
    go false other none false ih = ih none

last_missing : (n : ℕ) (new : OpenGet) (gets : List OpenGet) → n < new.row.number → is_some (get_at n gets) ≡ false → is_some (get_at n (gets ++ new ∷ [])) ≡ false
last_missing n new [] above none = go (new.row.number == n) refl
  where
    go : (b : Bool) → (new.row.number == n) ≡ b → is_some (if b then Some new else None) ≡ false
    go true same = absurd (omega (arith, eqb-true new.row.number n same, above))
    go false other = refl
last_missing n new (g ∷ gets) above none = go (g.row.number == n) none (last_missing n new gets above)
  where
    go : (b : Bool) → is_some (if b then Some g else get_at n gets) ≡ false → (is_some (get_at n gets) ≡ false → is_some (get_at n (gets ++ new ∷ [])) ≡ false)
        → is_some (if b then Some g else get_at n (gets ++ new ∷ [])) ≡ false
    go true none ih = cc
    go false none ih = ih none

after_missing : (out : Outcome) (side : Side) (number n : ℕ) (gets : List OpenGet) → is_some (get_at n gets) ≡ false → is_some (get_at n (after_final out side number gets)) ≡ false
after_missing outcome.Counted side number n gets none = same_there number (less_final side) (λ g. refl) gets n ∙ none
after_missing (outcome.Ended replies) side number n gets none = filtered (λ g. not (g.row.number == number)) n gets none
after_missing outcome.Unknown side number n gets none = none
after_missing outcome.Unmatched side number n gets none = none
after_missing outcome.Kept side number n gets none = none
after_missing outcome.Dropped side number n gets none = none
after_missing (outcome.Handed reply) side number n gets none = none
after_missing outcome.Repeated side number n gets none = none

news_missing : (news : News) (n : ℕ) (gets : List OpenGet) → is_some (get_at n gets) ≡ false → is_some (get_at n (gets_after news gets)) ≡ false
news_missing Quiet n gets none = none
news_missing (ReplyTo number reply) n gets none = same_there number (replied reply) (λ g. ap (λ (row : GetRow). row.number) (keeps_row reply g)) gets n ∙ none
news_missing (FinalOf number side) n gets none = after_missing (final_outcome side (get_at number gets)) side number n gets none
news_missing (AtMoment moment) n gets none = filtered (λ g. not (is_due moment g)) n gets none
news_missing (QuerierEnds id) n gets none = filtered (λ g. not (names id g.row.querier)) n gets none
news_missing (CancelledBy token) n gets none = filtered (λ g. not (names token g.row.cancellation_token)) n gets none
news_missing AllEnd n gets none = refl

asked_missing : (default zid : ℕ) (rows : List QueryableRow) (values : List QueryValue) (to : ToGets) (does : ToValues) (text : Option (List ℕ)) (a : Asking) (n : ℕ)
    → n < a.next → is_some (get_at n a.gets) ≡ false → is_some (get_at n (asking_by default zid rows values to does text a).gets) ≡ false
asked_missing default zid rows values (Asks q) does (Some text) a n below none =
    go (waits (row_waiting default a.moment a.next text q (met_by_get rows q text)))
  where
    go : (b : Bool) → is_some (get_at n (if b then a.gets ++ fresh (row_waiting default a.moment a.next text q (met_by_get rows q text)) ∷ [] else a.gets)) ≡ false
    go true = last_missing n (fresh (row_waiting default a.moment a.next text q (met_by_get rows q text))) a.gets below none
    go false = none
asked_missing default zid rows values (Asks q) does None a n below none = none
asked_missing default zid rows values NoGet does text a n below none = news_missing (news_of zid values NoGet does text) n a.gets none
asked_missing default zid rows values (AsksBy id q) does text a n below none = none
asked_missing default zid rows values (Answers response) does text a n below none = news_missing (news_of zid values (Answers response) does text) n a.gets none
asked_missing default zid rows values (EndsSide number) does text a n below none = news_missing (news_of zid values (EndsSide number) does text) n a.gets none
asked_missing default zid rows values (Reaches moment) does text a n below none = news_missing (AtMoment moment) n a.gets none
asked_missing default zid rows values (EndsQuerier id) does text a n below none = news_missing (QuerierEnds id) n a.gets none
asked_missing default zid rows values (Cancels token) does text a n below none = news_missing (CancelledBy token) n a.gets none
asked_missing default zid rows values EndsAll does text a n below none = refl

stays_over : (s : Settings) (h : List Event) (e : Event) (n : ℕ) → n < (world_after s h).asking.next → is_some (get_at n (world_after s h).asking.gets) ≡ false
    → is_some (get_at n (world_after s (e ∷ h)).asking.gets) ≡ false
stays_over s h e n below none =
    let w = world_after s h in
    let P = λ (d : Decision) (past : List Entry). is_some (get_at n (world_of s past).asking.gets) ≡ false in
    steps s h e P
    (cases w e (past_of s h) P (λ refusal number fx c. none) (λ shut. none)
    (λ unshut accepts.
    ap (λ (a : Asking). is_some (get_at n a.gets)) (made w e unshut accepts).gets.asking
    ∙ asked_missing w.settings.default_timeout w.settings.zid w.entities.queryables w.handing.values (to_gets_at w e) (row_of e).to_values (text_for w e) w.asking n below none))

never_down : (s : Settings) (h : List Event) (e : Event) (n : ℕ) → n < next_query s (past_of s h) → n < next_query s (past_of s (e ∷ h))
never_down s h e n below = go (refusal_of s (past_of s h) e) (is_closed (past_of s h))
  where
    more : (b : Bool) → n < (if b then next_query s (past_of s h) + 1 else next_query s (past_of s h))
    more true = omega (arith, below)
    more false = below

    go : (o : Option Refusal) (b : Bool) → n < next_query s (with_entry o b (entry_of s (past_of s h) e) (past_of s h))
    go (Some refusal) b = below
    go None true = below
    go None false = more (draws_query (row_of e).draws)

-- one that is not among numbers is not among those that pass a test
unfiltered : (p : ℕ → Bool) (n : ℕ) (ns : List ℕ) → list_any (λ m. m == n) ns ≡ false → list_any (λ m. m == n) (filter p ns) ≡ false
unfiltered p n [] none = refl
unfiltered p n (m ∷ ns) none = go (m == n) refl none (p m) (unfiltered p n ns)
  where
    go : (b : Bool) → (m == n) ≡ b → (b || list_any (λ m. m == n) ns) ≡ false → (k : Bool) → (list_any (λ m. m == n) ns ≡ false → list_any (λ m. m == n) (filter p ns) ≡ false)
        → list_any (λ m. m == n) (if k then m ∷ filter p ns else filter p ns) ≡ false
    go true same none k ih = cc
    go false other none true ih = rw other (ih none)
    go false other none false ih = ih none

unnumbered : (n : ℕ) (gets : List OpenGet) (more : List ℕ) → is_some (get_at n gets) ≡ false → list_any (λ m. m == n) more ≡ false → list_any (λ m. m == n) (numbers gets ++ more) ≡ false
unnumbered n [] more none rest = rest
unnumbered n (g ∷ gets) more none rest = go (g.row.number == n) none (unnumbered n gets more)
  where
    go : (b : Bool) → is_some (if b then Some g else get_at n gets) ≡ false
        → (is_some (get_at n gets) ≡ false → list_any (λ m. m == n) more ≡ false → list_any (λ m. m == n) (numbers gets ++ more) ≡ false)
        → (b || list_any (λ m. m == n) (numbers gets ++ more)) ≡ false
    go true none ih = cc
    go false none ih = ih none rest

not_begun : (s : Settings) (h : List Event) (e : Event) (n : ℕ) → n < next_query s (past_of s h) → (draws : Draws) → (row_of e).draws ≡ draws → (answer : Answer) → (effects s h e).answer ≡ answer
    → list_any (λ m. m == n) (begun draws answer) ≡ false
not_begun s h e n below QueryNumber draws (accepted (Some m)) is = go (m == n) refl
  where
    its : Some m ≡ Some (next_query s (past_of s h))
    its = sym (number_answered s h e m is) ∙ query_drawn s (past_of s h) (row_of e).draws _ (ap draws_query draws)

    same : m ≡ next_query s (past_of s h)
    same = cc its

    go : (b : Bool) → (m == n) ≡ b → (b || false) ≡ false
    go true is = absurd (omega (arith, eqb-true m n is, same, below))
    go false is = refl
not_begun s h e n below QueryNumber draws (accepted None) is = refl
not_begun s h e n below QueryNumber draws (Refused refusal) is = refl
not_begun s h e n below other draws answer is = refl

pub ended_gets_stay_ended : EndedGetsStayEnded
ended_gets_stay_ended s h e n over =
    let st = standing s h in
    let none : is_some (get_at n (world_after s h).asking.gets) ≡ false = ap (λ (gets : List OpenGet). is_some (get_at n gets)) st.asking.gets ∙ over.ended in
    let below : n < (world_after s h).asking.next = subst (λ (m : ℕ). n < m) (sym st.asking.next) over.asked in (
      record {
        asked = never_down s h e n over.asked;
        ended = sym (ap (λ (gets : List OpenGet). is_some (get_at n gets)) (standing s (e ∷ h)).asking.gets) ∙ stays_over s h e n below none;
      },
      ap (λ (ns : List ℕ). list_any (λ m. m == n) ns) (ends_of_gets s h e)
          ∙ unfiltered (λ number. not (lives s Get number (past_of s (e ∷ h)))) n (numbers (open_now s (past_of s h)) ++ begun (row_of e).draws (effects s h e).answer)
          (unnumbered n (open_now s (past_of s h)) (begun (row_of e).draws (effects s h e).answer) over.ended
          (not_begun s h e n over.asked (row_of e).draws refl (effects s h e).answer refl)),
    )
