-- Open gets are handed what they hear, and others nothing.
use Rattle.std.proofs.Common.{◌≡◌, ◌<◌, ℕ, List, [], ◌∷◌, ◌++◌, Bool, true, false, Option, Some, None, refl, sym, ◌∙◌, ap, map}
use Rattle.std.specs.Prelude.{◌==◌, ◌&&◌, not, filter, if◌then◌else◌}
use Rattle.std.specs.List.{AllByRecursion}
use Rattle.std.proofs.lemmas.Bool.{eqb-true}
use Rattle.zs_sample.specs.Reply.{Replied}
use Rattle.zs_wire.specs.declared.request.ConsolidationMode.{ConsolidationMode}
use Rattle.zs_wire.specs.declared.request.ConsolidationMode.TheVariants as by
use Rattle.zs_tables.specs.declared.listener.ListenerRow.{ListenerRow}
use Rattle.zs_tables.specs.MatchingLaws.{differ}
use Rattle.zs_query.specs.declared.open_get.OpenGet.{OpenGet}
use Rattle.zs_query.specs.declared.outcome.Outcome.TheVariants as outcome
use Rattle.zs_query.specs.declared.outcome.Peek.TheVariants as peek
use Rattle.zs_query.specs.declared.side.Side.{Side}
use Rattle.zs_query.specs.Ascending.{Ascend}
use Rattle.zs_query.specs.Asked.{News, Quiet, ReplyTo, FinalOf, AtMoment, QuerierEnds, CancelledBy, AllEnd, Asked, waiting, is_open, state, replies_in}
use Rattle.zs_query.specs.Gets.{get_at, takes_key, peek_by, peek_get, peek_at, final_outcome, other_side, wants}
use Rattle.zs_query.specs.Kept.{passes_all}
use Rattle.zs_query.specs.Laws.{peek_in}
use Rattle.zs_query.specs.Marks.{key_of}
use Rattle.zs_query.proofs.Ascending.{all_weaker, all_both, ascend_filter}
use Rattle.zs_query.proofs.Hearing.{open_ascend}
use Rattle.zs_query.proofs.Standing.{stands}
use Rattle.zs_events.specs.declared.turn.Effect.{Effect}
use Rattle.zs_events.specs.declared.turn.Effect.TheVariants.{Matching}
use Rattle.zs_events.specs.declared.turn.Refusal.{Refusal}
use Rattle.zs_events.specs.Turn.{answered}
use Rattle.zs_events.specs.Kinds.{row_of}
use Rattle.zs_model.specs.Causes.{refusal_of}
use Rattle.zs_model.specs.Entry.{Entry, is_closed}
use Rattle.zs_model.specs.Gets.{asked, open_now}
use Rattle.zs_model.specs.HeldKeys.{named_text}
use Rattle.zs_model.specs.Listeners.{is_listener, listener_ends}
use Rattle.zs_model.specs.Live.{live_listeners, to_gets_of}
use Rattle.zs_model.specs.Matching.{is_matched, turned, listener_effects}
use Rattle.zs_model.specs.Past.{past_of, entry_of}
use Rattle.zs_model.specs.Values.{values_now}
use Rattle.zs_model.specs.Effects.{known_of, effects_on, effects_behind, effects}
use Rattle.zs_standing.proofs.Stands.{standing}
use Rattle.zs_laws.specs.Handed.{handed_to, handed_now, kept_by, is_last, handed_by, errors_by, heard_at, accepted_alone, GetsAreHanded}
use Rattle.zs_laws.proofs.Leaving.{same_number, not_same}
use Rattle.zs_laws.proofs.Handed.{handed_append, peeked, ended_with, at_end, given_by, given_to}
use mathlib.Core.List.{append-nil}

-- listeners are handed no reply
ends_unheard : (n : ℕ) (rows : List ListenerRow) → handed_to n (listener_ends rows) ≡ []
ends_unheard n [] = refl
ends_unheard n (row ∷ rows) = ends_unheard n rows

statuses_unheard : (n : ℕ) (after : ListenerRow → Bool) (rows : List ListenerRow) → handed_to n (map (λ (row : ListenerRow). Matching row.id (after row)) rows) ≡ []
statuses_unheard n after [] = refl
statuses_unheard n after (row ∷ rows) = statuses_unheard n after rows

pub unheard : (n : ℕ) (fx : List Effect) (past : List Entry) (x : Entry) → handed_to n (fx ++ listener_effects past x) ≡ handed_to n fx
unheard n fx past x =
    let ended = filter (λ (row : ListenerRow). not (is_listener row.id (live_listeners (x ∷ past)))) (live_listeners past) in
    let before : ListenerRow → Bool = λ row. is_listener row.id (live_listeners past) && is_matched past row in
    let after : ListenerRow → Bool = is_matched (x ∷ past) in
    let hearing = filter (λ (row : ListenerRow). differ (before row) (after row)) (live_listeners (x ∷ past)) in
    handed_append n fx (listener_effects past x)
    ∙ ap (λ (rs : List Replied). handed_to n fx ++ rs)
    (handed_append n (listener_ends ended) (turned before after (live_listeners (x ∷ past)))
    ∙ ap (λ (rs : List Replied). rs ++ handed_to n (turned before after (live_listeners (x ∷ past)))) (ends_unheard n ended) ∙ statuses_unheard n after hearing)
    ∙ append-nil (handed_to n fx)

-- an open get is found under its number
found_state : (xs : List Asked) → Ascend (λ (a : Asked). a.row.number) xs → AllByRecursion (λ (a : Asked). get_at a.row.number (map state xs) ≡ Some (state a)) xs
found_state [] up = tt
found_state (a ∷ xs) up = (
  rw (same_number a.row.number) refl,
  all_both (λ (b : Asked). a.row.number < b.row.number) (λ (b : Asked). get_at b.row.number (map state xs) ≡ Some (state b)) (λ (b : Asked). get_at b.row.number (map state (a ∷ xs)) ≡ Some (state b))
      (λ b less ih. rw (not_same a.row.number b.row.number less) ih) xs up.0 (found_state xs up.1),
)

swapped : (m n : ℕ) → (m == n) ≡ (n == m)
swapped m n = go (m == n) refl (n == m) refl
  where
    go : (b : Bool) → (m == n) ≡ b → (c : Bool) → (n == m) ≡ c → b ≡ c
    go true is true also = refl
    go false is false also = refl
    go true is false also = let same : (n == m) ≡ true = ap (λ (k : ℕ). k == m) (sym (eqb-true m n is)) ∙ same_number m in cc
    go false is true also = let same : (m == n) ≡ true = ap (λ (k : ℕ). m == k) (eqb-true n m also) ∙ same_number m in cc

-- what it is handed by its table is what it hears
by_mode : (mode : ConsolidationMode) (pass : Bool) (reply : Replied) → peeked (peek_in mode pass) reply ≡ handed_now mode pass reply
by_mode by.Auto pass reply = refl
by_mode by.None pass reply = refl
by_mode by.Monotonic true reply = refl
by_mode by.Monotonic false reply = refl
by_mode by.Latest true reply = refl
by_mode by.Latest false reply = refl

reply_heard : (a : Asked) (number : ℕ) (reply : Replied) (gets : List OpenGet) → get_at a.row.number gets ≡ Some (state a)
    → given_by a.row.number gets (ReplyTo number reply) ≡ handed_by a (ReplyTo number reply)
reply_heard a number reply gets found = go (number == a.row.number) refl
  where
    taken : (t : Bool) → takes_key a.row (key_of reply) ≡ t
        → peeked (peek_get (state a) reply) reply ≡ (if t then handed_now a.row.mode (passes_all (replies_in a.row a.since) reply) reply else [])
    taken true takes =
        ap (λ p. peeked p reply) (stands (waiting a) (replies_in a.row a.since) reply takes).outcome ∙ by_mode a.row.mode (passes_all (replies_in a.row a.since) reply) reply
    taken false takes = ap (λ (t : Bool). peeked (if t then peek_by a.row.mode (state a) reply else peek.Unmatched) reply) takes

    go : (b : Bool) → (number == a.row.number) ≡ b
        → (if b then peeked (peek_at (get_at number gets) reply) reply else [])
        ≡ (if (a.row.number == number) && takes_key a.row (key_of reply) then handed_now a.row.mode (passes_all (replies_in a.row a.since) reply) reply else [])
    go true same =
        let its : number ≡ a.row.number = eqb-true number a.row.number same in
        let at : get_at number gets ≡ Some (state a) = ap (λ (m : ℕ). get_at m gets) its ∙ found in
        ap (λ o. peeked (peek_at o reply) reply) at
        ∙ taken (takes_key a.row (key_of reply)) refl
        ∙ sym (ap (λ (b : Bool). if b && takes_key a.row (key_of reply) then handed_now a.row.mode (passes_all (replies_in a.row a.since) reply) reply else []) (swapped a.row.number number ∙ same))
    go false other = sym (ap (λ (b : Bool). if b && takes_key a.row (key_of reply) then handed_now a.row.mode (passes_all (replies_in a.row a.since) reply) reply else []) (swapped a.row.number number ∙ other))

final_heard : (a : Asked) (number : ℕ) (side : Side) (gets : List OpenGet) → get_at a.row.number gets ≡ Some (state a)
    → given_by a.row.number gets (FinalOf number side) ≡ handed_by a (FinalOf number side)
final_heard a number side gets found = go (number == a.row.number) refl
  where
    by_sides : (m o : Bool) → ended_with (if m then if o then outcome.Counted else outcome.Ended (kept_by a) else outcome.Repeated) ≡ (if m && not o then kept_by a else [])
    by_sides true true = refl
    by_sides true false = refl
    by_sides false o = refl

    go : (b : Bool) → (number == a.row.number) ≡ b
        → (if b then ended_with (final_outcome side (get_at number gets)) else []) ≡ (if (a.row.number == number) && is_last side (waiting a) then kept_by a else [])
    go true same =
        let its : number ≡ a.row.number = eqb-true number a.row.number same in
        ap (λ o. ended_with (final_outcome side o)) (ap (λ (m : ℕ). get_at m gets) its ∙ found)
        ∙ by_sides (wants side (waiting a)) (wants (other_side side) (waiting a))
        ∙ sym (ap (λ (b : Bool). if b && is_last side (waiting a) then kept_by a else []) (swapped a.row.number number ∙ same))
    go false other = sym (ap (λ (b : Bool). if b && is_last side (waiting a) then kept_by a else []) (swapped a.row.number number ∙ other))

news_heard : (a : Asked) (news : News) (gets : List OpenGet) → get_at a.row.number gets ≡ Some (state a) → given_by a.row.number gets news ≡ handed_by a news
news_heard a (ReplyTo number reply) gets found = reply_heard a number reply gets found
news_heard a (FinalOf number side) gets found = final_heard a number side gets found
news_heard a (AtMoment moment) gets found = ap (at_end moment) found
news_heard a Quiet gets found = refl
news_heard a (QuerierEnds id) gets found = refl
news_heard a (CancelledBy token) gets found = refl
news_heard a AllEnd gets found = refl

pub gets_are_handed : GetsAreHanded
gets_are_handed s h e = all_weaker Found Handed one xs (found_state xs (ascend_filter (λ (a : Asked). a.row.number) is_open (asked s past) (standing s h).asking.ascend))
  where
    past : List Entry
    past = past_of s h

    xs : List Asked
    xs = filter is_open (asked s (past_of s h))

    Found : Asked → Type 0
    Found a = get_at a.row.number (map state (filter is_open (asked s (past_of s h)))) ≡ Some (state a)

    own : Asked → List Replied
    own a =
        handed_by a (heard_at s (past_of s h) e) ++ errors_by s.zid (open_now s (past_of s h)) (values_now (past_of s h)) a.row.number (to_gets_of (past_of s h) e) (row_of e).to_values

    Handed : Asked → Type 0
    Handed a =
        handed_to a.row.number (effects s h e).effects
        ≡ accepted_alone (refusal_of s (past_of s h) e) (is_closed (past_of s h))
        (handed_by a (heard_at s (past_of s h) e) ++ errors_by s.zid (open_now s (past_of s h)) (values_now (past_of s h)) a.row.number (to_gets_of (past_of s h) e) (row_of e).to_values)

    up : Ascend (λ (g : OpenGet). g.row.number) (open_now s (past_of s h))
    up = open_ascend (asked s (past_of s h)) (standing s h).asking.ascend

    one : (a : Asked) → Found a → Handed a
    one a found = go (is_closed (past_of s h)) (refusal_of s (past_of s h) e)
      where
        told : handed_to a.row.number (effects_behind s (past_of s h) e) ≡ own a
        told =
            unheard a.row.number (effects_on (known_of s (past_of s h)) (entry_of s (past_of s h) e).number (named_text (past_of s h) e) e) (past_of s h) (entry_of s (past_of s h) e)
            ∙ given_to a.row.number (known_of s (past_of s h)) e (entry_of s (past_of s h) e).number (named_text (past_of s h) e) up
            ∙ ap (λ (rs : List Replied). rs ++ errors_by s.zid (open_now s (past_of s h)) (values_now (past_of s h)) a.row.number (to_gets_of (past_of s h) e) (row_of e).to_values)
            (news_heard a (heard_at s (past_of s h) e) (open_now s (past_of s h)) found)

        go : (b : Bool) (o : Option Refusal)
            → handed_to a.row.number (if b then answered o None [] else answered o (entry_of s (past_of s h) e).number (effects_behind s (past_of s h) e)).effects
            ≡ accepted_alone o b (own a)
        go true (Some refusal) = refl
        go true None = refl
        go false (Some refusal) = refl
        go false None = told
