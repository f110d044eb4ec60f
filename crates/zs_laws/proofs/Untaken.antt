-- No open get has a cancellation token that was taken, so a token that is cancelled again ends nothing.
use Rattle.std.proofs.Common.{◌≡◌, ℕ, List, [], ◌∷◌, ◌++◌, Bool, true, false, Option, Some, None, refl, sym, ◌∙◌, ap, subst, map, cond}
use Rattle.std.specs.Prelude.{◌==◌, ◌||◌, not, filter, if◌then◌else◌}
use Rattle.std.specs.List.{AllByRecursion}
use Rattle.std.proofs.lemmas.Bool.{eqb-true}
use Rattle.zs_subscriptions.specs.Ascending.{placed_by}
use Rattle.zs_tables.specs.declared.queryable.QueryableRow.{QueryableRow}
use Rattle.zs_sample.specs.Reply.{Replied}
use Rattle.zs_query.specs.declared.side.Side.{Side}
use Rattle.zs_query.specs.declared.side.Side.TheVariants.{Network}
use Rattle.zs_query.specs.declared.get_row.GetRow.{GetRow}
use Rattle.zs_query.specs.declared.open_get.OpenGet.{OpenGet}
use Rattle.zs_query.specs.Types.{QueryValue}
use Rattle.zs_query.specs.declared.outcome.Outcome.{Outcome}
use Rattle.zs_query.specs.declared.outcome.Outcome.TheVariants as outcome
use Rattle.zs_query.specs.declared.outcome.Peek.{Peek}
use Rattle.zs_query.specs.declared.outcome.Peek.TheVariants as peek
use Rattle.zs_query.specs.Gets.{get_at, with_get, fresh, peek_get, after_reply, replied, less_final, final_outcome, after_final, names}
use Rattle.zs_query.specs.Asked.{News, Quiet, ReplyTo, FinalOf, AtMoment, QuerierEnds, CancelledBy, AllEnd, waits, is_end, opened, gets_after}
use Rattle.zs_query.specs.GetTable.{Asking}
use Rattle.zs_query.proofs.Ascending.{all_append, all_filter}
use Rattle.zs_events.specs.declared.event.Event.{Event}
use Rattle.zs_events.specs.Kinds.{ToGets, NoGet, Asks, AsksBy, Answers, EndsSide, Reaches, EndsQuerier, Cancels, EndsAll, ToValues, ToLiveliness, Question, asking_cancellation_token, row_of}
use Rattle.zs_events.specs.declared.inquiry.Inquiry.{Inquiry}
use Rattle.zs_model.specs.declared.settings.Settings.{Settings}
use Rattle.zs_model.specs.declared.querier.QuerierRow.{QuerierRow}
use Rattle.zs_world.specs.declared.change.Decision.{Decision}
use Rattle.zs_world.specs.World.{World}
use Rattle.zs_model.specs.Entry.{Entry}
use Rattle.zs_model.specs.Past.{past_of}
use Rattle.zs_model.specs.Cancelling.{is_any, is_among, is_taken}
use Rattle.zs_model.specs.Queriers.{querier_at, question_of, asks_of, to_gets_by}
use Rattle.zs_model.specs.Questions.{row_waiting}
use Rattle.zs_model.specs.Values.{met_by_get}
use Rattle.zs_model.specs.Gets.{open_now}
use Rattle.zs_model.specs.GetEffects.{ended_numbers}
use Rattle.zs_world.specs.Changes.{with_change, change_for}
use Rattle.zs_world.specs.Decisions.{open_cause, sight}
use Rattle.zs_standing.specs.Stands.{world_of, world_after}
use Rattle.zs_model.proofs.Placing.{placed_any}
use Rattle.zs_model.proofs.Cancelling.{taken_by}
use Rattle.zs_model.proofs.Gets.{asking_by}
use Rattle.zs_standing.proofs.Decisions.{entry_for, cases}
use Rattle.zs_standing.proofs.Saying.{IsMade, passed}
use Rattle.zs_standing.proofs.Changes.{made}
use Rattle.zs_standing.proofs.Stands.{standing, steps}

-- the tokens of these gets were not taken
abbrev IsUntaken : List ℕ → OpenGet → Type 0
IsUntaken taken g = is_any (is_among taken) g.row.cancellation_token ≡ false

abbrev AreUntaken : List ℕ → List OpenGet → Type 0
AreUntaken taken gets = AllByRecursion (IsUntaken taken) gets

-- what keeps the tokens of gets keeps them untaken
kept_tokens : (taken : List ℕ) (f : OpenGet → OpenGet) → ((g : OpenGet) → (f g).row.cancellation_token ≡ g.row.cancellation_token) → (gets : List OpenGet) → AreUntaken taken gets → AreUntaken taken (map f gets)
kept_tokens taken f keeps [] all = tt
kept_tokens taken f keeps (g ∷ gets) all = (rw (keeps g) all.0, kept_tokens taken f keeps gets all.1)

replied_token : (reply : Replied) (g : OpenGet) → (replied reply g).row.cancellation_token ≡ g.row.cancellation_token
replied_token reply g = go (peek_get g reply)
  where
    go : (p : Peek) → (after_reply p reply g).row.cancellation_token ≡ g.row.cancellation_token
    go peek.Kept = refl
    go peek.Handed = refl
    go peek.Unknown = refl
    go peek.Unmatched = refl
    go peek.Dropped = refl

one_token : (n : ℕ) (f : OpenGet → OpenGet) → ((g : OpenGet) → (f g).row.cancellation_token ≡ g.row.cancellation_token) → (g : OpenGet) → (if g.row.number == n then f g else g).row.cancellation_token ≡ g.row.cancellation_token
one_token n f keeps g = go (g.row.number == n)
  where
    go : (b : Bool) → (if b then f g else g).row.cancellation_token ≡ g.row.cancellation_token
    go true = keeps g
    go false = refl

final_untaken : (taken : List ℕ) (out : Outcome) (side : Side) (n : ℕ) (gets : List OpenGet) → AreUntaken taken gets → AreUntaken taken (after_final out side n gets)
final_untaken taken outcome.Counted side n gets all = kept_tokens taken (λ g. if g.row.number == n then less_final side g else g) (one_token n (less_final side) (λ g. refl)) gets all
final_untaken taken (outcome.Ended replies) side n gets all = all_filter (IsUntaken taken) (λ g. not (g.row.number == n)) gets all
final_untaken taken outcome.Unknown side n gets all = all
final_untaken taken outcome.Unmatched side n gets all = all
final_untaken taken outcome.Kept side n gets all = all
final_untaken taken outcome.Dropped side n gets all = all
final_untaken taken (outcome.Handed reply) side n gets all = all
final_untaken taken outcome.Repeated side n gets all = all

news_untaken : (taken : List ℕ) (news : News) (gets : List OpenGet) → AreUntaken taken gets → AreUntaken taken (gets_after news gets)
news_untaken taken Quiet gets all = all
news_untaken taken (ReplyTo n reply) gets all = kept_tokens taken (λ g. if g.row.number == n then replied reply g else g) (one_token n (replied reply) (replied_token reply)) gets all
news_untaken taken (FinalOf n side) gets all = final_untaken taken (final_outcome side (get_at n gets)) side n gets all
news_untaken taken (AtMoment moment) gets all = all_filter (IsUntaken taken) _ gets all
news_untaken taken (QuerierEnds id) gets all = all_filter (IsUntaken taken) _ gets all
news_untaken taken (CancelledBy token) gets all = all_filter (IsUntaken taken) _ gets all
news_untaken taken AllEnd gets all = tt

-- a get that is asked with a token that was not taken
opened_untaken : (taken : List ℕ) (row : GetRow) (gets : List OpenGet) → is_any (is_among taken) row.cancellation_token ≡ false → AreUntaken taken gets → AreUntaken taken (opened row gets)
opened_untaken taken row gets free all = go (waits row)
  where
    go : (b : Bool) → AreUntaken taken (if b then gets ++ fresh row ∷ [] else gets)
    go true = all_append (IsUntaken taken) gets (fresh row ∷ []) all (free, tt)
    go false = all

-- a token that is taken, without the gets that have it
other_token : (taken : List ℕ) (token : ℕ) (o : Option ℕ) → names token o ≡ false → is_any (is_among taken) o ≡ false → is_any (is_among (placed_by (λ n. n) token taken)) o ≡ false
other_token taken token None other free = refl
other_token taken token (Some t) other free = placed_any t token taken ∙ (λ i. other i || free i)

taken_untaken : (taken : List ℕ) (token : ℕ) (gets : List OpenGet) → AreUntaken taken gets → AreUntaken (placed_by (λ n. n) token taken) (gets_after (CancelledBy token) gets)
taken_untaken taken token [] all = tt
taken_untaken taken token (g ∷ gets) all = go (names token g.row.cancellation_token) refl (taken_untaken taken token gets all.1)
  where
    new : List ℕ
    new = placed_by (λ n. n) token taken

    left : List OpenGet
    left = filter (λ g. not (names token g.row.cancellation_token)) gets

    go : (b : Bool) → names token g.row.cancellation_token ≡ b → AreUntaken new left → AreUntaken new (cond (not b) (g ∷ left) left)
    go true is rest = rest
    go false is rest = (other_token taken token g.row.cancellation_token is all.0, rest)

-- so each event keeps them so
asked_untaken : (default zid : ℕ) (rows : List QueryableRow) (values : List QueryValue) (q : Question) (does : ToValues) (text : Option (List ℕ)) (taken : List ℕ) (a : Asking)
    → is_any (is_among taken) q.inquiry.cancellation_token ≡ false → AreUntaken taken a.gets → AreUntaken taken (asking_by default zid rows values (Asks q) does text a).gets
asked_untaken default zid rows values q does None taken a free all = all
asked_untaken default zid rows values q does (Some text) taken a free all =
    opened_untaken taken (row_waiting default a.moment a.next text q (met_by_get rows q text)) a.gets free all

event_untaken : (default zid : ℕ) (rows : List QueryableRow) (values : List QueryValue) (queriers : List QuerierRow) (to : ToGets) (liveliness : ToLiveliness) (does : ToValues) (text : Option (List ℕ)) (taken : List ℕ) (a : Asking)
    → is_any (is_among taken) (asking_cancellation_token to liveliness) ≡ false → AreUntaken taken a.gets
    → AreUntaken (taken_by to taken) (asking_by default zid rows values (to_gets_by queriers to) does text a).gets
event_untaken default zid rows values queriers (Asks q) liveliness does text taken a free all = asked_untaken default zid rows values q does text taken a free all
event_untaken default zid rows values queriers (AsksBy id q) liveliness does text taken a free all = go (querier_at id queriers)
  where
    go : (o : Option QuerierRow) → AreUntaken taken (asking_by default zid rows values (asks_of q o) does text a).gets
    go None = news_untaken taken _ a.gets all
    go (Some row) = asked_untaken default zid rows values (question_of row q) does text taken a free all
event_untaken default zid rows values queriers (Cancels token) liveliness does text taken a free all = taken_untaken taken token a.gets all
event_untaken default zid rows values queriers NoGet liveliness does text taken a free all = news_untaken taken _ a.gets all
event_untaken default zid rows values queriers (Answers response) liveliness does text taken a free all = news_untaken taken _ a.gets all
event_untaken default zid rows values queriers (EndsSide n) liveliness does text taken a free all = news_untaken taken (FinalOf n Network) a.gets all
event_untaken default zid rows values queriers (Reaches moment) liveliness does text taken a free all = news_untaken taken (AtMoment moment) a.gets all
event_untaken default zid rows values queriers (EndsQuerier id) liveliness does text taken a free all = news_untaken taken (QuerierEnds id) a.gets all
event_untaken default zid rows values queriers EndsAll liveliness does text taken a free all = tt

abbrev Untaken : World → Type 0
Untaken w = AreUntaken w.cancelling.taken w.asking.gets

accepted_untaken : (w : World) (e : Event) → IsMade w (entry_for w e) (change_for w e) → open_cause w e ≡ None → Untaken w → Untaken (with_change (change_for w e) w)
accepted_untaken w e m accepted all =
    rw (m.gets.asking, m.gets.cancelling)
    (event_untaken w.settings.default_timeout w.settings.zid w.entities.queryables w.handing.values w.entities.queriers (row_of e).to_gets (row_of e).to_liveliness (row_of e).to_values (entry_for w e).text
    w.cancelling.taken w.asking (passed (row_of e) (sight w e) accepted).free all)

untaken_after : (s : Settings) (h : List Event) → Untaken (world_after s h)
untaken_after s [] = tt
untaken_after s (e ∷ h) =
    let w = world_after s h in
    let P = λ (d : Decision) (past : List Entry). Untaken (world_of s past) in
    steps s h e P (cases w e (past_of s h) P (λ refusal number fx c. untaken_after s h) (λ shut. untaken_after s h)
    (λ unshut accepted. accepted_untaken w e (made w e unshut accepted) accepted (untaken_after s h)))

-- so no open get has one that was
none_named : (taken : List ℕ) (token : ℕ) (gets : List OpenGet) → is_among taken token ≡ true → AreUntaken taken gets → ended_numbers (CancelledBy token) gets ≡ []
none_named taken token [] was all = refl
none_named taken token (g ∷ gets) was all = go g.row.cancellation_token refl (none_named taken token gets was all.1)
  where
    ended : Bool → List ℕ
    ended b = map (λ (g : OpenGet). g.row.number) (cond b (g ∷ filter (λ (g : OpenGet). is_end g.row (CancelledBy token)) gets) (filter (λ (g : OpenGet). is_end g.row (CancelledBy token)) gets))

    same : (t : ℕ) (b : Bool) → (t == token) ≡ b → is_among taken t ≡ false → ended_numbers (CancelledBy token) gets ≡ [] → ended b ≡ []
    same t false is free rest = rest
    same t true is free rest = let no : true ≡ false = sym was ∙ ap (is_among taken) (sym (eqb-true t token is)) ∙ free in cc

    go : (o : Option ℕ) → g.row.cancellation_token ≡ o → ended_numbers (CancelledBy token) gets ≡ [] → ended (names token g.row.cancellation_token) ≡ []
    go None is rest = ap (λ (o : Option ℕ). ended (names token o)) is ∙ rest
    go (Some t) is rest = ap (λ (o : Option ℕ). ended (names token o)) is ∙ same t (t == token) refl (ap (is_any (is_among taken)) (sym is) ∙ all.0) rest

pub ends_nothing : (s : Settings) (h : List Event) (token : ℕ) → is_taken token (past_of s h) ≡ true → ended_numbers (CancelledBy token) (open_now s (past_of s h)) ≡ []
ends_nothing s h token was =
    let st = standing s h in
    ap (ended_numbers (CancelledBy token)) (sym st.asking.gets)
    ∙ none_named (world_after s h).cancelling.taken token (world_after s h).asking.gets (st.cancelling.taken token ∙ was) (untaken_after s h)
