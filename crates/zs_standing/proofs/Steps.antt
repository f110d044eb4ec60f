-- What one step makes of a state that stands for a history.
use Rattle.std.proofs.Common.{◌≡◌, List, [], ◌∷◌, Bool, true, refl, sym, ◌∙◌, ap, subst}
use Rattle.std.specs.Prelude.{ℕ, is_some}
use Rattle.zs_events.specs.declared.event.Event.{Event}
use Rattle.zs_model.specs.declared.settings.Settings.{Settings}
use Rattle.zs_world.specs.declared.change.Change.{Change}
use Rattle.zs_world.specs.declared.change.Decision.{Decision}
use Rattle.zs_events.specs.declared.turn.Kind.{Kind}
use Rattle.zs_events.specs.declared.turn.Kind.TheVariants.{Get, LivelinessGet}
use Rattle.zs_query.specs.declared.open_get.OpenGet.{OpenGet}
use Rattle.zs_query.specs.Gets.{get_at}
use Rattle.zs_tables.specs.LivelinessGets.{is_asking}
use Rattle.zs_model.specs.Cancelling.{is_among}
use Rattle.zs_events.specs.Turn.{was_refused}
use Rattle.zs_world.specs.World.{World}
use Rattle.zs_model.specs.Entry.{Entry}
use Rattle.zs_entity_tables.specs.DeclaredKeys.{has_holder}
use Rattle.zs_model.specs.Past.{past_of}
use Rattle.zs_standing.specs.Plans.{Plans}
use Rattle.zs_world.specs.Changes.{with_change, change_for, Fits}
use Rattle.zs_world.specs.Decisions.{is_there, decision, with_listeners}
use Rattle.zs_standing.specs.Stands.{world_of, world_after, lives, Previews, TakesStep, ClosedIs, NowIs, IsHeld, IsLive, IsTaken}
use Rattle.zs_standing.proofs.Decisions.{entry_for, cases}
use Rattle.zs_standing.proofs.Changes.{made}
use Rattle.zs_standing.proofs.Saying.{IsMade}
use Rattle.zs_standing.proofs.DeclaredKeys.{held_is}
use Rattle.zs_standing.proofs.Matched.{living_is, SaysMatching}
use Rattle.zs_standing.proofs.MatchingMade.{matching_made}
use Rattle.zs_standing.proofs.Stands.{AreStanding, standing, same_turn, steps}

-- what holds of no past, and goes on with each event that an open session accepts, holds after every history
pub along : (s : Settings) (P : World → List Entry → Type 0) → P (world_after s []) []
    → ((w : World) (past : List Entry) (x : Entry) (c : Change) → IsMade w x c → SaysMatching w x c → P w past → P (with_change c w) (x ∷ past))
    → (h : List Event) → P (world_after s h) (past_of s h)
along s P none more [] = none
along s P none more (e ∷ h) =
    let p = along s P none more h in
    let w = world_after s h in
    steps s h e (λ (d : Decision) (past : List Entry). P (world_of s past) past)
    (cases w e (past_of s h) (λ (d : Decision) (past : List Entry). P (world_of s past) past)
    (λ refusal number fx c. p) (λ shut. p)
    (λ unshut accepted. more w (past_of s h) (entry_for w e) (change_for w e) (made w e unshut accepted) (matching_made w e (made w e unshut accepted) accepted) p))

-- a decision's change makes of the world what the event makes of it
pub next_is : (s : Settings) (h : List Event) (e : Event) → with_change (decision (world_after s h) e).change (world_after s h) ≡ world_after s (e ∷ h)
next_is s h e =
    let w = world_after s h in
    steps s h e (λ (d : Decision) (past : List Entry). with_change d.change w ≡ world_of s past)
    (cases w e (past_of s h) (λ (d : Decision) (past : List Entry). with_change d.change w ≡ world_of s past)
    (λ refusal number fx c. refl) (λ shut. refl) (λ unshut accepted. refl))

-- a preview's turn is the decision's
pub previews_on : (w : World) (e : Event) (d : Decision) → d ≡ with_listeners w (decision w e) → Previews w e d.turn
previews_on w e d is s h stands =
    ap (λ (d : Decision). d.turn) is ∙ ap (λ (v : World). (with_listeners v (decision v e)).turn) stands ∙ same_turn s (world_after s h) (past_of s h) e (standing s h)

-- one step decides and applies
pub steps_on : (w new : World) (e : Event) (d : Decision) → d ≡ with_listeners w (decision w e) → new ≡ with_change d.change w → TakesStep w new e d.turn
steps_on w new e d is changed s h stands = (
  previews_on w e d is s h stands,
  changed ∙ ap (λ (d : Decision). with_change d.change w) is ∙ ap (λ (v : World). with_change (decision v e).change v) stands ∙ next_is s h e,
)

-- what a decision takes for granted holds
fits_by : (w : World) (e : Event) → Fits w (decision w e).change
fits_by w e =
    cases w e [] (λ (d : Decision) (past : List Entry). Fits w d.change) (λ refusal number fx c. tt) (λ shut. tt)
    (λ unshut accepted. (made w e unshut accepted).fits)

-- before listeners hear of it, and then
pub alone_fits : (w : World) (e : Event) (d : Decision) → d ≡ decision w e → Fits w d.change
alone_fits w e d is = subst (λ (d : Decision). Fits w d.change) (sym is) (fits_by w e)

pub decision_fits : (w : World) (e : Event) (d : Decision) → d ≡ with_listeners w (decision w e) → Fits w d.change
decision_fits w e d is = subst (λ (d : Decision). Fits w d.change) (sym is) (fits_by w e)

-- a refused event changes nothing
refused_by : (w : World) (e : Event) → was_refused (decision w e).turn.answer ≡ true → with_change (decision w e).change w ≡ w
refused_by w e =
    cases w e [] (λ (d : Decision) (past : List Entry). was_refused d.turn.answer ≡ true → with_change d.change w ≡ w)
    (λ refusal number fx c refused. refl) (λ shut refused. refl) (λ unshut accepted refused. cc)

pub refused_same : (w new : World) (e : Event) (d : Decision) → d ≡ with_listeners w (decision w e) → new ≡ with_change d.change w → was_refused d.turn.answer ≡ true → new ≡ w
refused_same w new e d is changed refused =
    changed ∙ ap (λ (d : Decision). with_change d.change w) is ∙ refused_by w e (sym (ap (λ (d : Decision). was_refused d.turn.answer) is) ∙ refused)

-- a decision is a plan
pub plans_on : (w : World) (e : Event) (d : Decision) → d ≡ with_listeners w (decision w e) → Plans w e d
plans_on w e d is = record {
  previews = previews_on w e d is;
  fits = decision_fits w e d is;
  steps = λ new changed. steps_on w new e d is changed;
  refuses = λ refused. refused_same w (with_change d.change w) e d is refl refused;
}

-- whether something is live by the tables, where a get is live while it is open
abbrev pub is_here : Kind → ℕ → World → Bool
is_here Get id w = is_some (get_at id w.asking.gets)
is_here LivelinessGet id w = is_asking id w.liveliness.gets
is_here kind id w = is_there kind id w

here_is : (s : Settings) (w : World) (past : List Entry) (kind : Kind) (id : ℕ) → AreStanding s w past → is_here kind id w ≡ lives s kind id past
here_is s w past Get id st = ap (λ (gets : List OpenGet). is_some (get_at id gets)) st.asking.gets
here_is s w past LivelinessGet id st = ap (is_asking id) st.watched.gets
here_is s w past kind id st = living_is w past kind id st.live st.matched

-- what a state is asked is what the events of its history tell
pub closed_told : (w : World) (answer : Bool) → answer ≡ w.closed → ClosedIs w answer
closed_told w answer is s h stands = is ∙ ap (λ (v : World). v.closed) stands ∙ (standing s h).known.closed

pub held_told : (w : World) (n : ℕ) (answer : Bool) → answer ≡ has_holder n w.keys.holders → IsHeld w n answer
held_told w n answer is s h stands =
    is ∙ ap (λ (v : World). has_holder n v.keys.holders) stands ∙ held_is (world_after s h) (past_of s h) n (standing s h).known

pub live_told : (w : World) (kind : Kind) (id : ℕ) (answer : Bool) → answer ≡ is_here kind id w → IsLive w kind id answer
live_told w kind id answer is s h stands = is ∙ ap (is_here kind id) stands ∙ here_is s (world_after s h) (past_of s h) kind id (standing s h)

pub now_told : (w : World) (answer : ℕ) → answer ≡ w.asking.moment → NowIs w answer
now_told w answer is s h stands = is ∙ ap (λ (v : World). v.asking.moment) stands ∙ (standing s h).asking.moment

pub taken_told : (w : World) (token : ℕ) (answer : Bool) → answer ≡ is_among w.cancelling.taken token → IsTaken w token answer
taken_told w token answer is s h stands = is ∙ ap (λ (v : World). is_among v.cancelling.taken token) stands ∙ (standing s h).cancelling.taken token
