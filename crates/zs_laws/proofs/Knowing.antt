-- What each listener was told last is whether anyone matches it, and it is told just what changes: by the tables, over every history.
use Rattle.std.proofs.Common.{◌≡◌, ◌≤◌, ◌<◌, ◌+◌, ℕ, Bool, true, false, List, [], ◌∷◌, ◌++◌, refl, sym, ap, subst, ◌∙◌, arith}
use Rattle.std.specs.Prelude.{◌==◌, ◌&&◌, ◌||◌, not, filter, if◌then◌else◌}
use Rattle.std.specs.List.{AllByRecursion}
use Rattle.std.proofs.lemmas.Bool.Decides.{nat_tests}
use Rattle.zs_subscriptions.specs.Ascending.{Ascend}
use Rattle.zs_tables.specs.Matching.{status}
use Rattle.zs_tables.specs.MatchingLaws.{differ}
use Rattle.zs_tables.specs.declared.listener.ListenerRow.{ListenerRow}
use Rattle.zs_subscriptions.proofs.Ascending.{all_weaker, all_both, all_filter, all_push, ascend_filter, ascend_push}
use Rattle.zs_subscriptions.proofs.ByKey.{by_test}
use Rattle.zs_events.specs.declared.event.Event.{Event}
use Rattle.zs_events.specs.declared.turn.Effect.{Effect}
use Rattle.zs_events.specs.declared.turn.Effect.TheVariants.{End}
use Rattle.zs_events.specs.declared.turn.Kind.TheVariants.{Listener as listener_kind}
use Rattle.zs_world.specs.declared.change.Change.{Change}
use Rattle.zs_events.specs.declared.entity_kind.EntityKind.TheVariants.{Pub as pub_sort, Querier as querier_sort, Listener as listener_sort}
use Rattle.zs_world.specs.declared.change.Change.TheVariants.{OfEntities, OfMatching, Shut}
use Rattle.zs_world.specs.declared.change.EntityChange.TheVariants.{Add as AddEntity, End as EndEntity}
use Rattle.zs_world.specs.declared.change.EntityRow.TheVariants.{Listener as new_listener}
use Rattle.zs_world.specs.declared.change.MatchingChange.TheVariants.{TellSub}
use Rattle.zs_world.specs.declared.change.Decision.{Decision}
use Rattle.zs_model.specs.declared.settings.Settings.{Settings}
use Rattle.zs_world.specs.World.{World, present_at}
use Rattle.zs_model.specs.Entry.{Entry}
use Rattle.zs_model.specs.Live.{live_listeners}
use Rattle.zs_model.specs.Listeners.{is_listener, listener_ends}
use Rattle.zs_model.specs.Matching.{is_matched, turned}
use Rattle.zs_model.specs.Heard.{told_to, last_of, last_told}
use Rattle.zs_model.specs.Past.{past_of}
use Rattle.zs_world.specs.Changes.{with_change, change_for, Fits}
use Rattle.zs_model.specs.Effects.{effects}
use Rattle.zs_world.specs.Decisions.{number_for, text_for, known_at, effects_of, decision, listener_effects_at, with_listeners}
use Rattle.zs_standing.specs.Stands.{world_after}
use Rattle.zs_standing.proofs.Decisions.{cases}
use Rattle.zs_standing.proofs.Changes.{made}
use Rattle.zs_standing.proofs.Watching.{entity_up}
use Rattle.zs_world.proofs.Hearing.{all_there, between_same, not_there}
use Rattle.zs_standing.proofs.Matched.{matched_is}
use Rattle.zs_laws.proofs.Brought.{all_map}
use Rattle.zs_laws.proofs.Silent.{IsSilent, told_append, silent, silent_effects}
use Rattle.zs_standing.proofs.Stands.{standing, same_turn}
use Rattle.zs_standing.proofs.Steps.{along, next_is}

-- listeners stand in ascending number, below the next entity's
pub record AreNumbered (w : World) : Type 0 where
  pub ascend : Ascend (λ (row : ListenerRow). row.id) w.matching.listeners
  pub below : AllByRecursion (λ (row : ListenerRow). row.id < w.counters.entity) w.matching.listeners

-- what a change makes of the listeners: nothing, one more of the next number, those alone that pass a test, or none
by_listeners : (P : List ListenerRow → Type 0) (w : World) (c : Change) → Fits w c → P w.matching.listeners
    → ((row : ListenerRow) → row.id ≡ w.counters.entity → (with_change c w).counters.entity ≡ w.counters.entity + 1 → P (w.matching.listeners ++ row ∷ []))
    → ((keep : ListenerRow → Bool) → P (filter keep w.matching.listeners)) → P [] → P (with_change c w).matching.listeners
by_listeners P w (OfEntities (AddEntity (new_listener row))) fits same more fewer none = more row fits.0 refl
by_listeners P w (OfEntities (EndEntity listener_sort id)) fits same more fewer none = fewer (λ row. not (row.id == id))
by_listeners P w (OfEntities (EndEntity pub_sort id)) fits same more fewer none = fewer (λ row. not (row.parent == id))
by_listeners P w (OfEntities (EndEntity querier_sort id)) fits same more fewer none = fewer (λ row. not (row.parent == id))
by_listeners P w (OfMatching (TellSub row)) fits same more fewer none = same
by_listeners P w Shut fits same more fewer none = none
by_listeners P w c fits same more fewer none = same

-- what holds of each listener holds of those that a change leaves, and of a new one if it holds of the next number's
behind_each : (w : World) (c : Change) (P : ListenerRow → Type 0) → Fits w c → AllByRecursion P w.matching.listeners → ((row : ListenerRow) → row.id ≡ w.counters.entity → P row)
    → AllByRecursion P (with_change c w).matching.listeners
behind_each w c P fits all new =
    by_listeners (AllByRecursion P) w c fits all
    (λ row next up. all_push P w.matching.listeners row all (new row next)) (λ keep. all_filter P keep w.matching.listeners all) tt

-- they keep their order
ascend_behind : (w : World) (c : Change) → Fits w c → AreNumbered w → Ascend (λ (row : ListenerRow). row.id) (with_change c w).matching.listeners
ascend_behind w c fits n =
    by_listeners (Ascend (λ (row : ListenerRow). row.id)) w c fits n.ascend
    (λ row next up. ascend_push (λ (row : ListenerRow). row.id) w.matching.listeners row n.ascend (rw next n.below))
    (λ keep. ascend_filter (λ (row : ListenerRow). row.id) keep w.matching.listeners n.ascend) tt

-- and their numbers stay below the next one
old_below : (w : World) (c : Change) → AreNumbered w → AllByRecursion (λ (row : ListenerRow). row.id < (with_change c w).counters.entity) w.matching.listeners
old_below w c n =
    all_weaker (λ (row : ListenerRow). row.id < w.counters.entity) (λ (row : ListenerRow). row.id < (with_change c w).counters.entity)
    (λ row less. omega (arith, less, entity_up w c)) w.matching.listeners n.below

below_behind : (w : World) (c : Change) → Fits w c → AreNumbered w → AllByRecursion (λ (row : ListenerRow). row.id < (with_change c w).counters.entity) (with_change c w).matching.listeners
below_behind w c fits n =
    by_listeners (AllByRecursion (λ (row : ListenerRow). row.id < (with_change c w).counters.entity)) w c fits (old_below w c n)
    (λ row next up. all_push (λ (r : ListenerRow). r.id < (with_change c w).counters.entity) w.matching.listeners row (old_below w c n) (omega (arith, next, up)))
    (λ keep. all_filter (λ (r : ListenerRow). r.id < (with_change c w).counters.entity) keep w.matching.listeners (old_below w c n)) tt

pub numbered : (s : Settings) (h : List Event) → AreNumbered (world_after s h)
numbered s h =
    along s (λ (w : World) (past : List Entry). AreNumbered w) (record { ascend = tt; below = tt })
    (λ w past x c m k n. record { ascend = ascend_behind w c m.fits n; below = below_behind w c m.fits n }) h

-- what one is told of statuses: nothing where all others are asked for, and of its own what it is where it is another than before
abbrev pub heard_if : Bool → Bool → List Bool
heard_if before after = if differ before after then after ∷ [] else []

told_others : (id : ℕ) (p q : ListenerRow → Bool) (rows : List ListenerRow) → AllByRecursion (λ (row : ListenerRow). (row.id == id) ≡ false) rows → told_to id (turned p q rows) ≡ []
told_others id p q [] others = refl
told_others id p q (row ∷ rows) others =
    let rest = told_others id p q rows others.1 in
    by_test (differ (p row) (q row)) (λ k. rw (k, others.0) rest) (λ k. rw k rest)

told_mine : (p q : ListenerRow → Bool) (rows : List ListenerRow) → Ascend (λ (row : ListenerRow). row.id) rows
    → AllByRecursion (λ (row : ListenerRow). told_to row.id (turned p q rows) ≡ heard_if (p row) (q row)) rows
told_mine p q [] up = tt
told_mine p q (row ∷ rows) up = (
  (let mine : (row.id == row.id) ≡ true = grind (arith, nat_tests) in
      let rest : told_to row.id (turned p q rows) ≡ [] =
      told_others row.id p q rows (all_weaker (λ (later : ListenerRow). row.id < later.id) (λ (later : ListenerRow). (later.id == row.id) ≡ false) (λ later more. grind (arith, nat_tests, more)) rows up.0) in
      by_test (differ (p row) (q row)) (λ k. rw (k, mine, rest) refl) (λ k. rw (k, rest) refl)),
  all_both (λ (later : ListenerRow). row.id < later.id) (λ (later : ListenerRow). told_to later.id (turned p q rows) ≡ heard_if (p later) (q later))
      (λ (later : ListenerRow). told_to later.id (turned p q (row ∷ rows)) ≡ heard_if (p later) (q later))
      (λ later more is.
      let other : (row.id == later.id) ≡ false = grind (arith, nat_tests, more) in
      by_test (differ (p row) (q row)) (λ k. rw (k, other) is) (λ k. rw k is))
      rows up.0 (told_mine p q rows up.1),
)

-- of all that an event brings about one is told its status alone
told_behind : (id : ℕ) (fx : List Effect) (ended : List ListenerRow) (turns : List Effect) → IsSilent fx → told_to id (fx ++ (listener_ends ended ++ turns)) ≡ told_to id turns
told_behind id fx ended turns quiet =
    told_append id fx (listener_ends ended ++ turns)
    ∙ ap (λ (bs : List Bool). bs ++ told_to id (listener_ends ended ++ turns)) (quiet id)
    ∙ told_append id (listener_ends ended) turns
    ∙ ap (λ (bs : List Bool). bs ++ told_to id turns) (all_map IsSilent silent (λ (row : ListenerRow). End listener_kind row.id) (λ row n. refl) ended id)

-- what is known behind a history: each listener was told last what is so, and a number that was never drawn was told nothing
pub record Know (s : Settings) (h : List Event) (w : World) : Type 0 where
  pub each : AllByRecursion (λ (row : ListenerRow). last_told s row.id h ≡ status (present_at w) row) w.matching.listeners
  pub unused : (id : ℕ) → w.counters.entity ≤ id → last_told s id h ≡ false

-- what effects that lead to a world tell: those that live there what is another than they were told last, and nobody else
pub record Tells (s : Settings) (h : List Event) (v : World) (fx : List Effect) : Type 0 where
  pub each : AllByRecursion (λ (row : ListenerRow). told_to row.id fx ≡ heard_if (last_told s row.id h) (status (present_at v) row)) v.matching.listeners
  pub others : (id : ℕ) → is_listener id v.matching.listeners ≡ false → told_to id fx ≡ []

same_heard : (b : Bool) → heard_if b b ≡ []
same_heard true = refl
same_heard false = refl

-- where nothing changes nothing is told
tells_nothing : (s : Settings) (h : List Event) (w : World) (fx : List Effect) → fx ≡ [] → Know s h w → Tells s h w fx
tells_nothing s h w fx none k = record {
  each =
      all_weaker (λ (row : ListenerRow). last_told s row.id h ≡ status (present_at w) row) (λ (row : ListenerRow). told_to row.id fx ≡ heard_if (last_told s row.id h) (status (present_at w) row))
      (λ row is. ap (told_to row.id) none ∙ sym (same_heard (status (present_at w) row)) ∙ ap (λ (b : Bool). heard_if b (status (present_at w) row)) (sym is))
      w.matching.listeners k.each;
  others = λ id gone. ap (told_to id) none;
}

-- a listener that isn't there
absent : (id : ℕ) (rows : List ListenerRow) → is_listener id rows ≡ false → AllByRecursion (λ (row : ListenerRow). (row.id == id) ≡ false) rows
absent id [] none = tt
absent id (row ∷ rows) none = both (row.id == id) (is_listener id rows) none (absent id rows)
  where
    both : (a b : Bool) → (a || b) ≡ false → (b ≡ false → AllByRecursion (λ (row : ListenerRow). (row.id == id) ≡ false) rows)
        → (a ≡ false) × AllByRecursion (λ (row : ListenerRow). (row.id == id) ≡ false) rows
    both true b none rest = absurd (cc)
    both false b none rest = (refl, rest none)

-- what was so before, as the effects have it, is what was told last
known_before : (s : Settings) (h : List Event) (w : World) (c : Change) → Fits w c → AreNumbered w → Know s h w
    → AllByRecursion (λ (row : ListenerRow). (is_listener row.id w.matching.listeners && status (present_at w) row) ≡ last_told s row.id h) (with_change c w).matching.listeners
known_before s h w c fits n k =
    behind_each w c (λ (row : ListenerRow). (is_listener row.id w.matching.listeners && status (present_at w) row) ≡ last_told s row.id h) fits
    (all_both (λ (row : ListenerRow). is_listener row.id w.matching.listeners ≡ true) (λ (row : ListenerRow). last_told s row.id h ≡ status (present_at w) row)
    (λ (row : ListenerRow). (is_listener row.id w.matching.listeners && status (present_at w) row) ≡ last_told s row.id h)
    (λ row there is. ap (λ (b : Bool). b && status (present_at w) row) there ∙ sym is)
    w.matching.listeners (all_there w.matching.listeners) k.each)
    (λ row new.
    let gone : is_listener row.id w.matching.listeners ≡ false = not_there row.id w.matching.listeners (rw new n.below) in
    let unused : last_told s row.id h ≡ false = k.unused row.id (omega (arith, new)) in
    ap (λ (b : Bool). b && status (present_at w) row) gone ∙ sym unused)

-- so an accepted event tells just what changes
tells_change : (s : Settings) (h : List Event) (w : World) (c : Change) (fx : List Effect) → IsSilent fx → Fits w c → AreNumbered w → Know s h w
    → Tells s h (with_change c w) (fx ++ listener_effects_at w (with_change c w))
tells_change s h w c fx quiet fits n k =
    let v = with_change c w in
    let before : ListenerRow → Bool = λ row. is_listener row.id w.matching.listeners && status (present_at w) row in
    let after : ListenerRow → Bool = status (present_at v) in
    let ended = filter (λ (row : ListenerRow). not (is_listener row.id v.matching.listeners)) w.matching.listeners in
    let told : (id : ℕ) → told_to id (fx ++ listener_effects_at w v) ≡ told_to id (turned before after v.matching.listeners) = λ id. told_behind id fx ended (turned before after v.matching.listeners) quiet in
    record {
      each =
          all_both (λ (row : ListenerRow). before row ≡ last_told s row.id h) (λ (row : ListenerRow). told_to row.id (turned before after v.matching.listeners) ≡ heard_if (before row) (after row))
          (λ (row : ListenerRow). told_to row.id (fx ++ listener_effects_at w v) ≡ heard_if (last_told s row.id h) (after row))
          (λ row last is. told row.id ∙ is ∙ ap (λ (b : Bool). heard_if b (after row)) last)
          v.matching.listeners (known_before s h w c fits n k) (told_mine before after v.matching.listeners (ascend_behind w c fits n));
      others = λ id gone. told id ∙ told_others id before after v.matching.listeners (absent id v.matching.listeners gone);
    }

-- and so does a decision
decision_tells : (s : Settings) (h : List Event) (w : World) (e : Event) → AreNumbered w → Know s h w
    → Tells s h (with_change (decision w e).change w) (with_listeners w (decision w e)).turn.effects
decision_tells s h w e n k =
    let quiet : listener_effects_at w w ≡ [] = between_same w.matching.listeners (present_at w) in
    cases w e [] (λ (d : Decision) (past : List Entry). Tells s h (with_change d.change w) (with_listeners w d).turn.effects)
    (λ refusal number fx c. tells_nothing s h w (listener_effects_at w w) quiet k)
    (λ shut. tells_nothing s h w (listener_effects_at w w) quiet k)
    (λ unshut accepted.
    tells_change s h w (change_for w e) (effects_of w e) (silent_effects (known_at w) (number_for w e) (text_for w e) e) (made w e unshut accepted).fits n k)

-- by the history
effects_tell : (s : Settings) (h : List Event) (e : Event) → Know s h (world_after s h) → Tells s h (world_after s (e ∷ h)) (effects s h e).effects
effects_tell s h e k =
    let w = world_after s h in
    let d = decision_tells s h w e (numbered s h) k in
    let by_world : Tells s h (world_after s (e ∷ h)) (with_listeners w (decision w e)).turn.effects =
    subst (λ (v : World). Tells s h v (with_listeners w (decision w e)).turn.effects) (next_is s h e) d in
    subst (λ (fx : List Effect). Tells s h (world_after s (e ∷ h)) fx) (ap (λ turn. turn.effects) (same_turn s w (past_of s h) e (standing s h))) by_world

-- what is told last is what is so
last_heard : (b a : Bool) → last_of (heard_if b a) b ≡ a
last_heard true true = refl
last_heard true false = refl
last_heard false true = refl
last_heard false false = refl

-- the next number doesn't go down
next_up : (s : Settings) (h : List Event) (e : Event) → (world_after s h).counters.entity ≤ (world_after s (e ∷ h)).counters.entity
next_up s h e =
    subst (λ (v : World). (world_after s h).counters.entity ≤ v.counters.entity) (next_is s h e) (entity_up (world_after s h) (decision (world_after s h) e).change)

knows_more : (s : Settings) (h : List Event) (e : Event) → Know s h (world_after s h) → Know s (e ∷ h) (world_after s (e ∷ h))
knows_more s h e k =
    let v = world_after s (e ∷ h) in
    let t = effects_tell s h e k in
    record {
      each =
          all_weaker (λ (row : ListenerRow). told_to row.id (effects s h e).effects ≡ heard_if (last_told s row.id h) (status (present_at v) row))
          (λ (row : ListenerRow). last_told s row.id (e ∷ h) ≡ status (present_at v) row)
          (λ row told. ap (λ (bs : List Bool). last_of bs (last_told s row.id h)) told ∙ last_heard (last_told s row.id h) (status (present_at v) row))
          v.matching.listeners t.each;
      unused = λ id above.
          let up : (world_after s h).counters.entity ≤ v.counters.entity = next_up s h e in
          let gone : is_listener id v.matching.listeners ≡ false =
          not_there id v.matching.listeners
          (all_weaker (λ (row : ListenerRow). row.id < v.counters.entity) (λ (row : ListenerRow). row.id < id) (λ row less. omega (arith, less, above)) v.matching.listeners (numbered s (e ∷ h)).below) in
          ap (λ (bs : List Bool). last_of bs (last_told s id h)) (t.others id gone) ∙ k.unused id (omega (arith, above, up));
    }

known : (s : Settings) (h : List Event) → Know s h (world_after s h)
known s [] = record { each = tt; unused = λ id above. refl }
known s (e ∷ h) = knows_more s h e (known s h)

-- told by the events alone: what listeners know
matched_by : (s : Settings) (h : List Event) (row : ListenerRow) → status (present_at (world_after s h)) row ≡ is_matched (past_of s h) row
matched_by s h row = matched_is (world_after s h) (past_of s h) row (standing s h).live (standing s h).matched

pub listeners_know : (s : Settings) (h : List Event) → AllByRecursion (λ (row : ListenerRow). last_told s row.id h ≡ is_matched (past_of s h) row) (live_listeners (past_of s h))
listeners_know s h =
    subst (λ (rows : List ListenerRow). AllByRecursion (λ (row : ListenerRow). last_told s row.id h ≡ is_matched (past_of s h) row) rows) (standing s h).matched.listeners
    (all_weaker (λ (row : ListenerRow). last_told s row.id h ≡ status (present_at (world_after s h)) row) (λ (row : ListenerRow). last_told s row.id h ≡ is_matched (past_of s h) row)
    (λ row is. is ∙ matched_by s h row) (world_after s h).matching.listeners (known s h).each)

-- what they hear
pub listeners_hear : (s : Settings) (h : List Event) (e : Event)
    → AllByRecursion (λ (row : ListenerRow). told_to row.id (effects s h e).effects ≡ heard_if (last_told s row.id h) (is_matched (past_of s (e ∷ h)) row)) (live_listeners (past_of s (e ∷ h)))
listeners_hear s h e =
    let v = world_after s (e ∷ h) in
    subst (λ (rows : List ListenerRow). AllByRecursion (λ (row : ListenerRow). told_to row.id (effects s h e).effects ≡ heard_if (last_told s row.id h) (is_matched (past_of s (e ∷ h)) row)) rows)
    (standing s (e ∷ h)).matched.listeners
    (all_weaker (λ (row : ListenerRow). told_to row.id (effects s h e).effects ≡ heard_if (last_told s row.id h) (status (present_at v) row))
    (λ (row : ListenerRow). told_to row.id (effects s h e).effects ≡ heard_if (last_told s row.id h) (is_matched (past_of s (e ∷ h)) row))
    (λ row is. is ∙ ap (heard_if (last_told s row.id h)) (matched_by s (e ∷ h) row)) v.matching.listeners (effects_tell s h e (known s h)).each)

-- and nobody else does
pub others_hear_nothing : (s : Settings) (h : List Event) (e : Event) (id : ℕ) → is_listener id (live_listeners (past_of s (e ∷ h))) ≡ false → told_to id (effects s h e).effects ≡ []
others_hear_nothing s h e id gone =
    (effects_tell s h e (known s h)).others id (ap (is_listener id) (standing s (e ∷ h)).matched.listeners ∙ gone)
