-- So no event's effects name an entity that is declared later.
use Rattle.std.proofs.Common.{◌≡◌, ◌<◌, ◌≤◌, ◌+◌, ℕ, List, [], ◌∷◌, ◌++◌, Bool, true, false, Option, Some, None, refl, sym, ◌∙◌, ap, subst, arith, map}
use Rattle.std.specs.Prelude.{◌==◌, ◌&&◌, ◌||◌, not, filter, if◌then◌else◌}
use Rattle.std.specs.List.{AllByRecursion}
use Rattle.std.specs.Option.{IfSome}
use Rattle.std.proofs.lemmas.Bool.{eqb-true, and_parts}
use Rattle.zs_sample.specs.Reply.{Replied}
use Rattle.zs_sample.specs.declared.sample_fields.SampleFields.{SampleFields}
use Rattle.zs_tables.specs.MatchingLaws.{differ}
use Rattle.zs_tables.specs.declared.listener.ListenerRow.{ListenerRow}
use Rattle.zs_tables.specs.Types.{LivelinessGet as TokensGet, LivelinessSub}
use Rattle.zs_tables.specs.declared.queryable.QueryableRow.{QueryableRow}
use Rattle.zs_subscriptions.specs.declared.subscriber.SubRow.{SubRow}
use Rattle.zs_subscriptions.proofs.Ascending.{all_weaker, all_filter}
use Rattle.zs_query.proofs.Ascending.{all_append}
use Rattle.zs_events.specs.declared.event.Event.{Event}
use Rattle.zs_events.specs.declared.event.Event.TheVariants.{Undeclare, Lsub, Net}
use Rattle.zs_events.specs.declared.entity_kind.EntityKind.TheVariants.{Sub as sub_kind, Queryable as queryable_sort, Lsub as lsub_sort}
use Rattle.zs_events.specs.declared.turn.Effect.TheVariants.{Matching}
use Rattle.zs_events.specs.declared.turn.Kind.{Kind}
use Rattle.zs_events.specs.declared.turn.Kind.TheVariants.{Subscriber, Queryable as queryable_kind, LivelinessSubscriber}
use Rattle.zs_events.specs.declared.turn.Refusal.{Refusal}
use Rattle.zs_events.specs.Turn.{answered}
use Rattle.zs_events.specs.Kinds.{Subscribes, message_row, row_of}
use Rattle.zs_wire.specs.declared.message.Message.{Message}
use Rattle.zs_wire.specs.declared.message.Message.TheVariants.{Request as request_message}
use Rattle.zs_model.specs.declared.settings.Settings.{Settings}
use Rattle.zs_world.specs.World.{World}
use Rattle.zs_model.specs.Causes.{has_cause, in_order, past_sight, refusal_of}
use Rattle.zs_model.specs.Seen.{is_unheld, is_not_found}
use Rattle.zs_model.specs.Counters.{draws_entity, next_entity}
use Rattle.zs_model.specs.Entry.{Entry, is_closed}
use Rattle.zs_model.specs.HeldKeys.{named_text}
use Rattle.zs_model.specs.Listeners.{is_listener, listener_ends}
use Rattle.zs_model.specs.Live.{declared, is_live, was_left, live_subs, live_queryables, live_lsubs, live_listeners, names_some}
use Rattle.zs_model.specs.Liveliness.{lsub_row}
use Rattle.zs_model.specs.Matching.{is_matched, turned, listener_effects}
use Rattle.zs_model.specs.Past.{past_of, entry_of, with_entry}
use Rattle.zs_model.specs.Queryables.{queryable_row}
use Rattle.zs_model.specs.Subscribers.{sub_row}
use Rattle.zs_model.specs.Tokens.{asking_now}
use Rattle.zs_model.specs.Effects.{known_of, effects_on, effects_behind, effects}
use Rattle.zs_standing.specs.Stands.{world_after}
use Rattle.zs_model.proofs.Entities.{AreRows}
use Rattle.zs_laws.proofs.Knowing.{numbered}
use Rattle.zs_standing.proofs.Stands.{standing}
use Rattle.zs_laws.specs.Naming.{entity_named, EffectsNameDeclared, EarlierEffectsNameNoNewEntity}
use Rattle.zs_laws.proofs.Around.{any_holds}
use Rattle.zs_laws.proofs.Fresh.{entity_drawn, number_answered}
use Rattle.zs_laws.proofs.Naming.{IsBelow, AreNear, all_near}
use Rattle.zs_laws.proofs.Tested.{none_holds}

-- no message subscribes to liveliness; who does draws the number of an entity
message_subscribes : (message : Message) (history : Bool) → (message_row message).to_liveliness ≡ Subscribes history → draws_entity (message_row message).draws ≡ true
message_subscribes (request_message request) history is = cc
message_subscribes message history is = cc

subscribes_draws : (e : Event) (history : Bool) → (row_of e).to_liveliness ≡ Subscribes history → draws_entity (row_of e).draws ≡ true
subscribes_draws (Lsub wants key) history is = refl
subscribes_draws (Net message) history is = message_subscribes message history is
subscribes_draws e history is = cc

-- what an accepted event names lives
lives_by : (a b c d e : Bool) → (a || b || c || not d || e) ≡ false → d ≡ true
lives_by true b c d e none = cc
lives_by false true c d e none = cc
lives_by false false true d e none = cc
lives_by false false false true e none = refl
lives_by false false false false e none = cc

open_by : (closed found : Bool) → closed ≡ false → (not closed && found) ≡ false → found ≡ false
open_by true found shut none = cc
open_by false found shut none = none

found_named : (s : Settings) (past : List Entry) (e : Event) → is_closed past ≡ false → refusal_of s past e ≡ None → names_some past (row_of e).names ≡ true
found_named s past e shut accepts =
    let seen = past_sight s past e in
    lives_by (not seen.drawn) (not seen.owed) (is_unheld (row_of e).key seen.text) seen.lives (not seen.claimed)
    (open_by (is_closed past) (is_not_found (row_of e) seen) shut (none_holds (has_cause s past e) in_order accepts).1.0)

-- the number of an entity that lives is below the next one
live_below : {R : Type 0} (number : R → ℕ) (kind : Kind) (row_of : Event → Option ℕ → Option (List ℕ) → List R) (rows : List R) (next : ℕ) (past : List Entry) → AreRows number kind row_of rows next past
    → AllByRecursion (λ row. number row < next) (filter (λ row. is_live kind (number row) past) (declared row_of past))
live_below number kind row_of rows next past l = all_filter (λ row. number row < next) (λ row. is_live kind (number row) past) (declared row_of past) l.below

id_below : {R : Type 0} (number : R → ℕ) (kind : Kind) (row_of : Event → Option ℕ → Option (List ℕ) → List R) (rows : List R) (next : ℕ) (past : List Entry) → AreRows number kind row_of rows next past
    → (id : ℕ) → is_live kind id past ≡ true → id < next
id_below {R} number kind row_of rows next past l id lives =
    any_holds (λ row. number row == id) (λ row. number row < next) (id < next) (λ row same less. omega (arith, eqb-true (number row) id same, less)) rows
    (subst (AllByRecursion (λ row. number row < next)) (sym l.table) (live_below number kind row_of rows next past l)) (l.found id ∙ lives)

-- the facts of an accepted event
near_by : (s : Settings) (h : List Event) (e : Event) → is_closed (past_of s h) ≡ false → refusal_of s (past_of s h) e ≡ None
    → AreNear (next_entity s (entry_of s (past_of s h) e ∷ past_of s h)) (known_of s (past_of s h)) e (entry_of s (past_of s h) e).number
near_by s h e shut accepts = record {
  around = record {
    sent = λ m. tt;
    sub = all_weaker (λ (row : SubRow). row.id < bound) (λ (row : SubRow). (sample : SampleFields) → row.id < bound) (λ row less sample. less) (live_subs (past_of s h)) subs;
    sub_end = subs;
    queryable_end = queryables;
    lsub = all_weaker (λ (row : LivelinessSub). row.id < bound) (λ (row : LivelinessSub). (sample : SampleFields) → row.id < bound) (λ row less sample. less) (live_lsubs (past_of s h)) lsubs;
    lsub_end = lsubs;
    own = λ history same id is sample. own history same id is;
    asking =
        all_weaker (λ (g : TokensGet). g.number < bound) (λ (g : TokensGet). (n : ℕ) → (g.number == n) ≡ true → (reply : Replied) → n < bound)
        (λ g less n same reply. omega (arith, eqb-true g.number n same, less)) (asking_now s (past_of s h)) asking;
    asking_end =
        λ m is. all_weaker (λ (g : TokensGet). g.number < bound) (λ (g : TokensGet). (n : ℕ) → (g.number == n) ≡ true → n < bound)
        (λ g less n same. omega (arith, eqb-true g.number n same, less)) (asking_now s (past_of s h)) asking;
    ended_sub = λ id is. omega (arith, up, id_below (λ (row : SubRow). row.id) Subscriber sub_row w.entities.subs w.counters.entity (past_of s h) (standing s h).live.subs id (lives Subscriber id (named (Undeclare sub_kind id) is)));
    ended_queryable =
        λ id is. omega (arith, up, id_below (λ (row : QueryableRow). row.id) queryable_kind queryable_row w.entities.queryables w.counters.entity (past_of s h) (standing s h).live.queryables id (lives queryable_kind id (named (Undeclare queryable_sort id) is)));
    ended_lsub =
        λ id is. omega (arith, up, id_below (λ (row : LivelinessSub). row.id) LivelinessSubscriber lsub_row w.liveliness.subs w.counters.entity (past_of s h) (standing s h).live.lsubs id (lives LivelinessSubscriber id (named (Undeclare lsub_sort id) is)));
  };
  queryables = queryables;
  asking = asking;
}
  where
    w : World
    w = world_after s h

    bound : ℕ
    bound = next_entity s (entry_of s (past_of s h) e ∷ past_of s h)

    not_less : (b : Bool) → next_entity s (past_of s h) ≤ (if b then next_entity s (past_of s h) + 1 else next_entity s (past_of s h))
    not_less true = omega arith
    not_less false = omega arith

    up : (world_after s h).counters.entity ≤ next_entity s (entry_of s (past_of s h) e ∷ past_of s h)
    up = omega (arith, (standing s h).entity, not_less (draws_entity (row_of e).draws))

    subs : AllByRecursion (λ (row : SubRow). row.id < next_entity s (entry_of s (past_of s h) e ∷ past_of s h)) (live_subs (past_of s h))
    subs =
        all_weaker (λ (row : SubRow). row.id < (world_after s h).counters.entity) (λ (row : SubRow). row.id < next_entity s (entry_of s (past_of s h) e ∷ past_of s h)) (λ row less. omega (arith, less, up)) (live_subs (past_of s h))
        (live_below (λ (row : SubRow). row.id) Subscriber sub_row (world_after s h).entities.subs (world_after s h).counters.entity (past_of s h) (standing s h).live.subs)

    queryables : AllByRecursion (λ (row : QueryableRow). row.id < next_entity s (entry_of s (past_of s h) e ∷ past_of s h)) (live_queryables (past_of s h))
    queryables =
        all_weaker (λ (row : QueryableRow). row.id < (world_after s h).counters.entity) (λ (row : QueryableRow). row.id < next_entity s (entry_of s (past_of s h) e ∷ past_of s h)) (λ row less. omega (arith, less, up)) (live_queryables (past_of s h))
        (live_below (λ (row : QueryableRow). row.id) queryable_kind queryable_row (world_after s h).entities.queryables (world_after s h).counters.entity (past_of s h) (standing s h).live.queryables)

    lsubs : AllByRecursion (λ (row : LivelinessSub). row.id < next_entity s (entry_of s (past_of s h) e ∷ past_of s h)) (live_lsubs (past_of s h))
    lsubs =
        all_weaker (λ (row : LivelinessSub). row.id < (world_after s h).counters.entity) (λ (row : LivelinessSub). row.id < next_entity s (entry_of s (past_of s h) e ∷ past_of s h)) (λ row less. omega (arith, less, up)) (live_lsubs (past_of s h))
        (live_below (λ (row : LivelinessSub). row.id) LivelinessSubscriber lsub_row (world_after s h).liveliness.subs (world_after s h).counters.entity (past_of s h) (standing s h).live.lsubs)

    asking : AllByRecursion (λ (g : TokensGet). g.number < next_entity s (entry_of s (past_of s h) e ∷ past_of s h)) (asking_now s (past_of s h))
    asking =
        all_weaker (λ (g : TokensGet). g.number < (world_after s h).counters.entity) (λ (g : TokensGet). g.number < next_entity s (entry_of s (past_of s h) e ∷ past_of s h)) (λ g less. omega (arith, less, up)) (asking_now s (past_of s h))
        (subst (AllByRecursion (λ (g : TokensGet). g.number < (world_after s h).counters.entity)) (standing s h).watched.gets (standing s h).watched.below)

    own : (history : Bool) → (row_of e).to_liveliness ≡ Subscribes history → (id : ℕ) → (entry_of s (past_of s h) e).number ≡ Some id → id < next_entity s (entry_of s (past_of s h) e ∷ past_of s h)
    own history same id is =
        let draws : draws_entity (row_of e).draws ≡ true = subscribes_draws e history same in
        let its : Some id ≡ Some (next_entity s (past_of s h)) = sym is ∙ entity_drawn s (past_of s h) (row_of e).draws (named_text (past_of s h) e) draws in
        let same : id ≡ next_entity s (past_of s h) = cc in
        let more : next_entity s (entry_of s (past_of s h) e ∷ past_of s h) ≡ next_entity s (past_of s h) + 1 =
        ap (λ (b : Bool). if b then next_entity s (past_of s h) + 1 else next_entity s (past_of s h)) draws in
        omega (arith, same, more)

    named : (d : Event) → e ≡ d → names_some (past_of s h) (row_of d).names ≡ true
    named d is = sym (ap (λ (d : Event). names_some (past_of s h) (row_of d).names) is) ∙ found_named s (past_of s h) e shut accepts

    lives : (kind : Kind) (id : ℕ) → (is_live kind id (past_of s h) && not (was_left kind id (past_of s h))) ≡ true → is_live kind id (past_of s h) ≡ true
    lives kind id both = (and_parts (is_live kind id (past_of s h)) (not (was_left kind id (past_of s h))) both).0

-- listeners
ends_below : (n : ℕ) (rows : List ListenerRow) → AllByRecursion (λ (row : ListenerRow). row.id < n) rows → AllByRecursion (IsBelow n) (listener_ends rows)
ends_below n [] all = tt
ends_below n (row ∷ rows) all = (all.0, ends_below n rows all.1)

statuses_below : (n : ℕ) (after : ListenerRow → Bool) (rows : List ListenerRow) → AllByRecursion (λ (row : ListenerRow). row.id < n) rows
    → AllByRecursion (IsBelow n) (map (λ (row : ListenerRow). Matching row.id (after row)) rows)
statuses_below n after [] all = tt
statuses_below n after (row ∷ rows) all = (all.0, statuses_below n after rows all.1)

listeners_below : (s : Settings) (h : List Event) → AllByRecursion (λ (row : ListenerRow). row.id < next_entity s (past_of s h)) (live_listeners (past_of s h))
listeners_below s h =
    let st = standing s h in
    let all = (numbered s h).below in
    subst (λ (n : ℕ). AllByRecursion (λ (row : ListenerRow). row.id < n) (live_listeners (past_of s h))) st.entity
    (subst (AllByRecursion (λ (row : ListenerRow). row.id < (world_after s h).counters.entity)) st.matched.listeners all)

heard_below : (s : Settings) (h : List Event) (e : Event) → is_closed (past_of s h) ≡ false → refusal_of s (past_of s h) e ≡ None
    → AllByRecursion (IsBelow (next_entity s (entry_of s (past_of s h) e ∷ past_of s h))) (listener_effects (past_of s h) (entry_of s (past_of s h) e))
heard_below s h e shut accepts =
    let past = past_of s h in
    let x = entry_of s past e in
    let n = next_entity s (x ∷ past) in
    let behind : past_of s (e ∷ h) ≡ x ∷ past = λ i. with_entry (accepts i) (shut i) x past in
    let old : AllByRecursion (λ (row : ListenerRow). row.id < n) (live_listeners past) =
    all_weaker (λ (row : ListenerRow). row.id < next_entity s past) (λ (row : ListenerRow). row.id < n) (λ row less. omega (arith, less, not_less (draws_entity (row_of e).draws))) (live_listeners past) (listeners_below s h) in
    let new : AllByRecursion (λ (row : ListenerRow). row.id < n) (live_listeners (x ∷ past)) =
    subst (λ (p : List Entry). AllByRecursion (λ (row : ListenerRow). row.id < next_entity s p) (live_listeners p)) behind (listeners_below s (e ∷ h)) in
    let gone : ListenerRow → Bool = λ row. not (is_listener row.id (live_listeners (x ∷ past))) in
    let before : ListenerRow → Bool = λ row. is_listener row.id (live_listeners past) && is_matched past row in
    let after : ListenerRow → Bool = is_matched (x ∷ past) in
    all_append (IsBelow n) (listener_ends (filter gone (live_listeners past))) (turned before after (live_listeners (x ∷ past)))
    (ends_below n (filter gone (live_listeners past)) (all_filter (λ (row : ListenerRow). row.id < n) gone (live_listeners past) old))
    (statuses_below n after (filter (λ row. differ (before row) (after row)) (live_listeners (x ∷ past)))
    (all_filter (λ (row : ListenerRow). row.id < n) (λ row. differ (before row) (after row)) (live_listeners (x ∷ past)) new))
  where
    not_less : (b : Bool) → next_entity s (past_of s h) ≤ (if b then next_entity s (past_of s h) + 1 else next_entity s (past_of s h))
    not_less true = omega arith
    not_less false = omega arith

pub effects_name_declared : EffectsNameDeclared
effects_name_declared s h e = go (is_closed (past_of s h)) refl (refusal_of s (past_of s h) e) refl
  where
    x : Entry
    x = entry_of s (past_of s h) e

    go : (b : Bool) → is_closed (past_of s h) ≡ b → (o : Option Refusal) → refusal_of s (past_of s h) e ≡ o
        → AllByRecursion (IsBelow (next_entity s (with_entry o b (entry_of s (past_of s h) e) (past_of s h))))
        (if b then answered o None [] else answered o (entry_of s (past_of s h) e).number (effects_behind s (past_of s h) e)).effects
    go true shut (Some refusal) refused = tt
    go true shut None refused = tt
    go false shut (Some refusal) refused = tt
    go false shut None accepts =
        all_append (IsBelow (next_entity s (x ∷ past_of s h))) (effects_on (known_of s (past_of s h)) x.number (named_text (past_of s h) e) e) (listener_effects (past_of s h) x)
        (all_near (next_entity s (x ∷ past_of s h)) (known_of s (past_of s h)) e x.number (named_text (past_of s h) e) (near_by s h e shut accepts)) (heard_below s h e shut accepts)

-- the next number never falls
never_down : (s : Settings) (later h : List Event) → next_entity s (past_of s h) ≤ next_entity s (past_of s (later ++ h))
never_down s [] h = omega arith
never_down s (e ∷ later) h = omega (arith, never_down s later h, step (refusal_of s past e) (is_closed past))
  where
    past : List Entry
    past = past_of s (later ++ h)

    more : (b : Bool) → next_entity s past ≤ (if b then next_entity s past + 1 else next_entity s past)
    more true = omega arith
    more false = omega arith

    step : (o : Option Refusal) (b : Bool) → next_entity s past ≤ next_entity s (with_entry o b (entry_of s past e) past)
    step (Some refusal) b = omega arith
    step None true = omega arith
    step None false = more (draws_entity (row_of e).draws)

pub earlier_effects_name_no_new_entity : EarlierEffectsNameNoNewEntity
earlier_effects_name_no_new_entity s later h e d n draws is =
    all_weaker (IsBelow (next_entity s (past_of s (e ∷ h)))) (λ x. IfSome (entity_named x) (λ id. (id == n) ≡ false)) (λ x below. one (entity_named x) below) (effects s h e).effects (effects_name_declared s h e)
  where
    g : List Event
    g = later ++ e ∷ h

    its : Some n ≡ Some (next_entity s (past_of s (later ++ e ∷ h)))
    its = sym (number_answered s g d n is) ∙ entity_drawn s (past_of s g) (row_of d).draws (named_text (past_of s g) d) draws

    same : n ≡ next_entity s (past_of s (later ++ e ∷ h))
    same = cc its

    other : (id : ℕ) → id < next_entity s (past_of s (e ∷ h)) → (b : Bool) → (id == n) ≡ b → b ≡ false
    other id less true is = absurd (omega (arith, eqb-true id n is, less, same, never_down s later (e ∷ h)))
    other id less false is = refl

    one : (o : Option ℕ) → IfSome o (λ id. id < next_entity s (past_of s (e ∷ h))) → IfSome o (λ id. (id == n) ≡ false)
    one None below = tt
    one (Some id) below = other id below (id == n) refl
