-- The ends of gets of tokens that an event tells are those of the gets that are open no longer.
use Rattle.std.proofs.Common.{◌≡◌, ◌<◌, ℕ, List, [], ◌∷◌, ◌++◌, Bool, true, false, Option, Some, None, refl, sym, ◌∙◌, ap, subst, arith, map}
use Rattle.std.specs.Prelude.{◌==◌, ◌||◌, ◌&&◌, not, filter, is_some, if◌then◌else◌}
use Rattle.std.specs.List.{AllByRecursion, list_any, find}
use Rattle.std.proofs.lemmas.Bool.{eqb-true}
use mathlib.Core.List.{append-nil}
use Rattle.zs_tables.specs.LivelinessGets.{is_asking}
use Rattle.zs_tables.specs.declared.listener.ListenerRow.{ListenerRow}
use Rattle.zs_tables.specs.Types.{LivelinessGet as TokensGet}
use Rattle.zs_tables.specs.MatchingLaws.{differ}
use Rattle.zs_subscriptions.proofs.Ascending.{ascend_push}
use Rattle.zs_query.specs.Ascending.{Ascend}
use Rattle.zs_query.proofs.Ascending.{all_weaker, all_both, ascend_filter, all_filter}
use Rattle.zs_wire.specs.declared.message.Message.{Message}
use Rattle.zs_wire.specs.declared.message.Message.TheVariants.{Request as request_message}
use Rattle.zs_events.specs.declared.event.Event.{Event}
use Rattle.zs_events.specs.declared.event.Event.TheVariants.{LivelinessGet, Net}
use Rattle.zs_events.specs.declared.turn.Effect.{Effect}
use Rattle.zs_events.specs.declared.turn.Effect.TheVariants.{Matching}
use Rattle.zs_events.specs.declared.turn.Refusal.{Refusal}
use Rattle.zs_events.specs.Turn.{answered}
use Rattle.zs_events.specs.Kinds.{ToLiveliness, AsksTokens, message_row, row_of}
use Rattle.zs_model.specs.declared.settings.Settings.{Settings}
use Rattle.zs_model.specs.Causes.{refusal_of}
use Rattle.zs_model.specs.Counters.{draws_entity, next_entity}
use Rattle.zs_model.specs.Entry.{Entry, is_closed}
use Rattle.zs_model.specs.Gets.{moment_of}
use Rattle.zs_model.specs.HeldKeys.{named_text}
use Rattle.zs_model.specs.Listeners.{is_listener, listener_ends}
use Rattle.zs_model.specs.Live.{live_listeners}
use Rattle.zs_model.specs.Matching.{is_matched, turned, listener_effects}
use Rattle.zs_model.specs.Past.{past_of, entry_of, with_entry}
use Rattle.zs_model.specs.Tokens.{tokens_asked, ends_asking, asking_now}
use Rattle.zs_model.specs.Effects.{known_of, effects_on, effects_behind}
use Rattle.zs_standing.specs.Stands.{world_after}
use Rattle.zs_standing.proofs.Stands.{standing}
use Rattle.zs_standing.proofs.Watching.{asking_more}
use Rattle.zs_laws.specs.Ended.{tokens_ended, picked, EndsOfTokensGets}
use Rattle.zs_laws.proofs.Fresh.{entity_drawn}
use Rattle.zs_laws.proofs.Leaving.{filter_numbers, found_kept, found_here, filter_false}
use Rattle.zs_laws.proofs.Picking.{picked_append, picked_behind}
use Rattle.zs_laws.proofs.TokensEnded.{numbers, tokens_lost}

-- who asks for tokens draws the number of an entity
message_asks : (message : Message) (timeout token : Option ℕ) → (message_row message).to_liveliness ≡ AsksTokens timeout token → draws_entity (message_row message).draws ≡ true
message_asks (request_message request) timeout token is = cc
message_asks message timeout token is = cc

asks_draws : (e : Event) (timeout token : Option ℕ) → (row_of e).to_liveliness ≡ AsksTokens timeout token → draws_entity (row_of e).draws ≡ true
asks_draws (LivelinessGet key wait cancel to) timeout token is = refl
asks_draws (Net message) timeout token is = message_asks message timeout token is
asks_draws e timeout token is = cc

-- a get that is asked has the next number
asked_next : (s : Settings) (past : List Entry) (e : Event) (default moment : ℕ) (text : Option (List ℕ)) (to : ToLiveliness) → (row_of e).to_liveliness ≡ to → (number : Option ℕ)
    → (entry_of s past e).number ≡ number → AllByRecursion (λ (g : TokensGet). g.number ≡ next_entity s past) (tokens_asked default moment to number text)
asked_next s past e default moment (Some text) (AsksTokens timeout token) same (Some n) is =
    let its : Some n ≡ Some (next_entity s past) = sym is ∙ entity_drawn s past (row_of e).draws (named_text past e) (asks_draws e timeout token same) in
    (cc its, tt)
asked_next s past e default moment None (AsksTokens timeout token) same (Some n) is = tt
asked_next s past e default moment text (AsksTokens timeout token) same None is = tt
asked_next s past e default moment text to same number is = tt

abbrev new_of : Settings → List Entry → Event → List TokensGet
new_of s past e = tokens_asked s.default_timeout (moment_of past) (row_of e).to_liveliness (entry_of s past e).number (entry_of s past e).text

one_new : (default moment : ℕ) (to : ToLiveliness) (number : Option ℕ) (text : Option (List ℕ)) (gets : List TokensGet) (next : ℕ)
    → AllByRecursion (λ (g : TokensGet). g.number ≡ next) (tokens_asked default moment to number text) → AllByRecursion (λ (g : TokensGet). g.number < next) gets → Ascend (λ (g : TokensGet). g.number) gets
    → Ascend (λ (g : TokensGet). g.number) (gets ++ tokens_asked default moment to number text)
one_new default moment (AsksTokens timeout token) (Some n) (Some text) gets next its below up =
    ascend_push (λ (g : TokensGet). g.number) gets _ up (all_weaker (λ (g : TokensGet). g.number < next) (λ (g : TokensGet). g.number < n) (λ g less. omega (arith, less, its.0)) gets below)
one_new default moment (AsksTokens timeout token) (Some n) None gets next its below up = subst (Ascend (λ (g : TokensGet). g.number)) (sym (append-nil gets)) up
one_new default moment (AsksTokens timeout token) None text gets next its below up = subst (Ascend (λ (g : TokensGet). g.number)) (sym (append-nil gets)) up
one_new default moment to number text gets next its below up = subst (Ascend (λ (g : TokensGet). g.number)) (sym (append-nil gets)) up

below : (s : Settings) (h : List Event) → AllByRecursion (λ (g : TokensGet). g.number < next_entity s (past_of s h)) (asking_now s (past_of s h))
below s h =
    let st = standing s h in
    subst (λ (n : ℕ). AllByRecursion (λ (g : TokensGet). g.number < n) (asking_now s (past_of s h))) st.entity
    (subst (AllByRecursion (λ (g : TokensGet). g.number < (world_after s h).counters.entity)) st.watched.gets st.watched.below)

-- so they ascend
pub ascends : (s : Settings) (h : List Event) → Ascend (λ (g : TokensGet). g.number) (asking_now s (past_of s h))
ascends s [] = tt
ascends s (e ∷ h) = go (refusal_of s (past_of s h) e) (is_closed (past_of s h)) (ascends s h)
  where
    x : Entry
    x = entry_of s (past_of s h) e

    keep : TokensGet → Bool
    keep g = not (ends_asking g e)

    go : (o : Option Refusal) (b : Bool) → Ascend (λ (g : TokensGet). g.number) (asking_now s (past_of s h))
        → Ascend (λ (g : TokensGet). g.number) (asking_now s (with_entry o b (entry_of s (past_of s h) e) (past_of s h)))
    go (Some refusal) b up = up
    go None true up = up
    go None false up =
        subst (Ascend (λ (g : TokensGet). g.number)) (sym (asking_more s x (past_of s h)))
        (one_new s.default_timeout (moment_of (past_of s h)) (row_of e).to_liveliness x.number x.text (filter keep (asking_now s (past_of s h))) (next_entity s (past_of s h))
        (asked_next s (past_of s h) e s.default_timeout (moment_of (past_of s h)) x.text (row_of e).to_liveliness refl x.number refl)
        (all_filter (λ (g : TokensGet). g.number < next_entity s (past_of s h)) keep (asking_now s (past_of s h)) (below s h))
        (ascend_filter (λ (g : TokensGet). g.number) keep (asking_now s (past_of s h)) up))

-- whether one is found is whether any is there
any_found : {X : Type 0} (p : X → Bool) (xs : List X) → is_some (find p xs) ≡ list_any p xs
any_found p [] = refl
any_found {X} p (x ∷ xs) = go (p x) (any_found p xs)
  where
    go : (b : Bool) → is_some (find p xs) ≡ list_any p xs → is_some (if b then Some x else find p xs) ≡ (b || list_any p xs)
    go true ih = refl
    go false ih = ih

none_any : {X : Type 0} (p : X → Bool) (ys : List X) → AllByRecursion (λ y. p y ≡ false) ys → list_any p ys ≡ false
none_any p [] none = refl
none_any p (y ∷ ys) none = rw none.0 (none_any p ys none.1)

any_more : {X : Type 0} (p : X → Bool) (xs ys : List X) → AllByRecursion (λ y. p y ≡ false) ys → list_any p (xs ++ ys) ≡ list_any p xs
any_more p [] ys none = none_any p ys none
any_more p (x ∷ xs) ys none = ap (λ (b : Bool). p x || b) (any_more p xs ys none)

twice : (b : Bool) → not (not b) ≡ b
twice true = refl
twice false = refl

-- those that are asking no longer are those that end
lost_is : (ends : TokensGet → Bool) (gets new : List TokensGet) (next : ℕ) → Ascend (λ (g : TokensGet). g.number) gets → AllByRecursion (λ (g : TokensGet). g.number < next) gets
    → AllByRecursion (λ (g : TokensGet). g.number ≡ next) new
    → filter (λ n. not (is_asking n (filter (λ g. not (ends g)) gets ++ new))) (numbers gets) ≡ numbers (filter ends gets)
lost_is ends gets new next up under its =
    filter_numbers (λ (g : TokensGet). g.number) (λ n. not (is_asking n (filter (λ g. not (ends g)) gets ++ new))) ends gets
    (all_both (λ (g : TokensGet). g.number < next) Kept Lost one gets under (found_kept (λ (g : TokensGet). g.number) (λ g. not (ends g)) gets up))
  where
    Kept : TokensGet → Type 0
    Kept g = not (is_some (find (λ y. y.number == g.number) (filter (λ g. not (ends g)) gets))) ≡ not (not (ends g))

    Lost : TokensGet → Type 0
    Lost g = not (is_asking g.number (filter (λ g. not (ends g)) gets ++ new)) ≡ ends g

    other : (m n : ℕ) → m < next → n ≡ next → (b : Bool) → (n == m) ≡ b → b ≡ false
    other m n less same true is = absurd (omega (arith, eqb-true n m is, less, same))
    other m n less same false is = refl

    one : (g : TokensGet) → g.number < next → Kept g → Lost g
    one g less kept =
        ap not (any_more (λ (y : TokensGet). y.number == g.number) (filter (λ g. not (ends g)) gets) new
        (all_weaker (λ (y : TokensGet). y.number ≡ next) (λ (y : TokensGet). (y.number == g.number) ≡ false) (λ y same. other g.number y.number less same (y.number == g.number) refl) new its))
        ∙ ap not (sym (any_found (λ (y : TokensGet). y.number == g.number) (filter (λ g. not (ends g)) gets)))
        ∙ kept ∙ twice (ends g)

-- where nothing happens none is lost
none_lost : (gets : List TokensGet) → filter (λ n. not (is_asking n gets)) (numbers gets) ≡ []
none_lost gets =
    filter_numbers (λ (g : TokensGet). g.number) (λ n. not (is_asking n gets)) (λ g. false) gets
    (all_weaker (λ (g : TokensGet). not (is_some (find (λ y. y.number == g.number) gets)) ≡ false) (λ (g : TokensGet). not (is_asking g.number gets) ≡ false)
    (λ g found. ap not (sym (any_found (λ (y : TokensGet). y.number == g.number) gets)) ∙ found) gets (found_here (λ (g : TokensGet). g.number) gets))
    ∙ ap numbers (filter_false gets)

-- listeners are told no such end
ends_unheard : (rows : List ListenerRow) → picked tokens_ended (listener_ends rows) ≡ []
ends_unheard [] = refl
ends_unheard (row ∷ rows) = ends_unheard rows

statuses_unheard : (after : ListenerRow → Bool) (rows : List ListenerRow) → picked tokens_ended (map (λ (row : ListenerRow). Matching row.id (after row)) rows) ≡ []
statuses_unheard after [] = refl
statuses_unheard after (row ∷ rows) = statuses_unheard after rows

unheard : (fx : List Effect) (past : List Entry) (x : Entry) → picked tokens_ended (fx ++ listener_effects past x) ≡ picked tokens_ended fx
unheard fx past x =
    let ended = filter (λ (row : ListenerRow). not (is_listener row.id (live_listeners (x ∷ past)))) (live_listeners past) in
    let before : ListenerRow → Bool = λ row. is_listener row.id (live_listeners past) && is_matched past row in
    let after : ListenerRow → Bool = is_matched (x ∷ past) in
    let hearing = filter (λ (row : ListenerRow). differ (before row) (after row)) (live_listeners (x ∷ past)) in
    picked_append tokens_ended fx (listener_effects past x)
    ∙ ap (λ (ns : List ℕ). picked tokens_ended fx ++ ns)
    (picked_behind tokens_ended (listener_ends ended) (turned before after (live_listeners (x ∷ past))) (ends_unheard ended) ∙ statuses_unheard after hearing)
    ∙ append-nil (picked tokens_ended fx)

pub ends_of_tokens_gets : EndsOfTokensGets
ends_of_tokens_gets s h e = go (is_closed (past_of s h)) (refusal_of s (past_of s h) e)
  where
    x : Entry
    x = entry_of s (past_of s h) e

    go : (b : Bool) (o : Option Refusal)
        → picked tokens_ended (if b then answered o None [] else answered o (entry_of s (past_of s h) e).number (effects_behind s (past_of s h) e)).effects
        ≡ filter (λ n. not (is_asking n (asking_now s (with_entry o b (entry_of s (past_of s h) e) (past_of s h))))) (numbers (asking_now s (past_of s h)))
    go true (Some refusal) = sym (none_lost (asking_now s (past_of s h)))
    go true None = sym (none_lost (asking_now s (past_of s h)))
    go false (Some refusal) = sym (none_lost (asking_now s (past_of s h)))
    go false None =
        unheard (effects_on (known_of s (past_of s h)) x.number (named_text (past_of s h) e) e) (past_of s h) x
        ∙ tokens_lost (known_of s (past_of s h)) e x.number (named_text (past_of s h) e) (ascends s h)
        ∙ sym (lost_is (λ g. ends_asking g e) (asking_now s (past_of s h)) (new_of s (past_of s h) e) (next_entity s (past_of s h)) (ascends s h) (below s h)
        (asked_next s (past_of s h) e s.default_timeout (moment_of (past_of s h)) x.text (row_of e).to_liveliness refl x.number refl))
        ∙ sym (ap (λ (gets : List TokensGet). filter (λ n. not (is_asking n gets)) (numbers (asking_now s (past_of s h)))) (asking_more s x (past_of s h)))
