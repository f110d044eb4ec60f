-- A fold that leaves out what each event ends keeps what no later event ends.
use Rattle.std.proofs.Common.{◌≡◌, ℕ, List, [], ◌∷◌, ◌++◌, Bool, true, false, refl, sym, ◌∙◌, ap}
use Rattle.std.specs.Prelude.{not, ◌||◌, filter, if◌then◌else◌}
use Rattle.std.specs.List.{list_any}
use mathlib.Core.List.{append-nil}
use Rattle.zs_keys.specs.Matching.{intersects}
use Rattle.zs_subscriptions.proofs.Ascending.{ascend_map, ascend_filter}
use Rattle.zs_subscriptions.specs.declared.subscriber.SubRow.{SubRow}
use Rattle.zs_events.specs.declared.event.Event.{Event}
use Rattle.zs_model.specs.Entry.{Entry}
use Rattle.zs_model.specs.Listeners.{ends_listener}
use Rattle.zs_model.specs.Live.{appended, live_listeners, declared, is_live, live_subs}
use Rattle.zs_model.specs.Past.{past_of}
use Rattle.zs_model.specs.Subscribers.{sub_row}
use Rattle.zs_events.specs.declared.turn.Kind.TheVariants.{Subscriber}
use Rattle.zs_model.specs.Matching.{remote_subscribers, remote_queryables}
use Rattle.zs_standing.proofs.Stands.{standing}
use Rattle.zs_laws.specs.Plain.{unended, declared_listener, remote_subscriber, replaces_sub, remote_queryable, replaces_queryable, ListenersAreUnended, ToldAreLastDeclared, MarksAreTold, MatchesAscend}

appended_is : {R : Type 0} (xs ys : List R) → appended xs ys ≡ xs ++ ys
appended_is xs [] = sym (append-nil xs)
appended_is xs (y ∷ ys) = refl

filter_append : {R : Type 0} (p : R → Bool) (xs ys : List R) → filter p (xs ++ ys) ≡ filter p xs ++ filter p ys
filter_append p [] ys = refl
filter_append {R} p (x ∷ xs) ys = go (p x) (filter_append p xs ys)
  where
    go : (b : Bool) → filter p (xs ++ ys) ≡ filter p xs ++ filter p ys
        → (if b then x ∷ filter p (xs ++ ys) else filter p (xs ++ ys)) ≡ (if b then x ∷ filter p xs else filter p xs) ++ filter p ys
    go true ih = ap (λ (rest : List R). x ∷ rest) ih
    go false ih = ih

-- two filters one after the other
filter_both : {R : Type 0} (e r : R → Bool) (xs : List R) → filter (λ x. not (r x)) (filter (λ x. not (e x)) xs) ≡ filter (λ x. not (e x || r x)) xs
filter_both e r [] = refl
filter_both {R} e r (x ∷ xs) = go (e x) (r x) refl (filter_both e r xs)
  where
    go : (a b : Bool) → r x ≡ b → filter (λ x. not (r x)) (filter (λ x. not (e x)) xs) ≡ filter (λ x. not (e x || r x)) xs
        → filter (λ x. not (r x)) (if not a then x ∷ filter (λ x. not (e x)) xs else filter (λ x. not (e x)) xs)
        ≡ (if not (a || b) then x ∷ filter (λ x. not (e x || r x)) xs else filter (λ x. not (e x || r x)) xs)
    go true b is ih = ih
    go false true is ih = rw is ih
    go false false is ih = rw is (ap (λ (more : List R). x ∷ more) ih)

filter_true : {R : Type 0} (xs : List R) → filter (λ x. true) xs ≡ xs
filter_true [] = refl
filter_true {R} (x ∷ xs) = ap (λ (rest : List R). x ∷ rest) (filter_true xs)

-- a fold that takes away what each event ends, and adds what it declares
pub record IsFold {R : Type 0} (ends : Event → R → Bool) (declares : Entry → List Entry → List R) (fold : List Entry → List R) : Type 0 where
  pub none : fold [] ≡ []
  pub more : (x : Entry) (past : List Entry) → fold (x ∷ past) ≡ appended (filter (λ row. not (ends x.event row)) (fold past)) (declares x past)

behind : {R : Type 0} (ends : Event → R → Bool) (declares : Entry → List Entry → List R) (fold : List Entry → List R) → IsFold ends declares fold
    → (later : List Event) (past : List Entry) → filter (λ row. not (list_any (λ e. ends e row) later)) (fold past) ≡ unended ends declares later past
behind ends declares fold is later [] = ap (filter (λ row. not (list_any (λ e. ends e row) later))) is.none
behind {R} ends declares fold is later (x ∷ past) =
    let left : R → Bool = λ row. not (list_any (λ e. ends e row) later) in
    let kept = filter (λ row. not (ends x.event row)) (fold past) in
    ap (filter left) (is.more x past ∙ appended_is kept (declares x past))
    ∙ filter_append left kept (declares x past)
    ∙ ap (λ (rows : List R). rows ++ filter left (declares x past))
    (filter_both (ends x.event) (λ row. list_any (λ e. ends e row) later) (fold past) ∙ behind ends declares fold is (x.event ∷ later) past)

fold_unended : {R : Type 0} (ends : Event → R → Bool) (declares : Entry → List Entry → List R) (fold : List Entry → List R) → IsFold ends declares fold
    → (past : List Entry) → fold past ≡ unended ends declares [] past
fold_unended ends declares fold is past = sym (filter_true (fold past)) ∙ behind ends declares fold is [] past

pub listeners_are_unended : ListenersAreUnended
listeners_are_unended past = fold_unended ends_listener declared_listener live_listeners (record { none = refl; more = λ x past. refl }) past

pub told_are_last_declared : ToldAreLastDeclared
told_are_last_declared past = (
  fold_unended replaces_sub remote_subscriber remote_subscribers (record { none = refl; more = λ x past. refl }) past,
  fold_unended replaces_queryable remote_queryable remote_queryables (record { none = refl; more = λ x past. refl }) past,
)

pub marks_are_told : MarksAreTold
marks_are_told s h kind id = (standing s h).live.left kind id

pub matches_ascend : MatchesAscend
matches_ascend s h text =
    let past = past_of s h in
    ascend_map (λ (id : ℕ). id) (λ (row : SubRow). row.id) (filter (λ row. intersects text row.key.text) (live_subs past))
    (ascend_filter (λ (row : SubRow). row.id) (λ row. intersects text row.key.text) (live_subs past)
    (ascend_filter (λ (row : SubRow). row.id) (λ row. is_live Subscriber row.id past) (declared sub_row past) (standing s h).live.subs.ascend))
