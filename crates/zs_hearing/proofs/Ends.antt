-- The ends of those listeners that listen to a publisher or querier, one after another.
use Rattle.std.proofs.Common.{◌≡◌, ℕ, ◌<◌, Bool, true, false, List, [], ◌∷◌, ◌++◌, length, Option, Some, None, refl, sym, ap, ◌∙◌, arith}
use Rattle.std.specs.Prelude.{◌==◌, filter, map}
use Rattle.std.proofs.lemmas.List.{append_assoc, append-nil}
use Rattle.zs_events.specs.declared.turn.Effect.{Effect}
use Rattle.zs_events.specs.declared.turn.Effect.TheVariants.{End}
use Rattle.zs_events.specs.declared.turn.Kind.TheVariants.{Listener as listener_kind}
use Rattle.zs_tables.specs.declared.listener.ListenerRow.{ListenerRow}
use Rattle.zs_subscriptions.specs.Ascending.{Ascend}
use Rattle.zs_tables.specs.declared.listener.Listener.{Listener}
use Rattle.zs_subscriptions.specs.Recipients.{is_behind, first_behind}
use Rattle.zs_subscriptions.proofs.Ascending.{ascend_map, ascend_filter}
use Rattle.zs_subscriptions.proofs.ByKey.{by_test}
use Rattle.zs_subscriptions.proofs.Walking.{ids_next}
use Rattle.zs_model.specs.Listeners.{listener_ends}

-- the numbers of those that listen to a publisher or querier
abbrev pub ids_of : ℕ → List Listener → List ℕ
ids_of parent ls = map (λ (l : Listener). l.row.id) (filter (λ (l : Listener). l.row.parent == parent) ls)

abbrev pub ends_of : List ℕ → List Effect
ends_of ids = map (λ (id : ℕ). End listener_kind id) ids

pub ids_up : (parent : ℕ) (ls : List Listener) → Ascend (λ (l : Listener). l.row.id) ls → Ascend (λ n. n) (ids_of parent ls)
ids_up parent ls up = ascend_map (λ n. n) (λ (l : Listener). l.row.id) (filter (λ (l : Listener). l.row.parent == parent) ls) (ascend_filter (λ (l : Listener). l.row.id) (λ (l : Listener). l.row.parent == parent) ls up)

-- the ends of these are those of the rows
pub ends_are : (parent : ℕ) (ls : List Listener) → ends_of (ids_of parent ls) ≡ listener_ends (filter (λ (row : ListenerRow). row.parent == parent) (map (λ (l : Listener). l.row) ls))
ends_are parent [] = refl
ends_are parent (l ∷ ls) =
    let ih = ends_are parent ls in
    by_test (l.row.parent == parent) (λ k. rw k (ap (λ (rest : List Effect). End listener_kind l.row.id ∷ rest) ih)) (λ k. rw k ih)

-- what is left is the next one, and what is left behind it
left_is : (last : Option ℕ) (id : ℕ) (ids : List ℕ) → Ascend (λ n. n) ids → Some id ≡ first_behind last ids → filter (is_behind last) ids ≡ id ∷ filter (is_behind (Some id)) ids
left_is last id ids up next = ids_next last ids up ∙ rw (← next) refl

pub left_none : (last : Option ℕ) (ids : List ℕ) → Ascend (λ n. n) ids → None ≡ first_behind last ids → filter (is_behind last) ids ≡ []
left_none last ids up none = ids_next last ids up ∙ rw (← none) refl

pub left_fewer : (last : Option ℕ) (id : ℕ) (ids : List ℕ) → Ascend (λ n. n) ids → Some id ≡ first_behind last ids → length (filter (is_behind (Some id)) ids) < length (filter (is_behind last) ids)
left_fewer last id ids up next = rw (left_is last id ids up next) (omega arith)

-- what a walk has told goes on with the next one
pub ends_on : (last : Option ℕ) (id : ℕ) (ids : List ℕ) (old new all : List Effect) → Ascend (λ n. n) ids → Some id ≡ first_behind last ids → old ++ ends_of (filter (is_behind last) ids) ≡ all → new ≡ old ++ End listener_kind id ∷ []
    → new ++ ends_of (filter (is_behind (Some id)) ids) ≡ all
ends_on last id ids old new all up next told more =
    ap (λ (fx : List Effect). fx ++ ends_of (filter (is_behind (Some id)) ids)) more
    ∙ (append_assoc old (End listener_kind id ∷ []) (ends_of (filter (is_behind (Some id)) ids))
    ∙ (ap (λ (more : List ℕ). old ++ ends_of more) (sym (left_is last id ids up next)) ∙ told))

-- and ends where there is none
pub ends_done : (last : Option ℕ) (ids : List ℕ) (fx all : List Effect) → Ascend (λ n. n) ids → None ≡ first_behind last ids → fx ++ ends_of (filter (is_behind last) ids) ≡ all → fx ≡ all
ends_done last ids fx all up none told = sym (append-nil fx) ∙ (ap (λ (more : List ℕ). fx ++ ends_of more) (sym (left_none last ids up none)) ∙ told)
