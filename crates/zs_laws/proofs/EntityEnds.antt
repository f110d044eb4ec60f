-- What an event ends of entities, case by case: nothing, one, or all that have a handler. Proofs on ends stand on this, and need not walk
-- the kinds of entities.
use Rattle.std.proofs.Common.{ℕ, List, [], ◌∷◌, ◌++◌, map}
use Rattle.zs_tables.specs.Types.{LivelinessSub}
use Rattle.zs_tables.specs.declared.queryable.QueryableRow.{QueryableRow}
use Rattle.zs_subscriptions.specs.declared.subscriber.SubRow.{SubRow}
use Rattle.zs_events.specs.declared.entity_kind.EntityKind.TheVariants.{Sub as sub_sort, Queryable as queryable_sort, Lsub as lsub_sort}
use Rattle.zs_events.specs.declared.event.Event.{Event}
use Rattle.zs_events.specs.declared.event.Event.TheVariants.{Undeclare, Close}
use Rattle.zs_events.specs.declared.turn.Effect.{Effect}
use Rattle.zs_events.specs.declared.turn.Effect.TheVariants.{End}
use Rattle.zs_events.specs.declared.turn.Kind.{Kind}
use Rattle.zs_events.specs.declared.turn.Kind.TheVariants.{Subscriber, Queryable, LivelinessSubscriber}
use Rattle.zs_model.specs.Effects.{ends_of}
use Rattle.zs_model.specs.LivelinessEffects.{lsub_ends}
use Rattle.zs_model.specs.Queryables.{queryable_ends}
use Rattle.zs_model.specs.Subscribers.{sub_ends}

-- what holds of effects where it holds of nothing, of effects behind others, and of the end of what has any kind and number
pub record HoldsOfEnds (P : List Effect → Type 0) : Type 0 where
  pub none : P []
  pub both : (xs ys : List Effect) → P xs → P ys → P (xs ++ ys)
  pub one : (kind : Kind) (id : ℕ) → P (End kind id ∷ [])

-- of the ends of several
each_ends : {R : Type 0} (P : List Effect → Type 0) → HoldsOfEnds P → (kind : Kind) (number : R → ℕ) (rows : List R) → P (map (λ row. End kind (number row)) rows)
each_ends P h kind number [] = h.none
each_ends P h kind number (row ∷ rows) = h.both (End kind (number row) ∷ []) (map (λ r. End kind (number r)) rows) (h.one kind (number row)) (each_ends P h kind number rows)

-- and of all that an event ends
pub ends_cases : (P : List Effect → Type 0) → HoldsOfEnds P → (queryables : List QueryableRow) (subs : List SubRow) (lsubs : List LivelinessSub) (e : Event) → P (ends_of queryables subs lsubs e)
ends_cases P h queryables subs lsubs (Undeclare sub_sort id) = h.one Subscriber id
ends_cases P h queryables subs lsubs (Undeclare queryable_sort id) = h.one Queryable id
ends_cases P h queryables subs lsubs (Undeclare lsub_sort id) = h.one LivelinessSubscriber id
ends_cases P h queryables subs lsubs Close =
    h.both (queryable_ends queryables ++ sub_ends subs) (lsub_ends lsubs)
    (h.both (queryable_ends queryables) (sub_ends subs)
    (each_ends P h Queryable (λ (row : QueryableRow). row.id) queryables) (each_ends P h Subscriber (λ (row : SubRow). row.id) subs))
    (each_ends P h LivelinessSubscriber (λ (row : LivelinessSub). row.id) lsubs)
ends_cases P h queryables subs lsubs e = h.none
