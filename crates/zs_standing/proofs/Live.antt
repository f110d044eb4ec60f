-- The tables of entities are the plain filters, and what can be named is found in them.
use Rattle.std.proofs.Common.{◌≡◌, ℕ, List, [], ◌∷◌, Bool, true, false, Option, refl, sym, subst, ◌∙◌, ap}
use Rattle.std.specs.Prelude.{◌==◌, ◌&&◌, ◌||◌, if◌then◌else◌}
use Rattle.std.specs.List.{list_any}
use Rattle.zs_events.specs.declared.event.Event.{Event}
use Rattle.zs_wire.specs.declared.message.Message.TheVariants.{Close as close_message}
use Rattle.zs_events.specs.declared.event.Event.TheVariants.{Net}
use Rattle.zs_events.specs.declared.turn.Kind.{Kind}
use Rattle.zs_events.specs.declared.turn.Kind.TheVariants.{Subscriber, LivelinessSubscriber, Publisher, Queryable, Querier, Token, Listener, Get, LivelinessGet}
use Rattle.zs_world.specs.declared.change.Change.{Change}
use Rattle.zs_world.specs.declared.change.Change.TheVariants.{Nothing, OfEntities, OfLiveliness, OfMatching}
use Rattle.zs_world.specs.declared.change.EntityChange.{EntityChange}
use Rattle.zs_world.specs.declared.change.EntityChange.TheVariants.{Add as AddEntity, End as EndEntity, Leave as LeaveEntity}
use Rattle.zs_world.specs.declared.change.EntityRow.TheVariants.{Sub as new_sub, Pub as new_pub, Queryable as new_queryable, Querier as new_querier, Token as new_token, Lsub as new_lsub}
use Rattle.zs_world.specs.declared.change.LivelinessChange.TheVariants.{AskTokens}
use Rattle.zs_world.specs.declared.change.MatchingChange.TheVariants.{TellSub}
use Rattle.zs_events.specs.declared.entity_kind.EntityKind.TheVariants.{Sub as sub_sort, Pub as pub_sort, Queryable as queryable_sort, Querier as querier_sort, Token as token_sort, Lsub as lsub_sort}
use Rattle.zs_events.specs.declared.entity_kind.BackgroundKind.TheVariants.{Sub as background_sub}
use Rattle.zs_world.specs.World.{World}
use Rattle.zs_model.specs.Entry.{Entry}
use Rattle.zs_model.specs.Subscribers.{sub_row}
use Rattle.zs_model.specs.Publishers.{pub_row}
use Rattle.zs_model.specs.Queryables.{queryable_row}
use Rattle.zs_model.specs.declared.querier.QuerierRow.{QuerierRow}
use Rattle.zs_model.specs.Queriers.{querier_row, to_gets_by}
use Rattle.zs_events.specs.Kinds.{background_kind_of, row_of}
use Rattle.zs_model.specs.Live.{is_same, leaves_as, drew, drew_unended, is_live, was_left, to_gets_of}
use Rattle.zs_model.specs.Liveliness.{token_row, lsub_row}
use Rattle.zs_tables.specs.Types.{LivelinessSub}
use Rattle.zs_subscriptions.specs.Ascending.{placed_by}
use Rattle.zs_world.specs.EntityChanges.{left_after}
use Rattle.zs_world.specs.Changes.{with_change, Fits}
use Rattle.zs_world.specs.Decisions.{is_there, is_left, to_gets_at, left_of}
use Rattle.zs_model.proofs.Placing.{placed_any}
use Rattle.zs_model.proofs.Entities.{RowChange, FitsIn, SaysRows, AreRows, rows_after, rows_none, rows_more}
use Rattle.zs_subscriptions.specs.declared.subscriber.SubRow.{SubRow}
use Rattle.zs_tables.specs.declared.queryable.QueryableRow.{QueryableRow}
use Rattle.zs_model.specs.declared.publisher.PubRow.{PubRow}
use Rattle.zs_standing.proofs.Saying.{IsMade, subs_by, pubs_by, queryables_by, queriers_by, entities_by, leaves_by}
use Rattle.zs_standing.proofs.Watching.{placed_new, put_last, entity_up, tokens_by, lsubs_by}

-- what the tables of entities are behind a past
pub record AreLive (w : World) (past : List Entry) : Type 0 where
  pub subs : AreRows (λ row. row.id) Subscriber sub_row w.entities.subs w.counters.entity past
  pub pubs : AreRows (λ row. row.id) Publisher pub_row w.entities.pubs w.counters.entity past
  pub queryables : AreRows (λ row. row.id) Queryable queryable_row w.entities.queryables w.counters.entity past
  pub queriers : AreRows (λ row. row.id) Querier querier_row w.entities.queriers w.counters.entity past
  pub tokens : AreRows (λ id. id) Token token_row w.liveliness.tokens w.counters.entity past
  pub lsubs : AreRows (λ row. row.id) LivelinessSubscriber lsub_row w.liveliness.subs w.counters.entity past
  pub left : (kind : Kind) (id : ℕ) → is_left kind id w ≡ was_left kind id past

-- a table behind a change is what the change makes of it, and the number of what is new fits
record IsBehind {R : Type 0} (number : R → ℕ) (c : RowChange R) (next after : ℕ) (rows new : List R) : Type 0 where
  pub is : new ≡ rows_after number c rows
  pub fits : FitsIn number next after c

subs_behind : (w : World) (c : Change) → Fits w c
    → IsBehind (λ row. row.id) (subs_by c) w.counters.entity (with_change c w).counters.entity w.entities.subs (with_change c w).entities.subs
subs_behind w (OfEntities (AddEntity (new_sub row))) fits = record { is = refl; fits = (fits.0, refl) }
subs_behind w (OfEntities (EndEntity sub_sort id)) fits = record { is = refl; fits = entity_up w (OfEntities (EndEntity sub_sort id)) }
subs_behind w c fits = record { is = refl; fits = entity_up w c }

pubs_behind : (w : World) (c : Change) → Fits w c
    → IsBehind (λ row. row.id) (pubs_by c) w.counters.entity (with_change c w).counters.entity w.entities.pubs (with_change c w).entities.pubs
pubs_behind w (OfEntities (AddEntity (new_pub row))) fits = record { is = refl; fits = (fits.0, refl) }
pubs_behind w (OfEntities (EndEntity pub_sort id)) fits = record { is = refl; fits = entity_up w (OfEntities (EndEntity pub_sort id)) }
pubs_behind w c fits = record { is = refl; fits = entity_up w c }

queryables_behind : (w : World) (c : Change) → Fits w c
    → IsBehind (λ row. row.id) (queryables_by c) w.counters.entity (with_change c w).counters.entity w.entities.queryables (with_change c w).entities.queryables
queryables_behind w (OfEntities (AddEntity (new_queryable row))) fits = record { is = refl; fits = (fits.0, refl) }
queryables_behind w (OfEntities (EndEntity queryable_sort id)) fits = record { is = refl; fits = entity_up w (OfEntities (EndEntity queryable_sort id)) }
queryables_behind w c fits = record { is = refl; fits = entity_up w c }

queriers_behind : (w : World) (c : Change) → Fits w c
    → IsBehind (λ row. row.id) (queriers_by c) w.counters.entity (with_change c w).counters.entity w.entities.queriers (with_change c w).entities.queriers
queriers_behind w (OfEntities (AddEntity (new_querier row))) fits = record { is = refl; fits = (fits.0, refl) }
queriers_behind w (OfEntities (EndEntity querier_sort id)) fits = record { is = refl; fits = entity_up w (OfEntities (EndEntity querier_sort id)) }
queriers_behind w c fits = record { is = refl; fits = entity_up w c }

tokens_behind : (w : World) (c : Change) (past : List Entry) → AreRows (λ id. id) Token token_row w.liveliness.tokens w.counters.entity past → Fits w c
    → IsBehind (λ id. id) (tokens_by c) w.counters.entity (with_change c w).counters.entity w.liveliness.tokens (with_change c w).liveliness.tokens
tokens_behind w (OfEntities (AddEntity (new_token id))) past rows fits = record {
  is = placed_new (λ (n : ℕ). n) Token token_row w.liveliness.tokens w.counters.entity past id fits.0 rows;
  fits = (fits.0, refl);
}
tokens_behind w (OfEntities (EndEntity token_sort id)) past rows fits = record { is = refl; fits = entity_up w (OfEntities (EndEntity token_sort id)) }
tokens_behind w (OfLiveliness (AskTokens row)) past rows fits = record { is = refl; fits = entity_up w (OfLiveliness (AskTokens row)) }
tokens_behind w c past rows fits = record { is = refl; fits = entity_up w c }

lsubs_behind : (w : World) (c : Change) (past : List Entry) → AreRows (λ row. row.id) LivelinessSubscriber lsub_row w.liveliness.subs w.counters.entity past → Fits w c
    → IsBehind (λ row. row.id) (lsubs_by c) w.counters.entity (with_change c w).counters.entity w.liveliness.subs (with_change c w).liveliness.subs
lsubs_behind w (OfEntities (AddEntity (new_lsub row))) past rows fits = record {
  is = put_last (λ (s : LivelinessSub). s.id) LivelinessSubscriber lsub_row w.liveliness.subs w.counters.entity past row fits.0 rows;
  fits = (fits.0, refl);
}
lsubs_behind w (OfEntities (EndEntity lsub_sort id)) past rows fits = record { is = refl; fits = entity_up w (OfEntities (EndEntity lsub_sort id)) }
lsubs_behind w (OfLiveliness (AskTokens row)) past rows fits = record { is = refl; fits = entity_up w (OfLiveliness (AskTokens row)) }
lsubs_behind w c past rows fits = record { is = refl; fits = entity_up w c }

-- so it holds what is live
table_more : {R : Type 0} (number : R → ℕ) (kind : Kind) (row : Event → Option ℕ → Option (List ℕ) → List R) (c : RowChange R) (next after : ℕ) (rows new : List R) (past : List Entry) (x : Entry)
    → IsBehind number c next after rows new → SaysRows number kind row x c → AreRows number kind row rows next past → AreRows number kind row new after (x ∷ past)
table_more {R} number kind row c next after rows new past x behind says are =
    subst (λ (rs : List R). AreRows number kind row rs after (x ∷ past)) (sym behind.is) (rows_more number kind row rows next after past x c says behind.fits are)

left_same : (kind : Kind) (w v : World) → v.entities.left_subs ≡ w.entities.left_subs → v.entities.left_queryables ≡ w.entities.left_queryables → v.liveliness.left ≡ w.liveliness.left → v.matching.left ≡ w.matching.left
    → left_of kind v ≡ left_of kind w
left_same Subscriber w v subs queryables lsubs listeners = subs
left_same Queryable w v subs queryables lsubs listeners = queryables
left_same LivelinessSubscriber w v subs queryables lsubs listeners = lsubs
left_same Listener w v subs queryables lsubs listeners = listeners
left_same kind w v subs queryables lsubs listeners = refl

left_stays : (w v : World) (kind : Kind) (id : ℕ) → v.entities.left_subs ≡ w.entities.left_subs → v.entities.left_queryables ≡ w.entities.left_queryables → v.liveliness.left ≡ w.liveliness.left → v.matching.left ≡ w.matching.left
    → is_left kind id v ≡ is_left kind id w
left_stays w v kind id subs queryables lsubs listeners = ap (λ (ids : List ℕ). list_any (λ other. other == id) ids) (left_same kind w v subs queryables lsubs listeners)

-- a change of entities makes of those that were left what it says
left_is : (kind : Kind) (w : World) (change : EntityChange) → left_of kind (with_change (OfEntities change) w) ≡ left_after kind change (left_of kind w)
left_is Subscriber w change = refl
left_is Queryable w change = refl
left_is LivelinessSubscriber w change = refl
left_is Listener w change = refl
left_is kind w (LeaveEntity background_sub id) = refl
left_is kind w change = refl

left_more : (kind : Kind) (id : ℕ) (change : EntityChange) (ids : List ℕ)
    → list_any (λ other. other == id) (left_after kind change ids) ≡ (leaves_as kind id (entities_by change) || list_any (λ other. other == id) ids)
left_more kind id (LeaveEntity other new) ids = go (is_same kind (background_kind_of other))
  where
    go : (b : Bool) → list_any (λ other. other == id) (if b then placed_by (λ n. n) new ids else ids) ≡ ((b && id == new) || list_any (λ other. other == id) ids)
    go true = placed_any id new ids
    go false = refl
left_more kind id change ids = refl

left_step : (w : World) (c : Change) (kind : Kind) (id : ℕ) → is_left kind id (with_change c w) ≡ (leaves_by kind id c || is_left kind id w)
left_step w (OfEntities change) kind id = ap (λ (ids : List ℕ). list_any (λ other. other == id) ids) (left_is kind w change) ∙ left_more kind id change (left_of kind w)
left_step w (OfLiveliness (AskTokens row)) kind id = left_stays w (with_change (OfLiveliness (AskTokens row)) w) kind id refl refl refl refl
left_step w (OfMatching (TellSub row)) kind id = left_stays w (with_change (OfMatching (TellSub row)) w) kind id refl refl refl refl
left_step w Nothing kind id = refl
left_step w c kind id = left_stays w (with_change c w) kind id refl refl refl refl

-- an accepted event keeps them so
pub live_more : (w : World) (past : List Entry) (x : Entry) (c : Change) → IsMade w x c → AreLive w past → AreLive (with_change c w) (x ∷ past)
live_more w past x c m l = record {
  subs = table_more (λ (row : SubRow). row.id) Subscriber sub_row (subs_by c) _ _ _ _ past x (subs_behind w c m.fits) m.entities.subs l.subs;
  pubs = table_more (λ (row : PubRow). row.id) Publisher pub_row (pubs_by c) _ _ _ _ past x (pubs_behind w c m.fits) m.entities.pubs l.pubs;
  queryables = table_more (λ (row : QueryableRow). row.id) Queryable queryable_row (queryables_by c) _ _ _ _ past x (queryables_behind w c m.fits) m.entities.queryables l.queryables;
  queriers = table_more (λ (row : QuerierRow). row.id) Querier querier_row (queriers_by c) _ _ _ _ past x (queriers_behind w c m.fits) m.entities.queriers l.queriers;
  tokens = table_more (λ (id : ℕ). id) Token token_row (tokens_by c) _ _ _ _ past x (tokens_behind w c past l.tokens m.fits) m.liveliness.tokens l.tokens;
  lsubs = table_more (λ (row : LivelinessSub). row.id) LivelinessSubscriber lsub_row (lsubs_by c) _ _ _ _ past x (lsubs_behind w c past l.lsubs m.fits) m.liveliness.lsubs l.lsubs;
  left = λ kind id. left_step w c kind id
      ∙ ap (λ (b : Bool). leaves_by kind id c || b) (l.left kind id)
      ∙ ap (λ (b : Bool). b || was_left kind id past) (sym (m.entities.left kind id));
}

none_left : (kind : Kind) (w : World) → w.entities.left_subs ≡ [] → w.entities.left_queryables ≡ [] → w.liveliness.left ≡ [] → w.matching.left ≡ [] → left_of kind w ≡ []
none_left Subscriber w subs queryables lsubs listeners = subs
none_left Queryable w subs queryables lsubs listeners = queryables
none_left LivelinessSubscriber w subs queryables lsubs listeners = lsubs
none_left Listener w subs queryables lsubs listeners = listeners
none_left kind w subs queryables lsubs listeners = refl

pub live_none : (w : World) → w.entities.subs ≡ [] → w.entities.pubs ≡ [] → w.entities.queryables ≡ [] → w.entities.queriers ≡ [] → w.liveliness.tokens ≡ [] → w.liveliness.subs ≡ []
    → w.entities.left_subs ≡ [] → w.entities.left_queryables ≡ [] → w.liveliness.left ≡ [] → w.matching.left ≡ [] → AreLive w []
live_none w subs pubs queryables queriers tokens lsubs left left_queryables left_lsubs left_listeners = record {
  subs = rw subs (rows_none (λ row. row.id) Subscriber sub_row w.counters.entity);
  pubs = rw pubs (rows_none (λ row. row.id) Publisher pub_row w.counters.entity);
  queryables = rw queryables (rows_none (λ row. row.id) Queryable queryable_row w.counters.entity);
  queriers = rw queriers (rows_none (λ row. row.id) Querier querier_row w.counters.entity);
  tokens = rw tokens (rows_none (λ (id : ℕ). id) Token token_row w.counters.entity);
  lsubs = rw lsubs (rows_none (λ (row : LivelinessSub). row.id) LivelinessSubscriber lsub_row w.counters.entity);
  left = λ kind id. ap (λ (ids : List ℕ). list_any (λ other. other == id) ids) (none_left kind w left left_queryables left_lsubs left_listeners);
}

-- what an event is to gets is told by the past
pub same_gets : (w : World) (past : List Entry) (e : Event) → AreLive w past → to_gets_at w e ≡ to_gets_of past e
same_gets w past e l = ap (λ (rows : List QuerierRow). to_gets_by rows (row_of e).to_gets) l.queriers.table

-- a kind of which nothing is ever drawn is never live
undrawn : (kind : Kind) (id : ℕ) → ((e : Event) (number : Option ℕ) → drew kind id e number ≡ false) → (later : List Event) (past : List Entry) → drew_unended kind id later past ≡ false
undrawn kind id none later [] = refl
undrawn kind id none later (x ∷ past) = rw (none x.event x.number, undrawn kind id none (x.event ∷ later) past) refl

no_get : (id : ℕ) (e : Event) (number : Option ℕ) → drew Get id e number ≡ false
no_get id (Net close_message) number = refl
no_get id e number = refl

no_tokens : (id : ℕ) (e : Event) (number : Option ℕ) → drew LivelinessGet id e number ≡ false
no_tokens id (Net close_message) number = refl
no_tokens id e number = refl

-- what is live is there, where it is no listener
pub there_is : (w : World) (past : List Entry) (kind : Kind) (id : ℕ) → is_same kind Listener ≡ false → AreLive w past → is_there kind id w ≡ is_live kind id past
there_is w past Subscriber id other l = l.subs.found id
there_is w past Publisher id other l = l.pubs.found id
there_is w past LivelinessSubscriber id other l = l.lsubs.found id
there_is w past Queryable id other l = l.queryables.found id
there_is w past Querier id other l = l.queriers.found id
there_is w past Token id other l = l.tokens.found id
there_is w past Listener id other l = absurd (cc)
there_is w past Get id other l = sym (undrawn Get id (no_get id) [] past)
there_is w past LivelinessGet id other l = sym (undrawn LivelinessGet id (no_tokens id) [] past)
