-- What an entry says and what its change says: what is to be proved of each kind of event.
use Rattle.std.proofs.Common.{◌≡◌, ◌+◌, ℕ, List, Bool, true, false, Option, Some, None, refl}
use Rattle.std.specs.Prelude.{◌==◌, ◌||◌, not, is_some, if◌then◌else◌}
use Rattle.zs_subscriptions.specs.Numbers.{number_at}
use Rattle.zs_subscriptions.specs.declared.subscriber.SubRow.{SubRow}
use Rattle.zs_tables.specs.declared.queryable.QueryableRow.{QueryableRow}
use Rattle.zs_events.specs.declared.turn.Kind.{Kind}
use Rattle.zs_events.specs.declared.turn.Kind.TheVariants.{Subscriber, Publisher, Queryable as queryable_kind, Querier as querier_kind, Token, LivelinessSubscriber, Listener}
use Rattle.zs_model.specs.declared.publisher.PubRow.{PubRow}
use Rattle.zs_events.specs.declared.turn.Refusal.TheVariants.{NotFound, UnknownScope, BadKeyExpr, QueryCancelled, ReplyDisjoint, NotDeclared, IdsExhausted, Ignored}
use Rattle.zs_world.specs.declared.change.Change.{Change}
use Rattle.zs_world.specs.declared.change.Change.TheVariants.{OfKeys, OfEntities, OfNetwork, Shut, OfLiveliness, OfMatching}
use Rattle.zs_world.specs.declared.change.KeyChange.TheVariants.{Declare, Hold, Release}
use Rattle.zs_world.specs.declared.change.EntityChange.{EntityChange}
use Rattle.zs_world.specs.declared.change.EntityChange.TheVariants.{Add as AddEntity, End as EndEntity, Leave as LeaveEntity}
use Rattle.zs_world.specs.declared.change.EntityRow.{EntityRow}
use Rattle.zs_world.specs.declared.change.EntityRow.TheVariants.{Sub as new_sub, Pub as new_pub, Queryable as new_queryable, Querier as new_querier, Listener as new_listener, Token as new_token, Lsub as new_lsub}
use Rattle.zs_events.specs.declared.entity_kind.EntityKind.TheVariants.{Sub as sub_sort, Pub as pub_sort, Queryable as queryable_sort, Querier as querier_sort}
use Rattle.zs_world.specs.declared.change.NetworkChange.TheVariants.{TellKey}
use Rattle.zs_world.specs.declared.change.LivelinessChange.TheVariants.{AskTokens}
use Rattle.zs_world.specs.World.{World}
use Rattle.zs_model.proofs.Values.{handing_next}
use Rattle.zs_model.proofs.Gets.{asking_by, IsAskedUnder}
use Rattle.zs_events.specs.Kinds.{Draws, KeyNumber, kind_of, background_kind_of, ToEntities, Declares, EndsEntity, LeavesEntity, ToMatching, NoMatch, TellsSub, TellsQueryable, Row, row_of}
use Rattle.zs_model.specs.Seen.{Sight, is_not_found, is_unknown, is_bad_key}
use Rattle.zs_model.specs.Entry.{Entry, is_close}
use Rattle.zs_model.specs.HeldKeys.{declares_number, returns_number, tells_number}
use Rattle.zs_model.specs.Subscribers.{sub_row}
use Rattle.zs_model.specs.Publishers.{pub_row}
use Rattle.zs_model.specs.Queryables.{queryable_row}
use Rattle.zs_model.specs.declared.querier.QuerierRow.{QuerierRow}
use Rattle.zs_model.specs.Queriers.{querier_row}
use Rattle.zs_model.proofs.Cancelling.{cancelling_by}
use Rattle.zs_model.specs.Live.{leaves, leaves_as}
use Rattle.zs_world.specs.EntityChanges.{row_number}
use Rattle.zs_standing.proofs.Watching.{SaysLiveliness}
use Rattle.zs_model.specs.Counters.{draws_entity, draws_query}
use Rattle.zs_world.specs.Changes.{Fits, with_change}
use Rattle.zs_world.specs.Decisions.{first_cause, refused_if, to_gets_at}
use Rattle.zs_model.proofs.Entities.{RowChange, Keep, Add, Take, Clear, SaysRows}

-- a change that closes the session
abbrev pub closes : Change → Bool
closes Shut = true
closes c = false

-- that gives a number to a declared key
abbrev pub declares_by : ℕ → Change → Bool
declares_by n (OfKeys (Declare number key)) = number == n
declares_by n (OfKeys (Hold number)) = number == n
declares_by n c = false

-- that gives one back
abbrev pub returns_by : ℕ → Change → Bool
returns_by n (OfKeys (Release number)) = number == n
returns_by n c = false

-- that draws a number for a key
abbrev pub draws_by : Change → Bool
draws_by (OfKeys (Declare number key)) = true
draws_by c = false

-- whether a key number is drawn, by the tables
abbrev pub draws_new : World → Draws → Option (List ℕ) → Bool
draws_new w KeyNumber (Some text) = not (is_some (number_at text w.keys.local_resources))
draws_new w draws text = false

-- the text of a key that a change holds
abbrev pub IsText : World → Option (List ℕ) → Change → Type 0
IsText w text (OfKeys (Declare number key)) = text ≡ Some key.text
IsText w text (OfNetwork (TellKey number key)) = text ≡ Some key.text
IsText w text c = Unit {0}

-- that tells of a number of the network
abbrev pub told_by : ℕ → Change → Bool
told_by n (OfNetwork (TellKey number key)) = number == n
told_by n c = false

-- what it makes of the subscribers, of the publishers, of the queryables and of the queriers
abbrev pub subs_by : Change → RowChange SubRow
subs_by (OfEntities (AddEntity (new_sub row))) = Add row
subs_by (OfEntities (EndEntity sub_sort id)) = Take id
subs_by Shut = Clear
subs_by c = Keep

abbrev pub pubs_by : Change → RowChange PubRow
pubs_by (OfEntities (AddEntity (new_pub row))) = Add row
pubs_by (OfEntities (EndEntity pub_sort id)) = Take id
pubs_by Shut = Clear
pubs_by c = Keep

abbrev pub queryables_by : Change → RowChange QueryableRow
queryables_by (OfEntities (AddEntity (new_queryable row))) = Add row
queryables_by (OfEntities (EndEntity queryable_sort id)) = Take id
queryables_by Shut = Clear
queryables_by c = Keep

abbrev pub queriers_by : Change → RowChange QuerierRow
queriers_by (OfEntities (AddEntity (new_querier row))) = Add row
queriers_by (OfEntities (EndEntity querier_sort id)) = Take id
queriers_by Shut = Clear
queriers_by c = Keep

-- the kind of what is added
abbrev pub kind_of_row : EntityRow → Kind
kind_of_row (new_sub row) = Subscriber
kind_of_row (new_pub row) = Publisher
kind_of_row (new_queryable row) = queryable_kind
kind_of_row (new_querier row) = querier_kind
kind_of_row (new_listener row) = Listener
kind_of_row (new_token id) = Token
kind_of_row (new_lsub row) = LivelinessSubscriber

-- what a change is to entities
abbrev pub entities_by : EntityChange → ToEntities
entities_by (AddEntity row) = Declares (kind_of_row row)
entities_by (EndEntity kind id) = EndsEntity (kind_of kind) id
entities_by (LeaveEntity kind id) = LeavesEntity (background_kind_of kind) id

-- that leaves an entity to itself
abbrev pub leaves_by : Kind → ℕ → Change → Bool
leaves_by kind id (OfEntities change) = leaves_as kind id (entities_by change)
leaves_by kind id c = false

-- that draws a number for an entity, and which
abbrev pub adds : Change → Bool
adds (OfEntities (AddEntity row)) = true
adds (OfLiveliness (AskTokens row)) = true
adds c = false

abbrev pub IsNumber : Option ℕ → Change → Type 0
IsNumber number (OfEntities (AddEntity row)) = number ≡ Some (row_number row)
IsNumber number (OfLiveliness (AskTokens row)) = number ≡ Some row.number
IsNumber number c = Unit {0}

-- what an entry says of the declared keys, its change says too
pub record SaysKeys (w : World) (x : Entry) (c : Change) : Type 0 where
  pub declares : (n : ℕ) → declares_number n x.event x.number ≡ declares_by n c
  pub returns : (n : ℕ) → returns_number n x.event ≡ returns_by n c
  pub draws : draws_new w (row_of x.event).draws x.text ≡ draws_by c
  pub tells : (n : ℕ) → tells_number n x.event ≡ told_by n c
  pub text : IsText w x.text c

-- and what it says of entities
pub record SaysEntities (x : Entry) (c : Change) : Type 0 where
  pub subs : SaysRows (λ row. row.id) Subscriber sub_row x (subs_by c)
  pub pubs : SaysRows (λ row. row.id) Publisher pub_row x (pubs_by c)
  pub queryables : SaysRows (λ row. row.id) queryable_kind queryable_row x (queryables_by c)
  pub queriers : SaysRows (λ row. row.id) querier_kind querier_row x (queriers_by c)
  pub left : (kind : Kind) (id : ℕ) → leaves kind id x.event ≡ leaves_by kind id c
  pub number : IsNumber x.number c
  pub draws : draws_entity (row_of x.event).draws ≡ adds c

-- and what it says of gets, of query values and of cancellation tokens
pub record SaysGets (w : World) (x : Entry) (c : Change) : Type 0 where
  pub asking :
      (with_change c w).asking
      ≡ asking_by w.settings.default_timeout w.settings.zid w.entities.queryables w.handing.values (to_gets_at w x.event) (row_of x.event).to_values x.text w.asking
  pub handing : (with_change c w).handing ≡ handing_next w.entities.queryables (to_gets_at w x.event) (row_of x.event).to_values x.number x.text w.handing
  pub under : IsAskedUnder (to_gets_at w x.event) x.number w.asking.next
  pub counted : (with_change c w).asking.next ≡ (if draws_query (row_of x.event).draws then w.asking.next + 1 else w.asking.next)
  pub cancelling : (with_change c w).cancelling ≡ cancelling_by (row_of x.event) w.cancelling

-- whether an event touches listeners, or what the network told of those whom one can match
abbrev pub tells_matching : ToMatching → Option (List ℕ) → Bool
tells_matching NoMatch text = false
tells_matching (TellsSub id) text = is_some text
tells_matching (TellsQueryable id complete) text = is_some text
tells_matching to text = true

abbrev pub of_listeners : ToEntities → Bool
of_listeners (Declares Listener) = true
of_listeners (EndsEntity Listener id) = true
of_listeners (LeavesEntity Listener id) = true
of_listeners to = false

abbrev pub touches_matching : Entry → Bool
touches_matching x = of_listeners (row_of x.event).to_entities || tells_matching (row_of x.event).to_matching x.text

-- and whether a change does
abbrev pub matches_by : Change → Bool
matches_by (OfEntities change) = of_listeners (entities_by change)
matches_by (OfMatching change) = true
matches_by c = false

-- an entry and its change, made in an open session
pub record IsMade (w : World) (x : Entry) (c : Change) : Type 0 where
  pub unclosed : w.closed ≡ false
  pub fits : Fits w c
  pub closes : is_close x.event ≡ closes c
  pub keys : SaysKeys w x c
  pub entities : SaysEntities x c
  pub gets : SaysGets w x c
  pub liveliness : SaysLiveliness w x c
  pub matching : touches_matching x ≡ matches_by c

-- the tests that an accepted event has passed
pub record HasPassed (row : Row) (seen : Sight) : Type 0 where
  pub found : is_not_found row seen ≡ false
  pub known : is_unknown row seen ≡ false
  pub free : seen.cancelled ≡ false
  pub whole : row.gives_part ≡ false
  pub left : seen.lacks ≡ false

pub passed : (row : Row) (seen : Sight) → first_cause row seen ≡ None → HasPassed row seen
passed row seen = go (is_not_found row seen) refl (is_unknown row seen) refl (is_bad_key seen) seen.cancelled refl seen.disjoint row.gives_part refl seen.lacks refl seen.idle
  where
    go : (a : Bool) → is_not_found row seen ≡ a → (b : Bool) → is_unknown row seen ≡ b → (c q : Bool) → seen.cancelled ≡ q → (r d : Bool) → row.gives_part ≡ d → (e : Bool) → seen.lacks ≡ e → (f : Bool)
        → refused_if a NotFound (refused_if b UnknownScope (refused_if c BadKeyExpr (refused_if q QueryCancelled (refused_if r ReplyDisjoint (refused_if d NotDeclared (refused_if e IdsExhausted (refused_if f Ignored None))))))) ≡ None
        → HasPassed row seen
    go true pa b pb c q pq r d pd e pe f h = cc
    go false pa true pb c q pq r d pd e pe f h = cc
    go false pa false pb true q pq r d pd e pe f h = cc
    go false pa false pb false true pq r d pd e pe f h = cc
    go false pa false pb false false pq true d pd e pe f h = cc
    go false pa false pb false false pq false true pd e pe f h = cc
    go false pa false pb false false pq false false pd true pe f h = cc
    go false pa false pb false false pq false false pd false pe true h = cc
    go false pa false pb false false pq false false pd false pe false h = record { found = pa; known = pb; free = pq; whole = pd; left = pe }
