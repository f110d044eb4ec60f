-- What each of two linked sessions was told of the other: its subscribers and its queryables.
use Rattle.std.specs.Prelude.{◌≡◌, ℕ, true, false, ◌==◌, List, [], ◌∷◌, Option, None, option_map, find, if◌then◌else◌}
use Rattle.std.specs.List.{AllByRecursion}
use Rattle.zs_keys.specs.Key.{undeclared}
use Rattle.zs_keys.specs.Text.{is_canonical}
use Rattle.zs_wire.specs.declared.message.Message.{Message}
use Rattle.zs_wire.specs.declared.message.Message.TheVariants.{DeclareSubscriber, UndeclareSubscriber, DeclareQueryable, UndeclareQueryable}
use Rattle.zs_tables.specs.declared.remote_row.RemoteSubscriber.{RemoteSubscriber}
use Rattle.zs_tables.specs.declared.remote_row.RemoteQueryable.{RemoteQueryable}
use Rattle.zs_core.specs.Types.{Settings}
use Rattle.zs_core.specs.Entry.{Entry, is_closed}
use Rattle.zs_core.specs.Matching.{remote_subscribers, remote_queryables}
use Rattle.zs_core.specs.Past.{past_of}
use Rattle.zs_core.specs.Received.{read_as, sent, AreSpelled}
use Rattle.zs_delivery.specs.Linked.{Side, LinkLine, other, linked_after}
use Rattle.zs_delivery.specs.Links.{AreOwn, AreSpelledLines}

-- the subscriber of a number that these messages declare, the newest first, to whoever reads them: as it was declared last, if that was
-- not ended since
abbrev pub declared_sub : ℕ → List Message → Option RemoteSubscriber
declared_sub id [] = None
declared_sub id (DeclareSubscriber number wire ∷ before) =
    if number == id then option_map (λ text. record { number = number; key = undeclared text }) (read_as before wire) else declared_sub id before
declared_sub id (UndeclareSubscriber number ∷ before) = if number == id then None else declared_sub id before
declared_sub id (message ∷ before) = declared_sub id before

-- and the queryable
abbrev pub declared_queryable : ℕ → List Message → Option RemoteQueryable
declared_queryable id [] = None
declared_queryable id (DeclareQueryable number complete wire ∷ before) =
    if number == id then option_map (λ text. record { number = number; complete = complete; key = undeclared text }) (read_as before wire)
    else declared_queryable id before
declared_queryable id (UndeclareQueryable number ∷ before) = if number == id then None else declared_queryable id before
declared_queryable id (message ∷ before) = declared_queryable id before

-- a session was told just these subscribers and queryables of the network, under each number
pub record WasTold (past : List Entry) (messages : List Message) : Type 0 where
  pub subs : (id : ℕ) → find (λ row. row.number == id) (remote_subscribers past) ≡ declared_sub id messages
  pub queryables : (id : ℕ) → find (λ row. row.number == id) (remote_queryables past) ≡ declared_queryable id messages

-- so it is with all that the other has sent, where none of it waits and the receiver is open
abbrev pub TellsAll : Settings → Settings → Side → Side → Type 0
TellsAll s t from to = from.waiting ≡ [] → is_closed (past_of t to.history) ≡ false → WasTold (past_of t to.history) (sent s from.history)

-- both ways
pub record BothTell (s : Settings) (a b : Side) : Type 0 where
  pub forth : TellsAll s (other s) a b
  pub back : TellsAll (other s) s b a

-- the texts of aggregates are canonical key expressions, as each key of a program is
abbrev pub AreCanonical : Settings → Type 0
AreCanonical s = AllByRecursion (λ a. is_canonical a.text ≡ true) s.aggregated_subscribers

-- behind every schedule
abbrev pub ToldAreDeclared : Type 0
ToldAreDeclared =
    (s : Settings) (h : List LinkLine) → AreSpelled s → AreCanonical s → AreOwn h → AreSpelledLines h → BothTell s (linked_after s h).a (linked_after s h).b
