-- What comes of a delivery: where no message waits, where the oldest is an interest, and where it is an event of its receiver.
use Rattle.std.proofs.Common.{◌≡◌, List, [], ◌∷◌, Bool, true, false, Some, None, refl, sym, ◌∙◌, ap, subst}
use Rattle.std.specs.Prelude.{slice_get, if◌then◌else◌}
use Rattle.zs_wire.specs.declared.message.Message.{Message}
use Rattle.zs_events.specs.declared.event.Event.TheVariants.{Net}
use Rattle.zs_events.specs.declared.turn.Turn.{Turn}
use Rattle.zs_session_cell.specs.Core.{turn_at}
use Rattle.zs_delivery.specs.Linked.{is_event, with_event, with_oldest, without_oldest}
use Rattle.zs_link.specs.declared.world.Delivered.TheVariants.{Nothing, Dropped, Taken}
use Rattle.zs_link.specs.World.{SideSeen, StandsAs, TakesEvent, BeginsWith, delivered_of, without_first, Passes}

-- the oldest message, if there is one
pub none_first : (messages : List Message) → slice_get messages 0 ≡ None → messages ≡ []
none_first [] none = refl
none_first (m ∷ messages) none = cc

pub none_left : (messages : List Message) → slice_get messages 0 ≡ None → messages ≡ without_oldest messages
none_left [] none = refl
none_left (m ∷ messages) none = cc

pub begins : (m : Message) (event : Bool) (messages : List Message) → slice_get messages 0 ≡ Some m → is_event m ≡ event → BeginsWith event messages
begins m event [] some is = cc
begins m event (n ∷ messages) some is =
    let same : n ≡ m = cc in
    ap is_event same ∙ is

module _ (from to : SideSeen) where
  pub passes_nothing : slice_get from.waiting 0 ≡ None → Passes from to Nothing from to
  passes_nothing first s t x y a b = go x.waiting refl (ap (λ (ms : List Message). slice_get ms 0) (sym a.waits) ∙ first)
    where
      go : (ms : List Message) → x.waiting ≡ ms → slice_get ms 0 ≡ None
          → (Nothing ≡ delivered_of t ms y.history) × StandsAs from s (record { history = x.history; waiting = without_oldest ms }) × StandsAs to t (with_oldest t ms y)
      go [] is none = (refl, record { stands = a.stands; waits = a.waits ∙ is }, b)
      go (n ∷ ms) is none = cc

  pub passes_dropped : (m : Message) → slice_get from.waiting 0 ≡ Some m → is_event m ≡ false → Passes from to Dropped (without_first from) to
  passes_dropped m first interest s t x y a b = go x.waiting refl (ap (λ (ms : List Message). slice_get ms 0) (sym a.waits) ∙ first)
    where
      by : (n : Message) (ms : List Message) → x.waiting ≡ n ∷ ms → (e : Bool) → e ≡ false
          → (Dropped ≡ (if e then Taken (turn_at t y.history (Net n)) else Dropped))
          × StandsAs (without_first from) s (record { history = x.history; waiting = ms }) × StandsAs to t (if e then with_event t (Net n) y else y)
      by n ms is true not_so = cc
      by n ms is false so = (refl, record { stands = a.stands; waits = ap without_oldest (a.waits ∙ is) }, b)

      go : (ms : List Message) → x.waiting ≡ ms → slice_get ms 0 ≡ Some m
          → (Dropped ≡ delivered_of t ms y.history) × StandsAs (without_first from) s (record { history = x.history; waiting = without_oldest ms }) × StandsAs to t (with_oldest t ms y)
      go [] is some = cc
      go (n ∷ ms) is some =
          let same : n ≡ m = cc in
          by n ms is (is_event n) (ap is_event same ∙ interest)

  pub passes_taken : (m : Message) (turn : Turn) (now : SideSeen) → slice_get from.waiting 0 ≡ Some m → is_event m ≡ true → TakesEvent (Net m) to turn now → Passes from to (Taken turn) (without_first from) now
  passes_taken m turn now first event takes s t x y a b = go x.waiting refl (ap (λ (ms : List Message). slice_get ms 0) (sym a.waits) ∙ first)
    where
      by : (n : Message) (ms : List Message) → x.waiting ≡ n ∷ ms → TakesEvent (Net n) to turn now → (e : Bool) → e ≡ true
          → (Taken turn ≡ (if e then Taken (turn_at t y.history (Net n)) else Dropped))
          × StandsAs (without_first from) s (record { history = x.history; waiting = ms }) × StandsAs now t (if e then with_event t (Net n) y else y)
      by n ms is taken false not_so = cc
      by n ms is taken true so = (ap (λ (made : Turn). Taken made) (taken t y b).0, record { stands = a.stands; waits = ap without_oldest (a.waits ∙ is) }, (taken t y b).1)

      go : (ms : List Message) → x.waiting ≡ ms → slice_get ms 0 ≡ Some m
          → (Taken turn ≡ delivered_of t ms y.history) × StandsAs (without_first from) s (record { history = x.history; waiting = without_oldest ms }) × StandsAs now t (with_oldest t ms y)
      go [] is some = cc
      go (n ∷ ms) is some =
          let same : n ≡ m = cc in
          by n ms is (subst (λ (k : Message). TakesEvent (Net k) to turn now) (sym same) takes) (is_event n) (ap is_event same ∙ event)
