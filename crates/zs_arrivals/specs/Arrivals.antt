-- What arrives of the publications of a linked session at the other.
use Rattle.std.specs.Prelude.{◌≡◌, ℕ, ◌+◌, false, List, [], ◌∷◌, drop}
use Rattle.zs_wire.specs.declared.message.Message.{Message}
use Rattle.zs_wire.specs.declared.message.Message.TheVariants.{Push as push_message}
use Rattle.zs_model.specs.declared.settings.Settings.{Settings}
use Rattle.zs_model.specs.Entry.{is_closed}
use Rattle.zs_model.specs.Past.{past_of}
use Rattle.zs_model.specs.Received.{AreSpelled}
use Rattle.zs_delivery.specs.Linked.{Side, LinkLine, other, linked_after}
use Rattle.zs_delivery.specs.Links.{AreOwn, AreSpelledLines}
use Rattle.zs_arrivals.specs.Publications.{published, arrived}

-- how many pushes are among messages
abbrev pub pushes : List Message → ℕ
pushes [] = 0
pushes (push_message push ∷ later) = pushes later + 1
pushes (message ∷ later) = pushes later

-- what arrived at an open side is what the other published, but for the newest, whose pushes wait
abbrev pub Arrive : Settings → Settings → Side → Side → Type 0
Arrive s t from to = is_closed (past_of t to.history) ≡ false → arrived t to.history ≡ drop (pushes from.waiting) (published s from.history)

-- both ways
pub record BothArrive (s : Settings) (a b : Side) : Type 0 where
  pub forth : Arrive s (other s) a b
  pub back : Arrive (other s) s b a

-- behind every schedule
abbrev pub ArrivalsAreInOrder : Type 0
ArrivalsAreInOrder =
    (s : Settings) (h : List LinkLine) → AreSpelled s → AreOwn h → AreSpelledLines h → BothArrive s (linked_after s h).a (linked_after s h).b
