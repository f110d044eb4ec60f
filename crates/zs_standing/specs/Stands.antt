-- The tables that a history leaves, and when a state stands for it.
use Rattle.std.specs.Prelude.{◌≡◌, ℕ, Bool, is_some, List, [], ◌∷◌}
use Rattle.zs_events.specs.declared.event.Event.{Event}
use Rattle.zs_model.specs.declared.settings.Settings.{Settings}
use Rattle.zs_events.specs.declared.turn.Kind.{Kind}
use Rattle.zs_events.specs.declared.turn.Kind.TheVariants.{Get, LivelinessGet}
use Rattle.zs_events.specs.declared.turn.Turn.{Turn}
use Rattle.zs_world.specs.World.{World, new_world}
use Rattle.zs_world.specs.Changes.{with_change, change_for}
use Rattle.zs_model.specs.Entry.{Entry, is_closed}
use Rattle.zs_model.specs.HeldKeys.{is_held}
use Rattle.zs_model.specs.Live.{is_living}
use Rattle.zs_model.specs.Past.{past_of}
use Rattle.zs_model.specs.Cancelling.{is_taken}
use Rattle.zs_query.specs.Gets.{get_at}
use Rattle.zs_tables.specs.LivelinessGets.{is_asking}
use Rattle.zs_model.specs.Tokens.{asking_now}
use Rattle.zs_model.specs.Gets.{moment_of, open_now}
use Rattle.zs_model.specs.Effects.{effects}

-- what a session is after these accepted events, the newest first: each makes its change
abbrev pub world_of : Settings → List Entry → World
world_of s [] = new_world s
world_of s (x ∷ past) = with_change (change_for (world_of s past) x.event) (world_of s past)

-- what a session is after a history, the newest event first
abbrev pub world_after : Settings → List Event → World
world_after s h = world_of s (past_of s h)

-- a state stands for settings and a history where it is what they leave
abbrev pub Stands : World → Settings → List Event → Type 0
Stands w s h = w ≡ world_after s h

-- a preview: whatever history the state stands for, the turn is that of the event behind it
abbrev pub Previews : World → Event → Turn → Type 0
Previews w e turn = (s : Settings) (h : List Event) → Stands w s h → turn ≡ effects s h e

-- one step: whatever history the state stands for, the turn is that of the event behind it, and the new state
-- stands for the history with the event
abbrev pub TakesStep : World → World → Event → Turn → Type 0
TakesStep old new e turn =
    (s : Settings) (h : List Event) → Stands old s h → (turn ≡ effects s h e) × Stands new s (e ∷ h)

-- what a state is asked, told by the events of whatever history it stands for: whether it is closed
abbrev pub ClosedIs : World → Bool → Type 0
ClosedIs w answer = (s : Settings) (h : List Event) → Stands w s h → answer ≡ is_closed (past_of s h)

-- whether a number is held
abbrev pub IsHeld : World → ℕ → Bool → Type 0
IsHeld w number answer = (s : Settings) (h : List Event) → Stands w s h → answer ≡ is_held number (past_of s h)

-- whether what has a kind and number is live, where a get is live while it is open
abbrev pub lives : Settings → Kind → ℕ → List Entry → Bool
lives s Get id past = is_some (get_at id (open_now s past))
lives s LivelinessGet id past = is_asking id (asking_now s past)
lives s kind id past = is_living kind id past

abbrev pub IsLive : World → Kind → ℕ → Bool → Type 0
IsLive w kind id answer = (s : Settings) (h : List Event) → Stands w s h → answer ≡ lives s kind id (past_of s h)

-- the moment
abbrev pub NowIs : World → ℕ → Type 0
NowIs w answer = (s : Settings) (h : List Event) → Stands w s h → answer ≡ moment_of (past_of s h)

-- whether a cancellation token was taken
abbrev pub IsTaken : World → ℕ → Bool → Type 0
IsTaken w token answer = (s : Settings) (h : List Event) → Stands w s h → answer ≡ is_taken token (past_of s h)
