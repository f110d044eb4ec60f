-- What a machine of linked sessions stands for.
use Rattle.std.specs.Prelude.{◌≡◌, ℕ, List, ◌++◌, length}
use Rattle.zs_driving.specs.Tasks.{Rules}
use Rattle.zs_driving.specs.Languages.{events_of, rules_of}
use Rattle.zs_core.specs.Types.{Settings}
use Rattle.zs_events.specs.declared.event.Event.TheVariants.{Close}
use Rattle.zs_delivery.specs.declared.side.LinkSide.TheVariants.{A, B}
use Rattle.zs_delivery.specs.Linked.{Linked, LinkLine, Take, linked_after, with_line}
use Rattle.zs_link.specs.World.{LinkSeen, StandAs}
use Rattle.zs_link.specs.Mode.{link_language, line_text, end_text}
use Rattle.zs_link.specs.declared.mode.LinkMachine.{LinkMachine}

-- it prints by these rules, and took these rows, the newest first: each was a line, and the sessions stand for them
pub record IsBehind (machine : LinkMachine) (r : Rules) (h : List (List ℕ)) : Type 0 where
  pub settings : Settings
  pub rules : r ≡ rules_of (link_language settings)
  pub each : length (events_of (link_language settings) h) ≡ length h
  pub stands : StandAs machine.world settings (linked_after settings (events_of (link_language settings) h))

-- a line was taken: whatever the sessions stood for, its text was added, and they stand for what is so behind it
pub record TakesLine (said : LinkLine) (number : ℕ) (old new : LinkSeen) (before after : List ℕ) : Type 0 where
  pub text : (s : Settings) (w : Linked) → StandAs old s w → after ≡ before ++ line_text s number w said
  pub stands : (s : Settings) (w : Linked) → StandAs old s w → StandAs new s (with_line s said w)

-- the end was taken: the first session closed, and then the second
abbrev pub closed_linked : Settings → Linked → Linked
closed_linked s w = with_line s (Take B Close) (with_line s (Take A Close) w)

abbrev pub TakesEnd : ℕ → LinkSeen → List ℕ → List ℕ → Type 0
TakesEnd number old before after = (s : Settings) (w : Linked) → StandAs old s w → after ≡ before ++ end_text s number w
