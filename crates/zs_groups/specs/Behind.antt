-- What the machine stands for behind its lines.
use Rattle.std.specs.Prelude.{◌≡◌, ℕ, List, [], ◌++◌, length}
use Rattle.zs_driving.specs.Tasks.{Rules}
use Rattle.zs_driving.specs.Languages.{events_of, rules_of}
use Rattle.zs_core.specs.Types.{Settings}
use Rattle.zs_delivery.specs.Linked.{LinkLine}
use Rattle.zs_groups.specs.Told.{Told}
use Rattle.zs_groups.specs.Sides.{AreBehind}
use Rattle.zs_groups.specs.Language.{Said, with_line, group_language, links_behind}
use Rattle.zs_groups.specs.declared.sides.Sides.{Sides}

-- it prints by these rules, and took these rows, the newest first: each was a line, and the sides stand for them
pub record IsBehind (sides : Sides) (r : Rules) (h : List (List ℕ)) : Type 0 where
  pub settings : Settings
  pub rules : r ≡ rules_of (group_language settings)
  pub each : length (events_of (group_language settings) h) ≡ length h
  pub stands : AreBehind sides settings (links_behind settings (events_of (group_language settings) h))

-- a line from its empty text on
abbrev pub from_nothing : List LinkLine → Told
from_nothing links = record { links = links; text = [] }

-- a line was taken: whatever the sides stood for, its text was added, and they stand for what is so behind it
pub record TakesLine (said : Said) (number : ℕ) (old new : Sides) (before after : List ℕ) : Type 0 where
  pub text : (s : Settings) (links : List LinkLine) → AreBehind old s links → after ≡ before ++ (with_line s number said (from_nothing links)).text
  pub stands : (s : Settings) (links : List LinkLine) → AreBehind old s links → AreBehind new s (with_line s number said (from_nothing links)).links
