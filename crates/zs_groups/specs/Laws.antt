-- Whom the sides see behind the lines of a run.
use Rattle.std.specs.Prelude.{◌≡◌, ℕ, ◌+◌, List}
use Rattle.zs_core.specs.Types.{Settings}
use Rattle.zs_core.specs.Settings.{default_settings}
use Rattle.zs_core.specs.Past.{past_of}
use Rattle.zs_core.specs.Received.{AreSpelled}
use Rattle.zs_core.specs.Tokens.{remote_tokens}
use Rattle.zs_driving.specs.Languages.{events_of}
use Rattle.zs_delivery.specs.declared.side.LinkSide.{LinkSide}
use Rattle.zs_delivery.specs.declared.side.LinkSide.TheVariants.{A, B}
use Rattle.zs_delivery.specs.Linked.{LinkLine, other, linked_after}
use Rattle.zs_members.specs.Members.{count_of}
use Rattle.zs_group_lines.specs.Membership.{view_of}
use Rattle.zs_group_laws.specs.Groups.{HoldsDeclared, Starts, held_count, remote_token_count}
use Rattle.zs_groups.specs.Told.{settings_of, side_of, opposite, membership_at, waiting_at}
use Rattle.zs_groups.specs.Language.{group_language, links_behind}

-- a side sees of each name as many as it holds tokens and as it was told of the other's that were not ended
abbrev pub ShowsMembers : Settings → List LinkLine → LinkSide → Type 0
ShowsMembers s links side =
    (name : List ℕ) → count_of name (view_of (membership_at s side links))
    ≡ held_count name (membership_at s side links).tokens + remote_token_count name (remote_tokens (settings_of side s) (past_of (settings_of side s) (side_of side (linked_after s links)).history))

-- the tokens that it holds are those that its accepted events declared and did not end
abbrev pub HoldsMembers : Settings → List LinkLine → LinkSide → Type 0
HoldsMembers s links side =
    HoldsDeclared (past_of (settings_of side s) (side_of side (linked_after s links)).history) (membership_at s side links).tokens

-- where nothing of the other waits, it sees of each name as many as both hold
abbrev pub ShowsAll : Settings → List LinkLine → LinkSide → Type 0
ShowsAll s links side =
    waiting_at s (opposite side) links ≡ 0 → (name : List ℕ)
    → count_of name (view_of (membership_at s side links))
    ≡ held_count name (membership_at s side links).tokens + held_count name (membership_at s (opposite side) links).tokens

-- what is known of whom both see behind what they took and delivered
pub record BothShow (s : Settings) (links : List LinkLine) : Type 0 where
  pub each : (side : LinkSide) → ShowsMembers s links side
  pub holds : (side : LinkSide) → HoldsMembers s links side
  pub all : (side : LinkSide) → ShowsAll s links side
  pub same : waiting_at s A links ≡ 0 → waiting_at s B links ≡ 0 → view_of (membership_at s A links) ≡ view_of (membership_at s B links)

-- so it is behind the lines that any rows are. The texts of the settings' aggregates are spelled with characters
abbrev pub ViewsShowMembers : Type 0
ViewsShowMembers =
    (s : Settings) (rows : List (List ℕ)) → AreSpelled s → Starts s → Starts (other s) → BothShow s (links_behind s (events_of (group_language s) rows))

-- so it is behind the lines of every run of the program
abbrev pub RunsShowMembers : Type 0
RunsShowMembers = (rows : List (List ℕ)) → BothShow default_settings (links_behind default_settings (events_of (group_language default_settings) rows))
