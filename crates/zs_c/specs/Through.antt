-- What a call leaves in a slot.
use Rattle.std.specs.Prelude.{◌≡◌, ℕ, ◌<◌, ◌≤◌, List, ◌++◌, length, take, drop, min}
use Rattle.std.specs.declared.option.Option.{Option}
use Rattle.std.specs.declared.option.Option.TheVariants.{None, Some}
use Rattle.zs_grammar.specs.Grammar.{event_of}
use Rattle.zs_line_session.specs.Lined.{Lined, session_event}

-- the slot has a session before and after, and the one became the other so
abbrev pub Through : (Lined → Lined → Type 0) → Option Lined → Option Lined → Type 0
Through Becomes (Some before) (Some after) = Becomes before after
Through Becomes (Some before) None = ⊥
Through Becomes None after = ⊥

-- the slot's session takes no line of that many bytes
abbrev pub IsLonger : List ℕ → Option Lined → Type 0
IsLonger line (Some before) = before.line_max < length line
IsLonger line None = ⊥

-- the slot's session takes lines of that many bytes, and this one says nothing that can happen to it
abbrev pub IsNoEvent : List ℕ → Option Lined → Type 0
IsNoEvent line (Some before) = (length line ≤ before.line_max) × (session_event (event_of line) ≡ None)
IsNoEvent line None = ⊥

-- as much of the text as fits was moved out: it stands at the front, and what is left waits
pub record GivesText (old new : List ℕ) (moved : ℕ) (before after : Lined) : Type 0 where
  pub count : moved ≡ min (length old) (length before.text)
  pub written : new ≡ take moved before.text ++ drop moved old
  pub left : after ≡ record before { text = drop moved before.text }
