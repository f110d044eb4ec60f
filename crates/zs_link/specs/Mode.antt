-- The language of linked sessions: which line a row is, and what is printed for it.
use Rattle.std.specs.Prelude.{ℕ, ◌+◌, Bool, true, false, not, ◌&&◌, List, [], ◌∷◌, ◌++◌, length, Option, Some, None, is_some, option_map, codes, if◌then◌else◌}
use Rattle.std.specs.Str.{bytes_eq, is_utf8}
use Rattle.zs_events.specs.declared.event.Event.{Event}
use Rattle.zs_events.specs.declared.event.Event.TheVariants.{Close}
use Rattle.zs_events.specs.declared.chan.Chan.{Chan}
use Rattle.zs_events.specs.declared.chan.Chan.TheVariants.{Print}
use Rattle.zs_events.specs.declared.script_event.ScriptEvent.{ScriptEvent}
use Rattle.zs_events.specs.declared.script_event.ScriptEvent.TheVariants.{Core}
use Rattle.zs_events.specs.declared.turn.Turn.{Turn}
use Rattle.zs_events.specs.Kinds.{row_of}
use Rattle.zs_core.specs.Types.{Settings}
use Rattle.zs_grammar.specs.Grammar.{event_of}
use Rattle.zs_printing.specs.Printing.{line, marked_text}
use Rattle.zs_parts.specs.Symbols.{after_prefix}
use Rattle.zs_driving.specs.Tasks.{Task, task_of}
use Rattle.zs_driving.specs.Languages.{Language, rules_of}
use Rattle.zs_delivery.specs.declared.side.LinkSide.{LinkSide}
use Rattle.zs_delivery.specs.declared.side.LinkSide.TheVariants.{A, B}
use Rattle.zs_delivery.specs.Linked.{Linked, LinkLine, Take, Deliver, linked_after, with_line}
use Rattle.zs_delivery.specs.Links.{is_net}
use Rattle.zs_link.specs.declared.world.Delivered.{Delivered}
use Rattle.zs_link.specs.declared.world.Delivered.TheVariants.{Nothing, Dropped, Taken}
use Rattle.zs_link.specs.World.{turn_for, delivery_from}

-- whether what is handed over goes nowhere beside
abbrev pub is_printed : Chan → Bool
is_printed Print = true
is_printed chan = false

-- an event of an application that has no channel
abbrev pub is_linkable : Event → Bool
is_linkable e = not (is_net e) && is_printed (row_of e).channel

abbrev pub if_linkable : Event → Option Event
if_linkable e = if is_linkable e then Some e else None

-- what a line of a script says, if it is such an event
abbrev pub linkable_of : Option ScriptEvent → Option Event
linkable_of (Some (Core e)) = if_linkable e
linkable_of said = None

-- a side takes it
abbrev pub line_at : LinkSide → List ℕ → Option LinkLine
line_at side rest = option_map (λ e. Take side e) (linkable_of (event_of rest))

-- the line of the side whose name and a tab stand before these
abbrev pub named_by : Option (List ℕ) → Option (List ℕ) → Option LinkLine
named_by (Some rest) behind_b = line_at A rest
named_by None (Some rest) = line_at B rest
named_by None None = None

abbrev pub line_named : List ℕ → Option LinkLine
line_named text = named_by (after_prefix (codes "a\t") text) (after_prefix (codes "b\t") text)

-- a text: `ab` and `ba` deliver, `a` or `b`, a tab and a line of a script without messages and channels is taken by that side
abbrev pub said_in : List ℕ → Option LinkLine
said_in text =
    if bytes_eq text (codes "ab") then Some (Deliver A)
    else if bytes_eq text (codes "ba") then Some (Deliver B)
    else line_named text

-- the line that a row is: it is UTF-8 text
abbrev pub link_line : List ℕ → Option LinkLine
link_line row = if is_utf8 row then said_in row else None

-- what stands behind the number in each line of a side
abbrev pub mark : LinkSide → List ℕ
mark A = codes "\ta"
mark B = codes "\tb"

-- the side that a message of this one goes to
abbrev pub opposite : LinkSide → LinkSide
opposite A = B
opposite B = A

-- what is printed of a turn of a side
abbrev pub side_text : ℕ → LinkSide → Turn → List ℕ
side_text count side turn = marked_text [] count (mark side) turn

-- and of a delivery from a side
abbrev pub delivered_text : ℕ → LinkSide → Delivered → List ℕ
delivered_text count from Nothing = line count (codes "none" ∷ [])
delivered_text count from Dropped = line count (codes "dropped" ∷ [])
delivered_text count from (Taken turn) = side_text count (opposite from) turn

-- of a line behind others, and of the end behind them: the first closes, then the second
abbrev pub line_text : Settings → ℕ → Linked → LinkLine → List ℕ
line_text s count w (Take side e) = side_text count side (turn_for s side w e)
line_text s count w (Deliver from) = delivered_text count from (delivery_from s from w)

abbrev pub end_text : Settings → ℕ → Linked → List ℕ
end_text s count w = side_text count A (turn_for s A w Close) ++ side_text count B (turn_for s B (with_line s (Take A Close) w) Close)

-- the language of linked sessions
abbrev pub link_language : Settings → Language LinkLine
link_language s = record {
  event_of = link_line;
  event_text = λ h e. line_text s (length h + 1) (linked_after s h) e;
  end_text = λ h. end_text s (length h + 1) (linked_after s h);
}

-- what a run of linked sessions is to do
abbrev pub link_task : Settings → Task
link_task s = task_of (λ row. is_some (link_line row)) (rules_of (link_language s)) s.line_max s.turns

-- nothing more is said of the machine at its end
abbrev pub Goes : List (List ℕ) → Type 0
Goes rows = Unit {0}
