-- The language of the program: which line a row is, and what is printed for it.
use Rattle.std.specs.Prelude.{ℕ, ◌+◌, List, [], ◌∷◌, ◌++◌, length, Option, Some, None, is_some, option_map, codes, if◌then◌else◌}
use Rattle.std.specs.Str.{bytes_eq, is_utf8}
use Rattle.zs_core.specs.Types.{Settings}
use Rattle.zs_lines.specs.Lines.{fields}
use Rattle.zs_parts.specs.Symbols.{after_prefix}
use Rattle.zs_driving.specs.Tasks.{Task, task_of}
use Rattle.zs_driving.specs.Languages.{Language, rules_of}
use Rattle.zs_delivery.specs.declared.side.LinkSide.{LinkSide}
use Rattle.zs_delivery.specs.declared.side.LinkSide.TheVariants.{A, B}
use Rattle.zs_delivery.specs.Linked.{LinkLine}
use Rattle.zs_group_lines.specs.declared.line.GroupLine.{GroupLine}
use Rattle.zs_group_lines.specs.declared.line.GroupLine.TheVariants.{Join, Leave, View}
use Rattle.zs_group_lines.specs.Lines.{line_of}
use Rattle.zs_groups.specs.Told.{Told, first_links, joining, with_taken, with_leave, with_view, with_moved}

-- what a line says: something to a side, or that the messages that wait at a side are delivered
pub data Said : Type 0 where
  To : (side : LinkSide) (request : GroupLine) → Said
  Move : (from : LinkSide) → Said

abbrev pub said_to : LinkSide → List ℕ → Option Said
said_to side rest = option_map (λ request. To side request) (line_of (fields rest))

-- by what stands behind `a` and a tab, and behind `b` and a tab
abbrev pub named_by : Option (List ℕ) → Option (List ℕ) → Option Said
named_by (Some rest) behind_b = said_to A rest
named_by None (Some rest) = said_to B rest
named_by None None = None

abbrev pub line_named : List ℕ → Option Said
line_named text = named_by (after_prefix (codes "a\t") text) (after_prefix (codes "b\t") text)

abbrev pub said_in : List ℕ → Option Said
said_in text =
    if bytes_eq text (codes "ab") then Some (Move A)
    else if bytes_eq text (codes "ba") then Some (Move B)
    else line_named text

-- what a row says: it is UTF-8 text
abbrev pub said_of : List ℕ → Option Said
said_of row = if is_utf8 row then said_in row else None

-- what becomes of a line of that number, and what is printed of it
abbrev pub with_request : Settings → ℕ → LinkSide → GroupLine → Told → Told
with_request s number side (Join key) t = with_taken s number side (joining key) t
with_request s number side (Leave key) t = with_leave s number side key t
with_request s number side View t = with_view s number side t

abbrev pub with_line : Settings → ℕ → Said → Told → Told
with_line s number (To side request) t = with_request s number side request t
with_line s number (Move from) t = with_moved s number from t

-- what the sides took and delivered behind these lines, the newest first
abbrev pub links_behind : Settings → List Said → List LinkLine
links_behind s [] = first_links
links_behind s (said ∷ h) = (with_line s (length h + 1) said (record { links = links_behind s h; text = [] })).links

-- the text of a line behind others
abbrev pub line_text : Settings → List Said → ℕ → Said → List ℕ
line_text s h number said = (with_line s number said (record { links = links_behind s h; text = [] })).text

-- the language of the program; nothing is printed at the end of input
abbrev pub group_language : Settings → Language Said
group_language s = record {
  event_of = said_of;
  event_text = λ h said. line_text s h (length h + 1) said;
  end_text = λ h. [];
}

-- what a run is to do
abbrev pub group_task : Settings → Task
group_task s = task_of (λ row. is_some (said_of row)) (rules_of (group_language s)) s.line_max s.turns

-- nothing more is said of the machine at its end
abbrev pub Goes : List (List ℕ) → Type 0
Goes rows = Unit {0}
