-- Two linked sessions with a membership each, as the lines leave them: all is read off what the sides took and delivered.
use Rattle.std.specs.Prelude.{ℕ, zero, suc, true, List, [], ◌∷◌, ◌++◌, Option, Some, None, length, codes, decimal, encode_utf8_all}
use Rattle.std.specs.Str.{chars}
use Rattle.zs_events.specs.declared.entity_kind.EntityKind.TheVariants.{Token as token_kind}
use Rattle.zs_events.specs.declared.event.Event.{Event}
use Rattle.zs_events.specs.declared.event.Event.TheVariants.{Token, Undeclare, Lsub}
use Rattle.zs_events.specs.declared.key_arg.KeyArg.TheVariants.{Text}
use Rattle.zs_events.specs.declared.turn.Turn.{Turn}
use Rattle.zs_core.specs.Types.{Settings}
use Rattle.zs_session_cell.specs.Core.{turn_at}
use Rattle.zs_printing.specs.Printing.{line}
use Rattle.zs_delivery.specs.declared.side.LinkSide.{LinkSide}
use Rattle.zs_delivery.specs.declared.side.LinkSide.TheVariants.{A, B}
use Rattle.zs_delivery.specs.Linked.{Side, Linked, LinkLine, Take, Deliver, other, linked_after}
use Rattle.zs_link.specs.World.{turn_for}
use Rattle.zs_group_lines.specs.declared.membership.Membership.{Membership}
use Rattle.zs_group_lines.specs.Tokens.{oldest}
use Rattle.zs_group_lines.specs.Membership.{nobody, noted, view_of}
use Rattle.zs_group_lines.specs.Shown.{answer_fields, not_member, view_text}

-- the liveliness subscriber that each side declares first
abbrev pub hearing : Event
hearing = Lsub true (Text (chars (codes "group/*")))

-- both sides declared it, the first side first; the newest first
abbrev pub first_links : List LinkLine
first_links = Take B hearing ∷ Take A hearing ∷ []

-- a side joins under the name that a key stands for, and leaves where its token has that number
abbrev pub joining : List ℕ → Event
joining key = Token (Text key)

abbrev pub leaving : ℕ → Event
leaving id = Undeclare token_kind id

abbrev pub settings_of : LinkSide → Settings → Settings
settings_of A s = s
settings_of B s = other s

abbrev pub side_of : LinkSide → Linked → Side
side_of A w = w.a
side_of B w = w.b

-- what the turns of a history leave in the membership of its side
abbrev pub kept : Settings → List Event → Membership
kept s [] = nobody
kept s (e ∷ h) = noted e (turn_at s h e) (kept s h)

-- the membership of a side
abbrev pub membership_at : Settings → LinkSide → List LinkLine → Membership
membership_at s side links = kept (settings_of side s) (side_of side (linked_after s links)).history

-- what was taken and delivered, the newest first, and what is printed of the line so far
pub record Told : Type 0 where
  pub links : List LinkLine
  pub text : List ℕ

abbrev pub letter : LinkSide → List ℕ
letter A = codes "a"
letter B = codes "b"

-- the side that a message of this one goes to
abbrev pub opposite : LinkSide → LinkSide
opposite A = B
opposite B = A

abbrev pub with_text : List ℕ → Told → Told
with_text more t = record { links = t.links; text = t.text ++ more }

abbrev pub with_link : LinkLine → Told → Told
with_link link t = record { links = link ∷ t.links; text = t.text }

-- the turn of an event that a side takes next
abbrev pub next_turn : Settings → LinkSide → Event → Told → Turn
next_turn s side e t = turn_for s side (linked_after s t.links) e

-- the answer of a turn is printed
abbrev pub with_answer : ℕ → Turn → Told → Told
with_answer number turn t = with_text (line number (answer_fields turn.answer)) t

-- a side takes an event, and its answer is printed
abbrev pub with_taken : Settings → ℕ → LinkSide → Event → Told → Told
with_taken s number side e t = with_answer number (next_turn s side e t) (with_link (Take side e) t)

-- a side's token of that number ends; where there is none, the line is refused
abbrev pub with_left : Settings → ℕ → LinkSide → Option ℕ → Told → Told
with_left s number side None t = with_text (not_member number) t
with_left s number side (Some id) t = with_taken s number side (leaving id) t

-- the oldest token that a side holds on a key ends
abbrev pub with_leave : Settings → ℕ → LinkSide → List ℕ → Told → Told
with_leave s number side key t = with_left s number side (oldest (encode_utf8_all key) (membership_at s side t.links).tokens) t

-- whom a side sees is printed
abbrev pub with_view : Settings → ℕ → LinkSide → Told → Told
with_view s number side t =
    with_text (view_text number (letter side) (view_of (membership_at s side t.links))) (with_text (line number (codes "ok" ∷ [])) t)

-- so many messages of a side are delivered
abbrev pub with_many : LinkSide → ℕ → Told → Told
with_many from zero t = t
with_many from (suc n) t = with_link (Deliver from) (with_many from n t)

-- how many messages of a side wait
abbrev pub waiting_at : Settings → LinkSide → List LinkLine → ℕ
waiting_at s from links = length (side_of from (linked_after s links)).waiting

-- all that wait when the line begins are delivered
abbrev pub with_count : ℕ → LinkSide → ℕ → Told → Told
with_count number from count t = with_many from count (with_text (line number (codes "ok" ∷ decimal count ∷ [])) t)

abbrev pub with_moved : Settings → ℕ → LinkSide → Told → Told
with_moved s number from t = with_count number from (waiting_at s from t.links) t
