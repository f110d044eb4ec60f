-- A line that is to be printed: a word, and then the parts of a form with their values, and more words.
use Rattle.std.specs.Prelude.{ℕ, ◌≡◌, Bool, true, false, List, [], ◌∷◌, ◌++◌, Option, Some, None, if◌then◌else◌}
use Rattle.std.specs.List.{list_all, flat_map}
use Rattle.zs_printing.specs.Pieces.{tabs}
use Rattle.zs_parts.specs.Parts.{Part, Value, Maker}
use Rattle.zs_event_lines.specs.Shown.{shown}
use Rattle.zs_event_lines.specs.Sayable.{says, is_typed, kept}

-- a part with its value, or a word
pub data Slot : Type 0 where
  at : (part : Part) → Value part → Slot
  said : List ℕ → Slot

abbrev pub slot_fields : Slot → List (List ℕ)
slot_fields (at part v) = shown part v
slot_fields (said text) = text ∷ []

abbrev pub slot_says : Slot → Bool
slot_says (at part v) = says part v
slot_says (said text) = true

abbrev pub slot_is_typed : Slot → Bool
slot_is_typed (at part v) = is_typed part v
slot_is_typed (said text) = true

-- its fields, each behind a tab
unfoldable pub slot_text : Slot → List ℕ
slot_text slot = tabs (slot_fields slot)

-- of lists of slots
abbrev pub slots_fields : List Slot → List (List ℕ)
slots_fields slots = flat_map slot_fields slots

abbrev pub slots_text : List Slot → List ℕ
slots_text slots = flat_map slot_text slots

abbrev pub slots_say : List Slot → Bool
slots_say slots = list_all slot_says slots

abbrev pub slots_are_typed : List Slot → Bool
slots_are_typed slots = list_all slot_is_typed slots

-- values of the parts of a form
abbrev pub Values : List Part → Type 0
Values [] = Unit {0}
Values (part ∷ parts) = Value part × Values parts

abbrev pub slots_of : (parts : List Part) → Values parts → List Slot
slots_of [] values = []
slots_of (part ∷ parts) values = at part values.0 ∷ slots_of parts values.1

-- what a form makes of them, once they came back
abbrev pub remade : {A : Type 0} (parts : List Part) → Maker parts A → Values parts → A
remade [] made values = made
remade (part ∷ parts) make values = remade parts (make (kept part values.0)) values.1

-- a line
pub record Line : Type 0 where
  pub word : List ℕ
  pub slots : List Slot

abbrev pub line_text : Line → List ℕ
line_text line = line.word ++ slots_text line.slots

-- what is printed of an event that may have a line: its line, if all of it can be said
abbrev pub printed : Option Line → Option (List ℕ)
printed None = None
printed (Some line) = if slots_say line.slots then Some (line_text line) else None

-- what was told of printing that line behind a text: whether it was printed, and if so, the text
abbrev pub IsPrinted : Option (List ℕ) → Bool → List ℕ → List ℕ → Type 0
IsPrinted None told old new = told ≡ false
IsPrinted (Some text) told old new = (told ≡ true) × (new ≡ old ++ text)
