-- The text of a line is cut into the line's fields.
use Rattle.std.proofs.Common.{ℕ, ◌≡◌, Bool, true, List, [], ◌∷◌, ◌++◌, Some, refl, sym, ap, ◌∙◌, append_assoc}
use Rattle.std.specs.List.{list_all}
use Rattle.std.specs.Str.{is_utf8}
use Rattle.std.proofs.lemmas.Bool.{and_parts, and_from}
use Rattle.std.proofs.lemmas.List.Folds.{list_all-append}
use Rattle.zs_lines.specs.Lines.{fields}
use Rattle.zs_events.specs.declared.event.Event.{Event}
use Rattle.zs_events.specs.declared.script_event.ScriptEvent.TheVariants.{Core}
use Rattle.zs_grammar.specs.Grammar.{event_of_fields, event_of}
use Rattle.zs_script.specs.Laws.{row}
use Rattle.zs_printing.specs.Pieces.{tabs}
use Rattle.zs_script.specs.Plain.{is_plain}
use Rattle.zs_script.proofs.PlainTexts.{row-fields}
use Rattle.zs_event_lines.specs.Sayable.{says}
use Rattle.zs_event_lines.specs.Slots.{Slot, at, said, slot_fields, slot_text, slots_fields, slots_text, slots_say, Line, line_text}
use Rattle.zs_event_lines.proofs.Joining.{tabs-front}
use Rattle.zs_event_lines.proofs.PlainFields.{plain}

row-append : (first more : List (List ℕ)) → row (first ++ more) ≡ row first ++ row more
row-append [] more = refl
row-append (field ∷ first) more =
    ap (λ (text : List ℕ). 9 ∷ (field ++ text)) (row-append first more)
    ∙ ap (λ (text : List ℕ). 9 ∷ text) (sym (append_assoc field (row first) (row more)))

tabs-row : (parts : List (List ℕ)) → tabs parts ≡ row parts
tabs-row [] = refl
tabs-row (field ∷ parts) = tabs-front field parts ∙ ap (λ (text : List ℕ). 9 ∷ (field ++ text)) (tabs-row parts)

pub slots-row : (slots : List Slot) → slots_text slots ≡ row (slots_fields slots)
unfolding slot_text
slots-row [] = refl
slots-row (slot ∷ slots) =
    ap (λ (text : List ℕ). text ++ slots_text slots) (tabs-row (slot_fields slot))
    ∙ ap (λ (text : List ℕ). row (slot_fields slot) ++ text) (slots-row slots)
    ∙ sym (row-append (slot_fields slot) (slots_fields slots))

-- whether the words of a line have no tab and no line feed
abbrev pub slot_word : Slot → Bool
slot_word (at part v) = true
slot_word (said text) = is_plain text

abbrev pub words_are_plain : List Slot → Bool
words_are_plain slots = list_all slot_word slots

slot-plain : (slot : Slot) → slot_word slot ≡ true → slots_say (slot ∷ []) ≡ true → list_all is_plain (slot_fields slot) ≡ true
slot-plain (at part v) h s = plain part v (and_parts (says part v) true s).0
slot-plain (said text) h s = and_from _ _ h refl

pub slots-plain : (slots : List Slot) → words_are_plain slots ≡ true → slots_say slots ≡ true → list_all is_plain (slots_fields slots) ≡ true
slots-plain [] h s = refl
slots-plain (slot ∷ slots) h s =
    let words = and_parts (slot_word slot) _ h in
    let told = and_parts _ (slots_say slots) s in
    list_all-append is_plain (slot_fields slot) (slots_fields slots)
    ∙ and_from _ _ (slot-plain slot words.0 (and_from _ _ told.0 refl)) (slots-plain slots words.1 told.1)

-- what a line's text says is what its fields say
pub line-says : (line : Line) (event : Event) → is_plain line.word ≡ true → words_are_plain line.slots ≡ true
    → slots_say line.slots ≡ true → is_utf8 (line_text line) ≡ true
    → event_of_fields (line.word ∷ slots_fields line.slots) ≡ Some (Core event) → event_of (line_text line) ≡ Some (Core event)
unfolding event_of
line-says line event word words s utf8 told =
    let cut : fields (line_text line) ≡ line.word ∷ slots_fields line.slots =
    ap (λ (text : List ℕ). fields (line.word ++ text)) (slots-row line.slots)
    ∙ row-fields line.word (slots_fields line.slots) word (slots-plain line.slots words s) in
    rw utf8 (ap event_of_fields cut ∙ told)
