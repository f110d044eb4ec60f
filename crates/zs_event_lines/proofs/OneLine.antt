-- The text of an event's line has no line feed.
use Rattle.std.proofs.Common.{ℕ, ◌≡◌, ◌==◌, Bool, true, false, not, ◌&&◌, List, [], ◌∷◌, ◌++◌, Option, Some, None, refl, sym, ap, ◌∙◌, cond}
use Rattle.std.specs.List.{list_all}
use Rattle.std.proofs.lemmas.Bool.{and_parts, and_from}
use Rattle.std.proofs.lemmas.List.Folds.{list_all-append}
use Rattle.std.proofs.lemmas.Option.{same_Some}
use Rattle.zs_events.specs.declared.event.Event.{Event}
use Rattle.zs_script.specs.Laws.{row}
use Rattle.zs_script.specs.Plain.{is_plain, has_no_line_feed}
use Rattle.zs_event_lines.specs.Slots.{slots_fields, slots_text, slots_say, Line, line_text, printed, IsPrinted}
use Rattle.zs_event_lines.specs.Lines.{line_of, gathered_event}
use Rattle.zs_event_lines.specs.Laws.{PrintedEventsAreLines}
use Rattle.zs_event_lines.proofs.LineTexts.{words_are_plain, slots-row, slots-plain}
use Rattle.zs_event_lines.proofs.EventsBack.{IsBack, event-back}
use Rattle.zs_event_lines.proofs.PrintedTexts.{printed-text}

one : (text : List ℕ) → is_plain text ≡ true → has_no_line_feed text ≡ true
one [] h = refl
one (b ∷ bytes) h =
    let both = and_parts (not (b == 9) && not (b == 10)) (is_plain bytes) h in
    and_from _ _ (and_parts (not (b == 9)) (not (b == 10)) both.0).1 (one bytes both.1)

joined : (xs ys : List ℕ) → has_no_line_feed xs ≡ true → has_no_line_feed ys ≡ true → has_no_line_feed (xs ++ ys) ≡ true
joined xs ys h k = list_all-append (λ b. not (b == 10)) xs ys ∙ and_from _ _ h k

row-one : (fields : List (List ℕ)) → list_all is_plain fields ≡ true → has_no_line_feed (row fields) ≡ true
row-one [] h = refl
row-one (field ∷ fields) h =
    let both = and_parts (is_plain field) (list_all is_plain fields) h in
    joined field (row fields) (one field both.0) (row-one fields both.1)

line-one : (line : Line) → is_plain line.word ≡ true → words_are_plain line.slots ≡ true → slots_say line.slots ≡ true
    → has_no_line_feed (line_text line) ≡ true
line-one line word words told =
    let fields = row-one (slots_fields line.slots) (slots-plain line.slots words told) in
    joined line.word (slots_text line.slots) (one line.word word) (ap has_no_line_feed (slots-row line.slots) ∙ fields)

printed-one : (o : Option Line) (event : Event) (text : List ℕ) → IsBack o event → printed o ≡ Some text → has_no_line_feed text ≡ true
printed-one None event text h same = cc
printed-one (Some line) event text h same =
    (elim (slots_say line.slots) as (λ b. slots_say line.slots ≡ b → cond b (Some (line_text line)) None ≡ Some text → has_no_line_feed text ≡ true) [
      | true ↦ λ told is. ap has_no_line_feed (sym (same_Some (line_text line) text is)) ∙ line-one line h.0 h.1.0 told
      | false ↦ λ told is. cc
    ]) refl same

pub printed-lines : PrintedEventsAreLines
printed-lines event text same = printed-one (line_of event) (gathered_event event) text (event-back event) same

pub printed-line : (event : Event) (told : Bool) (old bytes : List ℕ) → told ≡ true → old ≡ []
    → IsPrinted (printed (line_of event)) told old bytes → has_no_line_feed bytes ≡ true
printed-line event told old bytes is nothing h =
    printed-lines event bytes (sym (printed-text (printed (line_of event)) bytes (rw (is, nothing) at h)))
