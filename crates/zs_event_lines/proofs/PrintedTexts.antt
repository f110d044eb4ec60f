-- What was told of printing an event's line behind no text.
use Rattle.std.proofs.Common.{ℕ, ◌≡◌, Bool, true, List, [], Option, Some, None, sym, ap}
use Rattle.std.specs.Str.{IsUtf8, is_utf8}
use Rattle.std.proofs.lemmas.Str.{is_utf8-from_IsUtf8}
use Rattle.zs_events.specs.declared.event.Event.{Event}
use Rattle.zs_events.specs.declared.script_event.ScriptEvent.TheVariants.{Core}
use Rattle.zs_grammar.specs.Grammar.{event_of}
use Rattle.zs_event_lines.specs.Slots.{printed, IsPrinted}
use Rattle.zs_event_lines.specs.Lines.{line_of, gathered_event}
use Rattle.zs_event_lines.specs.Laws.{are_typed}
use Rattle.zs_event_lines.proofs.EventsBack.{printed-events}

pub printed-text : (o : Option (List ℕ)) (bytes : List ℕ) → IsPrinted o true [] bytes → Some bytes ≡ o
printed-text None bytes h = cc
printed-text (Some text) bytes h = ap Some h.1

printed-says : (event : Event) (bytes : List ℕ) → IsPrinted (printed (line_of event)) true [] bytes → is_utf8 bytes ≡ true
    → are_typed (line_of event) ≡ true → event_of bytes ≡ Some (Core (gathered_event event))
printed-says event bytes h utf8 typed =
    printed-events event bytes (sym (printed-text (printed (line_of event)) bytes h)) utf8 typed

pub printed-reads : (event : Event) (told : Bool) (old bytes : List ℕ) → told ≡ true → old ≡ []
    → IsPrinted (printed (line_of event)) told old bytes → IsUtf8 bytes → are_typed (line_of event) ≡ true
    → event_of bytes ≡ Some (Core (gathered_event event))
printed-reads event told old bytes is nothing h utf8 =
    printed-says event bytes (rw (is, nothing) at h) (is_utf8-from_IsUtf8 bytes utf8)
