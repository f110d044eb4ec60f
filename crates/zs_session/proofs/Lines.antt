-- What a session puts out for lines is the text of their events.
use Rattle.std.proofs.Common.{◌≡◌, ℕ, ◌+◌, List, [], ◌∷◌, ◌++◌, length, Option, Some, None, refl, sym, ◌∙◌, ap, append_assoc, arith}
use Rattle.std.proofs.lemmas.List.{append-nil}
use Rattle.zs_driving.specs.Tasks.{Rules, lines_text, closed_text}
use Rattle.zs_driving.specs.Languages.{rules_of, events_behind, events_text}
use Rattle.zs_driving.proofs.Languages.{texts_are}
use Rattle.zs_events.specs.declared.event.Event.TheVariants.{Close}
use Rattle.zs_events.specs.declared.script_event.ScriptEvent.{ScriptEvent}
use Rattle.zs_events.specs.declared.script_event.ScriptEvent.TheVariants.{Core}
use Rattle.zs_core.specs.Types.{Settings}
use Rattle.zs_grammar.specs.Grammar.{event_of}
use Rattle.zs_session.specs.Script.{events_of, event_text, text_after, text, language}

text_is : (s : Settings) (h es : List ScriptEvent) → events_text (language s) h es ≡ text_after s h es
text_is s h [] = refl
text_is s h (e ∷ es) = ap (λ more. event_text s h (length h + 1) e ++ more) (text_is s (e ∷ h) es)

-- one event more
text_push : (s : Settings) (h es : List ScriptEvent) (e : ScriptEvent)
    → text_after s h (es ++ e ∷ []) ≡ text_after s h es ++ event_text s (events_behind h es) (length (events_behind h es) + 1) e
text_push s h [] e = append-nil (event_text s h (length h + 1) e)
text_push s h (first ∷ es) e =
    ap (λ more. event_text s h (length h + 1) first ++ more) (text_push s (first ∷ h) es e)
    ∙ sym (append_assoc (event_text s h (length h + 1) first) (text_after s (first ∷ h) es)
    (event_text s (events_behind (first ∷ h) es) (length (events_behind (first ∷ h) es) + 1) e))

-- what is put out for lines, and for all of them and the end
pub lines_are : (s : Settings) (rows : List (List ℕ)) → lines_text (rules_of (language s)) rows ≡ text s (events_of rows)
lines_are s rows = (texts_are (language s) rows).0 ∙ text_is s [] (events_of rows)

pub all_are : (s : Settings) (rows : List (List ℕ)) → closed_text (rules_of (language s)) rows ≡ text s (events_of rows ++ Core Close ∷ [])
all_are s rows =
    let h = events_behind [] (events_of rows) in
    (texts_are (language s) rows).1
    ∙ (ap (λ more. more ++ event_text s h (length h + 1) (Core Close)) (text_is s [] (events_of rows))
    ∙ sym (text_push s [] (events_of rows) (Core Close)))

-- what is put out for one line more, which is an event
pub line_is : (s : Settings) (r : Rules) (h : List (List ℕ)) (row : List ℕ) (number : ℕ) (e : ScriptEvent) → r ≡ rules_of (language s) → length (events_of h) ≡ length h
    → number ≡ length h + 1 → event_of row ≡ Some e → r.line_text h row ≡ event_text s (events_of h) number e
line_is s r h row number e rules each place found =
    rw (rules, found) (ap (λ n. event_text s (events_of h) n e) (omega (arith, each, place)))

-- and at the end
pub end_is : (s : Settings) (r : Rules) (h : List (List ℕ)) (number : ℕ) → r ≡ rules_of (language s) → length (events_of h) ≡ length h
    → number ≡ length h + 1 → r.end_text h ≡ event_text s (events_of h) number (Core Close)
end_is s r h number rules each place =
    rw rules (ap (λ n. event_text s (events_of h) n (Core Close)) (omega (arith, each, place)))
