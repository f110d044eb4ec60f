-- The events of a script can be read back from what is recorded of them.
use Rattle.std.proofs.Common.{◌≡◌, ◌+◌, ℕ, List, [], ◌∷◌, ◌++◌, length, Bool, true, false, Option, Some, None, refl, sym, ◌∙◌, ap, subst, cond, codes, lit<, append_assoc}
use Rattle.std.specs.Prelude.{is_some, unwrap_or, option_map}
use Rattle.std.specs.List.{filter_map, list_all}
use Rattle.std.specs.Str.{IsUtf8, is_utf8}
use Rattle.std.proofs.lemmas.Bool.{and_parts}
use Rattle.std.proofs.lemmas.Option.{same_Some}
use Rattle.std.proofs.lemmas.Str.{IsUtf8-from_is_utf8, is_utf8-from_IsUtf8}
use Rattle.zs_lines.specs.Lines.{lines}
use Rattle.zs_events.specs.declared.event.Event.{Event}
use Rattle.zs_events.specs.declared.event.Event.TheVariants.{Close}
use Rattle.zs_events.specs.declared.script_event.ScriptEvent.{ScriptEvent}
use Rattle.zs_events.specs.declared.script_event.ScriptEvent.TheVariants.{Core, Recv}
use Rattle.zs_core.specs.Types.{Settings}
use Rattle.zs_core.specs.Effects.{effects}
use Rattle.zs_grammar.specs.Grammar.{event_of}
use Rattle.zs_script.specs.Plain.{has_no_line_feed, is_plain_effect}
use Rattle.zs_script.proofs.PlainTexts.{lines-no-feed}
use Rattle.zs_event_lines.specs.Slots.{Line, line_text, printed}
use Rattle.zs_event_lines.specs.Lines.{line_of}
use Rattle.zs_event_lines.specs.Laws.{are_typed, IsSayable, IsSayableLine}
use Rattle.zs_event_lines.proofs.EventsBack.{printed-events}
use Rattle.zs_event_lines.proofs.OneLine.{printed-lines}
use Rattle.zs_event_lines.proofs.ReadEvents.{lines-say}
use Rattle.zs_recordings.specs.Entries.{marked_row, is_printable, turn_rows, entry_text, if_recorded, recorded_of, if_core}
use Rattle.zs_recordings.specs.Recording.{AreTexts}
use Rattle.zs_recordings.specs.Laws.{IsReadable, AreReadable, ArePlainTurns, ScriptsAreReadable}
use Rattle.zs_recordings.proofs.Texts.{cut-utf8}

-- an event that has a line all of which can be said
row-utf8 : (row rows : List ℕ) → IsUtf8 (marked_row row ++ rows) → is_utf8 row ≡ true
row-utf8 row rows utf8 =
    let behind = (row ++ codes "\n") ++ rows in
    let text = (cut-utf8 [] behind 9 (lit< tt) (cut-utf8 [] (9 ∷ behind) 62 (lit< tt) utf8).1).1 in
    is_utf8-from_IsUtf8 row (cut-utf8 row rows 10 (lit< tt) (subst IsUtf8 (append_assoc row (codes "\n") rows) text)).0

sayable-readable : (s : Settings) (h : List Event) (e : Event) → IsSayable e → list_all is_plain_effect (effects s h e).effects ≡ true
    → is_utf8 (entry_text (length h + 1) e (effects s h e)) ≡ true → IsReadable s h e
sayable-readable s h e sayable plain utf8 = go (line_of e) refl sayable.0
  where
    go : (o : Option Line) → line_of e ≡ o → IsSayableLine o → IsReadable s h e
    go None is told = absurd told
    go (Some line) is told =
        let row = line_text line in
        let rows = turn_rows (length h + 1) (effects s h e) in
        let shown : printed (line_of e) ≡ Some row = ap printed is ∙ ap (λ (b : Bool). cond b (Some row) None) told.0 in
        let typed : are_typed (line_of e) ≡ true = ap are_typed is ∙ told.1 in
        let entry : entry_text (length h + 1) e (effects s h e) ≡ marked_row row ++ rows =
        ap (λ (o : Option (List ℕ)). unwrap_or (option_map marked_row o) [] ++ rows) shown in
        let text = row-utf8 row rows (subst IsUtf8 entry (IsUtf8-from_is_utf8 (entry_text (length h + 1) e (effects s h e)) utf8)) in
        record {
          row = row;
          line = shown;
          one = printed-lines e row shown;
          says = ap if_core (printed-events e row shown text typed) ∙ ap Some sayable.1;
          plain = plain;
        }

-- the close is one
close-sayable : IsSayable Close
close-sayable = ((refl, refl), refl)

-- and so is the event of a row
pub said-event : (o : Option ScriptEvent) (e : Event) → if_recorded o ≡ Some e → o ≡ Some (Core e)
said-event None e h = cc
said-event (Some (Recv kind id)) e h = cc
said-event (Some (Core x)) e h = go (is_printable x) h
  where
    go : (b : Bool) → cond b (Some x) None ≡ Some e → Some (Core x) ≡ Some (Core e)
    go true same = ap (λ (y : Event). Some (Core y)) (same_Some x e same)
    go false same = cc

rows-readable : (s : Settings) (h : List Event) (rows : List (List ℕ)) → list_all has_no_line_feed rows ≡ true
    → list_all (λ row. is_some (recorded_of row)) rows ≡ true → ArePlainTurns s h (filter_map recorded_of rows ++ Close ∷ [])
    → AreTexts s h (filter_map recorded_of rows ++ Close ∷ []) → AreReadable s h (filter_map recorded_of rows ++ Close ∷ [])
rows-readable s h [] one all plain texts = (sayable-readable s h Close close-sayable plain.0 texts.0, tt)
rows-readable s h (row ∷ rows) one all plain texts =
    let feeds = and_parts (has_no_line_feed row) (list_all has_no_line_feed rows) one in
    let are = and_parts (is_some (recorded_of row)) (list_all (λ row. is_some (recorded_of row)) rows) all in
    go (recorded_of row) refl are.0 feeds.0 plain texts (λ e own printed. rows-readable s (e ∷ h) rows feeds.1 are.1 own printed)
  where
    go : (o : Option Event) → recorded_of row ≡ o → is_some (recorded_of row) ≡ true → has_no_line_feed row ≡ true
        → ArePlainTurns s h (filter_map recorded_of (row ∷ rows) ++ Close ∷ []) → AreTexts s h (filter_map recorded_of (row ∷ rows) ++ Close ∷ [])
        → ((e : Event) → ArePlainTurns s (e ∷ h) (filter_map recorded_of rows ++ Close ∷ []) → AreTexts s (e ∷ h) (filter_map recorded_of rows ++ Close ∷ [])
        → AreReadable s (e ∷ h) (filter_map recorded_of rows ++ Close ∷ []))
        → AreReadable s h (filter_map recorded_of (row ∷ rows) ++ Close ∷ [])
    go None is so one plain texts next = let no : is_some (recorded_of row) ≡ false = ap (λ (o : Option Event). is_some o) is in cc
    go (Some e) is so one plain texts next =
        let more : filter_map recorded_of (row ∷ rows) ≡ e ∷ filter_map recorded_of rows = rw is refl in
        let own = subst (λ (es : List Event). ArePlainTurns s h (es ++ Close ∷ [])) more plain in
        let printed = subst (λ (es : List Event). AreTexts s h (es ++ Close ∷ [])) more texts in
        subst (λ (es : List Event). AreReadable s h (es ++ Close ∷ [])) (sym more)
        (sayable-readable s h e (lines-say row e one (said-event (event_of row) e is)) own.0 printed.0, next e own.1 printed.1)

pub scripts-readable : ScriptsAreReadable
scripts-readable s input all plain texts = rows-readable s [] (lines input) (lines-no-feed input) all plain texts
