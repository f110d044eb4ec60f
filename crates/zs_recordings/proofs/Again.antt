-- The recording of events that can be read back is played again as the same.
use Rattle.std.proofs.Common.{◌≡◌, ◌+◌, ℕ, suc, List, [], ◌∷◌, ◌++◌, length, map, flat_map, Bool, true, false, Option, Some, None, refl, sym, ◌∙◌, ap, subst, cond, codes, decimal, arith, append_assoc}
use Rattle.std.specs.Prelude.{is_some, ◌||◌, unwrap_or, option_map, Ok, Err}
use Rattle.std.specs.List.{list_all}
use Rattle.std.specs.Str.{bytes_eq}
use Rattle.std.proofs.lemmas.Bool.{and_parts, and_from}
use Rattle.std.proofs.lemmas.List.{append-nil}
use Rattle.std.proofs.lemmas.List.Folds.{list_all-append}
use Rattle.std.proofs.lemmas.Slice.Eq.{bytes_eq-Decides}
use Rattle.zs_lines.specs.Lines.{lines, onto_line}
use Rattle.zs_driving.specs.Tasks.{lines_behind}
use Rattle.zs_driving.specs.Languages.{events_of, events_behind}
use Rattle.zs_driving.specs.declared.errors.DriveError.TheVariants.{BadLine}
use Rattle.zs_events.specs.declared.event.Event.{Event}
use Rattle.zs_events.specs.declared.turn.Effect.{Effect}
use Rattle.zs_events.specs.declared.turn.Turn.{Turn}
use Rattle.zs_core.specs.Types.{Settings}
use Rattle.zs_core.specs.Effects.{effects}
use Rattle.zs_script.specs.Laws.{row}
use Rattle.zs_script.specs.Plain.{has_no_line_feed, is_plain, is_plain_effect}
use Rattle.zs_printing.specs.Printing.{answer_fields, effect_fields, marked_line, tabbed}
use Rattle.zs_script.proofs.PlainTexts.{before-feed, lines-found}
use Rattle.zs_script.proofs.PlainEffects.{answers-plain, effects-plain}
use Rattle.zs_recordings.specs.Entries.{marked_row, turn_rows, entry_text, session_of}
use Rattle.zs_recordings.specs.Recording.{recording_after, recording}
use Rattle.zs_recordings.specs.Replaying.{RecordingLine, Said, Heard, Group, recording_line, replay_language, groups_of, group_events, is_empty, is_headless, with_heard, last_rows, first_other, or_place, place_unless, replayed_by, lines_back}
use Rattle.zs_recordings.specs.Laws.{IsReadable, AreReadable, RecordingsReplay, FrontsReplay}
use Rattle.zs_recordings.proofs.Texts.{joined}
use Rattle.zs_recordings.specs.declared.replayed.Replayed.TheVariants.{Same}

-- the rows that are recorded: that of an event, and those of its turn
abbrev said_row : List ℕ → List ℕ
said_row text = 62 ∷ 9 ∷ text

abbrev heard_row : ℕ → List (List ℕ) → List ℕ
heard_row n parts = 60 ∷ 9 ∷ (decimal n ++ row parts)

abbrev effect_rows : ℕ → List Effect → List (List ℕ)
effect_rows n fx = map (λ effect. heard_row n (effect_fields effect)) fx

abbrev heard_rows : ℕ → Turn → List (List ℕ)
heard_rows n turn = heard_row n (answer_fields turn.answer) ∷ effect_rows n turn.effects

-- they are found again
marked-found : (n : ℕ) (parts : List (List ℕ)) (rest : List ℕ) → list_all is_plain parts ≡ true
    → lines (marked_line (codes "<\t") n [] parts ++ rest) ≡ heard_row n parts ∷ lines rest
marked-found n parts rest h = ap (λ (ls : List (List ℕ)). onto_line 60 (onto_line 9 ls)) (lines-found n parts rest h)

effects-found : (n : ℕ) (fx : List Effect) (rest : List ℕ) → list_all is_plain_effect fx ≡ true
    → lines (flat_map (λ effect. marked_line (codes "<\t") n [] (effect_fields effect)) fx ++ rest) ≡ effect_rows n fx ++ lines rest
effects-found n [] rest h = refl
effects-found n (effect ∷ fx) rest h =
    let both = and_parts (is_plain_effect effect) (list_all is_plain_effect fx) h in
    let more = flat_map (λ e. marked_line (codes "<\t") n [] (effect_fields e)) fx in
    ap lines (append_assoc (marked_line (codes "<\t") n [] (effect_fields effect)) more rest)
    ∙ marked-found n (effect_fields effect) (more ++ rest) (effects-plain effect both.0)
    ∙ ap (λ (ls : List (List ℕ)). heard_row n (effect_fields effect) ∷ ls) (effects-found n fx rest both.1)

turn-found : (n : ℕ) (turn : Turn) (rest : List ℕ) → list_all is_plain_effect turn.effects ≡ true
    → lines (turn_rows n turn ++ rest) ≡ heard_rows n turn ++ lines rest
turn-found n turn rest h =
    let more = flat_map (λ e. marked_line (codes "<\t") n [] (effect_fields e)) turn.effects in
    ap lines (append_assoc (marked_line (codes "<\t") n [] (answer_fields turn.answer)) more rest)
    ∙ marked-found n (answer_fields turn.answer) (more ++ rest) (answers-plain turn.answer)
    ∙ ap (λ (ls : List (List ℕ)). heard_row n (answer_fields turn.answer) ∷ ls) (effects-found n turn.effects rest h)

said-found : (text rest : List ℕ) → has_no_line_feed text ≡ true → lines (marked_row text ++ rest) ≡ said_row text ∷ lines rest
said-found text rest h =
    ap (λ (bytes : List ℕ). onto_line 62 (onto_line 9 (lines bytes))) (append_assoc text (codes "\n") rest)
    ∙ ap (λ (ls : List (List ℕ)). onto_line 62 (onto_line 9 ls)) (before-feed text rest h)

entry-found : (s : Settings) (h : List Event) (e : Event) (r : IsReadable s h e) (rest : List ℕ)
    → lines (entry_text (length h + 1) e (effects s h e) ++ rest) ≡ said_row r.row ∷ (heard_rows (length h + 1) (effects s h e) ++ lines rest)
entry-found s h e r rest =
    let rows = turn_rows (length h + 1) (effects s h e) in
    ap (λ (o : Option (List ℕ)). lines ((unwrap_or (option_map marked_row o) [] ++ rows) ++ rest)) r.line
    ∙ ap lines (append_assoc (marked_row r.row) rows rest)
    ∙ said-found r.row (rows ++ rest) r.one
    ∙ ap (λ (ls : List (List ℕ)). said_row r.row ∷ ls) (turn-found (length h + 1) (effects s h e) rest r.plain)

-- and so are the texts
fields-joined : (parts : List (List ℕ)) → row parts ++ codes "\n" ≡ tabbed parts
fields-joined [] = refl
fields-joined (part ∷ parts) =
    ap (λ (bytes : List ℕ). 9 ∷ bytes) (append_assoc part (row parts) (codes "\n") ∙ ap (λ (bytes : List ℕ). part ++ bytes) (fields-joined parts))

row-joined : (n : ℕ) (parts : List (List ℕ)) → heard_row n parts ++ codes "\n" ≡ marked_line (codes "<\t") n [] parts
row-joined n parts =
    ap (λ (bytes : List ℕ). 60 ∷ 9 ∷ bytes)
    (append_assoc (decimal n) (row parts) (codes "\n") ∙ ap (λ (bytes : List ℕ). decimal n ++ bytes) (fields-joined parts))

effects-joined : (n : ℕ) (fx : List Effect) → joined (effect_rows n fx) ≡ flat_map (λ effect. marked_line (codes "<\t") n [] (effect_fields effect)) fx
effects-joined n [] = refl
effects-joined n (effect ∷ fx) =
    ap (λ (bytes : List ℕ). bytes ++ joined (effect_rows n fx)) (row-joined n (effect_fields effect))
    ∙ ap (λ (bytes : List ℕ). marked_line (codes "<\t") n [] (effect_fields effect) ++ bytes) (effects-joined n fx)

turn-joined : (n : ℕ) (turn : Turn) → joined (heard_rows n turn) ≡ turn_rows n turn
turn-joined n turn =
    ap (λ (bytes : List ℕ). bytes ++ joined (effect_rows n turn.effects)) (row-joined n (answer_fields turn.answer))
    ∙ ap (λ (bytes : List ℕ). marked_line (codes "<\t") n [] (answer_fields turn.answer) ++ bytes) (effects-joined n turn.effects)

-- which lines of a recording the rows are
said-line : (text : List ℕ) (e : Event) → session_of text ≡ Some e → recording_line (said_row text) ≡ Some (Said e)
said-line text e says = ap (λ (o : Option Event). option_map Said o) says

abbrev IsHeard : List ℕ → Type 0
IsHeard text = recording_line text ≡ Some (Heard text)

abbrev AreHeard : List (List ℕ) → Type 0
AreHeard [] = Unit {0}
AreHeard (text ∷ rows) = IsHeard text × AreHeard rows

effects-heard : (n : ℕ) (fx : List Effect) → AreHeard (effect_rows n fx)
effects-heard n [] = tt
effects-heard n (effect ∷ fx) = (refl, effects-heard n fx)

-- rows of a recording that is the same so far, the newest first
record IsSame (s : Settings) (h : List Event) (rows : List (List ℕ)) : Type 0 where
  events : group_events (groups_of (events_of (replay_language s) rows)) ≡ h
  same : first_other s (groups_of (events_of (replay_language s) rows)) ≡ None
  headed : is_headless (events_of (replay_language s) rows) ≡ false

-- and within an event, of which this was heard
record Hears (s : Settings) (h : List Event) (e : Event) (heard : List ℕ) (rows : List (List ℕ)) : Type 0 where
  older : List Group
  groups : groups_of (events_of (replay_language s) rows) ≡ record { event = e; heard = heard } ∷ older
  events : group_events older ≡ h
  same : first_other s older ≡ None
  headed : is_headless (events_of (replay_language s) rows) ≡ false

says-next : (s : Settings) (h : List Event) (e : Event) (text : List ℕ) (rows : List (List ℕ)) → recording_line text ≡ Some (Said e) → IsSame s h rows
    → Hears s h e [] (text ∷ rows)
says-next s h e text rows is p =
    let more : events_of (replay_language s) (text ∷ rows) ≡ Said e ∷ events_of (replay_language s) rows = rw is refl in
    record {
      older = groups_of (events_of (replay_language s) rows);
      groups = ap groups_of more;
      events = p.events;
      same = p.same;
      headed = ap is_headless more ∙ p.headed;
    }

hears-next : (s : Settings) (h : List Event) (e : Event) (heard text : List ℕ) (rows : List (List ℕ)) → IsHeard text → Hears s h e heard rows
    → Hears s h e (heard ++ (text ++ codes "\n")) (text ∷ rows)
hears-next s h e heard text rows is p =
    let more : events_of (replay_language s) (text ∷ rows) ≡ Heard text ∷ events_of (replay_language s) rows = rw is refl in
    record {
      older = p.older;
      groups = ap groups_of more ∙ ap (λ (groups : List Group). with_heard text groups) p.groups;
      events = p.events;
      same = p.same;
      headed =
          ap is_headless more
          ∙ ap (λ (b : Bool). b || is_empty (groups_of (events_of (replay_language s) rows))) p.headed
          ∙ ap is_empty p.groups;
    }

hears-all : (s : Settings) (h : List Event) (e : Event) (heard : List ℕ) (texts rows : List (List ℕ)) → AreHeard texts → Hears s h e heard rows
    → Hears s h e (heard ++ joined texts) (lines_behind rows texts)
hears-all s h e heard [] rows are p = subst (λ (bytes : List ℕ). Hears s h e bytes rows) (sym (append-nil heard)) p
hears-all s h e heard (text ∷ texts) rows are p =
    subst (λ (bytes : List ℕ). Hears s h e bytes (lines_behind (text ∷ rows) texts)) (append_assoc heard (text ++ codes "\n") (joined texts))
    (hears-all s h e (heard ++ (text ++ codes "\n")) texts (text ∷ rows) are.1 (hears-next s h e heard text rows are.0 p))

events-count : (groups : List Group) → length (group_events groups) ≡ length groups
events-count [] = refl
events-count (g ∷ older) = ap (λ (n : ℕ). suc n) (events-count older)

heard-same : (s : Settings) (h : List Event) (e : Event) (rows : List (List ℕ)) → Hears s h e (turn_rows (length h + 1) (effects s h e)) rows → IsSame s (e ∷ h) rows
heard-same s h e rows p =
    let heard = turn_rows (length h + 1) (effects s h e) in
    let g : Group = record { event = e; heard = heard } in
    let count : length p.older ≡ length h = sym (events-count p.older) ∙ ap length p.events in
    let comes : heard ≡ last_rows s (g ∷ p.older) =
    ap (λ (past : List Event). turn_rows (length h + 1) (effects s past e)) (sym p.events)
    ∙ ap (λ (n : ℕ). turn_rows (n + 1) (effects s (group_events p.older) e)) (sym count) in
    let equal : bytes_eq heard (last_rows s (g ∷ p.older)) ≡ true = (bytes_eq-Decides heard (last_rows s (g ∷ p.older))).1 comes in
    record {
      events = ap group_events p.groups ∙ ap (λ (past : List Event). e ∷ past) p.events;
      same =
          ap (first_other s) p.groups
          ∙ ap (λ (o : Option ℕ). or_place o (place_unless (bytes_eq heard (last_rows s (g ∷ p.older))) (length (g ∷ p.older)))) p.same
          ∙ ap (λ (b : Bool). place_unless b (length (g ∷ p.older))) equal;
      headed = p.headed;
    }

-- the rows of an event were taken
abbrev all_taken : List (List ℕ) → Bool
all_taken rows = list_all (λ text. is_some (recording_line text)) rows

taken : (texts : List (List ℕ)) → AreHeard texts → all_taken texts ≡ true
taken [] are = refl
taken (text ∷ texts) are = and_from (is_some (recording_line text)) (all_taken texts) (ap (λ (o : Option RecordingLine). is_some o) are.0) (taken texts are.1)

behind-append : (before xs ys : List (List ℕ)) → lines_behind before (xs ++ ys) ≡ lines_behind (lines_behind before xs) ys
behind-append before [] ys = refl
behind-append before (x ∷ xs) ys = behind-append (x ∷ before) xs ys

record Takes (s : Settings) (h : List Event) (before rows : List (List ℕ)) : Type 0 where
  good : all_taken rows ≡ true
  same : IsSame s h (lines_behind before rows)

takes-entry : (s : Settings) (h : List Event) (e : Event) (before : List (List ℕ)) (r : IsReadable s h e) → IsSame s h before
    → Takes s (e ∷ h) before (said_row r.row ∷ heard_rows (length h + 1) (effects s h e))
takes-entry s h e before r p =
    let n = length h + 1 in
    let turn = effects s h e in
    let said = said-line r.row e r.says in
    let are : AreHeard (heard_rows n turn) = (refl, effects-heard n turn.effects) in
    record {
      good = and_from (is_some (recording_line (said_row r.row))) (all_taken (heard_rows n turn)) (ap (λ (o : Option RecordingLine). is_some o) said) (taken (heard_rows n turn) are);
      same =
          heard-same s h e (lines_behind (said_row r.row ∷ before) (heard_rows n turn))
          (subst (λ (bytes : List ℕ). Hears s h e bytes (lines_behind (said_row r.row ∷ before) (heard_rows n turn))) (turn-joined n turn)
          (hears-all s h e [] (heard_rows n turn) (said_row r.row ∷ before) are (says-next s h e (said_row r.row) before said p)));
    }

takes-all : (s : Settings) (h es : List Event) (before : List (List ℕ)) → AreReadable s h es → IsSame s h before
    → Takes s (events_behind h es) before (lines (recording_after s h es))
takes-all s h [] before are p = record { good = refl; same = p }
takes-all s h (e ∷ es) before are p =
    let n = length h + 1 in
    let own = said_row are.0.row ∷ heard_rows n (effects s h e) in
    let more = lines (recording_after s (e ∷ h) es) in
    let first = takes-entry s h e before are.0 p in
    let rest = takes-all s (e ∷ h) es (lines_behind before own) are.1 first.same in
    subst (λ (rows : List (List ℕ)). Takes s (events_behind (e ∷ h) es) before rows) (sym (entry-found s h e are.0 (recording_after s (e ∷ h) es))) (record {
      good = list_all-append (λ text. is_some (recording_line text)) own more ∙ and_from (all_taken own) (all_taken more) first.good rest.good;
      same = subst (λ (rows : List (List ℕ)). IsSame s (events_behind (e ∷ h) es) rows) (sym (behind-append before own more)) rest.same;
    })

behind-count : (h es : List Event) → length (events_behind h es) ≡ length h + length es
behind-count h [] = omega arith
behind-count h (e ∷ es) = let rest = behind-count (e ∷ h) es in omega (arith, rest)

pub recordings-replay : RecordingsReplay
recordings-replay s es are =
    let t = takes-all s [] es [] are (record { events = refl; same = refl; headed = refl }) in
    let ls = lines_back s (lines (recording s es)) in
    let none : 0 + length es ≡ length es = omega arith in
    let count : length (groups_of ls) ≡ length es = sym (events-count (groups_of ls)) ∙ ap length t.same.events ∙ behind-count [] es ∙ none in
    record {
      good = t.good;
      same =
          ap (λ (b : Bool). cond b (Err (BadLine 1)) (Ok (replayed_by (first_other s (groups_of ls)) (length (groups_of ls))))) t.same.headed
          ∙ ap (λ (o : Option ℕ). Ok (replayed_by o (length (groups_of ls)))) t.same.same
          ∙ ap (λ (n : ℕ). Ok (Same n)) count;
    }

-- the first of more events
readable-front : (s : Settings) (h es more : List Event) → AreReadable s h (es ++ more) → AreReadable s h es
readable-front s h [] more are = tt
readable-front s h (e ∷ es) more are = (are.0, readable-front s (e ∷ h) es more are.1)

recording-append : (s : Settings) (h es more : List Event) → recording_after s h (es ++ more) ≡ recording_after s h es ++ recording_after s (events_behind h es) more
recording-append s h [] more = refl
recording-append s h (e ∷ es) more =
    let own = entry_text (length h + 1) e (effects s h e) in
    ap (λ (bytes : List ℕ). own ++ bytes) (recording-append s (e ∷ h) es more)
    ∙ sym (append_assoc own (recording_after s (e ∷ h) es) (recording_after s (events_behind (e ∷ h) es) more))

pub fronts-replay : FrontsReplay
fronts-replay s es more are =
    ((recording_after s (events_behind [] es) more, recording-append s [] es more), recordings-replay s es (readable-front s [] es more are))
