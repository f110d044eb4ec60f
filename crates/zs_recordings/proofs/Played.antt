-- What a replayer stands for behind lines, and what a run by one says of the recording.
use Rattle.std.proofs.Common.{◌≡◌, ◌+◌, ◌<◌, ◌≤◌, ◌^◌, ◌==◌, decimal, ℕ, suc, List, [], ◌∷◌, ◌++◌, length, get_or, Bool, true, false, Option, Some, None, refl, sym, ◌∙◌, ap, subst, arith, cond, codes}
use Rattle.std.specs.Prelude.{is_some, ◌||◌, Result, Ok, Err, OnOk, IsErrAnd}
use Rattle.std.proofs.lemmas.Result.{err_from_is_err_and}
use Rattle.std.specs.Option.{IfSome}
use Rattle.std.specs.Str.{bytes_eq}
use Rattle.std.specs.String.{string_bytes}
use Rattle.std.proofs.lemmas.Bool.{ne_eqb}
use Rattle.std.proofs.lemmas.Fmt.{decimal_injective}
use Rattle.std.proofs.lemmas.List.{append-nil, append_cancel_left, append_cancel_right}
use Rattle.zs_driving.specs.declared.driving.Driven.{Driven}
use Rattle.zs_driving.specs.declared.errors.DriveError.{DriveError}
use Rattle.zs_driving.specs.declared.errors.DriveError.TheVariants.{BadLine, NoMemory}
use Rattle.zs_driving.specs.Tasks.{Rules, task_of, lines_behind}
use Rattle.zs_driving.specs.Driving.{Drives, Completes, IsDone, Supply, Outlet}
use Rattle.zs_driving.specs.Languages.{text_of, events_of, rules_of}
use Rattle.zs_driving.proofs.Exits.{retold, unstarted}
use Rattle.zs_lines.specs.Lines.{lines as cut_lines}
use Rattle.zs_keys.specs.Stream.{PutsOn}
use Rattle.zs_events.specs.declared.event.Event.{Event}
use Rattle.zs_events.specs.declared.turn.Turn.{Turn}
use Rattle.zs_core.specs.Types.{Settings}
use Rattle.zs_core.specs.Stands.{Stands, TakesStep}
use Rattle.zs_core.specs.World.{World}
use Rattle.zs_recordings.specs.Entries.{turn_rows}
use Rattle.zs_recordings.specs.Replaying.{RecordingLine, or_place, place_unless, last_heard, last_rows, Said, Heard, Group, recording_line, with_line, groups_of, is_empty, is_headless, group_events, first_other, replayed_by, replayed, replayed_text, verdict_text, replay_language, replay_task, lines_back, answer_for, Replays}
use Rattle.zs_recordings.specs.Machines.{Follows, other_in, Plays, HasPlayed}
use Rattle.zs_recordings.specs.declared.replayed.Replayed.{Replayed}
use Rattle.zs_recordings.specs.declared.replayed.Replayed.TheVariants.{Differs}
use Rattle.zs_recordings.specs.declared.replayer.Replayer.{Replayer}

-- the first event of which something else was recorded
pub other_is : (machine : Replayer) (s : Settings) (groups : List Group) → Follows machine s groups → other_in machine ≡ first_other s groups
other_is machine s [] f = rw (f.other, f.heard, f.rows) refl
other_is machine s (g ∷ older) f = rw (f.other, f.heard, f.rows, f.count) refl

-- an event was taken
pub took_event : (old new : Replayer) (e : Event) (turn : Turn) → TakesStep old.state new.state e turn → new.other ≡ other_in old → new.count ≡ old.count + 1 → old.count + 1 < 2 ^ 64
    → new.heard.items ≡ [] → string_bytes new.rows ≡ turn_rows (old.count + 1) turn → new.headless ≡ old.headless → Plays (Said e) old new
took_event old new e turn steps other count fits heard rows headless = record {
  follows = λ s groups f.
      let stepped = steps s (group_events groups) f.stands in
      let before = f.count in record {
        stands = stepped.1;
        count = omega (arith, count, before);
        small = omega (arith, count, fits);
        heard = heard;
        rows = rows ∙ ap (λ (n : ℕ). turn_rows (n + 1) turn) before ∙ ap (turn_rows (length groups + 1)) stepped.0;
        other = other ∙ other_is old s groups f;
      };
  headless = headless;
}

or-true : (b : Bool) → (b || true) ≡ true
or-true true = refl
or-true false = refl

or-false : (b : Bool) → (b || false) ≡ b
or-false true = refl
or-false false = refl

-- a line of a turn was taken, before all events, and behind some
pub took_first : (old new : Replayer) (text : List ℕ) → old.count ≡ 0 → new.state ≡ old.state → new.count ≡ old.count → new.heard ≡ old.heard → new.rows ≡ old.rows
    → new.other ≡ old.other → new.headless ≡ true → Plays (Heard text) old new
took_first old new text none state count heard rows other headless = record {
  follows = λ s groups f. go s groups f;
  headless = headless ∙ sym (ap (λ (n : ℕ). old.headless || (n == 0)) none ∙ or-true old.headless);
}
  where
    go : (s : Settings) (groups : List Group) → Follows old s groups → Follows new s (with_line (Heard text) groups)
    go s [] f = record {
      stands = subst (λ (w : World). Stands w s []) (sym state) f.stands;
      count = count ∙ f.count;
      small = subst (λ (n : ℕ). n < 2 ^ 64) (sym count) f.small;
      heard = ap (λ (v : _). v.items) heard ∙ f.heard;
      rows = ap string_bytes rows ∙ f.rows;
      other = other ∙ f.other;
    }
    go s (g ∷ older) f = let some = f.count in absurd (omega (arith, some, none))

pub took_next : (old new : Replayer) (text : List ℕ) → (old.count == 0) ≡ false → new.state ≡ old.state → new.count ≡ old.count
    → new.heard.items ≡ old.heard.items ++ (text ++ codes "\n") → new.rows ≡ old.rows
    → new.other ≡ old.other → new.headless ≡ old.headless → Plays (Heard text) old new
took_next old new text some state count heard rows other headless = record {
  follows = λ s groups f. go s groups f;
  headless = headless ∙ sym (ap (λ (b : Bool). old.headless || b) some ∙ or-false old.headless);
}
  where
    go : (s : Settings) (groups : List Group) → Follows old s groups → Follows new s (with_line (Heard text) groups)
    go s [] f = cc (sym some ∙ ap (λ (n : ℕ). n == 0) f.count)
    go s (g ∷ older) f = record {
      stands = subst (λ (w : World). Stands w s (group_events (g ∷ older))) (sym state) f.stands;
      count = count ∙ f.count;
      small = subst (λ (n : ℕ). n < 2 ^ 64) (sym count) f.small;
      heard = heard ∙ ap (λ (front : List ℕ). front ++ (text ++ codes "\n")) f.heard;
      rows = ap string_bytes rows ∙ f.rows;
      other = other ∙ f.other;
    }

pub ruleset playing = (other_is, took_event, took_first, took_next)

-- where no event was taken
empty_is : (groups : List Group) (count : ℕ) → count ≡ length groups → (count == 0) ≡ is_empty groups
empty_is [] count h = rw h refl
empty_is (g ∷ older) count h = ne_eqb count 0 (λ e. omega (arith, h, e))

module _ (machine : Replayer) (r : Rules) (h : List (List ℕ)) (played : HasPlayed machine r h) where
  -- no text is owed for a line
  none_owed : (row : List ℕ) → r.line_text h row ≡ []
  none_owed row = ap (λ (rules : Rules). rules.line_text h row) played.rules ∙ go (recording_line row)
    where
      go : (o : Option RecordingLine) → text_of (replay_language played.settings) (events_of (replay_language played.settings) h) o ≡ []
      go None = refl
      go (Some line) = refl

  pub took_text : (old : List ℕ) (row : List ℕ) → old ≡ old ++ r.line_text h row
  took_text old row = sym (ap (λ (text : List ℕ). old ++ text) (none_owed row) ∙ append-nil old)

  pub took_on : (new : Replayer) (row : List ℕ) → is_some (recording_line row) ≡ true → IfSome (recording_line row) (λ line. Plays line machine new)
      → HasPlayed new r (row ∷ h)
  took_on new row taken plays = go (recording_line row) refl taken plays
    where
      lines : List RecordingLine
      lines = events_of (replay_language played.settings) h

      marked : (line : RecordingLine) → Plays line machine new → new.headless ≡ is_headless (line ∷ lines)
      marked (Said e) p = p.headless ∙ played.headless
      marked (Heard text) p =
          p.headless
          ∙ ap (λ (b : Bool). b || (machine.count == 0)) played.headless
          ∙ ap (λ (b : Bool). is_headless lines || b) (empty_is (groups_of lines) machine.count played.follows.count)

      go : (o : Option RecordingLine) → recording_line row ≡ o → is_some o ≡ true → IfSome o (λ line. Plays line machine new) → HasPlayed new r (row ∷ h)
      go None is so p = cc
      go (Some line) is so p =
          let more : events_of (replay_language played.settings) (row ∷ h) ≡ line ∷ lines = rw is refl in record {
            settings = played.settings;
            rules = played.rules;
            headless = marked line p ∙ sym (ap is_headless more);
            follows =
                subst (λ (ls : List RecordingLine). Follows new played.settings (groups_of ls)) (sym more)
                (p.follows played.settings (groups_of lines) played.follows);
          }

  -- the text at the end: none where a line of a turn came first
  pub ends_headless : machine.headless ≡ true → (old : List ℕ) → old ≡ old ++ r.end_text h
  ends_headless headless old =
      let is : r.end_text h ≡ [] =
      ap (λ (rules : Rules). rules.end_text h) played.rules
      ∙ ap (λ (b : Bool). cond b [] (replayed_text (replayed played.settings (events_of (replay_language played.settings) h)))) (sym played.headless ∙ headless) in
      sym (ap (λ (text : List ℕ). old ++ text) is ∙ append-nil old)

  pub ends_played : machine.headless ≡ false → (outcome : Replayed)
      → ((s : Settings) (groups : List Group) → Follows machine s groups → outcome ≡ replayed_by (first_other s groups) (length groups))
      → (old new : List ℕ) → new ≡ old ++ replayed_text outcome → new ≡ old ++ r.end_text h
  ends_played headed outcome is old new put =
      let lines = events_of (replay_language played.settings) h in
      let text : replayed_text outcome ≡ r.end_text h =
      ap replayed_text (is played.settings (groups_of lines) played.follows)
      ∙ sym (ap (λ (rules : Rules). rules.end_text h) played.rules
      ∙ ap (λ (b : Bool). cond b [] (replayed_text (replayed played.settings lines))) (sym played.headless ∙ headed)) in
      put ∙ ap (λ (t : List ℕ). old ++ t) text

pub ruleset owed = (took_text, took_on, ends_headless, ends_played)

-- a new replayer replays by the language of its settings
pub settings_are : (w : World) (s : Settings) → Stands w s [] → w.settings ≡ s
settings_are w s stands = ap (λ (x : World). x.settings) stands

pub played_none : (machine : Replayer) (s : Settings) → Follows machine s [] → machine.headless ≡ false
    → HasPlayed machine (rules_of (replay_language machine.state.settings)) []
played_none machine s f headed = record {
  settings = s;
  rules = ap (λ (t : Settings). rules_of (replay_language t)) (settings_are machine.state s f.stands);
  headless = headed;
  follows = f;
}

-- no place is behind the last event
or-bound : (o p : Option ℕ) (n : ℕ) → IfSome o (λ place. place ≤ n) → IfSome p (λ place. place ≤ suc n) → IfSome (or_place o p) (λ place. place ≤ suc n)
or-bound None p n h k = k
or-bound (Some place) p n h k = omega (arith, h)

unless-bound : (b : Bool) (n : ℕ) → IfSome (place_unless b n) (λ place. place ≤ n)
unless-bound true n = tt
unless-bound false n = omega arith

other-bound : (s : Settings) (groups : List Group) → IfSome (first_other s groups) (λ place. place ≤ length groups)
other-bound s [] = tt
other-bound s (g ∷ older) =
    or-bound (first_other s older) (place_unless (bytes_eq (last_heard (g ∷ older)) (last_rows s (g ∷ older))) (length (g ∷ older))) (length older)
    (other-bound s older) (unless-bound (bytes_eq (last_heard (g ∷ older)) (last_rows s (g ∷ older))) (length (g ∷ older)))

-- what is answered is known by what is printed
same-outcomes : (a b : Option ℕ) (n : ℕ) → n < 2 ^ 64 → IfSome a (λ place. place ≤ n) → IfSome b (λ place. place ≤ n)
    → replayed_text (replayed_by a n) ≡ replayed_text (replayed_by b n) → replayed_by a n ≡ replayed_by b n
same-outcomes None None n small h k is = refl
same-outcomes None (Some q) n small h k is =
    let first : 115 ≡ 100 = ap (λ (text : List ℕ). get_or text 0 0) is in
    absurd (omega (arith, first))
same-outcomes (Some p) None n small h k is =
    let first : 100 ≡ 115 = ap (λ (text : List ℕ). get_or text 0 0) is in
    absurd (omega (arith, first))
same-outcomes (Some p) (Some q) n small h k is =
    ap Differs (decimal_injective p q (omega (arith, h, small)) (omega (arith, k, small))
    (append_cancel_right (decimal p) (decimal q) (codes "\n")
    (append_cancel_left (codes "differs\t") (decimal p ++ codes "\n") (decimal q ++ codes "\n") is)))

same-answers : (s t : Settings) (lines : List RecordingLine) → length (groups_of lines) < 2 ^ 64 → verdict_text s lines ≡ verdict_text t lines
    → answer_for s lines ≡ answer_for t lines
same-answers s t lines small h = go (is_headless lines) h
  where
    go : (b : Bool) → cond b [] (replayed_text (replayed s lines)) ≡ cond b [] (replayed_text (replayed t lines))
        → cond b (Err (BadLine 1)) (Ok (replayed s lines)) ≡ cond b (Err (BadLine 1)) (Ok (replayed t lines))
    go true h = refl
    go false h =
        ap Ok (same-outcomes (first_other s (groups_of lines)) (first_other t (groups_of lines)) (length (groups_of lines)) small
        (other-bound s (groups_of lines)) (other-bound t (groups_of lines)) h)

on_ok : {T E : Type 0} (r : Result T E) (P Q : Type 0) → (P → Q) → OnOk r P → OnOk r Q
on_ok (Ok x) P Q f p = f p
on_ok (Err e) P Q f p = tt

-- what a run by a new replayer says of the recording
pub replays_recording : (s t : Settings) (new : Replayer) (run : Result Driven DriveError) (answer : Result Replayed DriveError) (before after : Supply) (from to : Outlet) → t ≡ s
    → Drives (task_of (λ row. is_some (recording_line row)) (rules_of (replay_language t)) s.line_max s.turns)
    (λ rows. HasPlayed new (rules_of (replay_language t)) (lines_behind [] rows)) run before after from to (λ output. PutsOn from.written output to.written)
    → Completes (replay_task s) run before after from to
    → ((u : Settings) (h : List RecordingLine) → Follows new u (groups_of h) → new.headless ≡ is_headless h → OnOk run (answer ≡ answer_for u h))
    → ((error : DriveError) → run ≡ Err error → answer ≡ Err error)
    → Replays s answer before after from to
replays_recording s t new run answer before after from to same drives completes done stopped =
    let Puts : List ℕ → Type 0 = λ output. PutsOn from.written output to.written in
    let k = replay_task s in
    let Before : List (List ℕ) → Type 0 = λ rows. HasPlayed new (rules_of (replay_language s)) (lines_behind [] rows) in
    let Behind : List (List ℕ) → Type 0 = λ rows. OnOk run (answer ≡ answer_for s (lines_back s rows)) in
    let closed : (rows : List (List ℕ)) → Before rows → Behind rows =
    λ rows p. on_ok run (answer ≡ answer_for p.settings (lines_back s rows)) (answer ≡ answer_for s (lines_back s rows))
    (λ is. is ∙ same-answers p.settings s (lines_back s rows) (subst (λ (n : ℕ). n < 2 ^ 64) p.follows.count p.follows.small) (ap (λ (rules : Rules). rules.end_text (lines_behind [] rows)) (sym p.rules)))
    (done p.settings (lines_back s rows) p.follows p.headless) in
    let own : Drives k Before run before after from to Puts =
    subst (λ (x : Settings). Drives (task_of (λ row. is_some (recording_line row)) (rules_of (replay_language x)) s.line_max s.turns)
    (λ rows. HasPlayed new (rules_of (replay_language x)) (lines_behind [] rows)) run before after from to Puts) same drives in
    record {
      run = run;
      drives =
          retold k k.text k.whole Puts Puts (λ rows. refl) (λ rows. refl) (λ output put. put)
          (IsDone k before.left after.left Puts Before) (IsDone k before.left after.left Puts Behind) run before after from to
          (λ count d. record {
            input = d.input;
            output = d.output;
            source = d.source;
            spent = d.spent;
            good = d.good;
            sink = d.sink;
            whole = d.whole;
            machine = closed (cut_lines d.input) d.machine;
            events = d.events;
          }) own;
      completes = completes;
      stopped = stopped;
    }

-- no run was begun, for want of memory
pub unplayed : (s : Settings) (r : Result Replayed DriveError) (before : Supply) (from : Outlet) → IsErrAnd r (λ y. y ≡ NoMemory)
    → Replays s r before before from from
unplayed s r before from now =
    let p = err_from_is_err_and r now in
    subst (λ (x : Result Replayed DriveError). Replays s x before before from from) (sym (p.1 ∙ ap (λ y. Err y) p.2)) (record {
      run = Err NoMemory;
      drives = unstarted (replay_task s) _ refl before from;
      completes = λ input holds valid read write. refl;
      stopped = λ error same. cc;
    })
