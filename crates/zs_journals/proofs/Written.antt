-- What a sink took of a journal where its first entries were written, and of the next one.
use Rattle.std.proofs.Common.{ℕ, suc, zero, ◌≡◌, ◌+◌, ◌-◌, ◌<◌, ◌≤◌, ◌&&◌, Bool, List, [], ◌∷◌, ◌++◌, length, take, get_or, true, false, Option, Some, Result, Ok, Err, refl, sym, ◌∙◌, ap, subst, arith, append_assoc}
use Rattle.std.specs.Prelude.{IsErrAnd}
use Rattle.std.proofs.lemmas.Bool.{and_parts}
use Rattle.std.proofs.lemmas.Result.{err_from_is_err_and}
use Rattle.std.proofs.lemmas.List.{append-nil, take_more, take_all}
use Rattle.zs_keys.specs.Stream.{HasRisen, PutsOn}
use Rattle.zs_lines.specs.Writing.{PutsFrontOn}
use Rattle.zs_lines.proofs.Pieces.{both-pieces}
use Rattle.zs_events.specs.declared.event.Event.{Event}
use Rattle.zs_events.specs.declared.turn.Turn.{Turn}
use Rattle.zs_session_cell.specs.declared.entry.Entry.{Entry}
use Rattle.zs_recordings.specs.Entries.{is_printable, entry_text}
use Rattle.zs_recordings.specs.declared.error.RecordError.{RecordError}
use Rattle.zs_recordings.specs.declared.error.RecordError.TheVariants.{Unprintable, WriteFault}
use Rattle.zs_journals.specs.Journals.{entries_text, journal_text, are_printable}
use Rattle.zs_journals.specs.Writing.{Taken, WritesJournal}
use Rattle.zs_journals.proofs.Recorded.{text-push, none-unprintable, here-unprintable}

-- behind so many entries stands this event with its turn, under this number
pub record IsNext (entries : List Entry) (n number : ℕ) (e : Event) (turn : Turn) : Type 0 where
  pub less : n < length entries
  pub count : number ≡ n + 1
  pub default : Entry
  pub is : get_or entries n default ≡ record { event = e; turn = turn }

pub next-is : (entries : List Entry) (n number : ℕ) (entry : Entry) (e : Event) (turn : Turn) → n < length entries → number ≡ n + 1
    → entry ≡ get_or entries n entry → e ≡ entry.event → turn ≡ entry.turn → IsNext entries n number e turn
next-is entries n number entry e turn less count is event own =
    record { less = less; count = count; default = entry; is = rw (event, own) (sym is) }

-- the text of the first entries is a front of the text
text-front : (before n : ℕ) (entries : List Entry) → (rest : List ℕ) × (entries_text before entries ≡ entries_text before (take n entries) ++ rest)
text-front before zero entries = (entries_text before entries, refl)
text-front before (suc n) [] = ([], refl)
text-front before (suc n) (entry ∷ entries) =
    let own = entry_text (before + 1) entry.event entry.turn in
    let more = text-front (before + 1) n entries in
    (more.0, ap (λ (text : List ℕ). own ++ text) more.1 ∙ sym (append_assoc own (entries_text (before + 1) (take n entries)) more.0))

-- with the entry in a place
next-text : (entries : List Entry) (n number : ℕ) (e : Event) (turn : Turn) → IsNext entries n number e turn
    → journal_text (take number entries) ≡ journal_text (take n entries) ++ entry_text number e turn
next-text entries n number e turn next =
    let entry : Entry = record { event = e; turn = turn } in
    let count : 0 + length (take n entries) + 1 ≡ number = ap (λ (k : ℕ). k + 1) (count-of entries n next.less) ∙ sym next.count in
    ap (λ (k : ℕ). journal_text (take k entries)) next.count
    ∙ ap journal_text (take_more entries n next.default next.less ∙ ap (λ (last : Entry). take n entries ++ last ∷ []) next.is)
    ∙ text-push 0 (take n entries) entry
    ∙ ap (λ (k : ℕ). journal_text (take n entries) ++ entry_text k e turn) count
  where
    count-of : (entries : List Entry) (n : ℕ) → n < length entries → 0 + length (take n entries) ≡ n
    count-of entries zero less = omega arith
    count-of [] (suc n) less = absurd (omega (arith, less))
    count-of (entry ∷ entries) (suc n) less = let more = count-of entries n (omega (arith, less)) in omega (arith, more)

-- it was written behind them
pub next-put : (old mid new : Option (List ℕ)) (entries : List Entry) (n number : ℕ) (e : Event) (turn : Turn) → IsNext entries n number e turn
    → PutsOn old (journal_text (take n entries)) mid → PutsOn mid (entry_text number e turn) new
    → PutsOn old (journal_text (take (n + 1) entries)) new
next-put old mid new entries n number e turn next front put =
    subst (λ (k : ℕ). PutsOn old (journal_text (take k entries)) new) next.count
    (subst (λ (text : List ℕ). PutsOn old text new) (sym (next-text entries n number e turn next))
    (both-pieces old mid new (journal_text (take n entries)) (entry_text number e turn) front put))

-- or a front of it was
next-part : (old mid new : Option (List ℕ)) (entries : List Entry) (n number : ℕ) (e : Event) (turn : Turn) → IsNext entries n number e turn
    → PutsOn old (journal_text (take n entries)) mid → PutsFrontOn mid (entry_text number e turn) new → PutsFrontOn old (journal_text entries) new
next-part old mid new entries n number e turn next front put =
    let before = journal_text (take n entries) in
    let all = text-front 0 number entries in
    let cut : journal_text entries ≡ (before ++ put.0) ++ (put.1 ++ all.0) =
    all.1
    ∙ ap (λ (text : List ℕ). text ++ all.0) (next-text entries n number e turn next ∙ ap (λ (text : List ℕ). before ++ text) put.2)
    ∙ ap (λ (text : List ℕ). text ++ all.0) (sym (append_assoc before put.0 put.1))
    ∙ append_assoc (before ++ put.0) put.1 all.0 in
    (before ++ put.0, put.1 ++ all.0, cut, both-pieces old mid new before put.0 front put.3)

-- a line says its event too
pub next-printable : (entries : List Entry) (n number : ℕ) (e : Event) (turn : Turn) → IsNext entries n number e turn
    → are_printable (take n entries) ≡ true → is_printable e ≡ true → are_printable (take (n + 1) entries) ≡ true
next-printable entries n number e turn next before here =
    more-printable entries n next.default next.less before (ap (λ (entry : Entry). is_printable entry.event) next.is ∙ here)
  where
    both_true : {a b : Bool} → a ≡ true → b ≡ true → (a && b) ≡ true
    both_true ha hb = rw ha hb

    more-printable : (entries : List Entry) (n : ℕ) (default : Entry) → n < length entries → are_printable (take n entries) ≡ true
        → is_printable (get_or entries n default).event ≡ true → are_printable (take (n + 1) entries) ≡ true
    more-printable [] n default less before here = absurd (omega (arith, less))
    more-printable (first ∷ more) zero default less before here = rw here refl
    more-printable (first ∷ more) (suc n) default less before here =
        let both = and_parts (is_printable first.event) _ before in
        let count : suc n + 1 ≡ suc (n + 1) = omega arith in
        ap (λ (k : ℕ). are_printable (take k (first ∷ more))) count
        ∙ both_true both.0 (more-printable more n default (omega (arith, less)) both.1 here)

-- the writing stops at an entry
pub stops : {A : Type 0} (entries : List Entry) (n number : ℕ) (e : Event) (turn : Turn) (answer : Result A RecordError) (error : RecordError) (before mid after : Taken)
    → IsErrAnd answer (λ handed. handed ≡ error) → IsNext entries n number e turn → are_printable (take n entries) ≡ true
    → PutsOn before.written (journal_text (take n entries)) mid.written → mid.faults ≡ before.faults
    → PutsFrontOn mid.written (entry_text number e turn) after.written
    → (error ≡ Unprintable number → (is_printable e ≡ false) × (after.written ≡ mid.written))
    → ((other : ℕ) → error ≡ Unprintable other → other ≡ number)
    → (error ≡ WriteFault → HasRisen mid.faults after.faults) → mid.faults ≤ after.faults
    → WritesJournal entries answer before after
stops {A} entries n number e turn answer error before mid after is next printable put calm part unprintable place fault later =
    let handed = err_from_is_err_and answer is in
    subst (λ (r : Result A RecordError). WritesJournal entries r before after) (sym (handed.1 ∙ ap (λ (e : RecordError). Err e) handed.2)) (record {
      part = next-part before.written mid.written after.written entries n number e turn next put part;
      printable = tt;
      whole = tt;
      calm = tt;
      unprintable = λ other same.
          let here = place other same in
          let missing = unprintable (same ∙ ap (λ (k : ℕ). Unprintable k) here) in
          here-unprintable entries n next.default next.less printable (ap (λ (entry : Entry). is_printable entry.event) next.is ∙ missing.0)
          ∙ ap (λ (k : ℕ). Some k) (sym next.count ∙ sym here);
      front = λ other same.
          let here = place other same in
          let missing = unprintable (same ∙ ap (λ (k : ℕ). Unprintable k) here) in
          let count : n ≡ other - 1 = omega (arith, here, next.count) in
          subst (λ (k : ℕ). PutsOn before.written (journal_text (take k entries)) after.written) count
          (subst (λ (w : Option (List ℕ)). PutsOn before.written (journal_text (take n entries)) w) (sym missing.1) put);
      fault = λ same. subst (λ (k : ℕ). HasRisen k after.faults) calm (fault same);
      later = subst (λ (k : ℕ). k ≤ after.faults) calm later;
    })

-- or it comes to its end
pub ends : {A : Type 0} (entries : List Entry) (n : ℕ) (value : A) (before after : Taken) → length entries ≤ n → are_printable (take n entries) ≡ true
    → PutsOn before.written (journal_text (take n entries)) after.written → after.faults ≡ before.faults
    → WritesJournal entries (Ok value) before after
ends entries n value before after all printable put calm =
    let same : take n entries ≡ entries = take_all n entries all in
    let whole : PutsOn before.written (journal_text entries) after.written =
    subst (λ (es : List Entry). PutsOn before.written (journal_text es) after.written) same put in
    record {
      part = (journal_text entries, [], sym (append-nil (journal_text entries)), whole);
      printable = none-unprintable entries (ap are_printable (sym same) ∙ printable);
      whole = whole;
      calm = calm;
      unprintable = tt;
      front = tt;
      fault = tt;
      later = omega (arith, calm);
    }
