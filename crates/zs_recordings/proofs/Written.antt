-- What a sink took of an entry.
use Rattle.std.proofs.Common.{◌≡◌, ℕ, Bool, true, List, [], ◌++◌, Option, Some, None, refl, sym, ◌∙◌, ap}
use Rattle.std.specs.Prelude.{unwrap_or}
use Rattle.std.proofs.lemmas.List.{append-nil}
use Rattle.zs_keys.specs.Stream.{PutsOn}
use Rattle.zs_lines.specs.Writing.{PutsFrontOn}
use Rattle.zs_events.specs.declared.event.Event.{Event}
use Rattle.zs_events.specs.declared.turn.Turn.{Turn}
use Rattle.zs_event_lines.specs.Slots.{IsPrinted}
use Rattle.zs_recordings.specs.Entries.{event_row, turn_rows, entry_text}
use Rattle.zs_recordings.proofs.Printed.{row_is}

nothing_on : (written : Option (List ℕ)) → PutsOn written [] written
nothing_on None = tt
nothing_on (Some taken) = ap (λ (bytes : List ℕ). Some bytes) (sym (append-nil taken))

-- nothing was written
pub nothing_put : (written : Option (List ℕ)) (piece : List ℕ) → PutsFrontOn written piece written
nothing_put written piece = ([], piece, refl, nothing_on written)

-- a front was, of what turns out to be the entry
pub front_of : (old new : Option (List ℕ)) (bytes piece : List ℕ) → bytes ≡ piece → PutsFrontOn old bytes new → PutsFrontOn old piece new
front_of old new bytes piece same put = (put.0, put.1, sym same ∙ put.2, put.3)

-- what was printed in an empty memory is the entry
pub entry_is : (e : Event) (number : ℕ) (turn : Turn) (told : Bool) (old front text bytes : List ℕ) → told ≡ true → old ≡ []
    → IsPrinted (event_row e) told old front → text ≡ front ++ turn_rows number turn → bytes ≡ text → bytes ≡ entry_text number e turn
entry_is e number turn told old front text bytes is nothing row rows same =
    same ∙ rows ∙ ap (λ (o : Option (List ℕ)). unwrap_or o [] ++ turn_rows number turn) (row_is e told old front is nothing row)

pub ruleset writing = (nothing_put, front_of)
