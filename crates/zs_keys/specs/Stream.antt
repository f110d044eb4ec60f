-- What a source and a sink of bytes say of one call: which bytes passed, and whether a fault came.
use Rattle.std.specs.Prelude.{◌≡◌, ℕ, ◌+◌, ◌-◌, ◌^◌, ◌<◌, ◌≤◌, ◌⊎◌, ◌==◌, min, List, [], ◌++◌, Option, Some, None, Result, Ok, Err, if◌then◌else◌}

-- a count of faults went up, or stands at the last value that it can have
abbrev pub HasRisen : ℕ → ℕ → Type 0
HasRisen old new = (old < new) ⊎ (2 ^ 64 ≤ new + 1)

-- a count that has risen by so many, or by as many as the last value of a `u64` leaves it, where it stands still
abbrev pub count_after : ℕ → ℕ → ℕ
count_after count more = count + min more (2 ^ 64 - 1 - count)

-- the number of pieces that a source gave, after a read with this result: one more where the read gave a byte
abbrev pub pieces_after : {E : Type 0} → ℕ → Result ℕ E → ℕ
pieces_after pieces (Ok given) = if given == 0 then pieces else count_after pieces 1
pieces_after pieces (Err error) = pieces

-- the piece was the front of what a source held, and the rest is what it holds now; nothing where it does not tell
abbrev pub TakesOff : Option (List ℕ) → List ℕ → Option (List ℕ) → Type 0
TakesOff None piece new = Unit {0}
TakesOff (Some held) piece new = (rest : List ℕ) × (held ≡ piece ++ rest) × (new ≡ Some rest)

-- a sink that tells what it has taken now has the piece behind it
abbrev pub PutsOn : Option (List ℕ) → List ℕ → Option (List ℕ) → Type 0
PutsOn None piece new = Unit {0}
PutsOn (Some taken) piece new = new ≡ Some (taken ++ piece)

-- a source that tells what it holds is at its end
abbrev pub HoldsNothing : Option (List ℕ) → Type 0
HoldsNothing None = Unit {0}
HoldsNothing (Some held) = held ≡ []
