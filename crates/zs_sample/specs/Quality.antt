use Rattle.std.specs.Prelude.{ℕ, ◌≡◌, ◌≤◌, ◌==◌, if◌then◌else◌, Result, MatchResult}
use Rattle.zs_sample.specs.declared.quality.Priority.{Priority}
use Rattle.zs_sample.specs.declared.quality.Priority.TheVariants.{RealTime, InteractiveHigh, InteractiveLow, DataHigh, Data, DataLow, Background}
use Rattle.zs_sample.specs.declared.quality.BadPriority.{BadPriority}

-- the number that stands for a priority in messages
abbrev pub number_of : Priority → ℕ
number_of RealTime = 1
number_of InteractiveHigh = 2
number_of InteractiveLow = 3
number_of DataHigh = 4
number_of Data = 5
number_of DataLow = 6
number_of Background = 7

-- the priority that a sample with this number has: outside 1 to 7 it is Data
abbrev pub priority_of : ℕ → Priority
priority_of n =
    if n == 1 then RealTime else
    if n == 2 then InteractiveHigh else
    if n == 3 then InteractiveLow else
    if n == 4 then DataHigh else
    if n == 6 then DataLow else
    if n == 7 then Background else Data

-- the priority with this number, or the error exactly outside 1 to 7
abbrev pub IsPriorityOf : ℕ → Result Priority BadPriority → Type 0
IsPriorityOf n answer = MatchResult answer (λ priority. number_of priority ≡ n) (λ _. ¬ ((1 ≤ n) × (n ≤ 7)))
