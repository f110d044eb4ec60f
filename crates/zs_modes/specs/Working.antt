-- The mode in which callers put beside each other through one session: its words, and what is printed.
use Rattle.std.specs.Prelude.{◌≡◌, ◌⊎◌, ◌≤◌, ℕ, zero, suc, Bool, true, false, List, [], ◌∷◌, ◌++◌, Option, Some, None, option_map, option_and_then, codes}
use Rattle.std.specs.Str.{bytes_eq}
use Rattle.zs_keys.specs.Stream.{HasRisen, PutsOn}
use Rattle.zs_lines.specs.Writing.{PutsFrontOn}
use Rattle.zs_driving.specs.declared.errors.DriveError.{DriveError}
use Rattle.zs_driving.specs.Driving.{Outlet}
use Rattle.zs_driving.specs.Errors.{status_of, complaint_of}
use Rattle.zs_driving.specs.Statuses.{Complains}
use Rattle.zs_parts.specs.Symbols.{number_of}
use Rattle.zs_workers.specs.declared.tally.Workers.{Workers}
use Rattle.zs_workers.specs.declared.tally.Worked.{Worked}
use Rattle.zs_workers.specs.Workers.{IsWorked}
use Rattle.zs_session.specs.Soak.{count_line}

-- a number that isn't 0
abbrev pub if_some : ℕ → Option ℕ
if_some zero = None
if_some (suc n) = Some (suc n)

-- how many callers there are: from 1 to 64
abbrev pub callers_of : List ℕ → Option ℕ
callers_of word = option_and_then if_some (number_of 64 word)

-- callers that put at most 10000 times each, where the mode is this one
abbrev pub workers_named : Bool → List ℕ → List ℕ → Option Workers
workers_named false callers puts = None
workers_named true callers puts =
    option_and_then (λ k. option_map (λ n. record { callers = k; puts = n }) (number_of 10000 puts)) (callers_of callers)

-- `workers K N`
abbrev pub workers_of : List (List ℕ) → Option Workers
workers_of (mode ∷ callers ∷ puts ∷ []) = workers_named (bytes_eq mode (codes "workers")) callers puts
workers_of _ = None

-- what was counted, as it is printed
abbrev pub worked_text : Worked → List ℕ
worked_text worked =
    count_line (codes "entries") worked.entries ++ count_line (codes "shares") worked.shares
    ++ count_line (codes "handed") worked.handed

-- something is done with the text of what a run of these callers came to
pub record Reports (workers : Workers) (Does : List ℕ → Type 0) : Type 0 where
  pub worked : Worked
  pub is_worked : IsWorked workers worked
  pub does : Does (worked_text worked)

-- a status of the mode: 0 where its report was written, and else 7 or 8, with a front of it, or with nothing
pub record Works (workers : Workers) (status : ℕ) (from to heard heard' : Outlet) : Type 0 where
  pub is_one : (status ≡ 0) ⊎ ((status ≡ 7) ⊎ (status ≡ 8))
  pub whole : status ≡ 0 → Reports workers (λ text. PutsOn from.written text to.written)
  pub front : (to.written ≡ from.written) ⊎ Reports workers (λ text. PutsFrontOn from.written text to.written)
  pub write_fault : status ≡ 7 → HasRisen from.faults to.faults
  pub sink_later : from.faults ≤ to.faults
  pub complains : (error : DriveError) → status ≡ status_of error → Complains heard heard' (complaint_of error)
