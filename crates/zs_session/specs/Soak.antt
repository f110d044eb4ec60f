-- The mode that drives a session by a script of its own making, and counts what is printed: its words, its script, and
-- its report.
use Rattle.std.specs.Prelude.{ℕ, zero, suc, ◌+◌, ◌*◌, ◌/◌, ◌%◌, ◌==◌, nat_eq, Bool, true, false, List, [], ◌∷◌, ◌++◌, length, Option, Some, None, option_map, option_and_then, codes, decimal}
use Rattle.std.specs.List.{after_first, count_by, starts_with}
use Rattle.std.specs.Str.{bytes_eq}
use Rattle.zs_core.specs.Settings.{default_settings}
use Rattle.zs_lines.specs.Lines.{lines}
use Rattle.zs_parts.specs.Symbols.{number_of}
use Rattle.zs_printing.specs.Words.{byte_digits}
use Rattle.zs_session.specs.Script.{script, text}
use Rattle.zs_session.specs.declared.soak.Soak.{Soak}
use Rattle.zs_session.specs.declared.soak.Tally.{Tally}

-- a seed below 65537, and at most 100000 puts, where the mode is this one
abbrev pub soak_named : Bool → List ℕ → List ℕ → Option Soak
soak_named false seed puts = None
soak_named true seed puts =
    option_and_then (λ s. option_map (λ n. record { seed = s; puts = n }) (number_of 100000 puts)) (number_of 65536 seed)

-- `soak SEED N`
abbrev pub soak_of : List (List ℕ) → Option Soak
soak_of (mode ∷ seed ∷ puts ∷ []) = soak_named (bytes_eq mode (codes "soak")) seed puts
soak_of _ = None

-- the number that a put is made of, by the put's place; the seed is the number before the first
abbrev pub number_at : ℕ → ℕ → ℕ
number_at seed zero = seed
number_at seed (suc i) = (75 * number_at seed i + 74) % 65537

-- the first lines: eight keys, and subscribers below six of them
abbrev pub declarations : List ℕ
declarations =
    codes "key\tk/0\nkey\tk/1\nkey\tk/2\nkey\tk/3\nkey\tk/4\nkey\tk/5\nkey\tk/6\nkey\tk/7\n"
    ++ codes "sub\tany\tk/0/*\nsub\tany\tk/1/*\nsub\tany\tk/2/*\nsub\tany\tk/3/*\nsub\tany\tk/4/*\nsub\tany\tk/5/*\n"

-- the line of a put: its number chooses one of the eight keys and a chunk behind it, and its place is its payload
abbrev pub put_line : ℕ → ℕ → List ℕ
put_line number place =
    codes "put\tany\t#" ++ decimal (1 + number % 8) ++ codes ":/" ++ decimal (number / 8 % 100)
    ++ codes "\tx" ++ byte_digits (place % 256) ++ codes "\n"

-- the lines of as many puts
abbrev pub put_lines : ℕ → ℕ → List ℕ
put_lines seed zero = []
put_lines seed (suc i) = put_lines seed i ++ put_line (number_at seed (suc i)) (suc i)

-- the script that is driven
abbrev pub soak_script : Soak → List ℕ
soak_script soak = declarations ++ put_lines soak.seed soak.puts

-- what is behind a line's number begins with these fields
abbrev pub says : List ℕ → List ℕ → Bool
says words line = starts_with nat_eq (after_first (λ b. b == 9) line) words

-- how many lines of an output do
abbrev pub count_of : List ℕ → List ℕ → ℕ
count_of words output = count_by (says words) (lines output)

-- the first line of an output and what is behind it, if there is one, told again as lines
abbrev pub lines_from : Option (List ℕ × List ℕ) → List (List ℕ)
lines_from None = []
lines_from (Some (line, rest)) = line ∷ lines rest

-- what a whole run over a script comes to: its events, and the lines of each kind that it prints
abbrev pub tally_of : ℕ → List ℕ → Tally
tally_of events output = record {
  events = events;
  handed = count_of (codes "hand\tsub\t") output;
  sent = count_of (codes "send\t") output;
  refused = count_of (codes "refused\t") output;
}

-- the tally of a run over a script with the default settings: its events are the lines, and the close
unfoldable pub run_tally : List ℕ → Tally
run_tally input = tally_of (length (lines input) + 1) (text default_settings (script input))

-- a count as it is printed, behind what it counts
abbrev pub count_line : List ℕ → ℕ → List ℕ
count_line name count = name ++ 9 ∷ (decimal count ++ 10 ∷ [])

-- a tally as it is printed
abbrev pub tally_text : Tally → List ℕ
tally_text tally =
    count_line (codes "events") tally.events ++ count_line (codes "handed") tally.handed
    ++ count_line (codes "sent") tally.sent ++ count_line (codes "refused") tally.refused

-- what a run of this mode prints
unfoldable pub soak_report : Soak → List ℕ
soak_report soak = tally_text (run_tally (soak_script soak))
