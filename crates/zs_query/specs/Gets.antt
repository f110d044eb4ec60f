-- The open gets, what replies and finals come to, and what ends them.
use Rattle.std.specs.Prelude.{ℕ, ◌==◌, ◌&&◌, ◌||◌, nat_le, Bool, true, false, not, List, [], ◌∷◌, ◌++◌, map, filter, codes, Option, Some, None, Err, if◌then◌else◌}
use Rattle.std.specs.List.{find}
use Rattle.zs_keys.specs.Matching.{intersects}
use Rattle.zs_wire.specs.declared.request.ConsolidationMode.{ConsolidationMode}
use Rattle.zs_wire.specs.declared.request.ConsolidationMode.TheVariants as by
use Rattle.zs_sample.specs.Reply.{Replied}
use Rattle.zs_query.specs.declared.side.Side.{Side}
use Rattle.zs_query.specs.declared.side.Side.TheVariants.{Local, Network}
use Rattle.zs_query.specs.declared.get_row.GetRow.{GetRow}
use Rattle.zs_query.specs.declared.open_get.OpenGet.{OpenGet}
use Rattle.zs_query.specs.declared.outcome.Outcome.{Outcome}
use Rattle.zs_query.specs.declared.outcome.Outcome.TheVariants as outcome
use Rattle.zs_query.specs.declared.outcome.Peek.{Peek}
use Rattle.zs_query.specs.declared.outcome.Peek.TheVariants as peek
pub use Rattle.zs_rows.specs.Index.{names}
pub use Rattle.zs_rows.specs.Rows.{is_behind}
use Rattle.zs_rows.specs.Rows.{row_at}
use Rattle.zs_query.specs.Marks.{Mark, mark_of, key_of, passes}
use Rattle.zs_query.specs.Kept.{put}

-- the open get of that number, if there is one
abbrev pub get_at : ℕ → List OpenGet → Option OpenGet
get_at number gets = find (λ g. g.row.number == number) gets

-- the gets without that one
abbrev pub without_get : ℕ → List OpenGet → List OpenGet
without_get number gets = filter (λ g. not (g.row.number == number)) gets

-- the gets with that one changed
abbrev pub with_get : ℕ → (OpenGet → OpenGet) → List OpenGet → List OpenGet
with_get number change gets = map (λ g. if g.row.number == number then change g else g) gets

-- a get that has had no reply
abbrev pub fresh : GetRow → OpenGet
fresh row = record { row = row; kept = []; passed = [] }

-- whether a get takes replies on a key: on any, or on one that its own meets
abbrev pub takes_key : GetRow → List ℕ → Bool
takes_key row key = row.any_key || intersects row.key.text key

-- what a reply that a get takes comes to, by the get's mode
abbrev pub peek_by : ConsolidationMode → OpenGet → Replied → Peek
peek_by by.Auto g reply = peek.Handed
peek_by by.None g reply = peek.Handed
peek_by by.Monotonic g reply = if passes g.passed (mark_of reply) then peek.Handed else peek.Dropped
peek_by by.Latest g reply = if passes (map mark_of g.kept) (mark_of reply) then peek.Kept else peek.Dropped

-- what a reply to a get comes to
abbrev pub peek_get : OpenGet → Replied → Peek
peek_get g reply = if takes_key g.row (key_of reply) then peek_by g.row.mode g reply else peek.Unmatched

abbrev pub peek_at : Option OpenGet → Replied → Peek
peek_at None reply = peek.Unknown
peek_at (Some g) reply = peek_get g reply

-- the outcome of that name
abbrev pub named : Peek → Replied → Outcome
named peek.Unknown reply = outcome.Unknown
named peek.Unmatched reply = outcome.Unmatched
named peek.Kept reply = outcome.Kept
named peek.Dropped reply = outcome.Dropped
named peek.Handed reply = outcome.Handed reply

-- the marks of what was handed out last for each key, of which mode `Monotonic` alone has need
abbrev pub noted : ConsolidationMode → Mark → List Mark → List Mark
noted by.Monotonic mark marks = put (λ m. m.key) mark marks
noted by.Auto mark marks = marks
noted by.None mark marks = marks
noted by.Latest mark marks = marks

-- a get after a reply that came to this
abbrev pub after_reply : Peek → Replied → OpenGet → OpenGet
after_reply peek.Kept reply g = record g { kept = put key_of reply g.kept }
after_reply peek.Handed reply g = record g { passed = noted g.row.mode (mark_of reply) g.passed }
after_reply peek.Unknown reply g = g
after_reply peek.Unmatched reply g = g
after_reply peek.Dropped reply g = g

-- a get after a reply
abbrev pub replied : Replied → OpenGet → OpenGet
replied reply g = after_reply (peek_get g reply) reply g

-- an error is handed out at once
abbrev pub error_outcome : Option OpenGet → Replied → Outcome
error_outcome None reply = outcome.Unknown
error_outcome (Some g) reply = outcome.Handed reply

-- a side and the other one
abbrev pub other_side : Side → Side
other_side Local = Network
other_side Network = Local

abbrev pub is_local : Side → Bool
is_local Local = true
is_local Network = false

-- whether a get waits for the final of a side
abbrev pub wants : Side → GetRow → Bool
wants Local row = row.local_wanted
wants Network row = row.network_wanted

-- a get that waits for the final of that side no longer
abbrev pub less : Side → GetRow → GetRow
less side row = record row { local_wanted = row.local_wanted && not (is_local side); network_wanted = row.network_wanted && is_local side }

abbrev pub less_final : Side → OpenGet → OpenGet
less_final side g = record g { row = less side g.row }

-- what the final of a side comes to
abbrev pub final_outcome : Side → Option OpenGet → Outcome
final_outcome side None = outcome.Unknown
final_outcome side (Some g) =
    if wants side g.row
    then if wants (other_side side) g.row then outcome.Counted else outcome.Ended g.kept
    else outcome.Repeated

-- the gets after a final that came to this
abbrev pub after_final : Outcome → Side → ℕ → List OpenGet → List OpenGet
after_final outcome.Counted side number gets = with_get number (less_final side) gets
after_final (outcome.Ended replies) side number gets = without_get number gets
after_final outcome.Unknown side number gets = gets
after_final outcome.Unmatched side number gets = gets
after_final outcome.Kept side number gets = gets
after_final outcome.Dropped side number gets = gets
after_final (outcome.Handed reply) side number gets = gets
after_final outcome.Repeated side number gets = gets

-- whether a get's deadline is reached
abbrev pub is_due : ℕ → OpenGet → Bool
is_due now g = nat_le g.row.deadline now

-- the error that says so
abbrev pub timeout_error : Replied
timeout_error = record { result = Err (record { payload = codes "Timeout" ∷ []; encoding = codes "zenoh/string" }); replier = None }

-- the end of a get at its deadline: what it kept, and then the error
abbrev pub end_of : OpenGet → ℕ × List Replied
end_of g = (g.row.number, g.kept ++ timeout_error ∷ [])

-- the end of the get of that number, if there is one
abbrev pub end_at : ℕ → Option OpenGet → List (ℕ × List Replied)
end_at number None = []
end_at number (Some g) = (number, g.kept ++ timeout_error ∷ []) ∷ []

-- the ends of the gets of these numbers
abbrev pub ends_from : List ℕ → List (ℕ × OpenGet) → List (ℕ × List Replied)
ends_from [] rows = []
ends_from (n ∷ numbers) rows = end_at n (row_at n rows) ++ ends_from numbers rows

-- the ends of those whose deadline is reached
abbrev pub ends_at : ℕ → List OpenGet → List (ℕ × List Replied)
ends_at now gets = map end_of (filter (is_due now) gets)

-- the row of the first of them
abbrev pub first_row : List OpenGet → Option GetRow
first_row [] = None
first_row (g ∷ gets) = Some g.row

-- what the end of a get by its finals would hand out
abbrev pub kept_at : Option OpenGet → List Replied
kept_at None = []
kept_at (Some g) = g.kept
