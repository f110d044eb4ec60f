-- The finals of requests from the network, told by the events alone: which events send one, and which give back the last value of
-- a request.
use Rattle.std.specs.Prelude.{ℕ, ◌+◌, Bool, false, not, ◌==◌, ◌&&◌, ◌||◌, nat_lt, is_some, List, [], ◌∷◌, Option, Some, None, if◌then◌else◌}
use Rattle.std.specs.List.{list_any}
use Rattle.zs_wire.specs.declared.message.Message.{Message}
use Rattle.zs_wire.specs.declared.message.Message.TheVariants.{ResponseFinal}
use Rattle.zs_query.specs.Types.{QueryValue, Finished, Unknown, MoreLeft, Last}
use Rattle.zs_query.specs.Unfinished.{value_at, has_other, finished}
use Rattle.zs_events.specs.declared.event.Event.{Event}
use Rattle.zs_tables.specs.declared.queryable.QueryableRow.{QueryableRow}
use Rattle.zs_events.specs.Kinds.{ToGets, NoGet, ToValues, Requested, GivesBack, row_of}
use Rattle.zs_model.specs.declared.settings.Settings.{Settings}
use Rattle.zs_model.specs.Entry.{Entry, is_closed}
use Rattle.zs_model.specs.HeldKeys.{named_text}
use Rattle.zs_model.specs.Live.{live_queryables, to_gets_of}
use Rattle.zs_model.specs.Values.{met_by, times_handed, values_now}
use Rattle.zs_model.specs.Causes.{refusal_of}

-- the numbers of the requests whose finals are among these messages
abbrev pub finals_among : List Message → List ℕ
finals_among [] = []
finals_among (ResponseFinal rid ∷ messages) = rid ∷ finals_among messages
finals_among (message ∷ messages) = finals_among messages

-- a request's final is sent at once where it meets nobody
abbrev pub unmet_final : ℕ → List ℕ → List ℕ
unmet_final rid [] = rid ∷ []
unmet_final rid (q ∷ met) = []

-- else when its last value is given back
abbrev pub last_final : Finished → List ℕ
last_final Unknown = []
last_final MoreLeft = []
last_final (Last row) = if row.local then [] else row.rid ∷ []

-- the finals that an accepted event sends, where these queryables are live and these values unfinished
abbrev pub finals_by : List QueryableRow → List QueryValue → Option (List ℕ) → ToValues → List ℕ
finals_by rows values text (Requested request) = unmet_final request.rid (met_by rows NoGet (Requested request) text)
finals_by rows values text (GivesBack value) = last_final (finished (value_at value values) values)
finals_by rows values text to = []

-- and any event: a refused one and one behind the close send none
abbrev pub finals_due : Settings → List Entry → Event → List ℕ
finals_due s past e =
    if is_some (refusal_of s past e) || is_closed past then []
    else finals_by (live_queryables past) (values_now past) (named_text past e) (row_of e).to_values

-- whether giving a value back ends a request, which is known by how many met queryables before it
abbrev pub is_last_of : ℕ → List QueryValue → Option QueryValue → Bool
is_last_of request values None = false
is_last_of request values (Some v) = v.request == request && not (has_other v values)

abbrev pub ends_request : ℕ → List QueryValue → ToGets → ToValues → Bool
ends_request request values NoGet (GivesBack value) = is_last_of request values (value_at value values)
ends_request request values to does = false

-- how often one of a request's values was given back as its last
abbrev pub times_ended : ℕ → List Entry → ℕ
times_ended request [] = 0
times_ended request (x ∷ past) =
    if ends_request request (values_now past) (to_gets_of past x.event) (row_of x.event).to_values then times_ended request past + 1 else times_ended request past

-- whether a value of a request is unfinished
abbrev pub is_asked_still : ℕ → List QueryValue → Bool
is_asked_still request values = list_any (λ v. v.request == request) values

-- whether a request met queryables, and has no unfinished value
abbrev pub is_over : ℕ → List Entry → Bool
is_over request past = nat_lt request (times_handed past) && not (is_asked_still request (values_now past))
