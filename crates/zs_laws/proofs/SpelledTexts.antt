-- The texts of the keys that queries name are UTF-8, where those of events are.
use Rattle.std.proofs.Common.{◌≡◌, ℕ, ◌+◌, List, [], ◌∷◌, Bool, true, false, Option, Some, None, refl, sym, subst}
use Rattle.std.specs.Prelude.{◌==◌, not, option_map, IsUtf8, if◌then◌else◌}
use Rattle.std.specs.Option.{IfSome}
use Rattle.std.specs.List.{AllByRecursion}
use Rattle.zs_tables.specs.declared.queryable.QueryableRow.{QueryableRow}
use Rattle.zs_query.specs.Types.{QueryValue, RequestRow}
use Rattle.zs_query.specs.Unfinished.{value_at, values_from}
use Rattle.zs_query.specs.RequestTable.{Handing, with_handed, with_share}
use Rattle.zs_query.proofs.Ascending.{all_append, all_filter}
use Rattle.zs_events.specs.declared.event.Event.{Event}
use Rattle.zs_events.specs.Kinds.{ToGets, NoGet, Asks, AsksBy, Answers, EndsSide, Reaches, EndsQuerier, Cancels, EndsAll, ToValues, NoValue, Requested, AnswersBy, AnswersError, SharesValue, GivesBack, row_of}
use Rattle.zs_model.specs.declared.settings.Settings.{Settings}
use Rattle.zs_world.specs.World.{World}
use Rattle.zs_model.specs.Entry.{Entry}
use Rattle.zs_model.specs.Past.{past_of}
use Rattle.zs_model.specs.Values.{met_by_get, met_by_request, get_request, network_request}
use Rattle.zs_model.specs.Received.{spoken_by, AreUtf8}
use Rattle.zs_world.specs.Decisions.{to_gets_at}
use Rattle.zs_standing.specs.Stands.{world_after}
use Rattle.zs_model.proofs.Values.{handing_next}
use Rattle.zs_standing.proofs.Steps.{along}

abbrev AreText : List QueryValue → Type 0
AreText values = AllByRecursion (λ (v : QueryValue). IsUtf8 v.row.key.text) values

-- the values of a request
new_text : (first request : ℕ) (row : RequestRow) (met : List ℕ) → IsUtf8 row.key.text → AreText (values_from first request row met)
new_text first request row [] utf8 = tt
new_text first request row (q ∷ met) utf8 = (utf8, new_text (first + 1) request row met utf8)

handed_text : (row : RequestRow) (met : List ℕ) (h : Handing) → IsUtf8 row.key.text → AreText h.values → AreText (with_handed row met h).values
handed_text row [] h utf8 all = all
handed_text row (q ∷ met) h utf8 all =
    all_append (λ (v : QueryValue). IsUtf8 v.row.key.text) h.values (values_from h.next h.handed row (q ∷ met)) all (new_text h.next h.handed row (q ∷ met) utf8)

-- that of one that is found
found_text : (n : ℕ) (v : QueryValue) (values : List QueryValue) → AreText values → value_at n values ≡ Some v → IsUtf8 v.row.key.text
found_text n v [] all found = cc
found_text n v (o ∷ values) all found = go (o.value == n) found (found_text n v values all.1)
  where
    go : (b : Bool) → (if b then Some o else value_at n values) ≡ Some v → (value_at n values ≡ Some v → IsUtf8 v.row.key.text) → IsUtf8 v.row.key.text
    go true found ih = let same : o ≡ v = cc in subst (λ (w : QueryValue). IsUtf8 w.row.key.text) same all.0
    go false found ih = ih found

shared_text : (n : ℕ) (o : Option QueryValue) (h : Handing) → value_at n h.values ≡ o → AreText h.values → AreText (with_share o h).values
shared_text n None h found all = all
shared_text n (Some v) h found all =
    all_append (λ (v : QueryValue). IsUtf8 v.row.key.text) h.values (record v { value = h.next } ∷ []) all (found_text n v h.values all found, tt)

next_text : (rows : List QueryableRow) (to : ToGets) (does : ToValues) (number : Option ℕ) (text : Option (List ℕ)) (h : Handing) → IfSome text IsUtf8 → AreText h.values
    → AreText (handing_next rows to does number text h).values
next_text rows (Asks q) does (Some number) (Some text) h utf8 all = handed_text (get_request number text q) (met_by_get rows q text) h utf8 all
next_text rows (Asks q) does None text h utf8 all = all
next_text rows (Asks q) does (Some number) None h utf8 all = all
next_text rows NoGet NoValue number text h utf8 all = all
next_text rows NoGet (Requested request) number (Some text) h utf8 all = handed_text (network_request text request) (met_by_request rows request text) h utf8 all
next_text rows NoGet (Requested request) number None h utf8 all = all
next_text rows NoGet (AnswersBy value body quality) number text h utf8 all = all
next_text rows NoGet (AnswersError value error) number text h utf8 all = all
next_text rows NoGet (SharesValue value) number text h utf8 all = shared_text value (value_at value h.values) h refl all
next_text rows NoGet (GivesBack value) number text h utf8 all = all_filter (λ (v : QueryValue). IsUtf8 v.row.key.text) (λ v. not (v.value == value)) h.values all
next_text rows (AsksBy id q) does number text h utf8 all = all
next_text rows (Answers response) does number text h utf8 all = all
next_text rows (EndsSide n) does number text h utf8 all = all
next_text rows (Reaches moment) does number text h utf8 all = all
next_text rows (EndsQuerier id) does number text h utf8 all = all
next_text rows (Cancels token) does number text h utf8 all = all
next_text rows EndsAll does number text h utf8 all = all

-- so behind each history
pub values_spelled : (s : Settings) (h : List Event) → AreUtf8 (past_of s h) → AreText (world_after s h).handing.values
values_spelled s h =
    along s (λ (w : World) (past : List Entry). AreUtf8 past → AreText w.handing.values) (λ utf8. tt)
    (λ w past x c m k ih utf8.
    subst (λ (h : Handing). AreText h.values) (sym m.gets.handing)
    (next_text w.entities.queryables (to_gets_at w x.event) (row_of x.event).to_values x.number x.text w.handing utf8.0 (ih utf8.1))) h

-- and what an event's messages name is UTF-8
pub spoken_spelled : (values : List QueryValue) (to : ToValues) (text : Option (List ℕ)) → AreText values → IfSome text IsUtf8 → IfSome (spoken_by values to text) IsUtf8
spoken_spelled values (AnswersError value error) text all utf8 = go (value_at value values) refl
  where
    go : (o : Option QueryValue) → value_at value values ≡ o → IfSome (option_map (λ (v : QueryValue). v.row.key.text) o) IsUtf8
    go None found = tt
    go (Some v) found = found_text value v values all found
spoken_spelled values NoValue text all utf8 = utf8
spoken_spelled values to text all utf8 = utf8
