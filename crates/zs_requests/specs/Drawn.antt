-- Query values as they were drawn, and what was given back since: by these alone it is told which are unfinished.
use Rattle.std.specs.Prelude.{◌≡◌, ◌<◌, ℕ, ◌==◌, Bool, false, not, List, [], ◌∷◌, ◌++◌, map, filter}
use Rattle.std.specs.List.{list_any}
use Rattle.zs_requests.specs.declared.request_row.RequestRow.{RequestRow}
use Rattle.zs_requests.specs.declared.query_value.QueryValue.{QueryValue}
use Rattle.zs_requests.specs.Unfinished.{without_value}
use Rattle.zs_requests.specs.RequestTable.{Handing, with_handed, with_shared, with_finished}

-- what is heard of query values: that these were drawn, or that the one of a number was given back
pub data ValueNews : Type 0 where
  Drew : (values : List QueryValue) → ValueNews
  GaveBack : (number : ℕ) → ValueNews

-- a query value as it was drawn, and the numbers that were given back since
pub record Drawn : Type 0 where
  pub value : QueryValue
  pub since : List ℕ

-- a value that was drawn just now
abbrev pub just_drawn : QueryValue → Drawn
just_drawn value = record { value = value; since = [] }

-- a value after a number was given back
abbrev pub giving_back : ℕ → Drawn → Drawn
giving_back number d = record d { since = number ∷ d.since }

-- all values that were ever drawn, the first one first, by what was heard, the newest first
abbrev pub drawn : List ValueNews → List Drawn
drawn [] = []
drawn (Drew values ∷ heard) = drawn heard ++ map just_drawn values
drawn (GaveBack number ∷ heard) = map (giving_back number) (drawn heard)

-- a value is unfinished while its number was not given back since it was drawn
abbrev pub is_unfinished : Drawn → Bool
is_unfinished d = not (list_any (λ number. d.value.value == number) d.since)

-- the unfinished values
abbrev pub unfinished : List ValueNews → List QueryValue
unfinished heard = map (λ d. d.value) (filter is_unfinished (drawn heard))

-- what is heard makes this of the table of unfinished values
abbrev pub values_after : ValueNews → List QueryValue → List QueryValue
values_after (Drew more) values = values ++ more
values_after (GaveBack number) values = without_value number values

-- the table of unfinished values follows what is heard
abbrev pub ValuesAreTold : Type 0
ValuesAreTold = (news : ValueNews) (heard : List ValueNews) → unfinished (news ∷ heard) ≡ values_after news (unfinished heard)

-- whether a value of that request is unfinished
abbrev pub has_value : ℕ → Handing → Bool
has_value request h = list_any (λ v. v.request == request) h.values

-- a request has no unfinished value, whatever happens next
pub record HasNoneAfter (request : ℕ) (h : Handing) : Type 0 where
  pub handed : (row : RequestRow) (queryables : List ℕ) → has_value request (with_handed row queryables h) ≡ false
  pub shared : (value : ℕ) → has_value request (with_shared value h) ≡ false
  pub finished : (value : ℕ) → has_value request (with_finished value h) ≡ false

-- a request that was handed out, and of which no value is unfinished, never has one again
abbrev pub EndedRequestsStay : Type 0
EndedRequestsStay = (request : ℕ) (h : Handing) → request < h.handed → has_value request h ≡ false → HasNoneAfter request h
