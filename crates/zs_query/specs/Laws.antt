-- Laws of the definitions, by which a reader may check them.
use Rattle.std.specs.Prelude.{◌≡◌, ◌⊎◌, ℕ, ◌<◌, ◌++◌, Bool, true, false, List, [], ◌∷◌, map, if◌then◌else◌}
use Rattle.std.specs.List.{AllByRecursion}
use Rattle.zs_wire.specs.declared.request.ConsolidationMode.{ConsolidationMode}
use Rattle.zs_wire.specs.declared.request.ConsolidationMode.TheVariants as by
use Rattle.zs_sample.specs.Reply.{Replied}
use Rattle.zs_query.specs.declared.get_row.GetRow.{GetRow}
use Rattle.zs_query.specs.declared.open_get.OpenGet.{OpenGet}
use Rattle.zs_requests.specs.declared.query_value.QueryValue.{QueryValue}
use Rattle.zs_query.specs.declared.outcome.Peek.{Peek}
use Rattle.zs_query.specs.declared.outcome.Peek.TheVariants as peek
use Rattle.zs_query.specs.Ascending.{placed}
use Rattle.zs_query.specs.Marks.{Mark, mark_of, key_of}
use Rattle.zs_query.specs.Kept.{same_key, is_older, passes_all, firsts, kept, last_passing}
use Rattle.zs_query.specs.Gets.{fresh, takes_key, peek_get, replied}

-- what is kept has for each key the last reply that passes
abbrev pub KeptIsLastPassing : Type 0
KeptIsLastPassing = (replies : List Replied) → kept replies ≡ map (last_passing replies) (firsts replies)

-- a reply of a list
abbrev pub IsIn : List Replied → Replied → Type 0
IsIn [] reply = ⊥
IsIn (r ∷ replies) reply = (reply ≡ r) ⊎ IsIn replies reply

-- the same replies, in any order
abbrev pub AreSame : List Replied → List Replied → Type 0
AreSame replies others = (r : Replied) → (IsIn replies r → IsIn others r) × (IsIn others r → IsIn replies r)

-- two replies on one key, neither of which is older, are the same one
abbrev pub AreApart : List Replied → Type 0
AreApart replies = (a b : Replied) → IsIn replies a → IsIn replies b → same_key a b ≡ true → is_older a b ≡ false → is_older b a ≡ false → a ≡ b

-- where the timestamps of each key differ, the replies that are kept don't depend on the order in which they came
abbrev pub KeptIsFreeOfOrder : Type 0
KeptIsFreeOfOrder = (replies others : List Replied) → AreSame replies others → AreApart replies → AreSame (kept replies) (kept others)

-- what a get of a mode keeps for its end, of the replies that it has had
abbrev pub kept_in : ConsolidationMode → List Replied → List Replied
kept_in by.Auto replies = []
kept_in by.None replies = []
kept_in by.Monotonic replies = []
kept_in by.Latest replies = kept replies

-- and by what it tells which replies to hand out
abbrev pub passed_in : ConsolidationMode → List Replied → List Mark
passed_in by.Auto replies = []
passed_in by.None replies = []
passed_in by.Monotonic replies = map mark_of (kept replies)
passed_in by.Latest replies = []

-- an open get that has taken these replies
abbrev pub get_after : GetRow → List Replied → OpenGet
get_after row replies = record { row = row; kept = kept_in row.mode replies; passed = passed_in row.mode replies }

-- what a reply comes to in a mode, by whether it passes all before it
abbrev pub peek_in : ConsolidationMode → Bool → Peek
peek_in by.Auto pass = peek.Handed
peek_in by.None pass = peek.Handed
peek_in by.Monotonic pass = if pass then peek.Handed else peek.Dropped
peek_in by.Latest pass = if pass then peek.Kept else peek.Dropped

-- an open get is what its replies make it, and each comes to what all before it say
pub record StandsForReplies (row : GetRow) (replies : List Replied) (reply : Replied) : Type 0 where
  pub outcome : peek_get (get_after row replies) reply ≡ peek_in row.mode (passes_all replies reply)
  pub after : replied reply (get_after row replies) ≡ get_after row (reply ∷ replies)

abbrev pub GetsStandForReplies : Type 0
GetsStandForReplies =
    (row : GetRow) (replies : List Replied) (reply : Replied) → takes_key row (key_of reply) ≡ true → StandsForReplies row replies reply

-- a get whose number is above those of all others stands behind them
abbrev pub OpensLast : Type 0
OpensLast =
    (row : GetRow) (gets : List OpenGet) → AllByRecursion (λ g. g.row.number < row.number) gets
    → placed (λ g. g.row.number) row.number (fresh row ∷ []) gets ≡ gets ++ fresh row ∷ []

-- values whose first number is above those of all others stand behind them
abbrev pub HandsLast : Type 0
HandsLast =
    (first : ℕ) (more values : List QueryValue) → AllByRecursion (λ v. v.value < first) values
    → placed (λ v. v.value) first more values ≡ values ++ more
