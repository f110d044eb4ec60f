-- Which of the replies to a get are handed out, and which it keeps. Lists of replies have the newest first.
use Rattle.std.specs.Prelude.{ℕ, ◌&&◌, Bool, not, List, [], ◌∷◌, ◌++◌, map, bytes_eq, if◌then◌else◌}
use Rattle.std.specs.List.{list_any}
use Rattle.zs_sample.specs.Reply.{Replied}
use Rattle.zs_query.specs.Marks.{mark_of, key_of, is_below}

-- two replies on one key
abbrev pub same_key : Replied → Replied → Bool
same_key a b = bytes_eq (key_of a) (key_of b)

-- whether a reply is older than another, by their timestamps
abbrev pub is_older : Replied → Replied → Bool
is_older a b = is_below (mark_of a).timestamp (mark_of b).timestamp

-- whether a reply's timestamp is not below that of any reply before it on its key
abbrev pub passes_all : List Replied → Replied → Bool
passes_all older r = not (list_any (λ b. same_key r b && is_older r b) older)

-- the first reply of each key, in the order in which they came
abbrev pub firsts : List Replied → List Replied
firsts [] = []
firsts (r ∷ older) = if list_any (same_key r) older then firsts older else firsts older ++ r ∷ []

-- the last reply of greatest timestamp on the key of a reply, beginning with that one
abbrev pub greatest : List Replied → Replied → Replied
greatest [] first = first
greatest (r ∷ older) first = if same_key r first && not (is_older r (greatest older first)) then r else greatest older first

-- one reply for each key, the last one of greatest timestamp, in the order of the keys' first replies
abbrev pub kept : List Replied → List Replied
kept replies = map (greatest replies) (firsts replies)

-- the last reply on the key of a reply that passes all before it
abbrev pub last_passing : List Replied → Replied → Replied
last_passing [] first = first
last_passing (r ∷ older) first = if same_key r first && passes_all older r then r else last_passing older first

-- the elements with one more, in the place of the first of its key, or behind them all
abbrev pub put : {X : Type 0} → (X → List ℕ) → X → List X → List X
put key new [] = new ∷ []
put key new (x ∷ xs) = if bytes_eq (key new) (key x) then new ∷ xs else x ∷ put key new xs
