-- The tables of declared keys: how many hold each number, and what is left where one is given back.
use Rattle.std.specs.Prelude.{ℕ, ◌+◌, ◌-◌, Bool, ◌==◌, nat_lt, nat_le, not, List, [], ◌∷◌, ◌++◌, map, filter, if◌then◌else◌}
use Rattle.std.specs.List.{list_any}
use Rattle.zs_subscriptions.specs.Numbers.{NumberedKey, without}
use Rattle.zs_entity_tables.specs.declared.declared_key.KeyHolders.{KeyHolders}

-- how many hold a number
abbrev pub holders_of : ℕ → List KeyHolders → ℕ
holders_of number [] = 0
holders_of number (row ∷ rows) = if row.number == number then row.count else holders_of number rows

-- whether anyone holds a number
abbrev pub has_holder : ℕ → List KeyHolders → Bool
has_holder number rows = list_any (λ row. row.number == number) rows

-- the same row with one holder more, and with one less
abbrev pub one_more : ℕ → KeyHolders → KeyHolders
one_more number row = if row.number == number then record row { count = row.count + 1 } else row

abbrev pub one_less : ℕ → KeyHolders → KeyHolders
one_less number row = if row.number == number then record row { count = row.count - 1 } else row

-- a number with one holder more
abbrev pub raised : ℕ → List KeyHolders → List KeyHolders
raised number rows = if has_holder number rows then map (one_more number) rows else rows ++ record { number = number; count = 1 } ∷ []

-- the count that no more holders fit in
abbrev pub last_count : ℕ
last_count = 18446744073709551615

-- whether the count of a number's holders can still rise
abbrev pub can_rise : ℕ → List KeyHolders → Bool
can_rise number rows = nat_lt (holders_of number rows) last_count

-- whether no more than one holds a number
abbrev pub is_last : ℕ → List KeyHolders → Bool
is_last number rows = nat_le (holders_of number rows) 1

-- a number with one holder less, and without any where that was the last
abbrev pub lowered : ℕ → List KeyHolders → List KeyHolders
lowered number rows = if is_last number rows then filter (λ row. not (row.number == number)) rows else map (one_less number) rows

-- the numbers that stand for a key still where one of this number is given back, given how many held each
abbrev pub local_resources_left : ℕ → List KeyHolders → List NumberedKey → List NumberedKey
local_resources_left number holders rows = if is_last number holders then without number rows else rows
