-- A store, and what merging a write makes of it.
use Rattle.std.specs.Prelude.{ℕ, List, [], ◌∷◌, map, Option, None, Some, String, bytes_eq, if◌then◌else◌}
use Rattle.std.specs.Ordering.{nat_cmp, match_ordering}
use Rattle.std.specs.Cmp.Lexicographic.{slice_cmp}
use Rattle.std.specs.List.Sorted.{IsStrictlySortedBy}
use Rattle.std.specs.String.{string_bytes}
use Rattle.zs_store.specs.declared.entry.Entry.{Entry}
use Rattle.zs_store.specs.declared.merged.Merged.{Merged}
use Rattle.zs_store.specs.declared.merged.Merged.TheVariants.{New, Kept, Replaced}
use Rattle.zs_store.specs.Entry.{EntrySeen, seen, is_below, greater, greatest}

-- what is written at a key
pub record Write : Type 0 where
  pub key : List ℕ
  pub entry : EntrySeen

abbrev pub write_of : {A : Type 0} → String A × Entry → Write
write_of pair = record { key = string_bytes pair.0; entry = seen pair.1 }

-- the keys ascend by their bytes, and none stands twice
abbrev pub KeysAscend : List Write → Type 0
KeysAscend writes = IsStrictlySortedBy (slice_cmp nat_cmp) (map (λ w. w.key) writes)

-- what a store has at a key
abbrev pub found : List ℕ → List Write → Option EntrySeen
found key [] = None
found key (w ∷ ws) = if bytes_eq key w.key then Some w.entry else found key ws

-- the greatest entry that was written at a key
abbrev pub best : List ℕ → List Write → Option EntrySeen
best key [] = None
best key (w ∷ ws) = if bytes_eq key w.key then greatest w.entry (best key ws) else best key ws

-- what merging answers, by what stands at the key
abbrev pub outcome : Option EntrySeen → EntrySeen → Merged
outcome None new = New
outcome (Some old) new = if is_below old new then Replaced else Kept

-- a store with one write more: a new key goes where it belongs, and of two entries of a key the greater one stays
abbrev pub merged : Write → List Write → List Write
merged new [] = new ∷ []
merged new (w ∷ ws) =
    match_ordering (slice_cmp nat_cmp new.key w.key)
    (new ∷ w ∷ ws)
    (record { key = w.key; entry = greater w.entry new.entry } ∷ ws)
    (w ∷ merged new ws)

-- a store with a list of writes more, the last one first
abbrev pub joined : List Write → List Write → List Write
joined [] store = store
joined (w ∷ ws) store = merged w (joined ws store)

-- the store that a list of writes leaves
abbrev pub store_of : List Write → List Write
store_of writes = joined writes []
