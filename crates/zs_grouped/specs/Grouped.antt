-- The rows of groups under their texts: words that no public contract needs.
use Rattle.std.specs.Prelude.{◌≡◌, ◌==◌, ℕ, true, not, map, filter, List, String, string_bytes}
use Rattle.std.specs.List.{AllByRecursion}
use Rattle.std.specs.BTreeMap.{BTreeMap}
use Rattle.std.specs.BTreeSet.{insert_key}
use Rattle.std.specs.Ordering.{nat_cmp}
use Rattle.zs_grouped.specs.declared.group_row.GroupRow.{GroupRow}
use Rattle.zs_grouped.specs.Groups.{Group, has_members}

-- a group as contracts see it, without the capacity of its text
abbrev pub grouped : {A : Type 0} → String A × GroupRow → Group
grouped e = record { text = string_bytes e.0; number = e.1.number; members = e.1.members.keys }

-- the groups of a map, in the order of their texts
abbrev pub groups_in : {A : Type 0} → BTreeMap (String A) GroupRow → List Group
groups_in rows = map grouped rows.entries

-- a member has joined a row, one has left it, and none has
abbrev pub HasJoined : ℕ → GroupRow → GroupRow → Type 0
HasJoined id old new = (new.number ≡ old.number) × (new.members.keys ≡ insert_key nat_cmp old.members.keys id)

abbrev pub HasLeft : ℕ → GroupRow → GroupRow → Type 0
HasLeft id old new = (new.number ≡ old.number) × (new.members.keys ≡ filter (λ other. not (other == id)) old.members.keys)

abbrev pub IsSame : GroupRow → GroupRow → Type 0
IsSame old new = (new.number ≡ old.number) × (new.members.keys ≡ old.members.keys)

-- each group has members
abbrev pub AreGroups : {A : Type 0} → List (String A × GroupRow) → Type 0
AreGroups rows = AllByRecursion (λ e. has_members (grouped e) ≡ true) rows
