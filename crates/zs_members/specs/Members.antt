-- Who is in a group, and how often.
use Rattle.std.specs.Prelude.{◌≡◌, ℕ, ◌+◌, ◌-◌, ◌<◌, nat_le, List, [], ◌∷◌, map, Option, None, Some, String, bytes_eq, if◌then◌else◌}
use Rattle.std.specs.String.{string_bytes}
use Rattle.std.specs.Ordering.{nat_cmp, match_ordering}
use Rattle.std.specs.Cmp.Lexicographic.{slice_cmp}
use Rattle.std.specs.List.{AllByRecursion}
use Rattle.std.specs.List.Sorted.{IsStrictlySortedBy}
use Rattle.zs_wire.specs.declared.sample_kind.SampleKind.{SampleKind}
use Rattle.zs_wire.specs.declared.sample_kind.SampleKind.TheVariants.{Put, Delete}
use Rattle.zs_sample.specs.declared.sample_fields.SampleFields.{SampleFields}
use Rattle.zs_members.specs.Names.{name_in}

-- a name, and how often it is there
pub record Member : Type 0 where
  pub name : List ℕ
  pub count : ℕ

abbrev pub member_of : {A : Type 0} → String A × ℕ → Member
member_of pair = record { name = string_bytes pair.0; count = pair.1 }

-- the names ascend by their bytes, and none stands twice
abbrev pub NamesAscend : List Member → Type 0
NamesAscend members = IsStrictlySortedBy (slice_cmp nat_cmp) (map (λ m. m.name) members)

-- each of them is there
abbrev pub AreThere : List Member → Type 0
AreThere members = AllByRecursion (λ m. 0 < m.count) members

-- how often a name is there
abbrev pub count_of : List ℕ → List Member → ℕ
count_of name [] = 0
count_of name (m ∷ ms) = if bytes_eq name m.name then m.count else count_of name ms

-- with one of that name more
abbrev pub raised : List ℕ → List Member → List Member
raised name [] = record { name = name; count = 1 } ∷ []
raised name (m ∷ ms) =
    match_ordering (slice_cmp nat_cmp name m.name)
    (record { name = name; count = 1 } ∷ m ∷ ms)
    (record { name = m.name; count = m.count + 1 } ∷ ms)
    (m ∷ raised name ms)

-- with one of that name less, where there is one; the last one takes the name away
abbrev pub lowered : List ℕ → List Member → List Member
lowered name [] = []
lowered name (m ∷ ms) =
    if bytes_eq name m.name then (if nat_le m.count 1 then ms else record { name = m.name; count = m.count - 1 } ∷ ms)
    else m ∷ lowered name ms

-- behind a sample of that kind on a key that stands for that name, if it does for one
abbrev pub changed : Option (List ℕ) → SampleKind → List Member → List Member
changed None kind members = members
changed (Some name) Put members = raised name members
changed (Some name) Delete members = lowered name members

-- behind a sample
abbrev pub told : SampleFields → List Member → List Member
told sample members = changed (name_in sample.key_expr.text) sample.kind members

-- behind samples, the last one first
abbrev pub all_told : List SampleFields → List Member
all_told [] = []
all_told (sample ∷ earlier) = told sample (all_told earlier)
