-- What a view counts.
use Rattle.std.specs.Prelude.{◌≡◌, ℕ, ◌+◌, ◌-◌, List, [], ◌∷◌, Option, None, Some, bytes_eq, if◌then◌else◌}
use Rattle.zs_wire.specs.declared.sample_kind.SampleKind.{SampleKind}
use Rattle.zs_wire.specs.declared.sample_kind.SampleKind.TheVariants.{Put, Delete}
use Rattle.zs_sample.specs.declared.sample_fields.SampleFields.{SampleFields}
use Rattle.zs_members.specs.Names.{name_in}
use Rattle.zs_members.specs.Members.{Member, NamesAscend, AreThere, count_of, all_told}

-- a put is one more, a deletion one less; nothing is less than none
abbrev pub counted : SampleKind → ℕ → ℕ
counted Put count = count + 1
counted Delete count = count - 1

-- a sample on the key of a name changes the count of that name alone, any other key none
abbrev pub count_behind : List ℕ → Option (List ℕ) → SampleKind → ℕ → ℕ
count_behind name None kind count = count
count_behind name (Some sampled) kind count = if bytes_eq name sampled then counted kind count else count

-- the count of a name behind samples, the last one first
abbrev pub count_remote : List ℕ → List SampleFields → ℕ
count_remote name [] = 0
count_remote name (sample ∷ earlier) = count_behind name (name_in sample.key_expr.text) sample.kind (count_remote name earlier)

-- a view behind samples has these counts; its names ascend, and each of them is there
pub record Counts (samples : List SampleFields) (members : List Member) : Type 0 where
  pub ascend : NamesAscend members
  pub there : AreThere members
  pub counts : (name : List ℕ) → count_of name members ≡ count_remote name samples

abbrev pub ViewsCount : Type 0
ViewsCount = (samples : List SampleFields) → Counts samples (all_told samples)

-- a view is known by its counts
abbrev pub SameCountsSameView : Type 0
SameCountsSameView =
    (xs ys : List Member) → NamesAscend xs → NamesAscend ys → AreThere xs → AreThere ys → ((name : List ℕ) → count_of name xs ≡ count_of name ys) → xs ≡ ys
