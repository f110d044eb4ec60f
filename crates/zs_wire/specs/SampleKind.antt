use Rattle.std.specs.Prelude.{ℕ, ◌==◌, if◌then◌else◌, List, Result, Ok, Err, codes}
use Rattle.zs_wire.specs.declared.sample_kind.SampleKind.{SampleKind}
use Rattle.zs_wire.specs.declared.sample_kind.SampleKind.TheVariants.{Put, Delete}

-- the kind that a number stands for: any other number comes back
abbrev pub kind_of : ℕ → Result SampleKind ℕ
kind_of number =
    if number == 0 then Ok Put else
    if number == 1 then Ok Delete else Err number

-- what a kind prints
abbrev pub name_of : SampleKind → List ℕ
name_of Put = codes "PUT"
name_of Delete = codes "DELETE"
