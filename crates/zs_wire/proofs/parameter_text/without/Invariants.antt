use Rattle.std.proofs.Common.{◌≡◌, ◌++◌, string_bytes}
use Rattle.std.specs.List.{flat_map}
use Rattle.zs_wire.specs.Parameters.{other_pairs}
use Rattle.zs_wire.proofs.Joining.{ended, others}
use Rattle.zs_wire.proofs.parameter_text.without.Given as goal

-- what is made already, and the pairs that are left
abbrev pub invariant-pairs : goal.invariant-pairs
invariant-pairs l = string_bytes l.made ++ flat_map ended (others l.name l.other-iterator) ≡ flat_map ended (other_pairs l.name l.text)
