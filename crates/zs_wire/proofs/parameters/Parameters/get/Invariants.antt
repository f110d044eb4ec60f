use Rattle.std.proofs.Common.{◌≡◌, find}
use Rattle.std.specs.Option.{option_map}
use Rattle.zs_wire.specs.Parameters.{has_name, value_of}
use Rattle.zs_wire.proofs.parameters.Parameters.get.Given as goal

-- the first pair with the name is among those that are left
abbrev pub invariant-pairs : goal.invariant-pairs
invariant-pairs l = option_map (λ pair. pair.1) (find (has_name l.name) l.found-iterator) ≡ value_of l.name l.self
