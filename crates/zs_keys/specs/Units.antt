-- What a walk over the units of a chunk still has before it.
use Rattle.std.specs.Prelude.{ℕ, List}
use Rattle.zs_keys.specs.Matching.{units}
use Rattle.zs_keys.specs.declared.units.Units.{Units}

-- the units that are left
abbrev pub units_left : Units → List ℕ
units_left u = units u.rest.now
