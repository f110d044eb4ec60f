-- What a search for an inclusion has left: words that no public contract needs.
use Rattle.std.specs.Prelude.{ℕ, List}
use Rattle.zs_keys.specs.Units.{units_left}
use Rattle.zs_keys.specs.Segments.{segment_left}
use Rattle.zs_keys.specs.declared.inclusion.PlainUnits.{PlainUnits}
use Rattle.zs_keys.specs.declared.inclusion.PlainSegment.{PlainSegment}

-- the units that are left
abbrev pub plain_units_left : PlainUnits → List ℕ
plain_units_left u = units_left u.units

-- the chunks that are left, up to the next verbatim one
abbrev pub plain_segment_left : PlainSegment → List (List ℕ)
plain_segment_left s = segment_left s.segment
