use Rattle.std.proofs.Common.{ℕ, List}
use Rattle.zs_keys.specs.Segments.{segment_left}
use Rattle.zs_keys.proofs.InclusionLemmas.{none_wild}
use Rattle.zs_keys.proofs.inclusion.segment_includes.Goals as goal

pub fits_list-requires : goal.fits_list-requires
fits_list-requires c = none_wild {X = List ℕ} (segment_left c.of-2.result)
