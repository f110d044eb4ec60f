use Rattle.std.proofs.Common.{ℕ}
use Rattle.zs_keys.specs.Units.{units_left}
use Rattle.zs_keys.proofs.InclusionLemmas.{none_wild}
use Rattle.zs_keys.proofs.inclusion.chunk_includes.Goals as goal

pub fits_list-requires : goal.fits_list-requires
fits_list-requires c = none_wild {X = ℕ} (units_left c.of-2.result)
