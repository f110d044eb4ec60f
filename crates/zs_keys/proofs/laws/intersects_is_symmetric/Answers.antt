use Rattle.zs_keys.specs.Text.{chunks, is_double_star}
use Rattle.zs_keys.specs.Matching.{is_free, chunk_meets}
use Rattle.zs_keys.proofs.Symmetry.{meets_comm, chunk_meets_comm}
use Rattle.zs_keys.proofs.CutLemmas.{double_star-free}
use Rattle.zs_keys.proofs.laws.intersects_is_symmetric.Goals as goal

pub returns : goal.returns
returns c =
    meets_comm is_double_star is_free chunk_meets chunk_meets_comm double_star-free (chunks c.args.left.now) (chunks c.args.right.now)
