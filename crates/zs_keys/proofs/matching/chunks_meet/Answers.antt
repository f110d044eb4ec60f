use Rattle.zs_keys.proofs.Symmetry.{chunk_meets_comm}
use Rattle.zs_keys.proofs.matching.chunks_meet.Goals as goal

pub matches_list-requires-clause-even : goal.matches_list-requires-clause-even
matches_list-requires-clause-even c = chunk_meets_comm
