use Rattle.zs_tree.proofs.Cut.{chunks_of_cut, chunks_of_whole}
use Rattle.zs_tree.proofs.chunks.Chunks.next_chunk.Goals as goal

pub returns-in-Some : goal.returns-in-Some
returns-in-Some c = rw c.in_ok-text.was (chunks_of_cut _ _ c.split_once.ensures.cases _ c.in-Some.is)

pub returns-in-None : goal.returns-in-None
returns-in-None c = rw c.in_ok-text.was (chunks_of_whole _ _ c.split_once.ensures.cases c.in-None.is)
