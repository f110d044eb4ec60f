use Rattle.std.proofs.Common.{sym}
use Rattle.zs_tree.proofs.RunLemmas.{not_before}
use Rattle.zs_tree.proofs.runs.lies.Goals as goal

pub returns-in_default-matches : goal.returns-in_default-matches
returns-in_default-matches c =
    let cases = c.in-Some.ensures.cases in
    let h = not_before c.in-Below.chunk.now c.in-Some.rest.now c.beside_chunk.result c.beside_chunk.ensures c.in_default-matches.not-Before in
    let k = rw cases.1 at h in
    rw (c.in-Below.is, cases.0) k
