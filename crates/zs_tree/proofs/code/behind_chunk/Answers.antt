use Rattle.std.proofs.Common.{◌∙◌, sym}
use Rattle.zs_tree.specs.Code.{mark_of, onto_chunk}
use Rattle.zs_tree.proofs.Codes.{onto_same}
use Rattle.zs_tree.proofs.Beside.{by_one_of}
use Rattle.zs_tree.proofs.code.behind_chunk.Goals as goal

pub returns-in-Within : goal.returns-in-Within
returns-in-Within c =
    λ rest e. onto_same (mark_of c.args.chunk.now) c.args.chunk.now c.in-Within.rest.now rest (sym (rw c.mark_of.ensures at c.in-Within.ensures) ∙ e)

pub returns-in_default : goal.returns-in_default
returns-in_default c =
    let by = rw c.mark_of.ensures at c.beside_chunk.ensures in
    λ rest e. absurd (by_one_of (onto_chunk (mark_of c.args.chunk.now) c.args.chunk.now) c.args.code.now rest c.beside_chunk.result e by c.in_default.not-Within)
