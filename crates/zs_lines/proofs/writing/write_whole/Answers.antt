use Rattle.std.proofs.Common.{◌∙◌, ◌++◌, take, arith}
use Rattle.zs_lines.proofs.Pieces.{both-pieces, cut-again}
use Rattle.zs_lines.proofs.writing.write_whole.Goals as goal

pub loop-rest-preserved : goal.loop-rest-preserved
loop-rest-preserved g c =
    let put = c.loop-rest.invariant.0 in
    let rest = c.loop-rest.rest.now in
    let count = c.in-Ok.count in (
      (
        put.0 ++ take count rest,
        cut-again c.args.piece.now put.0 rest c.behind-rest.result.now count put.1 c.behind-rest.ensures,
        both-pieces _ _ _ put.0 (take count rest) put.2 c.in-Ok.ensures.taken,
      ),
      c.in-Ok.ensures.calm (omega (arith, c.if-count-eq0.false)) ∙ c.loop-rest.invariant.1,
    )
