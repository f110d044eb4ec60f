use Rattle.std.proofs.Common.{arith}
use Rattle.zs_tree.specs.Blocks.{flat, left_of}
use Rattle.zs_tree.proofs.MatchLemmas.{least_run, least_all}
use Rattle.zs_tree.proofs.least.least_id.Goals as goal

pub loop-run-preserved : goal.loop-run-preserved
loop-run-preserved g c = (
  least_run c.args.asked.now c.args.after (flat c.args.blocks.now) (left_of c.loop-run.rest) c.in-Some.run'.now (left_of c.in-Some.behind) c.loop-run.least
      c.first_of_run.result c.lesser-least.result c.loop-run.invariant.0 c.in-Some.ensures.0 c.first_of_run.ensures c.lesser-least.ensures,
  omega (arith, c.loop-run.invariant.1, c.tick.ensures),
  c.in-Some.ensures.1,
)

pub returns-clause-least : goal.returns-clause-least
returns-clause-least g c =
    least_all c.args.asked.now c.args.after (flat c.args.blocks.now) (left_of c.loop-run.rest) c.loop-run.least c.loop-run.invariant.0 c.in_default.ensures
