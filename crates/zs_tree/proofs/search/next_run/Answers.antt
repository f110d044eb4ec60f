use Rattle.std.proofs.Common.{◌≡◌, ◌++◌, sym, ap, ◌∙◌}
use Rattle.std.specs.Prelude.{filter}
use Rattle.zs_tree.specs.Blocks.{left_of, flat}
use Rattle.zs_tree.specs.Entries.{hits}
use Rattle.zs_tree.specs.declared.runs.Bound.TheVariants.{Closed}
use Rattle.zs_tree.proofs.HitLemmas.{begins_closed, gathered_run, gathered_on}
use Rattle.zs_tree.proofs.Skipping.{enters_is, enters_all, enters_order, enters_begins}
use Rattle.zs_tree.proofs.search.next_run.Goals as goal

pub split-requires-clause-order : goal.split-requires-clause-order
split-requires-clause-order c = enters_order c.in-Some.first.now (left_of c.loop-first.rest) c.in-Some.entered c.in-Some.ensures c.loop-first.invariant.0.order

pub split-requires-clause-first : goal.split-requires-clause-first
split-requires-clause-first c =
    rw c.deref.ensures.value (enters_begins c.in-Some.first.now.code.items Closed c.in-Some.first.now (left_of c.loop-first.rest) c.in-Some.entered c.in-Some.ensures (begins_closed c.in-Some.first.now))

pub split-requires-clause-filled : goal.split-requires-clause-filled
split-requires-clause-filled c = c.in-Some.ensures.filled

pub returns-in-Meets : goal.returns-in-Meets
returns-in-Meets c =
    let all = left_of c.loop-first.rest in (
      gathered_run c.args.asked.now (left_of c.args.left) all c.in-Some.first.now (c.in-Some.ensures.rest ++ flat c.in-Some.entered.later.now)
          c.split.result.0.now (left_of c.split.result.1) c.deref.result.now c.loop-first.invariant.0
          (enters_is c.in-Some.first.now all c.in-Some.entered c.in-Some.ensures) c.deref.ensures.value
          (sym c.in-Some.ensures.same ∙ c.split.ensures.parts) c.in-Meets.ensures c.split.ensures.run c.split.ensures.some,
      c.split.ensures.filled,
    )

pub skip-rest-requires-clause-order : goal.skip-rest-requires-clause-order
skip-rest-requires-clause-order c = enters_all c.in-Some.first.now (left_of c.loop-first.rest) c.in-Some.entered c.in-Some.ensures c.loop-first.invariant.0.order

pub skip-rest-requires-clause-first : goal.skip-rest-requires-clause-first
skip-rest-requires-clause-first c = enters_begins c.in-Skips.path.now c.in-Skips.bound c.in-Some.first.now (left_of c.loop-first.rest) c.in-Some.entered c.in-Some.ensures c.in-Skips.ensures.here

pub skip-rest-requires-clause-filled : goal.skip-rest-requires-clause-filled
skip-rest-requires-clause-filled c = c.in-Some.ensures.filled

pub loop-first-preserved : goal.loop-first-preserved
loop-first-preserved c =
    let all = left_of c.loop-first.rest in (
      gathered_on c.args.asked.now (left_of c.args.left) all c.in-Some.first.now (c.in-Some.ensures.rest ++ flat c.in-Some.entered.later.now)
          c.skip-rest.ensures.left.run (left_of c.skip-rest.result) c.in-Skips.path.now c.in-Skips.bound c.loop-first.invariant.0
          (enters_is c.in-Some.first.now all c.in-Some.entered c.in-Some.ensures)
          (sym c.in-Some.ensures.same ∙ c.skip-rest.ensures.left.parts) c.in-Skips.ensures c.skip-rest.ensures.left.there,
      c.skip-rest.ensures.filled,
    )

pub returns : goal.returns
returns c = c.loop-first.invariant.0.same ∙ ap (filter (hits c.args.asked.now)) c.in_default.ensures
