use Rattle.std.proofs.Common.{◌∙◌, ℕ, ap}
use Rattle.zs_cell.specs.Works.{returned}
use Rattle.zs_cell.proofs.Further.{adds_either, adds_more, no_cons}
use Rattle.zs_cell.proofs.session.Session.give_up.Goals as goal

pub loop-preserved : goal.loop-preserved
loop-preserved g c = (
  tt,
  tt,
  adds_more c.loop.invariant.2 (adds_either _ c.finish_into.ensures),
  λ none.
      absurd (no_cons (c.in-Some-next.ensures.first ∙ (ap (λ (t : ℕ). returned t c.args.asks c.loop.left) c.tag.ensures.session ∙ (c.loop.invariant.3 none).0))),
)
