use Rattle.std.proofs.Common.{ap, ◌∙◌}
use Rattle.zs_cell.proofs.session.placed.Goals as goal

pub invariant_of-result : goal.invariant_of-result
invariant_of-result g c = (
  ap (λ inner. inner.zid) c.in-Ok.ensures.ok ∙ c.requires.zid,
  ap (λ inner. inner.entity) c.in-Ok.ensures.ok ∙ c.requires.entity,
  ap (λ inner. inner.tag) c.in-Ok.ensures.ok ∙ c.requires.tag,
)

pub returns-in-Ok-clause-zid : goal.returns-in-Ok-clause-zid
returns-in-Ok-clause-zid g c = ap (λ inner. inner.zid) c.in-Ok.ensures.ok

pub returns-in-Ok-clause-entity : goal.returns-in-Ok-clause-entity
returns-in-Ok-clause-entity g c = ap (λ inner. inner.entity) c.in-Ok.ensures.ok

pub returns-in-Ok-clause-tag : goal.returns-in-Ok-clause-tag
returns-in-Ok-clause-tag g c = ap (λ inner. inner.tag) c.in-Ok.ensures.ok
