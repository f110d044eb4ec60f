use Rattle.std.proofs.Common.{refl, ap}
use Rattle.zs_core.specs.Types.{Settings}
use Rattle.zs_cell.proofs.session.Session.shared_by.Goals as goal

pub over-requires-clause-zid : goal.over-requires-clause-zid
over-requires-clause-zid g c = ap (λ (s : Settings). s.zid) c.requires

pub over-requires-clause-entity : goal.over-requires-clause-entity
over-requires-clause-entity g c = ap (λ (s : Settings). s.entity_start) c.requires

pub over-requires-clause-tag : goal.over-requires-clause-tag
over-requires-clause-tag g c = ap (λ (s : Settings). s.tag) c.requires

pub returns-in-Ok-clause-zid : goal.returns-in-Ok-clause-zid
returns-in-Ok-clause-zid g c = c.in-Ok.ensures.zid

pub returns-in-Ok-clause-entity : goal.returns-in-Ok-clause-entity
returns-in-Ok-clause-entity g c = c.in-Ok.ensures.entity

pub returns-in-Ok-clause-tag : goal.returns-in-Ok-clause-tag
returns-in-Ok-clause-tag g c = c.in-Ok.ensures.tag

pub returns-in-Ok-clause-caller : goal.returns-in-Ok-clause-caller
returns-in-Ok-clause-caller g c = refl
