use Rattle.zs_cell.proofs.session.Session.over.Goals as goal

pub placed-requires-clause-zid : goal.placed-requires-clause-zid
placed-requires-clause-zid g c = c.requires.zid

pub placed-requires-clause-entity : goal.placed-requires-clause-entity
placed-requires-clause-entity g c = c.requires.entity

pub placed-requires-clause-tag : goal.placed-requires-clause-tag
placed-requires-clause-tag g c = c.requires.tag

pub returns-in-Ok-clause-zid : goal.returns-in-Ok-clause-zid
returns-in-Ok-clause-zid g c = c.placed.ensures.zid

pub returns-in-Ok-clause-entity : goal.returns-in-Ok-clause-entity
returns-in-Ok-clause-entity g c = c.placed.ensures.entity

pub returns-in-Ok-clause-tag : goal.returns-in-Ok-clause-tag
returns-in-Ok-clause-tag g c = c.placed.ensures.tag
