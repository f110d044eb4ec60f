use Rattle.std.proofs.Common.{IfOk, subst, ◌≡◌}
use Rattle.zs_books.specs.Callers.{CallerSeen}
use Rattle.zs_cell.proofs.session.Session.open.Goals as goal

pub new-requires-clause-valid : goal.new-requires-clause-valid
new-requires-clause-valid g c = c.requires.valid

pub new-requires-clause-settings : goal.new-requires-clause-settings
new-requires-clause-settings g c = c.requires.settings

pub new-requires-clause-entries : goal.new-requires-clause-entries
new-requires-clause-entries g c = c.requires.entries

pub new-requires-clause-sent : goal.new-requires-clause-sent
new-requires-clause-sent g c = c.requires.sent

pub new-requires-clause-drained : goal.new-requires-clause-drained
new-requires-clause-drained g c = c.requires.drained

pub shared_by-requires : goal.shared_by-requires
shared_by-requires g c = c.requires.settings

pub returns-in-Ok-clause-zid : goal.returns-in-Ok-clause-zid
returns-in-Ok-clause-zid g c = c.shared_by.ensures.zid

pub returns-in-Ok-clause-entity : goal.returns-in-Ok-clause-entity
returns-in-Ok-clause-entity g c = c.shared_by.ensures.entity

pub returns-in-Ok-clause-tag : goal.returns-in-Ok-clause-tag
returns-in-Ok-clause-tag g c = c.shared_by.ensures.tag

pub returns-in-Ok-clause-caller : goal.returns-in-Ok-clause-caller
returns-in-Ok-clause-caller g c = subst (λ (x : CallerSeen _). IfOk c.shared_by.result (λ made. made.1 ≡ x)) c.in-Ok.ensures.caller c.shared_by.ensures.caller
