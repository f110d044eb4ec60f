use Rattle.zs_event_lines.proofs.messages.append_net.Goals as goal

pub returns-in-UndeclareKeyExpr : goal.returns-in-UndeclareKeyExpr
returns-in-UndeclareKeyExpr c = rw c.in-UndeclareKeyExpr.is c.append_line.ensures

pub returns-in-DeclareQueryable : goal.returns-in-DeclareQueryable
returns-in-DeclareQueryable c = rw c.in-DeclareQueryable.is c.append_queryable.ensures

pub returns-in-UndeclareQueryable : goal.returns-in-UndeclareQueryable
returns-in-UndeclareQueryable c = rw c.in-UndeclareQueryable.is c.append_number-in-UndeclareQueryable.ensures

pub returns-in-DeclareFinal : goal.returns-in-DeclareFinal
returns-in-DeclareFinal c = rw c.in-DeclareFinal.is c.append_line-in-DeclareFinal.ensures

pub returns-in-Close : goal.returns-in-Close
returns-in-Close c = rw c.in-Close.is c.append_line-in-Close.ensures
