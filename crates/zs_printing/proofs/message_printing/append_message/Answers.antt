use Rattle.zs_printing.proofs.message_printing.append_message.Goals as goal

pub returns-in-UndeclareKeyExpr : goal.returns-in-UndeclareKeyExpr
returns-in-UndeclareKeyExpr c =
    rw c.in-UndeclareKeyExpr.is (rw c.from-in-UndeclareKeyExpr.ensures at c.append_numbered.ensures)

pub returns-in-UndeclareQueryable : goal.returns-in-UndeclareQueryable
returns-in-UndeclareQueryable c = rw c.in-UndeclareQueryable.is c.append_numbered-in-UndeclareQueryable.ensures

pub returns-in-DeclareFinal : goal.returns-in-DeclareFinal
returns-in-DeclareFinal c = rw c.in-DeclareFinal.is c.append_asked.ensures

pub returns-in-ResponseFinal : goal.returns-in-ResponseFinal
returns-in-ResponseFinal c = rw c.in-ResponseFinal.is c.append_numbered-in-ResponseFinal.ensures
