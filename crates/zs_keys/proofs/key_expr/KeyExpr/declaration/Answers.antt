use Rattle.zs_keys.proofs.key_expr.KeyExpr.declaration.Goals as goal

pub returns-clause-prefix : goal.returns-clause-prefix
returns-clause-prefix c = rw (← c.self.view_is) c.self.invariant.1
