use Rattle.zs_keys.proofs.key_expr.KeyExpr.borrowing_clone.Goals as goal

pub invariant_of-result : goal.invariant_of-result
invariant_of-result c = rw c.lend.ensures c.self.invariant
