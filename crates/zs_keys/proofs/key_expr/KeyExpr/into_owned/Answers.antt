use Rattle.zs_keys.proofs.key_expr.KeyExpr.into_owned.Goals as goal

pub invariant_of-result : goal.invariant_of-result
invariant_of-result c = rw c.in_ok-into_shared.ensures c.self.invariant
