use Rattle.zs_keys.proofs.key_expr.KeyExpr.join.Goals as goal

pub of_parts-requires : goal.of_parts-requires
of_parts-requires c = rw c.as_str-3.ensures.value at c.declaration_in-declaration.ensures.prefix
