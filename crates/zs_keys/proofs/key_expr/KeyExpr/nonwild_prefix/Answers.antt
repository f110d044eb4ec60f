use Rattle.zs_keys.proofs.PrefixLemmas.{nonwild-canonical}
use Rattle.zs_keys.proofs.key_expr.KeyExpr.nonwild_prefix.Goals as goal

pub invariant_of-result : goal.invariant_of-result
invariant_of-result c =
    (nonwild-canonical c.as_str.result.now c.in-Some.front.now c.in-Some.ensures (rw c.as_str.ensures c.self.invariant.0), λ x none. cc, c.is_plain.ensures)
