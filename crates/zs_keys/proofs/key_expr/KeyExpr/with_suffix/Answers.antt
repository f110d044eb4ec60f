use Rattle.std.proofs.Common.{sym, ◌∙◌}
use Rattle.zs_keys.proofs.Boundaries.{boundary-append}
use Rattle.zs_keys.proofs.key_expr.KeyExpr.with_suffix.Goals as goal

pub of_parts-requires : goal.of_parts-requires
of_parts-requires c =
    rw (c.in_ok-text.ensures, c.as_str.ensures.text) (λ x is.
    boundary-append _ _ _ (rw c.as_str.ensures.text at c.as_str.utf8) c.utf8.suffix
    (c.declaration.ensures.prefix x (sym c.declaration.ensures.declaration ∙ is)))
