use Rattle.std.proofs.Common.{refl}
use Rattle.zs_keys.specs.Key.{text_refusal, join_text}
use Rattle.zs_keys.proofs.CanonicalForm.{join-canonical}
use Rattle.zs_keys.proofs.DeclarationLemmas.{only_memory}
use Rattle.zs_keys.proofs.key_expr.KeyExpr.div.Goals as goal

pub returns-clause-err : goal.returns-clause-err
returns-clause-err c =
    only_memory c.join.result (text_refusal (join_text c.args.self.now.text c.as_str.result.now)) c.join.ensures.err
    (rw (
      c.as_str.ensures.text,
      join-canonical c.args.self.now.text c.args.rhs.now.text c.as_str-canonical.ensures.canonical c.as_str.ensures.canonical,
    ) refl)
