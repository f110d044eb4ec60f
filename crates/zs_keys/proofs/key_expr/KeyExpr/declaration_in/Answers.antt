use Rattle.std.proofs.Common.{true, false, sym}
use Rattle.std.proofs.lemmas.Str.Pattern.{starts_text}
use Rattle.zs_keys.proofs.DeclarationLemmas.{kept-so, kept-not}
use Rattle.zs_keys.proofs.key_expr.KeyExpr.declaration_in.Goals as goal

pub split_at-requires : goal.split_at-requires
split_at-requires c =
    rw c.as_str.ensures.text (c.in-Some.ensures.prefix c.in-Some.declared (sym c.in-Some.ensures.declaration))

pub returns-then-not-starts_with-clause-kept : goal.returns-then-not-starts_with-clause-kept
returns-then-not-starts_with-clause-kept c =
    sym (kept-not c.args.self.now.text c.args.text.now c.in-Some.declared c.args.self.now.declaration
    (sym c.in-Some.ensures.declaration)
    (sym (rw (c.split_at.ensures.front, c.as_str.ensures.text) at
    (starts_text false c.split_at.result.0.now c.args.text.now c.if-not-starts_with.ensures.cases))))

pub returns-clause-kept : goal.returns-clause-kept
returns-clause-kept c =
    sym (kept-so c.args.self.now.text c.args.text.now c.in-Some.declared c.args.self.now.declaration
    (sym c.in-Some.ensures.declaration)
    (sym (rw (c.split_at.ensures.front, c.as_str.ensures.text) at
    (starts_text true c.split_at.result.0.now c.args.text.now c.if-not-starts_with.ensures.cases))))
