use Rattle.std.proofs.Common.{◌≡◌, Some, None, sym, refl, ap, ◌∙◌}
use Rattle.std.specs.Prelude.{List, map}
use Rattle.std.specs.Option.{option_map}
use Rattle.zs_sample.specs.Reply.{Replied}
use Rattle.zs_query.specs.Marks.{mark_of, mark_at}
use Rattle.zs_query.proofs.ByKey.{kept_at_key}
use Rattle.zs_query.proofs.kept_replies.KeptReplies.lets_pass.Goals as goal

pub returns-in-Some : goal.returns-in-Some
returns-in-Some c =
    let key = c.args.sample.now.key_expr.text in
    let found = rw c.key_expr.ensures at c.in-Some.ensures.value in
    let at : mark_at key (map mark_of c.args.self.now) ≡ Some (mark_of c.in-Some.last.now) = ap (λ (rs : List Replied). mark_at key (map mark_of rs)) (sym c.self.view_is) ∙ (kept_at_key key c.self.inside.by_key.entries c.self.invariant ∙ ap (option_map mark_of) (sym found)) in
    rw (at, c.is_below.ensures, c.timestamp.ensures, c.timestamp_of.ensures) refl

pub returns-in-None : goal.returns-in-None
returns-in-None c =
    let key = c.args.sample.now.key_expr.text in
    let found = rw c.key_expr.ensures at c.in-None.ensures.value in
    let at : mark_at key (map mark_of c.args.self.now) ≡ None = ap (λ (rs : List Replied). mark_at key (map mark_of rs)) (sym c.self.view_is) ∙ (kept_at_key key c.self.inside.by_key.entries c.self.invariant ∙ ap (option_map mark_of) (sym found)) in
    rw at refl
