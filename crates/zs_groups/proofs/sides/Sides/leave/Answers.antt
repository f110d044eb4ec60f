use Rattle.std.proofs.Common.{ℕ, ap, ◌∙◌, subst}
use Rattle.std.specs.Prelude.{Option, encode_utf8_all}
use Rattle.zs_group_lines.specs.declared.membership.Membership.{Membership}
use Rattle.zs_group_lines.specs.Tokens.{oldest}
use Rattle.zs_groups.specs.Told.{with_left}
use Rattle.zs_groups.specs.Sides.{AreTold, Becomes}
use Rattle.zs_groups.proofs.Steps.{on_ok, member_is}
use Rattle.zs_groups.proofs.sides.Sides.leave.Goals as goal

pub returns : goal.returns
returns c =
    let number = c.args.number in
    let side = c.args.side in
    let key = encode_utf8_all c.args.key.now in
    let new = c.end.new.self in
    on_ok c.end.result (Becomes (λ s t. with_left s number side c.oldest-id.result t) c.args.self.now new) _
    (λ ended s t told.
    subst (λ (id : Option ℕ). AreTold new s (with_left s number side id t))
    (c.oldest-id.ensures ∙ ap (λ (m : Membership). oldest key m.tokens) (member_is side c.args.self.now s t.links told.behind))
    (ended s t told))
    c.end.ensures
