use Rattle.std.proofs.Common.{List, [], ◌∷◌, ap, ◌∙◌, subst}
use Rattle.std.specs.Prelude.{codes}
use Rattle.zs_printing.specs.Printing.{line}
use Rattle.zs_members.specs.Members.{Member}
use Rattle.zs_group_lines.specs.Membership.{view_of}
use Rattle.zs_group_lines.specs.Shown.{view_text}
use Rattle.zs_groups.specs.Told.{letter, with_text}
use Rattle.zs_groups.specs.Sides.{AreTold, Becomes}
use Rattle.zs_groups.proofs.Steps.{on_ok, member_is}
use Rattle.zs_groups.proofs.sides.Sides.show.Goals as goal

pub returns : goal.returns
returns c =
    let number = c.args.number in
    let side = c.args.side in
    let new = c.show_view-shown.new.self in
    on_ok c.show_view-shown.result (Becomes (λ s t. with_text (view_text number (letter side) c.in_ok-view.view) (with_text (line number (codes "ok" ∷ [])) t)) c.args.self.now new) _
    (λ shown s t told.
    subst (λ (view : List Member). AreTold new s (with_text (view_text number (letter side) view) (with_text (line number (codes "ok" ∷ [])) t)))
    (c.in_ok-view.ensures ∙ ap view_of (member_is side c.args.self.now s t.links told.behind))
    (shown s t told))
    c.show_view-shown.ensures
