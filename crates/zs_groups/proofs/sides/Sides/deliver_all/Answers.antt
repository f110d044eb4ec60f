use Rattle.std.proofs.Common.{ℕ, List, [], ◌∷◌, ◌∙◌, refl, subst}
use Rattle.std.specs.Prelude.{codes, decimal}
use Rattle.zs_printing.specs.Printing.{line}
use Rattle.zs_groups.specs.declared.sides.Sides.{Sides}
use Rattle.zs_groups.specs.Told.{with_text, with_many, with_count}
use Rattle.zs_groups.specs.Sides.{AreTold, Becomes}
use Rattle.zs_groups.proofs.Steps.{on_ok, prints, waiting_is}
use Rattle.zs_groups.proofs.sides.Sides.deliver_all.Goals as goal

pub returns : goal.returns
returns c =
    let number = c.args.number in
    let from = c.args.from in
    let count = c.waiting-count.result in
    let old = c.args.self.now in
    let mid : Sides = record old { printed = c.append_count.new.out } in
    let new = c.deliver_many.new.self in
    on_ok c.deliver_many.result (Becomes (λ s t. with_many from count t) mid new) _
    (λ many s t told.
    subst (λ (n : ℕ). AreTold new s (with_count number from n t)) (c.waiting-count.ensures ∙ waiting_is from old s t.links told.behind)
    (many s (with_text (line number (codes "ok" ∷ decimal count ∷ [])) t)
    (prints (line number (codes "ok" ∷ decimal count ∷ [])) old mid refl c.in_ok-append_count.ensures s t told)))
    c.deliver_many.ensures
