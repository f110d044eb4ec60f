use Rattle.std.proofs.Common.{[], refl}
use Rattle.std.specs.String.{string_bytes}
use Rattle.zs_delivery.specs.declared.side.LinkSide.TheVariants.{A, B}
use Rattle.zs_delivery.specs.Linked.{Take}
use Rattle.zs_groups.specs.Told.{Told, hearing, with_link}
use Rattle.zs_groups.specs.Sides.{Becomes}
use Rattle.zs_groups.proofs.Steps.{on_ok}
use Rattle.zs_groups.proofs.sides.Sides.declare_all.Goals as goal

pub returns : goal.returns
returns c =
    let begin : Told = record { links = []; text = string_bytes c.args.self.now.printed } in
    let first : Becomes (λ s t. with_link (Take A hearing) t) c.args.self.now c.declare.new.self = c.in_ok-declare.ensures in
    on_ok c.declare-2.result (Becomes (λ s t. with_link (Take B hearing) t) c.declare.new.self c.declare-2.new.self) _
    (λ second s behind.
    (second s (with_link (Take A hearing) begin) (first s begin (record { behind = behind; text = refl }))).behind)
    c.declare-2.ensures
