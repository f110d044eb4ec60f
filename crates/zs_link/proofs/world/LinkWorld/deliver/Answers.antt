use Rattle.std.proofs.Common.{subst}
use Rattle.zs_delivery.specs.declared.side.LinkSide.TheVariants.{A, B}
use Rattle.zs_link.specs.World.{LinkSeen, Delivers}
use Rattle.zs_link.proofs.Side.{delivers_a, delivers_b}
use Rattle.zs_link.proofs.world.LinkWorld.deliver.Goals as goal

pub returns-in_ok-pass-in-A-clause-ok : goal.returns-in_ok-pass-in-A-clause-ok
returns-in_ok-pass-in-A-clause-ok c =
    let new : LinkSeen = record { a = c.pass.new.from; b = c.pass.new.to } in
    rw c.in-A.is
    (subst (λ (x : LinkSeen). Delivers A x c.in_ok-pass-in-A.field-0 new) c.self.view_is
    (delivers_a (record { a = c.self.inside.a; b = c.self.inside.b }) new c.in_ok-pass-in-A.field-0 c.in_ok-pass-in-A.ensures.ok))

pub returns-in_ok-pass-in-B-clause-ok : goal.returns-in_ok-pass-in-B-clause-ok
returns-in_ok-pass-in-B-clause-ok c =
    let new : LinkSeen = record { a = c.pass-in-B.new.to; b = c.pass-in-B.new.from } in
    rw c.in-B.is
    (subst (λ (x : LinkSeen). Delivers B x c.in_ok-pass-in-B.field-0 new) c.self.view_is
    (delivers_b (record { a = c.self.inside.a; b = c.self.inside.b }) new c.in_ok-pass-in-B.field-0 c.in_ok-pass-in-B.ensures.ok))
