use Rattle.std.proofs.Common.{◌≡◌, true, false, sym, ◌∙◌, subst, arith}
use Rattle.zs_delivery.specs.Linked.{is_event}
use Rattle.zs_link.specs.declared.world.Delivered.TheVariants.{Dropped, Taken}
use Rattle.zs_link.specs.World.{SideSeen, Passes}
use Rattle.zs_link.proofs.Passing.{begins, none_first, none_left, passes_nothing, passes_dropped, passes_taken}
use Rattle.zs_link.proofs.world.pass.Goals as goal

pub returns-in_default-clause-ok : goal.returns-in_default-clause-ok
returns-in_default-clause-ok c = passes_nothing c.args.from.now c.args.to.now (sym c.in_ok-message.ensures ∙ c.in_default.is)

pub returns-then-not-is_event-clause-ok : goal.returns-then-not-is_event-clause-ok
returns-then-not-is_event-clause-ok c =
    let interest : is_event c.in-Some.message ≡ false = grind (arith, c.get.ensures, c.is_event.ensures, c.if-not-is_event.true) in
    subst (λ (x : SideSeen). Passes c.args.from.now c.args.to.now Dropped x c.args.to.now) (sym c.drop_first.ensures)
    (passes_dropped c.args.from.now c.args.to.now c.in-Some.message (sym c.in_ok-message.ensures ∙ c.in-Some.is) interest)

pub returns-clause-ok : goal.returns-clause-ok
returns-clause-ok c =
    let event : is_event c.in-Some.message ≡ true = grind (arith, c.get.ensures, c.is_event.ensures, c.if-not-is_event.false) in
    subst (λ (x : SideSeen). Passes c.args.from.now c.args.to.now (Taken c.in_ok-turn.turn) x c.take-taken.new.self) (sym c.drop_first-2.ensures)
    (passes_taken c.args.from.now c.args.to.now c.in-Some.message c.in_ok-turn.turn c.take-taken.new.self (sym c.in_ok-message.ensures ∙ c.in-Some.is) event c.in_ok-turn.ensures.ok)

pub returns-in_default-clause-oldest : goal.returns-in_default-clause-oldest
returns-in_default-clause-oldest c = none_first c.args.from.now.waiting (sym c.in_ok-message.ensures ∙ c.in_default.is)

pub returns-in_default-clause-waits : goal.returns-in_default-clause-waits
returns-in_default-clause-waits c = none_left c.args.from.now.waiting (sym c.in_ok-message.ensures ∙ c.in_default.is)

pub returns-then-not-is_event-clause-oldest : goal.returns-then-not-is_event-clause-oldest
returns-then-not-is_event-clause-oldest c =
    let interest : is_event c.in-Some.message ≡ false = grind (arith, c.get.ensures, c.is_event.ensures, c.if-not-is_event.true) in
    begins c.in-Some.message false c.args.from.now.waiting (sym c.in_ok-message.ensures ∙ c.in-Some.is) interest

pub returns-clause-oldest : goal.returns-clause-oldest
returns-clause-oldest c =
    let event : is_event c.in-Some.message ≡ true = grind (arith, c.get.ensures, c.is_event.ensures, c.if-not-is_event.false) in
    begins c.in-Some.message true c.args.from.now.waiting (sym c.in_ok-message.ensures ∙ c.in-Some.is) event
