use Rattle.std.proofs.Common.{◌≡◌, ℕ, List, ◌++◌, sym, ap, ◌∙◌}
use Rattle.std.specs.Prelude.{None}
use Rattle.zs_events.specs.declared.turn.Effect.{Effect}
use Rattle.zs_subscriptions.proofs.Searching.{all_behind}
use Rattle.zs_hearing.proofs.Ends.{ids_of, ends_of, ids_up, ends_are, left_fewer, ends_on, ends_done}
use Rattle.zs_hearing.proofs.listeners.push_ends_of.Goals as goal

pub loop-id-init : goal.loop-id-init
loop-id-init c = ap (λ (ids : List ℕ). c.args.effects.now ++ ends_of ids) (sym (all_behind (λ (n : ℕ). n) (ids_of c.args.parent c.args.listeners.now)))

pub loop-id-smaller : goal.loop-id-smaller
loop-id-smaller c = left_fewer c.loop-id.last c.in-Some.id (ids_of c.args.parent c.args.listeners.now) (ids_up c.args.parent c.args.listeners.now c.len-ascending.ensures.ascending) c.in-Some.ensures.next

pub loop-id-preserved : goal.loop-id-preserved
loop-id-preserved c =
    ends_on c.loop-id.last c.in-Some.id (ids_of c.args.parent c.args.listeners.now) c.loop-id.effects c.push.new.self (c.args.effects.now ++ ends_of (ids_of c.args.parent c.args.listeners.now))
    (ids_up c.args.parent c.args.listeners.now c.len-ascending.ensures.ascending) c.in-Some.ensures.next c.loop-id.invariant (rw c.end_of.ensures at c.in_ok-push.ensures.ok)

pub returns-clause-ends : goal.returns-clause-ends
returns-clause-ends c =
    ends_done c.loop-id.last (ids_of c.args.parent c.args.listeners.now) c.loop-id.effects (c.args.effects.now ++ ends_of (ids_of c.args.parent c.args.listeners.now))
    (ids_up c.args.parent c.args.listeners.now c.len-ascending.ensures.ascending) c.in_default.ensures.next c.loop-id.invariant
    ∙ ap (λ (fx : List Effect). c.args.effects.now ++ fx) (ends_are c.args.parent c.args.listeners.now)
