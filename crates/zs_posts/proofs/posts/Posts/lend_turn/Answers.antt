use Rattle.std.proofs.Common.{◌≡◌, map, subst, arith}
use Rattle.std.specs.List.{AllByRecursion}
use Rattle.std.specs.Prelude.{IfOk}
use Rattle.zs_posts.specs.Calls.{call_seen, all_lents, turn_keys}
use Rattle.zs_posts.specs.Lending.{returned_all}
use Rattle.zs_posts.proofs.Settling.{after_turn}
use Rattle.zs_posts.proofs.posts.Posts.lend_turn.Goals as goal

pub invariant_of-self : goal.invariant_of-self
invariant_of-self g c =
    let after = after_turn c.lend_turn.result (turn_keys c.args.wanted.items c.self.inside.map.rows) c.self.inside.map c.lend_turn.new.self c.self.inside.ready.items c.lend_turn.ensures.rows c.lend_turn.ensures.err c.self.invariant.1 in
    (omega (arith, after.0, c.self.invariant.0), after.1)

pub returns-clause-of_room : goal.returns-clause-of_room
returns-clause-of_room g c =
    subst (λ s. IfOk c.lend_turn.result (λ calls. AllByRecursion (λ l. l.room ≡ s.room) (all_lents (map call_seen calls.items)))) c.self.view_is c.lend_turn.ensures.of_room

pub returns-clause-back : goal.returns-clause-back
returns-clause-back g c =
    subst (λ s. IfOk c.lend_turn.result (λ calls. returned_all (all_lents (map call_seen calls.items)) c.lend_turn.new.self.rows ≡ s.rows)) c.self.view_is c.lend_turn.ensures.back
