use Rattle.std.proofs.Common.{map, ap, Err}
use Rattle.zs_posts.specs.Calls.{call_seen}
use Rattle.zs_posts.proofs.Changes.{why_out}
use Rattle.zs_turns.specs.Calls.{wanted_of}
use Rattle.zs_exchange.proofs.Held.{lent_turn, lent_drawn}
use Rattle.zs_exchange.proofs.beginning.lend.Goals as goal

pub returns-in-Ok-lend_turn-clause-turn : goal.returns-in-Ok-lend_turn-clause-turn
returns-in-Ok-lend_turn-clause-turn g c =
    lent_turn (wanted_of c.args.tag c.args.effects.now) c.in-Ok.wanted.items c.args.posts.now (map call_seen c.in-Ok-lend_turn.calls.items) c.lend_turn.new.self c.in-Ok.ensures c.in-Ok-lend_turn.ensures.calls c.in-Ok-lend_turn.ensures.posts c.in-Ok-lend_turn.ensures.fits c.in-Ok-lend_turn.ensures.of_room

pub returns-in-Err-clause-full : goal.returns-in-Err-clause-full
returns-in-Err-clause-full g c = λ e. lent_drawn (wanted_of c.args.tag c.args.effects.now) c.in-Ok.wanted.items c.args.posts.now.rows c.in-Ok.ensures (c.in-Err.ensures.full (ap Err (why_out e)))
