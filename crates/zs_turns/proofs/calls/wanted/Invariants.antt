use Rattle.std.proofs.Common.{◌≡◌, flat_map, take}
use Rattle.zs_turns.specs.Calls.{held_by}
use Rattle.zs_turns.proofs.calls.wanted.Given as goal

abbrev pub invariant-loop-effect : goal.invariant-loop-effect
invariant-loop-effect g l = l.all.items ≡ flat_map (held_by l.posts.rows l.tag) (take l.effect-index l.effects)
