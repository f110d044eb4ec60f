use Rattle.std.proofs.Common.{◌≡◌, ◌++◌, flat_map, take}
use Rattle.std.specs.String.{string_bytes}
use Rattle.zs_replica_lines.specs.Shown.{effect_text}
use Rattle.zs_replica_lines.proofs.printing.append_ends.Given as goal

abbrev pub invariant-loop-effect : goal.invariant-loop-effect
invariant-loop-effect l =
    string_bytes l.out ≡ string_bytes l.fn.out ++ flat_map (λ effect. effect_text l.number l.side effect) (take l.effect-index l.items)
