use Rattle.std.proofs.Common.{◌≡◌, ◌++◌, flat_map, take}
use Rattle.std.specs.String.{string_bytes}
use Rattle.zs_printing.specs.Printing.{marked_line, effect_fields}
use Rattle.zs_printing.proofs.printing.append_effects.Given as goal

abbrev pub invariant-loop-effect : goal.invariant-loop-effect
invariant-loop-effect l =
    string_bytes l.out
    ≡ string_bytes l.fn.out
    ++ flat_map (λ effect. marked_line l.margin.before.now l.margin.number l.margin.behind.now (effect_fields effect))
    (take l.effect-index l.effects)
