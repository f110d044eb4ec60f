use Rattle.std.proofs.Common.{◌≡◌, true, subst}
use Rattle.zs_bytes.specs.Payload.{bytes_of}
use Rattle.zs_event_lines.specs.Sayable.{are_bytes}
use Rattle.zs_typed.proofs.Bytes.{all_small}
use Rattle.zs_typed.proofs.symbols.type_bytes.Goals as goal

pub slices-init : goal.slices-init
slices-init c = λ small. subst (λ slices. are_bytes slices ≡ true) c.slices-slices.ensures (all_small (bytes_of c.slices-slices.result) small)
