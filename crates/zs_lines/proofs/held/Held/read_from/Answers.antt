use Rattle.std.proofs.Common.{arith, take}
use Rattle.zs_lines.proofs.Cuts.{feed-drop-grows}
use Rattle.zs_lines.proofs.held.Held.read_from.Goals as goal

pub invariant_of-self-2 : goal.invariant_of-self-2
invariant_of-self-2 g c =
    let h = c.self.inside in
    let room = c.in_ok-reserve.ensures in
    let e = c.in_ok-extend_from_slice.ensures in
    (omega arith, omega (arith, e.len, room.len), rw (e.items, room.items) (omega (arith, feed-drop-grows h.bytes.items (take c.in-Ok.count c.read.new.into) h.start)))
