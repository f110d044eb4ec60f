use Rattle.std.proofs.Common.{arith, ◌≡◌, ◌++◌, rules}
use Rattle.zs_bytes.specs.Written.{Written, slices_written}
use Rattle.zs_bytes.proofs.Writing.{length-appended}
use Rattle.zs_bytes.proofs.writer.ZBytesWriter.append.Goals as goal

pub invariant_of-self-2 : goal.invariant_of-self-2
invariant_of-self-2 c =
    let w : Written = record { slices = c.self.inside.slices.items; tail = c.self.inside.tail.items } in
    let all : c.move_into.new.list.items ≡ slices_written w ++ c.args.value = search rules in
    omega (arith, c.in-Some.ensures, length-appended w c.args.value _ c.close.new.tail.items all (search rules))
