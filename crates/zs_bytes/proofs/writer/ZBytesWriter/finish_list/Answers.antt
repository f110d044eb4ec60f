use Rattle.std.proofs.Common.{◌≡◌, ℕ, List, length, sym, ◌∙◌, ap, rules}
use Rattle.zs_bytes.specs.Payload.{bytes_of}
use Rattle.zs_bytes.specs.Written.{Written, slices_written}
use Rattle.zs_bytes.proofs.Writing.{bytes-written}
use Rattle.zs_bytes.proofs.writer.ZBytesWriter.finish_list.Goals as goal

pub of_list-requires : goal.of_list-requires
of_list-requires c =
    let w : Written = record { slices = c.writer.inside.slices.items; tail = c.writer.inside.tail.items } in
    let all : c.close.new.slices.items ≡ slices_written w = search rules in
    c.writer.invariant ∙ ap (λ (t : List ℕ). length t) (sym (ap (λ (t : List (List ℕ)). bytes_of t) all ∙ bytes-written w))
