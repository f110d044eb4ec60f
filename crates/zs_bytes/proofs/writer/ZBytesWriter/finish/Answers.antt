use Rattle.std.proofs.Common.{◌≡◌, ℕ, List, ◌∙◌, ap, Result, Ok, Err, IfOk}
use Rattle.zs_bytes.specs.Payload.{bytes_of}
use Rattle.zs_bytes.specs.Written.{Written, slices_written, bytes_written}
use Rattle.zs_bytes.proofs.Writing.{bytes-written}
use Rattle.zs_bytes.proofs.writer.ZBytesWriter.finish.Goals as goal

has_bytes : (w : Written) (r : Result (List (List ℕ)) Written) → IfOk r (λ made. made ≡ slices_written w) → IfOk r (λ made. bytes_of made ≡ bytes_written w)
has_bytes w (Ok made) all = ap (λ (t : List (List ℕ)). bytes_of t) all ∙ bytes-written w
has_bytes w (Err back) all = tt

pub returns-else-is_empty-clause-bytes : goal.returns-else-is_empty-clause-bytes
returns-else-is_empty-clause-bytes c = has_bytes c.args.self c.finish_list.result c.finish_list.ensures.made
