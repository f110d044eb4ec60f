use Rattle.std.proofs.Common.{◌≡◌, string_bytes}
use Rattle.zs_wire.specs.Parameters.{text_with_all}
use Rattle.zs_wire.proofs.parameter_text.with_pairs.Given as goal

-- the pairs that are left make the whole text of what is made already
abbrev pub invariant-pairs : goal.invariant-pairs
invariant-pairs l = text_with_all l.name-iterator (string_bytes l.made) ≡ text_with_all l.fn.list l.text
