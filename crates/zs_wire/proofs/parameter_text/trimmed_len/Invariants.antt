use Rattle.std.proofs.Common.{◌≡◌, ◌+◌, ◌≤◌, length, take, IsCharBoundary}
use Rattle.std.specs.List.{suffix_len}
use Rattle.zs_wire.specs.Parameters.{is_end_sign}
use Rattle.zs_wire.proofs.parameter_text.trimmed_len.Given as goal

-- what was passed is signs, and the text may be cut here
abbrev pub invariant-signs : goal.invariant-signs
invariant-signs l = record {
  within : l.end ≤ length l.text;
  signs : l.end + suffix_len is_end_sign l.text ≡ length l.text + suffix_len is_end_sign (take l.end l.text);
  boundary : IsCharBoundary l.text l.end;
}

abbrev pub decreases-signs : goal.decreases-signs
decreases-signs l = l.end
