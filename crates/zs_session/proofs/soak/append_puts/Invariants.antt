use Rattle.std.proofs.Common.{◌≡◌, ◌≤◌, ◌++◌}
use Rattle.std.specs.String.{string_bytes}
use Rattle.zs_session.specs.Soak.{number_at, put_lines}
use Rattle.zs_session.proofs.soak.append_puts.Given as goal

abbrev pub invariant-loop-place : goal.invariant-loop-place
invariant-loop-place l = record {
  small : l.number ≤ 65536;
  number : l.number ≡ number_at l.fn.soak.seed l.place;
  made : string_bytes l.script ≡ string_bytes l.initial.script ++ put_lines l.fn.soak.seed l.place;
}
