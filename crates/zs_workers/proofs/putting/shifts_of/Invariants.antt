use Rattle.std.specs.Prelude.{◌≡◌, ◌+◌, vec_len, All}
use Rattle.zs_workers.specs.Workers.{IsNew}
use Rattle.zs_workers.proofs.putting.shifts_of.Given as goal

abbrev pub invariant-loop-number : goal.invariant-loop-number
invariant-loop-number g l = record {
  parts : l.caller.parts + l.number ≡ l.initial.caller.parts;
  count : l.caller.count ≡ l.initial.caller.count;
  made : vec_len l.shifts ≡ l.number;
  new : All (λ shift. IsNew shift.caller) l.shifts.items;
}
