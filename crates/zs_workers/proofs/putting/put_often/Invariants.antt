use Rattle.std.specs.Prelude.{◌≡◌, ◌+◌}
use Rattle.zs_workers.proofs.putting.put_often.Given as goal

abbrev pub invariant-loop : goal.invariant-loop
invariant-loop g l = record {
  parts : l.caller.parts ≡ l.initial.caller.parts;
  count : l.caller.count ≡ l.initial.caller.count + l.counter;
}
