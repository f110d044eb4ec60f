use Rattle.std.specs.Prelude.{◌≡◌, ◌+◌, ◌*◌, vec_len, All, IfOk}
use Rattle.zs_workers.specs.Workers.{HasPut}
use Rattle.zs_workers.proofs.putting.joined.Given as goal

abbrev pub decreases-backs : goal.decreases-backs
decreases-backs g l = vec_len l.backs

abbrev pub invariant-backs : goal.invariant-backs
invariant-backs g l = record {
  parts : l.all.parts + vec_len l.backs ≡ l.fn.caller.parts + vec_len l.fn.backs;
  count : l.all.count + vec_len l.backs * l.puts ≡ l.fn.caller.count + vec_len l.fn.backs * l.puts;
  put : All (λ back. IfOk back (λ caller. HasPut l.puts caller)) l.backs.items;
}
