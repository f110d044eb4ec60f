use Rattle.std.proofs.Common.{◌≡◌, ◌∙◌, ◌+◌, ◌*◌, All, IfOk, vec_len, arith, ap, sym, subst, Result, Ok}
use Rattle.std.specs.declared.alloc.AllocError.{AllocError}
use Rattle.zs_books.specs.Callers.{CallerSeen}
use Rattle.zs_held.specs.Receipts.{ReceiptSeen}
use Rattle.zs_workers.specs.Workers.{HasPut}
use Rattle.zs_workers.proofs.Sums.{all_front, all_last, one_more}
use Rattle.zs_workers.proofs.putting.joined.Goals as goal

pub backs-preserved : goal.backs-preserved
backs-preserved g c =
    let puts = c.args.puts in
    let left = vec_len c.pop.new.self in
    let Put : Result (CallerSeen ReceiptSeen) AllocError → Type 0 = λ back. IfOk back (λ caller. HasPut puts caller) in
    let all = subst (λ backs. All Put backs) c.in-Some.ensures.items c.backs.invariant.put in
    let back : HasPut puts c.in-Ok.caller = subst Put {y = Ok c.in-Ok.caller} c.in-Ok.is (all_last Put c.pop.new.self.items c.in-Some.back all) in
    let fewer : left + 1 ≡ vec_len c.backs.backs = c.in-Some.ensures.cases in
    let shorter : vec_len c.backs.backs * puts ≡ left * puts + puts = ap (λ n. n * puts) (sym fewer) ∙ one_more left puts in
    record {
      parts = omega (arith, fewer, back.parts_are, ap (λ caller. caller.parts) c.join-all.ensures, c.backs.invariant.parts);
      count = omega (arith, shorter, back.count_is, ap (λ caller. caller.count) c.join-all.ensures, c.backs.invariant.count);
      put = all_front Put c.pop.new.self.items c.in-Some.back all;
    }
