use Rattle.std.proofs.Common.{◌++◌, ◌∙◌, sym, ap, append-nil}
use Rattle.zs_driving.proofs.Exits.{puts_out}
use Rattle.zs_driving.proofs.driving.write_if_due.Goals as goal

pub returns-clause-ok : goal.returns-clause-ok
returns-clause-ok g c = λ output old put.
    (output, sym (append-nil output) ∙ ap (λ rest. output ++ rest) (sym c.write_to.ensures.empty), puts_out old c.args.transcript.now _ _ output put c.in_ok-write_to.ensures.whole)
