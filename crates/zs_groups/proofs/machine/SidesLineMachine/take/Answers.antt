use Rattle.std.proofs.Common.{◌≡◌, ℕ, List, ◌∷◌, Bool, sym, subst}
use Rattle.std.specs.Prelude.{is_some, Result, IfOk}
use Rattle.std.specs.declared.alloc.AllocError.{AllocError}
use Rattle.zs_groups.specs.Language.{said_of}
use Rattle.zs_groups.specs.Behind.{IsBehind}
use Rattle.zs_groups.proofs.Owing.{took_on}
use Rattle.zs_groups.proofs.machine.SidesLineMachine.take.Goals as goal

pub returns-clause-goes_on : goal.returns-clause-goes_on
returns-clause-goes_on c is r h behind number_is =
    let row = c.deref.result.now in
    let new = c.take_line.new.self in
    let known = sym (subst (λ (answer : Result Bool AllocError). IfOk answer (λ taken. taken ≡ is_some (said_of row))) is c.take_line.ensures.known) in
    subst (λ (bytes : List ℕ). IsBehind new r (bytes ∷ h)) c.deref.ensures.value
    (took_on c.args.self.now r h c.args.line.now.number c.args.transcript.now c.take_line.new.transcript behind number_is new row known (c.take_line.ensures.took is))
