use Rattle.std.proofs.Common.{Err, refl, sym, ◌∙◌, ap, subst}
use Rattle.zs_core.specs.World.{World}
use Rattle.zs_core.specs.Stands.{TakesStep}
use Rattle.zs_session_cell.specs.Cells.{CellSeen}
use Rattle.zs_session_cell.specs.declared.no_handler.NoHandler.{NoHandler}
use Rattle.zs_session.specs.Quiet.{IsQuiet}
use Rattle.zs_session.proofs.Quietly.{steps_so}
use Rattle.zs_session.proofs.quiet.QuietSession.take.Goals as goal
use Rattle.zs_session.proofs.quiet.QuietSession.take.Goals.{in-Ok, in-Err-NoMemory}

pub turn_alone-requires : goal.turn_alone-requires
turn_alone-requires c = c.in-Ok.ensures.none (record { came = refl; held = c.self.invariant.gates })

pub unreachable-requires : goal.unreachable-requires
unreachable-requires c = c.in-Err-Full.ensures.held (ap Err c.in-Err-Full.field-0-is) (record { came = refl; held = c.self.invariant.gates })

pub unreachable-unreachable : goal.unreachable-unreachable
unreachable-unreachable c = c.in-Err-Full.ensures.held (ap Err c.in-Err-Full.field-0-is) (record { came = refl; held = c.self.invariant.gates })

pub invariant_of-self : goal.invariant_of-self
invariant_of-self c =
    elim c.match-take.branch [
      | in-Ok w ↦
          record {
            gates = w.in-Ok.ensures.gates (record { came = refl; held = c.self.invariant.gates });
            bare = w.in-Ok.ensures.waiting (record { came = refl; held = c.self.invariant.gates }) c.self.invariant.bare;
          }
      | in-Err-NoMemory w ↦ subst (λ (cell : CellSeen NoHandler). IsQuiet cell) (sym w.in-Err-NoMemory.ensures.err) c.self.invariant
    ]

pub returns-clause-ok : goal.returns-clause-ok
returns-clause-ok c =
    elim c.match-take.branch [
      | in-Ok w ↦
          rw w.result-is (rw w.turn_alone.ensures
          (subst (λ (x : World). TakesStep x c.take.new.self.world c.args.event.now w.in-Ok.taken.turn) c.self.view_is
          (steps_so c.self.inside.cell.world c.take.new.self.world c.args.event.now w.in-Ok.taken.turn w.in-Ok.ensures.ok.steps)))
      | in-Err-NoMemory w ↦ rw w.result-is tt
    ]

pub returns-clause-err : goal.returns-clause-err
returns-clause-err c =
    elim c.match-take.branch [
      | in-Ok w ↦ rw w.result-is tt
      | in-Err-NoMemory w ↦ rw w.result-is (ap (λ (cell : CellSeen NoHandler). cell.world) w.in-Err-NoMemory.ensures.err ∙ c.self.view_is)
    ]
