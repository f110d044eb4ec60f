use Rattle.std.proofs.Common.{Err, refl, sym, ◌∙◌, ap, subst}
use Rattle.zs_session_cell.specs.Cells.{CellSeen}
use Rattle.zs_session_cell.specs.declared.no_handler.NoHandler.{NoHandler}
use Rattle.zs_link.specs.World.{SideSeen, IsWithoutHandlers, TakesEvent}
use Rattle.zs_link.proofs.Side.{seen, takes_event, keeps_still}
use Rattle.zs_link.proofs.session.LinkedSession.take_event.Goals as goal
use Rattle.zs_link.proofs.session.LinkedSession.take_event.Goals.{in-Ok, in-Err-NoMemory}

pub turn_alone-requires : goal.turn_alone-requires
turn_alone-requires c = c.in-Ok.ensures.none (record { came = refl; held = c.self.invariant.gates })

pub unreachable-requires : goal.unreachable-requires
unreachable-requires c = c.in-Err-Full.ensures.held (ap Err c.in-Err-Full.field-0-is) (record { came = refl; held = c.self.invariant.gates })

pub unreachable-unreachable : goal.unreachable-unreachable
unreachable-unreachable c = c.in-Err-Full.ensures.held (ap Err c.in-Err-Full.field-0-is) (record { came = refl; held = c.self.invariant.gates })

pub invariant_of-self : goal.invariant_of-self
invariant_of-self c =
    elim c.match-take.branch [
      | in-Ok w ↦
          record {
            keeps = keeps_still c.self.inside.cell c.take.new.self c.args.event.now w.in-Ok.taken.turn _ c.self.invariant w.in-Ok.ensures.ok;
            gates = w.in-Ok.ensures.gates (record { came = refl; held = c.self.invariant.gates });
            bare = w.in-Ok.ensures.waiting (record { came = refl; held = c.self.invariant.gates }) c.self.invariant.bare;
          }
      | in-Err-NoMemory w ↦ subst (λ (cell : CellSeen NoHandler). IsWithoutHandlers cell) (sym w.in-Err-NoMemory.ensures.err) c.self.invariant
    ]

pub returns-clause-ok : goal.returns-clause-ok
returns-clause-ok c =
    elim c.match-take.branch [
      | in-Ok w ↦
          rw w.result-is (rw w.turn_alone.ensures
          (subst (λ (x : SideSeen). TakesEvent c.args.event.now x w.in-Ok.taken.turn (seen c.take.new.self)) c.self.view_is
          (takes_event c.self.inside.cell c.take.new.self c.args.event.now w.in-Ok.taken.turn _ c.self.invariant w.in-Ok.ensures.ok)))
      | in-Err-NoMemory w ↦ rw w.result-is tt
    ]

pub returns-clause-err : goal.returns-clause-err
returns-clause-err c =
    elim c.match-take.branch [
      | in-Ok w ↦ rw w.result-is tt
      | in-Err-NoMemory w ↦ rw w.result-is (ap seen w.in-Err-NoMemory.ensures.err ∙ c.self.view_is)
    ]
