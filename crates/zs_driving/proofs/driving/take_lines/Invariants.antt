use Rattle.std.proofs.Common.{◌≡◌, ℕ, List}
use Rattle.zs_lines.specs.Reading.{work}
use Rattle.zs_driving.specs.Tasks.{task_of}
use Rattle.zs_driving.specs.Driving.{PutsWaiting}
use Rattle.zs_driving.proofs.Exits.{Counted}
use Rattle.zs_driving.proofs.Progress.{Progress}
use Rattle.zs_driving.proofs.driving.take_lines.Given as goal

abbrev pub invariant-lines : goal.invariant-lines
invariant-lines g l = record {
  progress : Progress (task_of g.M.LineMachine.is_line (g.M.LineMachine.rules l.fn.machine) l.line_max l.turns)
      (g.S.Source.left l.fn.source) (g.S.Source.left l.source) l.reader
      (PutsWaiting (g.K.Sink.written l.fn.sink) l.transcript (g.K.Sink.written l.sink))
      (λ (h : List (List ℕ)). g.M.LineMachine.took l.machine (g.M.LineMachine.rules l.fn.machine) h) l.taken;
  counted : Counted (task_of g.M.LineMachine.is_line (g.M.LineMachine.rules l.fn.machine) l.line_max l.turns)
      (record { left = g.S.Source.left l.fn.source; reads = g.S.Source.reads l.fn.source; pieces = g.S.Source.pieces l.fn.source; faults = g.S.Source.faults l.fn.source })
      (record { left = g.S.Source.left l.source; reads = g.S.Source.reads l.source; pieces = g.S.Source.pieces l.source; faults = g.S.Source.faults l.source })
      l.reader;
  source_calm : g.S.Source.faults l.source ≡ g.S.Source.faults l.fn.source;
  sink_calm : g.K.Sink.faults l.sink ≡ g.K.Sink.faults l.fn.sink;
}

abbrev pub decreases-lines : goal.decreases-lines
decreases-lines g l = work l.reader
