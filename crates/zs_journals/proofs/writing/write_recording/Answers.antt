use Rattle.std.proofs.Common.{◌∙◌, ◌+◌, Err, ap, arith}
use Rattle.zs_journals.proofs.Written.{next-is, next-printable, next-put, stops, ends}
use Rattle.zs_journals.proofs.writing.write_recording.Goals as goal

pub returns-in_err-write_entry : goal.returns-in_err-write_entry
returns-in_err-write_entry g c =
    let l = c.loop-entry in
    let next = next-is c.args.entries.now l.entry-index (l.written + 1) c.entry-item.result c.get.result.now c.get-in-loop-entry.result.now
    (omega (arith, c.loop-entry-test.true)) (omega (arith, l.invariant.0)) c.entry-item.is c.get.ensures c.get-in-loop-entry.ensures in
    let e = c.in_err-write_entry.ensures in
    stops c.args.entries.now l.entry-index (l.written + 1) c.get.result.now c.get-in-loop-entry.result.now c.from_residual.result c.in_err-write_entry.field-0.0
    _ (record { written = g.K.Sink.written l.sink; faults = g.K.Sink.faults l.sink }) _
    c.from_residual.ensures.1 next l.invariant.1.0 l.invariant.1.1.0 l.invariant.1.1.1 e.part
    (λ same. let missing = e.unprintable (ap Err same) in (missing.0, ap g.K.Sink.written missing.1))
    (λ other same. e.place other (ap Err same))
    (λ same. e.fault (ap Err same))
    e.later

pub loop-entry-preserved : goal.loop-entry-preserved
loop-entry-preserved g c =
    let l = c.loop-entry in
    let next = next-is c.args.entries.now l.entry-index (l.written + 1) c.entry-item.result c.get.result.now c.get-in-loop-entry.result.now
    (omega (arith, c.loop-entry-test.true)) (omega (arith, l.invariant.0)) c.entry-item.is c.get.ensures c.get-in-loop-entry.ensures in
    let e = c.in_ok-write_entry.ensures in
    let printable = next-printable c.args.entries.now l.entry-index (l.written + 1) c.get.result.now c.get-in-loop-entry.result.now next l.invariant.1.0 e.printable in
    let put = next-put _ _ _ c.args.entries.now l.entry-index (l.written + 1) c.get.result.now c.get-in-loop-entry.result.now next l.invariant.1.1.0 e.written in
    (omega (arith, l.invariant.0), (printable, (put, e.calm ∙ l.invariant.1.1.1)))

pub returns : goal.returns
returns g c =
    let l = c.loop-entry in
    ends c.args.entries.now l.entry-index _ _ _ (omega (arith, c.loop-entry-test.false)) l.invariant.1.0 l.invariant.1.1.0 l.invariant.1.1.1
