use Rattle.std.proofs.Common.{◌≡◌, ℕ, ◌+◌, ◌++◌, [], Option, Result, Ok, Err, refl, sym, ◌∙◌, ap, subst, arith, false, true, Bool, List}
use Rattle.zs_lines.specs.Reading.{Reading, Answers}
use Rattle.zs_lines.specs.declared.reader.Line.{Line}
use Rattle.zs_lines.specs.declared.reader.LineError.{LineError}
use Rattle.zs_driving.specs.Tasks.{Task, task_of, lines_behind, lines_text, closed_text}
use Rattle.zs_driving.specs.Driving.{IsDone, PutsWaiting}
use Rattle.zs_driving.specs.Errors.{drive_error}
use Rattle.zs_driving.specs.declared.errors.DriveError.TheVariants.{WriteFault, NoMemory, BadLine}
use Rattle.zs_driving.proofs.Exits.{stops, handed_on, next_cause, counted_same, counted_next, few_read, few_next, read_all, spent_all, risen_before, err_next, ends_well, begun_empty, counted_fresh, handed_error}
use Rattle.zs_driving.proofs.Progress.{Progress, fresh, begun, due, front_written, is_next, stopped, stopped_long, spent_turns, went_on, end_is_next, closed, front_closed, waits_on, text_push}
use Rattle.zs_driving.proofs.driving.take_lines.Goals as goal

-- errors of equal results are equal
error_same : (x y : LineError) (found found' : Result (Option Line) LineError) → found ≡ Err x → found' ≡ Err y → found ≡ found' → x ≡ y
error_same x y found found' first second same = cc

pub lines-init : goal.lines-init
lines-init g c =
    let t = task_of g.M.LineMachine.is_line (g.M.LineMachine.rules c.args.machine.now) c.args.line_max c.args.turns in
    let W = g.K.Sink.written c.args.sink.now in
    let left = g.S.Source.left c.args.source.now in
    let Took : List (List ℕ) → Type 0 = λ h. g.M.LineMachine.took c.args.machine.now (g.M.LineMachine.rules c.args.machine.now) h in
    let Q : Reading → Type 0 = λ r. Progress t left left r (PutsWaiting W c.args.transcript.now W) Took 0 in
    record {
      progress = subst Q (sym c.new-reader.ensures)
          (begun t left (PutsWaiting W c.args.transcript.now W) Took c.requires.fresh (rw c.requires.empty (begun_empty W)));
      counted = counted_same t _ _ (fresh t) c.new-reader.result c.new-reader.ensures (counted_fresh t _);
      source_calm = refl;
      sink_calm = refl;
    }

pub returns-in_err-write_if_due : goal.returns-in_err-write_if_due
returns-in_err-write_if_due g c =
    let t = task_of g.M.LineMachine.is_line (g.M.LineMachine.rules c.args.machine.now) c.args.line_max c.args.turns in
    let inv = c.lines.invariant in
    let W = g.K.Sink.written c.args.sink.now in
    let W' = g.K.Sink.written c.write_if_due.new.sink in
    let Puts = PutsWaiting W c.write_if_due.new.transcript W' in
    let fault = c.in_err-write_if_due.ensures in
    handed_on t _ c.from_residual.result WriteFault _ _ _ _ Puts
    (handed_error _ _ c.from_residual.ensures.1 fault.only)
    (stops t _ WriteFault _ _ _ _ Puts (record {
      front = rw fault.err (front_written t _ _ c.lines.reader _ c.lines.taken W (g.K.Sink.written c.lines.sink) W' c.lines.transcript inv.progress fault.part);
      few_reads = few_read t _ _ c.lines.reader inv.counted;
      source_later = omega (arith, inv.source_calm);
      sink_later = omega (arith, inv.sink_calm, fault.later);
      calm = λ _ other. absurd (other refl);
    }) (risen_before _ _ _ (omega (arith, inv.sink_calm)) fault.fault))

pub returns-in_err-line : goal.returns-in_err-line
returns-in_err-line g c =
    let t = task_of g.M.LineMachine.is_line (g.M.LineMachine.rules c.args.machine.now) c.args.line_max c.args.turns in
    let inv = c.lines.invariant in
    let same = c.holds_line.ensures.same in
    let reader = c.holds_line.new.self in
    let p = due t _ _ _ c.lines.reader reader c.lines.transcript c.write_if_due.new.transcript _ _ _ c.lines.taken same inv.progress c.in_ok-write_if_due.ensures.ok in
    let k = counted_same t _ _ c.lines.reader reader same inv.counted in
    let line = c.in_err-line.field-0.0 in
    let e = c.in_err-line.ensures in
    let a = e.answer in
    let A : LineError → Type 0 = λ y. Answers reader c.next.new.self a.0 (Err y) in
    err_next t _ (drive_error line) c.from_residual-in_err-line.result _ _ _ _ _ _ reader c.next.new.self a.0 _ c.lines.taken
    c.from_residual-in_err-line.ensures.1 p k a.1 a.2 e.at_end e.pieces
    (omega (arith, inv.source_calm, e.later)) (omega (arith, inv.sink_calm, c.write_if_due.ensures.later))
    (λ other _. (e.calm (λ same. other (ap (λ y. Err (drive_error y)) (error_same _ _ _ _ refl refl same))) ∙ inv.source_calm, c.in_ok-write_if_due.ensures.calm ∙ inv.sink_calm))
    (next_cause t line reader c.next.new.self a.0 _ _ _ _ _ a.3
    (λ fault. risen_before _ _ _ (omega (arith, inv.source_calm)) (e.read_fault (ap (λ y. Err y) fault)))
    (λ place long. let at = subst A long a.3 in
    stopped_long t _ _ _ reader c.next.new.self _ _ c.lines.taken p a.0 a.1 a.2 e.at_end place at.0 at.1)
    (λ spent. let at = subst A spent a.3 in
    spent_all t _ _ c.next.new.self (counted_next t _ _ _ reader c.next.new.self a.0 k a.2 e.pieces (λ unseen. e.reads (λ fault. cc) unseen) (λ ended. ap (λ source. g.S.Source.reads source) (e.still ended)) (e.seen (λ fault. cc))) at.0 at.1
    (spent_turns t _ _ _ reader c.next.new.self _ _ c.lines.taken p a.0 a.1 a.2 e.at_end at.0)))

pub returns-in_err-is_line : goal.returns-in_err-is_line
returns-in_err-is_line g c =
    let t = task_of g.M.LineMachine.is_line (g.M.LineMachine.rules c.args.machine.now) c.args.line_max c.args.turns in
    let inv = c.lines.invariant in
    let same = c.holds_line.ensures.same in
    let reader = c.holds_line.new.self in
    let p = due t _ _ _ c.lines.reader reader c.lines.transcript c.write_if_due.new.transcript _ _ _ c.lines.taken same inv.progress c.in_ok-write_if_due.ensures.ok in
    let k = counted_same t _ _ c.lines.reader reader same inv.counted in
    let e = c.in_ok-line.ensures in
    let a = e.answer in
    rw c.in_err-is_line.ensures.err (err_next t _ NoMemory c.from_residual-in_err-is_line.result _ _ _ _ _ _ reader c.next.new.self a.0 _ c.lines.taken
    c.from_residual-in_err-is_line.ensures.1 p k a.1 a.2 e.at_end e.pieces
    (omega (arith, inv.source_calm, e.later)) (omega (arith, inv.sink_calm, c.write_if_due.ensures.later))
    (λ _ _. (e.calm (λ same. cc) ∙ inv.source_calm, c.in_ok-write_if_due.ensures.calm ∙ inv.sink_calm)) tt)

pub returns-then-not-is_line : goal.returns-then-not-is_line
returns-then-not-is_line g c =
    let r = g.M.LineMachine.rules c.args.machine.now in
    let t = task_of g.M.LineMachine.is_line r c.args.line_max c.args.turns in
    let inv = c.lines.invariant in
    let same = c.holds_line.ensures.same in
    let reader = c.holds_line.new.self in
    let p = due t _ _ _ c.lines.reader reader c.lines.transcript c.write_if_due.new.transcript _ _ _ c.lines.taken same inv.progress c.in_ok-write_if_due.ensures.ok in
    let k = counted_same t _ _ c.lines.reader reader same inv.counted in
    let e = c.in_ok-line.ensures in
    let a = e.answer in
    let B : Option Line → Type 0 = λ o. Answers reader c.next.new.self a.0 (Ok o) in
    let line = subst B c.in-Some.is a.3 in
    let unknown : c.in_ok-is_line.is_line ≡ false = c.if-not-is_line.true in
    rw (c.in_ok-is_line.ensures.none (ap (λ b. Ok b) unknown))
    (err_next t _ (BadLine c.in-Some.line.number) (Err (BadLine c.in-Some.line.number)) _ _ _ _ _ _ reader c.next.new.self a.0 _ c.lines.taken
    refl p k a.1 a.2 e.at_end e.pieces
    (omega (arith, inv.source_calm, e.later)) (omega (arith, inv.sink_calm, c.write_if_due.ensures.later))
    (λ _ _. (e.calm (λ same. cc) ∙ inv.source_calm, c.in_ok-write_if_due.ensures.calm ∙ inv.sink_calm))
    (stopped t _ _ _ reader c.next.new.self _ _ c.lines.taken c.in-Some.line.number c.in-Some.line.bytes.items p a.0 a.1 a.2 e.at_end line
    (sym c.in_ok-is_line.ensures.known ∙ unknown)))

pub lines-preserved : goal.lines-preserved
lines-preserved g c =
    let r = g.M.LineMachine.rules c.args.machine.now in
    let t = task_of g.M.LineMachine.is_line r c.args.line_max c.args.turns in
    let inv = c.lines.invariant in
    let same = c.holds_line.ensures.same in
    let reader = c.holds_line.new.self in
    let p = due t _ _ _ c.lines.reader reader c.lines.transcript c.write_if_due.new.transcript _ _ _ c.lines.taken same inv.progress c.in_ok-write_if_due.ensures.ok in
    let k = counted_same t _ _ c.lines.reader reader same inv.counted in
    let e = c.in_ok-line.ensures in
    let a = e.answer in
    let B : Option Line → Type 0 = λ o. Answers reader c.next.new.self a.0 (Ok o) in
    let line = subst B c.in-Some.is a.3 in
    let number = c.in-Some.line.number in
    let bytes = c.in-Some.line.bytes.items in
    let h = lines_behind [] p.read in
    let known : c.in_ok-is_line.is_line ≡ true = c.if-not-is_line.false in
    let taken = ap (λ b. Ok b) known in
    let next = is_next t _ _ _ reader c.next.new.self _ _ c.lines.taken number bytes p a.0 a.1 a.2 e.at_end line in
    record {
      progress = went_on t _ _ _ reader c.next.new.self _ _ c.lines.taken number bytes p a.0 a.1 a.2 e.at_end line
          _ _ (sym c.in_ok-is_line.ensures.known ∙ known) (c.in_ok-is_line.ensures.goes_on taken r h p.stands next)
          (waits_on _ c.write_if_due.new.transcript c.take.new.transcript _ _ (r.line_text h bytes) _ (c.in_ok-is_line.ensures.text taken r h p.stands next)
          (text_push r p.read bytes) p.output);
      counted = counted_next t _ _ _ reader c.next.new.self a.0 k a.2 e.pieces (λ unseen. e.reads (λ fault. cc) unseen) (λ ended. ap (λ source. g.S.Source.reads source) (e.still ended)) (e.seen (λ fault. cc));
      source_calm = e.calm (λ same. cc) ∙ inv.source_calm;
      sink_calm = c.in_ok-write_if_due.ensures.calm ∙ inv.sink_calm;
    }

pub returns-in_default-checked_add : goal.returns-in_default-checked_add
returns-in_default-checked_add g c =
    let r = g.M.LineMachine.rules c.args.machine.now in
    let t = task_of g.M.LineMachine.is_line r c.args.line_max c.args.turns in
    let inv = c.lines.invariant in
    let same = c.holds_line.ensures.same in
    let reader = c.holds_line.new.self in
    let p = due t _ _ _ c.lines.reader reader c.lines.transcript c.write_if_due.new.transcript _ _ _ c.lines.taken same inv.progress c.in_ok-write_if_due.ensures.ok in
    let k = counted_same t _ _ c.lines.reader reader same inv.counted in
    let e = c.in_ok-line.ensures in
    let a = e.answer in
    err_next t _ NoMemory (Err NoMemory) _ _ _ _ _ _ reader c.next.new.self a.0 _ c.lines.taken
    refl p k a.1 a.2 e.at_end e.pieces
    (omega (arith, inv.source_calm, e.later)) (omega (arith, inv.sink_calm, c.write_if_due.ensures.later))
    (λ _ _. (e.calm (λ same. cc) ∙ inv.source_calm, c.in_ok-write_if_due.ensures.calm ∙ inv.sink_calm)) tt

pub returns-in_err-end : goal.returns-in_err-end
returns-in_err-end g c =
    let r = g.M.LineMachine.rules c.args.machine.now in
    let t = task_of g.M.LineMachine.is_line r c.args.line_max c.args.turns in
    let inv = c.lines.invariant in
    let same = c.holds_line.ensures.same in
    let reader = c.holds_line.new.self in
    let p = due t _ _ _ c.lines.reader reader c.lines.transcript c.write_if_due.new.transcript _ _ _ c.lines.taken same inv.progress c.in_ok-write_if_due.ensures.ok in
    let k = counted_same t _ _ c.lines.reader reader same inv.counted in
    let e = c.in_ok-line.ensures in
    let a = e.answer in
    rw c.in_err-end.ensures.err (err_next t _ NoMemory c.from_residual-in_err-end.result _ _ _ _ _ _ reader c.next.new.self a.0 _ c.lines.taken
    c.from_residual-in_err-end.ensures.1 p k a.1 a.2 e.at_end e.pieces
    (omega (arith, inv.source_calm, e.later)) (omega (arith, inv.sink_calm, c.write_if_due.ensures.later))
    (λ _ _. (e.calm (λ same. cc) ∙ inv.source_calm, c.in_ok-write_if_due.ensures.calm ∙ inv.sink_calm)) tt)

pub returns : goal.returns
returns g c =
    let r = g.M.LineMachine.rules c.args.machine.now in
    let t = task_of g.M.LineMachine.is_line r c.args.line_max c.args.turns in
    let inv = c.lines.invariant in
    let same = c.holds_line.ensures.same in
    let reader = c.holds_line.new.self in
    let p = due t _ _ _ c.lines.reader reader c.lines.transcript c.write_if_due.new.transcript _ _ _ c.lines.taken same inv.progress c.in_ok-write_if_due.ensures.ok in
    let k = counted_same t _ _ c.lines.reader reader same inv.counted in
    let e = c.in_ok-line.ensures in
    let a = e.answer in
    let B : Option Line → Type 0 = λ o. Answers reader c.next.new.self a.0 (Ok o) in
    let end = subst B c.in_default.is a.3 in
    let number = c.in-Some-checked_add.number in
    let same_number : number ≡ c.lines.taken + 1 = c.in-Some-checked_add.ensures.1 in
    let h = lines_behind [] p.read in
    let next = end_is_next t _ _ _ reader c.next.new.self _ _ c.lines.taken p a.0 a.1 a.2 e.at_end number same_number in
    let put = waits_on _ c.write_if_due.new.transcript c.end.new.transcript _ _ (r.end_text h) _ (c.in_ok-end.ensures.text r h p.stands next) refl p.output in
    ends_well t _ _ _ _ _ _ _
    (closed t _ _ _ reader c.next.new.self _ _ c.lines.taken p a.0 a.1 a.2 e.at_end _ _ end.0 end.2 put
    (c.in_ok-end.ensures.closes r h p.stands next) number same_number)
    (read_all t _ _ c.next.new.self (counted_next t _ _ _ reader c.next.new.self a.0 k a.2 e.pieces (λ unseen. e.reads (λ fault. cc) unseen) (λ ended. ap (λ source. g.S.Source.reads source) (e.still ended)) (e.seen (λ fault. cc))) end.2) (record {
      front = front_closed t _ _ _ reader c.next.new.self _ _ c.lines.taken p a.0 a.1 a.2 e.at_end _ (λ rows. Unit {0}) end.0 end.2 put;
      few_reads = few_next t _ (record {
        left = g.S.Source.left c.lines.source;
        reads = g.S.Source.reads c.lines.source;
        pieces = g.S.Source.pieces c.lines.source;
        faults = g.S.Source.faults c.lines.source;
      }) (record {
        left = g.S.Source.left c.next.new.source;
        reads = g.S.Source.reads c.next.new.source;
        pieces = g.S.Source.pieces c.next.new.source;
        faults = g.S.Source.faults c.next.new.source;
      }) reader c.next.new.self a.0 k a.2 e.pieces;
      source_later = omega (arith, inv.source_calm, e.later);
      sink_later = omega (arith, inv.sink_calm, c.write_if_due.ensures.later);
      calm = λ _ _. (e.calm (λ same. cc) ∙ inv.source_calm, c.in_ok-write_if_due.ensures.calm ∙ inv.sink_calm);
    })
