use Rattle.std.specs.String.{string_bytes}
use Rattle.std.proofs.lemmas.Str.{IsUtf8-string_bytes}
use Rattle.zs_event_lines.proofs.PrintedTexts.{printed-reads}
use Rattle.zs_event_lines.proofs.OneLine.{printed-line}
use Rattle.zs_event_lines.proofs.events.print_event.Goals as goal

pub returns-then-branch-clause-read : goal.returns-then-branch-clause-read
returns-then-branch-clause-read c =
    printed-reads c.args.event.now c.in_ok-append_event.field-0 (string_bytes c.new-text.result) (string_bytes c.append_event.new.out)
    c.if-branch.true c.new-text.ensures.bytes c.in_ok-append_event.ensures (IsUtf8-string_bytes c.append_event.new.out)

pub returns-then-branch-clause-one : goal.returns-then-branch-clause-one
returns-then-branch-clause-one c =
    printed-line c.args.event.now c.in_ok-append_event.field-0 (string_bytes c.new-text.result) (string_bytes c.append_event.new.out)
    c.if-branch.true c.new-text.ensures.bytes c.in_ok-append_event.ensures
