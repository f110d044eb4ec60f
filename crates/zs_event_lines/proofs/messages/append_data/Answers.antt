use Rattle.std.proofs.Common.{◌≡◌, true, sym, ◌∙◌}
use Rattle.zs_event_lines.specs.Lines.{is_said_body}
use Rattle.zs_event_lines.proofs.messages.append_data.Goals as goal

pub returns : goal.returns
returns c =
    let told : is_said_body c.args.body.now.kind c.args.body.now ≡ true =
    sym c.is_said_body.ensures ∙ c.if-not-is_said_body.false in
    rw told (rw (← c.sample_word.ensures) c.append_line.ensures)
