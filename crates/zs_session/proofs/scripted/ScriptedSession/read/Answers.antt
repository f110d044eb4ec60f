use Rattle.std.proofs.Common.{◌++◌, ◌∙◌, ap, Bool, Option}
use Rattle.zs_events.specs.declared.received.Received.{Received}
use Rattle.zs_events.specs.declared.turn.HandOver.{HandOver}
use Rattle.zs_channels.proofs.Rows.{at_ok}
use Rattle.zs_session.specs.Heard.{core_of, answer_of}
use Rattle.zs_session.specs.Script.{read_text}
use Rattle.zs_session.proofs.ChannelsHeard.{answer_is}
use Rattle.zs_session.proofs.scripted.ScriptedSession.read.Goals as goal

pub returns-clause-text : goal.returns-clause-text
returns-clause-text c =
    let waiting = c.args.transcript.now in
    let n = c.args.number in
    let closed = c.is_closed-closed.result in
    at_ok c.add_read-added.result (λ is s h stands.
    let answer = answer_of s h c.args.kind c.args.id in
    is
    ∙ (ap (λ (o : Option (Received HandOver)). waiting ++ read_text n o closed)
    (answer_is s h c.args.kind c.args.id c.args.self.now.channels c.recv-answer.result stands.1 c.recv-answer.ensures.answer)
    ∙ ap (λ (b : Bool). waiting ++ read_text n answer b) (c.is_closed-closed.ensures.told s (core_of h) stands.0))) c.add_read-added.ensures.ok
