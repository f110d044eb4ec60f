use Rattle.std.proofs.Common.{◌≡◌, ◌∷◌, sym, subst}
use Rattle.std.specs.Result.{OnOk}
use Rattle.zs_events.specs.declared.turn.Turn.{Turn}
use Rattle.zs_channels.specs.Table.{behind_all}
use Rattle.zs_channels.specs.Heard.{news_of_turn}
use Rattle.zs_core.specs.World.{World}
use Rattle.zs_core.specs.Stands.{Stands}
use Rattle.zs_channels.proofs.Rows.{at_ok}
use Rattle.zs_session.specs.Heard.{core_of}
use Rattle.zs_session.proofs.ChannelsHeard.{heard_turn}
use Rattle.zs_session.proofs.scripted.ScriptedSession.step.Goals as goal

pub returns-clause-stands : goal.returns-clause-stands
returns-clause-stands c =
    at_ok c.add_heard-added.result (λ heard s h stands.
    let steps = c.in_ok-turn.ensures.ok s (core_of h) stands.0 in (
      subst (λ (w : World). Stands w s (c.args.event.now ∷ core_of h)) (sym c.add_heard-added.ensures.state) steps.1,
      heard_turn s h c.args.event.now c.in_ok-turn.turn c.args.self.now.channels c.add_heard-added.new.self.channels steps.0 stands.1 heard,
    ))
    (subst (λ (turn : Turn). OnOk c.add_heard-added.result (c.add_heard-added.new.self.channels ≡ behind_all (news_of_turn c.args.event.now turn) c.args.self.now.channels))
    c.get.ensures c.add_heard-added.ensures.heard)
