use Rattle.std.proofs.Common.{ap, sym, ◌∙◌, List}
use Rattle.zs_events.specs.declared.turn.Effect.{Effect}
use Rattle.zs_events.specs.Kinds.{row_of}
use Rattle.zs_channels.specs.Table.{behind_all}
use Rattle.zs_channels.specs.Heard.{opening, news_of_effects}
use Rattle.zs_channels.proofs.Rows.{at_ok}
use Rattle.zs_channels.proofs.Following.{behind_all-append}
use Rattle.zs_channels.proofs.hearing.Channels+HandOver.hear_turn.Goals as goal

pub returns : goal.returns
returns c =
    let opened = opening (row_of c.args.event.now).handled (row_of c.args.event.now).channel c.args.turn.now.answer in
    let news = news_of_effects c.args.turn.now.effects in
    at_ok c.hear_effects.result (λ is.
    is ∙ (ap (λ (fx : List Effect). behind_all (news_of_effects fx) c.hear_declared.new.self) c.as_slice.ensures
    ∙ (ap (λ t. behind_all news t) c.in_ok-hear_declared.ensures ∙ sym (behind_all-append news opened c.args.self.now)))) c.hear_effects.ensures
