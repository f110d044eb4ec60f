use Rattle.std.proofs.Common.{ap, ◌∙◌}
use Rattle.zs_posts.specs.Settled.{PostsSeen}
use Rattle.zs_hands.specs.Answers.{ran_lents}
use Rattle.zs_exchange.specs.Exchange.{ExchangeSeen}
use Rattle.zs_exchange.proofs.Rooms.{given_room}
use Rattle.zs_exchange.proofs.exchange.Exchange.give_back.Goals as goal

pub returns-clause-room : goal.returns-clause-room
returns-clause-room g c =
    ap (λ (s : PostsSeen g.row.H.Denot). s.room) c.give_back.ensures.posts ∙ (given_room (ran_lents c.args.ran.ran.items) c.self.inside.posts ∙ ap (λ (x : ExchangeSeen g.row.H.Denot). x.posts.room) c.self.view_is)
