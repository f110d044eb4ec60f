use Rattle.std.proofs.Common.{length, sym, subst}
use Rattle.zs_posts.specs.Settled.{all_given_back}
use Rattle.zs_hands.specs.Answers.{ran_lents}
use Rattle.zs_exchange.proofs.Flags.{all_given_flags}
use Rattle.zs_session_cell.specs.Cells.{CellSeen}
use Rattle.zs_session_cell.specs.Journals.{IsKept, named_since}
use Rattle.zs_session_cell.proofs.Keeping.{kept_posts}
use Rattle.zs_session_cell.proofs.session_cell.SessionCell.give_back.Goals as goal

pub invariant_of-self : goal.invariant_of-self
invariant_of-self g c =
    let cell = c.self.inside.cell in
    let journal = c.self.inside.journal.items in
    let lents = ran_lents c.args.ran.ran.items in
    subst (λ (s : CellSeen g.row.H.Denot). IsKept s.world c.self.inside.settings journal s.exchange.posts) (sym c.give_back.ensures.posts)
    (kept_posts cell.world c.self.inside.settings journal cell.exchange.posts (all_given_back lents cell.exchange.posts) c.self.invariant (all_given_flags (named_since journal) (length journal) lents cell.exchange.posts))
