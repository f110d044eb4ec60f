use Rattle.std.proofs.Common.{length, sym, subst}
use Rattle.zs_posts.specs.Settled.{taken_out}
use Rattle.zs_exchange.proofs.Flags.{out_flags}
use Rattle.zs_session_cell.specs.Cells.{CellSeen}
use Rattle.zs_session_cell.specs.Journals.{IsKept, named_since}
use Rattle.zs_session_cell.proofs.Keeping.{kept_posts}
use Rattle.zs_session_cell.proofs.session_cell.SessionCell.drain_of.Goals as goal

pub invariant_of-self : goal.invariant_of-self
invariant_of-self g c =
    let cell = c.self.inside.cell in
    let journal = c.self.inside.journal.items in
    subst (λ (s : CellSeen g.row.H.Denot). IsKept s.world c.self.inside.settings journal s.exchange.posts) (sym c.drain_of.ensures.posts)
    (kept_posts cell.world c.self.inside.settings journal cell.exchange.posts (taken_out c.args.key cell.exchange.posts) c.self.invariant (out_flags (named_since journal) (length journal) c.args.key cell.exchange.posts))
