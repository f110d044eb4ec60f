use Rattle.std.proofs.Common.{sym, ◌∙◌, subst}
use Rattle.zs_posts.specs.Posts.{Rows}
use Rattle.zs_exchange.specs.Handlers.{AreGates}
use Rattle.zs_session_cell.specs.declared.no_handler.NoHandler.{NoHandler}
use Rattle.zs_link.proofs.session.LinkedSession.let_ended_go.Goals as goal

pub let_ended_go-requires : goal.let_ended_go-requires
let_ended_go-requires c = c.self.invariant.bare

pub invariant_of-self : goal.invariant_of-self
invariant_of-self c = record {
  keeps = c.let_ended_go.ensures.keeps ∙ c.self.invariant.keeps;
  gates = subst (λ (rows : Rows NoHandler). AreGates rows) (sym c.let_ended_go.ensures.rows) c.self.invariant.gates;
  bare = c.let_ended_go.ensures.bare;
}

pub returns : goal.returns
returns c = rw c.let_ended_go.ensures.world (rw c.let_ended_go.ensures.outbox c.self.view_is)
