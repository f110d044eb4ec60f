use Rattle.std.proofs.Common.{◌≡◌, length}
use Rattle.zs_exchange.specs.Handlers.{AreBare}
use Rattle.zs_session_cell.proofs.quiet.let_ended_go.Given as goal

abbrev pub decreases-endings : goal.decreases-endings
decreases-endings l = length l.cell.exchange.posts.ready

abbrev pub invariant-endings : goal.invariant-endings
invariant-endings l = record {
  world : l.cell.world ≡ l.fn.cell.world;
  keeps : l.cell.exchange.keeps ≡ l.fn.cell.exchange.keeps;
  outbox : l.cell.exchange.outbox ≡ l.fn.cell.exchange.outbox;
  rows : l.cell.exchange.posts.rows ≡ l.fn.cell.exchange.posts.rows;
  bare : AreBare l.cell.exchange.posts.ready;
}
