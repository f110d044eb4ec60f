use Rattle.std.proofs.Common.{map, sym, subst}
use Rattle.zs_posts.specs.Calls.{call_seen}
use Rattle.zs_exchange.specs.Exchange.{ExchangeSeen, Prepares}
use Rattle.zs_exchange.proofs.Undoing.{prepared_back}
use Rattle.zs_exchange.proofs.exchange.Exchange.undo.Goals as goal

pub returns : goal.returns
returns g c = λ e turn handler place first p.
    let q = subst (λ (s : ExchangeSeen g.row.H.Denot). Prepares e turn handler place first c.args.made.name (map call_seen c.args.made.calls.items) c.args.made.before c.args.made.ends.items s) (sym c.self.view_is) p in
    prepared_back q c.undo.new.posts c.truncate.new.self.items (c.undo.ensures handler _ first.posts q.begins) c.truncate.ensures.items
