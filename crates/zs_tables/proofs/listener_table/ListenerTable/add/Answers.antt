use Rattle.std.proofs.Common.{◌≡◌, List}
use Rattle.std.specs.Prelude.{◌<◌, All}
use Rattle.zs_tables.specs.Matching.{Listener}
use Rattle.zs_tables.proofs.Parents.{indexed_more, indexed_back}
use Rattle.zs_tables.proofs.listener_table.ListenerTable.add.Goals as goal

pub add-requires : goal.add-requires
add-requires c = rw c.self.view_is c.requires

pub invariant_of-self-in-Err : goal.invariant_of-self-in-Err
invariant_of-self-in-Err c =
    let above : All (λ (l : Listener). l.row.id < c.args.row.id) c.self.inside.rows = rw c.self.view_is c.requires in
    rw c.in-Err.ensures.err (indexed_back c.from.result c.args.row.id c.self.inside.rows c.self.inside.parents c.note.new.self c.forget.new.self c.self.invariant above c.in_ok-note.ensures.ok c.forget.ensures)

pub invariant_of-self-in_default : goal.invariant_of-self-in_default
invariant_of-self-in_default c =
    let above : All (λ (l : Listener). l.row.id < c.args.row.id) c.self.inside.rows = rw c.self.view_is c.requires in
    indexed_more (record { row = c.args.row; count = c.args.count }) c.self.inside.rows c.add.new.self c.self.inside.parents c.note.new.self c.self.invariant above c.in_default.ensures.ok
    (rw c.from.ensures at c.in_ok-note.ensures.ok)
