use Rattle.std.proofs.Common.{◌≡◌, ◌∙◌}
use Rattle.zs_tables.specs.Matching.{Listener, seen_if}
use Rattle.zs_tables.specs.Listeners.{meets_if}
use Rattle.zs_tables.proofs.Merging.{merged_tests}
use Rattle.zs_tables.proofs.listener_table.ListenerTable.met.Goals as goal

pub returns : goal.returns
returns c =
    let both = merged_tests (λ (l : Listener). l.row.id) (λ l. meets_if (seen_if c.args.goes) l.row) (λ l. meets_if (seen_if c.args.comes) l.row) c.args.self.now c.requires in
    rw (c.deref.ensures.value, c.in_ok-left.ensures, c.deref-2.ensures.value, c.in_ok-right.ensures, both) at c.merge.ensures
