use Rattle.std.proofs.Common.{◌≡◌, true, false, sym, ◌∙◌}
use Rattle.std.specs.Prelude.{map}
use Rattle.zs_tables.specs.declared.listener.ListenerRow.{ListenerRow}
use Rattle.zs_tables.specs.declared.listener.Listener.{Listener}
use Rattle.zs_subscriptions.proofs.Ascending.{ascend_map}
use Rattle.zs_model.specs.Listeners.{is_listener}
use Rattle.zs_entity_tables.proofs.Counted.{any_row}
use Rattle.zs_world.proofs.Hearing.{none_ends, its_end}
use Rattle.zs_hearing.proofs.listeners.push_end.Goals as goal

pub returns-then-not-has : goal.returns-then-not-has
returns-then-not-has c =
    let ls = c.args.listeners.now in
    let rows = map (λ (l : Listener). l.row) ls in
    let up = ascend_map (λ (row : ListenerRow). row.id) (λ (l : Listener). l.row) ls c.len-ascending.ensures.ascending in
    let out : c.has.result ≡ false = cc in
    let none : is_listener c.args.id rows ≡ false = any_row c.args.id ls ∙ sym c.has.ensures ∙ out in
    none_ends c.args.effects.now c.args.id rows up none

pub returns : goal.returns
returns c =
    let ls = c.args.listeners.now in
    let rows = map (λ (l : Listener). l.row) ls in
    let up = ascend_map (λ (row : ListenerRow). row.id) (λ (l : Listener). l.row) ls c.len-ascending.ensures.ascending in
    let is : c.has.result ≡ true = cc in
    let there : is_listener c.args.id rows ≡ true = any_row c.args.id ls ∙ sym c.has.ensures ∙ is in
    rw (its_end c.args.id rows up there) (rw c.end_of.ensures at c.push.ensures.ok)
