use Rattle.std.proofs.Common.{◌≡◌, ℕ, List, [], ◌∷◌, refl, sym, ◌∙◌}
use Rattle.std.specs.Prelude.{map, filter, None}
use Rattle.zs_keys.specs.Matching.{intersects}
use Rattle.zs_tables.specs.declared.listener.ListenerRow.{ListenerRow}
use Rattle.zs_tables.specs.Matching.{Listener}
use Rattle.zs_tables.specs.Listeners.{meets_if}
use Rattle.zs_tables.proofs.listener_table.ListenerTable.met_by.Goals as goal

nobody_met : (ls : List Listener) → map (λ (l : Listener). l.row.id) (filter (λ (l : Listener). meets_if None l.row) ls) ≡ []
nobody_met [] = refl
nobody_met (l ∷ ls) = nobody_met ls

pub returns-in_default : goal.returns-in_default
returns-in_default c =
    rw c.in_default.is (c.new-ids.ensures.items ∙ sym (nobody_met c.args.self.now))

pub returns : goal.returns
returns c = rw (c.in-Some.is, ← c.in-Some.candidate-is, ← c.self.view_is) c.in_ok-matches_into.ensures.ok
