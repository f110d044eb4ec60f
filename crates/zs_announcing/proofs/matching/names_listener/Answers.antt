use Rattle.std.proofs.Common.{◌≡◌, ℕ, Bool, true, false, List, refl, sym, ap, ◌∙◌}
use Rattle.std.specs.Prelude.{◌==◌, not, map}
use Rattle.std.specs.List.{list_any}
use Rattle.zs_tables.specs.declared.listener.Listener.{Listener}
use Rattle.zs_world.specs.World.{World}
use Rattle.zs_model.specs.Listeners.{is_listener}
use Rattle.zs_entity_tables.proofs.Counted.{any_row}
use Rattle.zs_announcing.proofs.matching.names_listener.Goals as goal

pub returns-then-has : goal.returns-then-has
returns-then-has c =
    let w = c.args.world.now in
    let rows : map (λ (l : Listener). l.row) c.world.inside.matching.listeners ≡ w.matching.listeners = ap (λ (v : World). v.matching.listeners) c.world.view_is in
    let there : c.has.result ≡ is_listener c.args.id w.matching.listeners =
    c.has.ensures ∙ ap (λ (ls : List Listener). list_any (λ l. l.row.id == c.args.id) ls) c.listeners.ensures ∙ sym (any_row c.args.id c.world.inside.matching.listeners) ∙ ap (is_listener c.args.id) rows in
    let has : c.has.result ≡ true = cc in
    let yes : is_listener c.args.id w.matching.listeners ≡ true = sym there ∙ has in
    let left = c.left.ensures ∙ ap (λ (v : World). v.matching.left) c.world.view_is in
    rw yes (ap not (c.contains.ensures ∙ ap (λ (ids : List ℕ). list_any (λ other. other == c.args.id) ids) left))

pub returns-else-has : goal.returns-else-has
returns-else-has c =
    let w = c.args.world.now in
    let rows : map (λ (l : Listener). l.row) c.world.inside.matching.listeners ≡ w.matching.listeners = ap (λ (v : World). v.matching.listeners) c.world.view_is in
    let there : c.has.result ≡ is_listener c.args.id w.matching.listeners =
    c.has.ensures ∙ ap (λ (ls : List Listener). list_any (λ l. l.row.id == c.args.id) ls) c.listeners.ensures ∙ sym (any_row c.args.id c.world.inside.matching.listeners) ∙ ap (is_listener c.args.id) rows in
    let has : c.has.result ≡ false = cc in
    let no : is_listener c.args.id w.matching.listeners ≡ false = sym there ∙ has in
    rw no has
