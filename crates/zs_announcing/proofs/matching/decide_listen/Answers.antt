use Rattle.std.proofs.Common.{◌≡◌, ℕ, true, false, [], ◌∷◌, None, Some, sym, ap, ◌∙◌}
use Rattle.zs_tables.specs.Listeners.{listed}
use Rattle.zs_events.specs.Kinds.{parent_kind_of}
use Rattle.zs_world.specs.declared.change.Change.TheVariants.{OfEntities}
use Rattle.zs_world.specs.declared.change.EntityChange.TheVariants.{Add as AddEntity}
use Rattle.zs_world.specs.declared.change.EntityRow.TheVariants.{Listener as new_listener}
use Rattle.zs_model.specs.Settings.{last_entity}
use Rattle.zs_model.specs.Counters.{is_spent}
use Rattle.zs_world.specs.World.{World}
use Rattle.zs_model.specs.Listeners.{listening}
use Rattle.zs_world.specs.Decisions.{decision_of}
use Rattle.zs_announcing.proofs.Listening.{listen_missing, listen_there, listen_spent, spent_is, unspent_is}
use Rattle.zs_announcing.proofs.matching.decide_listen.Goals as goal

pub returns-in_default : goal.returns-in_default
returns-in_default c =
    let w = c.args.world.now in
    let none : listening w.entities.pubs w.entities.queriers c.world.inside.next_entity (parent_kind_of c.args.parent) c.args.id ≡ [] = sym c.in_ok-row.ensures ∙ ap listed c.in_default.is in
    c.refused.ensures ∙ sym (listen_missing w c.args.parent c.args.id c.world.inside.next_entity none)

pub returns-then-world-lt1 : goal.returns-then-world-lt1
returns-then-world-lt1 c =
    let w = c.args.world.now in
    let same : c.world.inside.next_entity ≡ w.counters.entity = ap (λ (v : World). v.counters.entity) c.world.view_is in
    let there : listening w.entities.pubs w.entities.queriers w.counters.entity (parent_kind_of c.args.parent) c.args.id ≡ c.in-Some.row ∷ [] =
    ap (λ (n : ℕ). listening w.entities.pubs w.entities.queriers n (parent_kind_of c.args.parent) c.args.id) (sym same) ∙ sym c.in_ok-row.ensures ∙ ap listed c.in-Some.is in
    let spent : is_spent last_entity w.counters.entity ≡ true = spent_is last_entity c.world.inside.next_entity w.counters.entity same c.if-world-lt1.true in
    c.refused-then-world-lt1.ensures ∙ sym (listen_spent w c.args.parent c.args.id c.in-Some.row there spent)

pub returns : goal.returns
returns c =
    let w = c.args.world.now in
    let same : c.world.inside.next_entity ≡ w.counters.entity = ap (λ (v : World). v.counters.entity) c.world.view_is in
    let there : listening w.entities.pubs w.entities.queriers w.counters.entity (parent_kind_of c.args.parent) c.args.id ≡ c.in-Some.row ∷ [] =
    ap (λ (n : ℕ). listening w.entities.pubs w.entities.queriers n (parent_kind_of c.args.parent) c.args.id) (sym same) ∙ sym c.in_ok-row.ensures ∙ ap listed c.in-Some.is in
    let left : is_spent last_entity w.counters.entity ≡ false = unspent_is last_entity c.world.inside.next_entity w.counters.entity same c.if-world-lt1.false in
    c.accepted.ensures
    ∙ (λ i. decision_of None (Some (same i)) (c.new.ensures i) (OfEntities (AddEntity (new_listener c.in-Some.row))))
    ∙ sym (listen_there w c.args.parent c.args.id c.in-Some.row there left)
