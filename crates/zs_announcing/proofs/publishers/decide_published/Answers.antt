use Rattle.std.proofs.Common.{◌≡◌, ◌∙◌, List, Some, None, sym, ap}
use Rattle.zs_keys.specs.Key.{Key as a_key}
use Rattle.zs_events.specs.Kinds.{OwnContent}
use Rattle.zs_events.specs.declared.turn.Effect.{Effect}
use Rattle.zs_world.specs.declared.change.Change.TheVariants.{Nothing}
use Rattle.zs_world.specs.Decisions.{decision_of, published_effects}
use Rattle.zs_world.specs.World.{World}
use Rattle.zs_model.specs.Publishers.{pub_at}
use Rattle.zs_world.proofs.Publishers.{unpublished, published}
use Rattle.zs_announcing.proofs.publishers.decide_published.Goals as goal

pub returns-in_default : goal.returns-in_default
returns-in_default c =
    let rows : c.world.inside.publishers ≡ c.args.world.now.entities.pubs = ap (λ (w : World). w.entities.pubs) c.world.view_is in
    let none : pub_at c.args.id c.args.world.now.entities.pubs ≡ None = sym (c.in_default.ensures ∙ ap (pub_at c.args.id) rows) in
    c.refused.ensures ∙ sym (unpublished c.args.world.now c.args.id c.args.update.now none)

pub returns : goal.returns
returns c =
    let rows : c.world.inside.publishers ≡ c.args.world.now.entities.pubs = ap (λ (w : World). w.entities.pubs) c.world.view_is in
    let found : pub_at c.args.id c.args.world.now.entities.pubs ≡ Some c.in-Some.row.now = sym (c.in-Some.ensures ∙ ap (pub_at c.args.id) rows) in
    let text : c.key_of.result.text ≡ c.in-Some.row.now.key.text = ap (λ (k : a_key). k.text) c.key_of.ensures.plain in
    let content = c.in_ok-content.ensures in
    c.of.ensures
    ∙ ap (λ (fx : List Effect). decision_of None None fx Nothing)
    (c.in_ok-effects.ensures ∙ (λ i. published_effects c.args.world.now c.args.id (Some (text i)) (OwnContent (content i))))
    ∙ sym (published c.args.world.now c.args.id c.args.update.now c.in-Some.row.now found c.key_of.ensures.canonical)
