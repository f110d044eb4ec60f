use Rattle.std.proofs.Common.{◌≡◌, false, List, sym, ap, ◌∙◌, subst}
use Rattle.std.specs.List.{AllByRecursion}
use Rattle.zs_events.specs.declared.event.Event.{Event}
use Rattle.zs_delivery.specs.Links.{is_net}
use Rattle.zs_store.specs.Store.{Write}
use Rattle.zs_keeping.specs.Answering.{answers_to}
use Rattle.zs_replica.specs.Told.{answerer, with_all}
use Rattle.zs_replica.specs.Sides.{AreTold, Becomes, store_in}
use Rattle.zs_replica.proofs.Own.{own_answers}
use Rattle.zs_replica.proofs.Steps.{on_ok, store_is}
use Rattle.zs_replica.proofs.sides.Sides.answer.Goals as goal

pub take_all-told-requires : goal.take_all-told-requires
take_all-told-requires c =
    subst (λ (events : List Event). AllByRecursion (λ event. is_net event ≡ false) events) (sym (c.deref.ensures.value ∙ c.in_ok-events.ensures))
    (own_answers answerer (store_in c.args.side c.args.self.now) c.args.effects.now)

pub returns : goal.returns
returns c =
    let number = c.args.number in
    let side = c.args.side in
    let effects = c.args.effects.now in
    let new = c.take_all-told.new.self in
    on_ok c.take_all-told.result (Becomes (λ s t. with_all s number side c.deref.result.now t) c.args.self.now new) _
    (λ all s t told.
    subst (λ (events : List Event). AreTold new s (with_all s number side events t))
    (c.deref.ensures.value ∙ c.in_ok-events.ensures ∙ ap (λ (store : List Write). answers_to answerer store effects) (store_is side c.args.self.now s t.links told.behind))
    (all s t told))
    c.take_all-told.ensures
