use Rattle.zs_subscriptions.proofs.Searching.{searched}
use Rattle.zs_subscriptions.proofs.places.id_place.Goals as goal

pub returns : goal.returns
returns c =
    let facts = c.binary_search.ensures in
    searched (λ id. id) c.args.id c.args.ids.now c.requires _ facts.bound facts.position
