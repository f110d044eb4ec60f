use Rattle.zs_subscriptions.proofs.Searching.{searched}
use Rattle.zs_subscriptions.proofs.places.number_place.Goals as goal

pub returns : goal.returns
returns c =
    let facts = c.binary_search.ensures in
    searched (λ n. n) c.args.number c.args.numbers.now c.requires _ facts.bound facts.position
