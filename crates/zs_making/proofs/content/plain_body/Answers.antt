use Rattle.std.proofs.Common.{◌≡◌, ℕ, List, IfOk, subst}
use Rattle.zs_events.specs.Updates.{body_of}
use Rattle.zs_making.proofs.content.plain_body.Goals as goal

pub returns : goal.returns
returns c =
    subst (λ (unnamed : List ℕ). IfOk c.body_with.result (λ made. made ≡ body_of unnamed c.args.update.now)) c.empty-unnamed.ensures c.body_with.ensures
