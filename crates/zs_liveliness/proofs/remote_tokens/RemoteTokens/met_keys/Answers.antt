use Rattle.std.proofs.Common.{◌≡◌, ℕ, List, ap, ◌∙◌}
use Rattle.zs_keys.specs.Matching.{intersects}
use Rattle.zs_liveliness.specs.declared.remote_token.RemoteToken.{RemoteToken}
use Rattle.zs_liveliness.specs.RemoteTokens.{keys_at}
use Rattle.zs_liveliness.proofs.Telling.{keys_met}
use Rattle.zs_liveliness.proofs.remote_tokens.RemoteTokens.met_keys.Goals as goal

pub returns : goal.returns
returns c =
    let keys = rw c.deref.ensures.value at c.in_ok-keys.ensures in
    rw (← c.self.view_is)
    (keys ∙ ap (keys_at c.self.inside.rows) c.in_ok-matches_into.ensures.ok ∙ keys_met (λ (t : RemoteToken). intersects c.args.key.now.text t.key.text) c.self.inside.rows c.matches_into.ensures.ascending)
