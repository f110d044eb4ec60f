use Rattle.std.proofs.Common.{◌≡◌, Some, None, IfOk, sym, ap, subst, ◌∙◌}
use Rattle.std.specs.Prelude.{◌==◌}
use Rattle.std.specs.List.{find}
use Rattle.zs_tables.specs.Types.{RemoteToken}
use Rattle.zs_world.specs.declared.change.Decision.{Decision}
use Rattle.zs_world.specs.World.{World}
use Rattle.zs_decide.proofs.Ended.{ended_known}
use Rattle.zs_decide.proofs.decide.tokens.decide_ended_token.Goals as goal

pub returns-in-Some : goal.returns-in-Some
returns-in-Some c =
    let told : c.world.inside.liveliness.remote_tokens ≡ c.args.world.now.liveliness.remote_tokens = ap (λ (w : World). w.liveliness.remote_tokens) c.world.view_is in
    let found : find (λ (t : RemoteToken). t.number == c.args.id) c.args.world.now.liveliness.remote_tokens ≡ Some c.in-Some.token.now =
    sym (c.in-Some.ensures ∙ ap (find (λ (t : RemoteToken). t.number == c.args.id)) (c.remote_tokens.ensures ∙ told)) in
    subst (λ (d : Decision). IfOk c.end_token.result (λ made. made ≡ d)) (ended_known c.args.world.now c.args.id c.args.wire.now c.args.interest c.in-Some.token.now found) c.end_token.ensures

pub decide_ended_by-requires : goal.decide_ended_by-requires
decide_ended_by-requires c =
    let told : c.world.inside.liveliness.remote_tokens ≡ c.args.world.now.liveliness.remote_tokens = ap (λ (w : World). w.liveliness.remote_tokens) c.world.view_is in
    sym (c.in_default.ensures ∙ ap (find (λ (t : RemoteToken). t.number == c.args.id)) (c.remote_tokens.ensures ∙ told))
