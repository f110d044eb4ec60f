use Rattle.std.proofs.Common.{ap, ◌∙◌}
use Rattle.zs_liveliness.specs.declared.liveliness_sub.LivelinessSub.{LivelinessSub}
use Rattle.zs_liveliness.specs.Liveliness.{wants}
use Rattle.zs_keyed.proofs.Passing.{passed, passes_found}
use Rattle.zs_liveliness.proofs.liveliness_subs.hears.Goals as goal

pub returns-in_default : goal.returns-in_default
returns-in_default c =
    let test = wants c.args.before in
    ap (passed test) c.in_default.ensures ∙ passes_found (λ (s : LivelinessSub). s.id) test c.args.id c.args.rows.now c.requires

pub returns : goal.returns
returns c =
    let test = wants c.args.before in
    c.wants.ensures ∙ (ap (passed test) c.in-Some.ensures ∙ passes_found (λ (s : LivelinessSub). s.id) test c.args.id c.args.rows.now c.requires)
