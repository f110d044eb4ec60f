use Rattle.std.proofs.Common.{◌≡◌, ◌∙◌, ap, IfOk, subst, List, ℕ}
use Rattle.std.specs.Vec.{vec_items}
use Rattle.zs_session.specs.Soak.{soak_script, run_tally}
use Rattle.zs_session.proofs.soak.count_run.Goals as goal

pub returns : goal.returns
returns c =
    let left : c.new-source.result.left ≡ soak_script c.args.soak =
    ap (λ source. source.left) c.new-source.ensures ∙ ap vec_items c.into_bytes.ensures.value ∙ c.in_ok-script.ensures in
    subst (λ (input : List ℕ). IfOk c.count_driven.result (λ tally. tally ≡ run_tally input)) left c.count_driven.ensures
