use Rattle.std.proofs.Common.{◌≡◌, ap, ◌∙◌}
use Rattle.std.specs.Prelude.{◌==◌, is_some}
use Rattle.zs_keyed.proofs.Ascending.{found_any}
use Rattle.zs_subscriptions.proofs.number_rows.NumberRows.remove.Goals as goal

pub returns-clause-answer : goal.returns-clause-answer
returns-clause-answer c =
    let is : c.is_some.result ≡ is_some c.take.result = cc in
    is ∙ (ap is_some c.take.ensures.row ∙ found_any (λ row. row.number == c.args.number) c.args.self.now)
