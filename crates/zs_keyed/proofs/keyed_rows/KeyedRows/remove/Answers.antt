use Rattle.std.proofs.Common.{◌≡◌, sym, ap, ◌∙◌}
use Rattle.std.specs.Prelude.{◌==◌, is_some}
use Rattle.zs_keyed.proofs.Ascending.{found_any}
use Rattle.zs_keyed.proofs.keyed_rows.KeyedRows.remove.Goals as goal

pub returns-clause-answer : goal.returns-clause-answer
returns-clause-answer g c =
    let is : c.is_some.result ≡ is_some c.take.result = cc in
    is ∙ ap is_some c.take.ensures.answer ∙ found_any (λ row. g.R.Keyed.number row == c.args.number) c.args.self.now
