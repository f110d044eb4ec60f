use Rattle.std.proofs.Common.{Bool, ◌∙◌, ap}
use Rattle.std.specs.Prelude.{Option, if◌then◌else◌}
use Rattle.zs_rows.specs.Rows.{rows_of}
use Rattle.zs_requests.specs.declared.query_value.QueryValue.{QueryValue}
use Rattle.zs_requests.specs.declared.requests.Finished.TheVariants.{MoreLeft, Last}
use Rattle.zs_requests.specs.Unfinished.{Unfinished, value_at, finished}
use Rattle.zs_requests.proofs.Filed.{other_marked}
use Rattle.zs_requests.proofs.requests.Requests.peek_finish.Goals as goal

pub returns : goal.returns
returns c =
    let found = c.in-Some.found.now in
    c.finishing_of.ensures
    ∙ (ap (λ (b : Bool). if b then MoreLeft else Last found.row) (other_marked c.self.inside.handed found c.self.inside.values c.self.inside.requests c.self.invariant c.has_other.result c.has_other.ensures)
    ∙ (ap (λ (o : Option QueryValue). finished o (rows_of c.self.inside.values)) c.in-Some.ensures
    ∙ ap (λ (u : Unfinished). finished (value_at c.args.value u.values) u.values) c.self.view_is))
