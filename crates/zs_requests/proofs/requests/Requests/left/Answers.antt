use Rattle.std.proofs.Common.{length, ◌∙◌, ap}
use Rattle.std.specs.Prelude.{Option}
use Rattle.zs_rows.specs.Rows.{rows_of}
use Rattle.zs_requests.specs.declared.query_value.QueryValue.{QueryValue}
use Rattle.zs_requests.specs.Unfinished.{Unfinished, value_at, of_same_request}
use Rattle.zs_requests.proofs.Filed.{rows_below, count_is}
use Rattle.zs_requests.proofs.requests.Requests.left.Goals as goal

pub count_of-requires : goal.count_of-requires
count_of-requires c = record { below = rows_below c.self.inside.values c.self.invariant.numbered c.self.invariant.order.numbers }

pub returns : goal.returns
returns c =
    c.count_of.ensures
    ∙ (count_is c.in-Some.found.now.request c.self.inside.values
    ∙ (ap (λ (o : Option QueryValue). length (of_same_request o (rows_of c.self.inside.values))) c.in-Some.ensures
    ∙ ap (λ (u : Unfinished). length (of_same_request (value_at c.args.value u.values) u.values)) c.self.view_is))
