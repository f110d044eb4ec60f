use Rattle.std.proofs.Common.{arith, ℕ, ◌<◌, ◌≤◌}
use Rattle.std.specs.Prelude.{◌==◌, filter}
use Rattle.zs_requests.specs.declared.query_value.QueryValue.{QueryValue}
use Rattle.zs_rows.proofs.Ascending.{all_filter, all_weaker, ascend_filter, ascend_short}
use Rattle.zs_requests.proofs.values.count_of.Goals as goal

pub overflow_cast-result : goal.overflow_cast-result
overflow_cast-result c =
    let all = c.args.values.now in
    let those = filter (λ (e : ℕ × QueryValue). e.1.request == c.args.request) all in
    omega (
      arith,
      c.number_of.ensures.count,
      ascend_short (λ (e : ℕ × QueryValue). e.0) 0 4294967295 those (omega arith)
          (ascend_filter (λ (e : ℕ × QueryValue). e.0) (λ e. e.1.request == c.args.request) all c.number_of.ensures.ascending)
          (all_weaker (λ (e : ℕ × QueryValue). e.0 < 4294967295) (λ (e : ℕ × QueryValue). 0 ≤ e.0) (λ e lt. omega arith) those (all_filter (λ (e : ℕ × QueryValue). e.0 < 4294967295) (λ e. e.1.request == c.args.request) all c.requires.below))
          (all_filter (λ (e : ℕ × QueryValue). e.0 < 4294967295) (λ e. e.1.request == c.args.request) all c.requires.below),
    )
