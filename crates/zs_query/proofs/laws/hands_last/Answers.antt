use Rattle.zs_requests.specs.declared.query_value.QueryValue.{QueryValue}
use Rattle.zs_query.proofs.Standing.{placed_last}
use Rattle.zs_query.proofs.laws.hands_last.Goals as goal

pub returns : goal.returns
returns c = λ first more values below. placed_last (λ (v : QueryValue). v.value) first more values below
