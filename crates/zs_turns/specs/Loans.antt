-- What a query is once what it lent has been changed.
use Rattle.std.specs.Prelude.{ℕ, List, Option, Some}
use Rattle.std.specs.Borrow.{Lends, LendsIf, MutBor, Fml}
use Rattle.zs_bytes.specs.contracts.payload.ZBytes.{the_row as bytes_row}
use Rattle.zs_query.specs.QueryData.{Query}
use Rattle.zs_requests.specs.contracts.query_data.QueryData.{the_row as data_row}
use Rattle.zs_turns.specs.Queries.{QuerySeen}
use Rattle.zs_turns.specs.contracts.query.Query.{the_row}

-- it ends with the fields that were last written through r
abbrev pub LendsFields : MutBor QuerySeen → MutBor Query → Fml
LendsFields query r = Lends the_row data_row query r (λ fields. record query.now { data_of = fields })

-- it ends with the payload that was last written through r, and as it was where it has none
abbrev pub LendsPayload : MutBor QuerySeen → Option (MutBor (List (List ℕ))) → Fml
LendsPayload query r =
    LendsIf the_row bytes_row query r (λ payload. record query.now { data_of = record query.now.data_of { payload = Some payload } }) query.now

-- it ends with the attachment that was last written through r, and as it was where it has none
abbrev pub LendsAttachment : MutBor QuerySeen → Option (MutBor (List (List ℕ))) → Fml
LendsAttachment query r =
    LendsIf the_row bytes_row query r (λ attachment. record query.now { data_of = record query.now.data_of { attachment = Some attachment } }) query.now
