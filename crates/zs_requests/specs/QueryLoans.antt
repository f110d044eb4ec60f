-- What query data is once what it lent has been changed.
use Rattle.std.specs.Prelude.{ℕ, List, Option, Some}
use Rattle.std.specs.Borrow.{LendsIf, MutBor, Fml}
use Rattle.zs_bytes.specs.contracts.payload.ZBytes.{the_row as bytes_row}
use Rattle.zs_requests.specs.QueryData.{Query}
use Rattle.zs_requests.specs.contracts.query_data.QueryData.{the_row}

-- it ends with the payload that was last written through r, and as it was where it has none
abbrev pub LendsPayload : MutBor Query → Option (MutBor (List (List ℕ))) → Fml
LendsPayload query r = LendsIf the_row bytes_row query r (λ payload. record query.now { payload = Some payload }) query.now

-- it ends with the attachment that was last written through r, and as it was where it has none
abbrev pub LendsAttachment : MutBor Query → Option (MutBor (List (List ℕ))) → Fml
LendsAttachment query r = LendsIf the_row bytes_row query r (λ attachment. record query.now { attachment = Some attachment }) query.now
