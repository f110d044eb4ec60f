-- What a sample is once what it lent has been changed.
use Rattle.std.specs.Prelude.{ℕ, List, Option, Some}
use Rattle.std.specs.Borrow.{Lends, LendsIf, MutBor, Fml}
use Rattle.zs_bytes.specs.contracts.payload.ZBytes.{the_row as bytes_row}
use Rattle.zs_sample.specs.declared.sample_fields.SampleFields.{SampleFields}
use Rattle.zs_sample.specs.contracts.sample.Sample.{the_row}

-- the sample ends with the payload that was last written through r
abbrev pub LendsPayload : MutBor SampleFields → MutBor (List (List ℕ)) → Fml
LendsPayload sample r = Lends the_row bytes_row sample r (λ payload. record sample.now { payload = payload })

-- the sample ends with the attachment that was last written through r, and as it was where it has none
abbrev pub LendsAttachment : MutBor SampleFields → Option (MutBor (List (List ℕ))) → Fml
LendsAttachment sample r =
    LendsIf the_row bytes_row sample r (λ attachment. record sample.now { attachment = Some attachment }) sample.now
