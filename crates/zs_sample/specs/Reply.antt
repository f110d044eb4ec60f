use Rattle.std.specs.Prelude.{Option, Result}
use Rattle.zs_wire.specs.declared.origin.EntityGlobalId.{EntityGlobalId}
use Rattle.zs_sample.specs.declared.sample_fields.SampleFields.{SampleFields}
use Rattle.zs_sample.specs.ErrorFields.{ErrorFields}

-- what a reply brings, and who sent it, where that is known
pub record Replied : Type 0 where
  pub result : Result SampleFields ErrorFields
  pub replier : Option EntityGlobalId
