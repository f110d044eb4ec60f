-- What a reply says, given the text of its key.
use Rattle.std.specs.Prelude.{ℕ, true, false, List, Option, Ok, Err}
use Rattle.zs_sample.specs.declared.locality.Locality.TheVariants.{Any}
use Rattle.zs_sample.specs.Encoding.{encoding_of}
use Rattle.zs_sample.specs.Reply.{Replied}
use Rattle.zs_wire.specs.declared.body.Body.{Body}
use Rattle.zs_wire.specs.declared.body.Value.{Value}
use Rattle.zs_wire.specs.declared.origin.EntityGlobalId.{EntityGlobalId}
use Rattle.zs_wire.specs.declared.quality.QoSType.{QoSType}
use Rattle.zs_events.specs.declared.publication.Content.{Content}
use Rattle.zs_model.specs.Publications.{sample_on}

-- the sample of a reply has the reply's qualities, and was not lost on the way
abbrev pub reply_content : QoSType → Body → Content
reply_content qos body = record { local = false; destination = Any; body = body; qos = qos; reliable = true }

-- a reply with a value, and one with an error
abbrev pub reply_on : List ℕ → QoSType → Option EntityGlobalId → Body → Replied
reply_on text qos replier body = record { result = Ok (sample_on text (reply_content qos body)); replier = replier }

abbrev pub error_on : Option EntityGlobalId → Value → Replied
error_on replier value = record { result = Err (record { payload = value.payload; encoding = encoding_of value.encoding }); replier = replier }
