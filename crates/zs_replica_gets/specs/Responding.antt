-- What a side answers a request of the other: a response with each entry that meets the request's key, and then the final.
use Rattle.std.specs.Prelude.{ℕ, List, [], ◌∷◌, ◌++◌, map}
use Rattle.zs_wire.specs.declared.message.Message.{Message}
use Rattle.zs_wire.specs.declared.message.Message.TheVariants.{Response as response_message, ResponseFinal}
use Rattle.zs_wire.specs.declared.quality.QoSType.{QoSType}
use Rattle.zs_wire.specs.declared.response.Answered.TheVariants.{Reply as with_value}
use Rattle.zs_wire.specs.declared.response.Response.{Response}
use Rattle.zs_events.specs.Updates.{body_of}
use Rattle.zs_model.specs.Answers.{response_by}
use Rattle.zs_model.specs.Sends.{full_wire}
use Rattle.zs_keeping.specs.Answering.{update_of}
use Rattle.zs_store.specs.Store.{Write}
use Rattle.zs_replica_gets.specs.Steps.{answerer, meeting}

-- a response with what was written, on the whole text of its key
abbrev pub response_with : ℕ → ℕ → QoSType → Write → Response
response_with zid rid qos w = response_by zid answerer rid (full_wire w.key) qos (with_value (body_of [] (update_of w.entry)))

-- those with all that meets a key, ascending, and then the final
abbrev pub answer_messages : ℕ → ℕ → QoSType → List ℕ → List ℕ → List Write → List Message
answer_messages zid rid qos keys key store = map (λ w. response_message (response_with zid rid qos w)) (meeting keys key store) ++ ResponseFinal rid ∷ []
