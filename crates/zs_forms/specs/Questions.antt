-- The events by which an application asks.
use Rattle.std.specs.Prelude.{ℕ, ◌==◌, if◌then◌else◌, Bool, not, List, Option, None, Some}
use Rattle.zs_bytes.specs.Payload.{one_slice}
use Rattle.zs_sample.specs.declared.locality.Locality.{Locality}
use Rattle.zs_wire.specs.declared.body.Value.{Value}
use Rattle.zs_wire.specs.declared.quality.QoSType.{QoSType}
use Rattle.zs_wire.specs.declared.request.QueryTarget.{QueryTarget}
use Rattle.zs_wire.specs.declared.request.QueryTarget.TheVariants.{BestMatching, All, AllComplete}
use Rattle.zs_wire.specs.declared.request.ConsolidationMode.{ConsolidationMode}
use Rattle.zs_wire.specs.declared.request.ConsolidationMode.TheVariants as mode
use Rattle.zs_events.specs.declared.chan.Chan.TheVariants.{Print}
use Rattle.zs_events.specs.declared.event.Event.{Event}
use Rattle.zs_events.specs.declared.event.Event.TheVariants.{Get, Querier, QuerierGet, LivelinessGet}
use Rattle.zs_events.specs.declared.inquiry.Inquiry.{Inquiry}
use Rattle.zs_events.specs.declared.inquiry.QuerySettings.{QuerySettings}
use Rattle.zs_events.specs.declared.key_arg.KeyArg.{KeyArg}
use Rattle.zs_forms.specs.Declarations.{key_in}
use Rattle.zs_forms.specs.Origins.{source_of}
use Rattle.zs_forms.specs.Quality.{destination_of, priority_of, qos_with}
use Rattle.zs_forms.specs.Texts.{text_in}
use Rattle.zs_forms.specs.Updates.{attachment_of}
use Rattle.zs_forms.specs.declared.keys.KeyForm.{KeyForm}
use Rattle.zs_forms.specs.declared.questions.AskForm.{AskForm}
use Rattle.zs_forms.specs.declared.questions.InquiryForm.{InquiryForm}
use Rattle.zs_forms.specs.declared.questions.LivelinessForm.{LivelinessForm}

-- a number, if there is one
abbrev pub optional : Bool → ℕ → Option ℕ
optional is_there n = if is_there then Some n else None

-- which queryables a number names, and which replies
abbrev pub target_of : ℕ → Option QueryTarget
target_of n =
    if n == 0 then Some BestMatching else
    if n == 1 then Some All else
    if n == 2 then Some AllComplete else None

abbrev pub consolidation_of : ℕ → Option ConsolidationMode
consolidation_of n =
    if n == 0 then Some mode.Auto else
    if n == 1 then Some mode.None else
    if n == 2 then Some mode.Monotonic else
    if n == 3 then Some mode.Latest else None

-- how a get asks, where each number says it
abbrev pub ways_with : Option Locality → Option QueryTarget → Option ConsolidationMode → Option QoSType → AskForm → Option QuerySettings
ways_with (Some d) (Some t) (Some c) (Some q) f = Some (record {
  destination = d;
  target = t;
  consolidation = c;
  timeout = optional f.has_timeout f.timeout;
  qos = q;
  any_key = f.any_key;
})
ways_with (Some d) (Some t) (Some c) None f = None
ways_with (Some d) (Some t) None q f = None
ways_with (Some d) None c q f = None
ways_with None t c q f = None

abbrev pub ways_of : AskForm → Option QuerySettings
ways_of f = ways_with (destination_of f.destination) (target_of f.target) (consolidation_of f.consolidation)
    (qos_with (priority_of f.priority) (not f.drops) f.express) f

-- a value, if its encoding is text
abbrev pub value_with : List ℕ → Option (List ℕ) → Option Value
value_with payload (Some encoding) = Some (record { payload = one_slice payload; encoding = encoding })
value_with payload None = None

abbrev pub value_of : List ℕ → List ℕ → Option Value
value_of payload encoding = value_with payload (text_in encoding)

-- what is told beside the parameters: nothing, or a value; there is no answer where that is none
abbrev pub told : Option Value → Option (Option Value)
told (Some value) = Some (Some value)
told None = None

abbrev pub told_of : Bool → List ℕ → List ℕ → Option (Option Value)
told_of has_value payload encoding = if has_value then told (value_of payload encoding) else Some None

-- what a get asks, where all that it needs is said
abbrev pub inquiry_with : Option (List ℕ) → Option (Option Value) → InquiryForm → Option Inquiry
inquiry_with (Some p) (Some v) f = Some (record {
  parameters = p;
  value = v;
  source = source_of f.source;
  attachment = attachment_of f.has_attachment f.attachment.now;
  cancellation_token = optional f.has_token f.token;
})
inquiry_with (Some p) None f = None
inquiry_with None v f = None

abbrev pub inquiry_of : InquiryForm → Option Inquiry
inquiry_of f = inquiry_with (text_in f.parameters.now) (told_of f.has_value f.payload.now f.encoding.now) f

-- a get, a querier and its gets
abbrev pub get_with : Option QuerySettings → Option KeyArg → Option Inquiry → Option Event
get_with (Some s) (Some k) (Some i) = Some (Get k s i Print)
get_with (Some s) (Some k) None = None
get_with (Some s) None i = None
get_with None k i = None

abbrev pub get_of : KeyForm → AskForm → InquiryForm → Option Event
get_of key how what = get_with (ways_of how) (key_in key) (inquiry_of what)

abbrev pub querier_with : Option QuerySettings → Option KeyArg → Option Event
querier_with (Some s) (Some k) = Some (Querier k s)
querier_with (Some s) None = None
querier_with None k = None

abbrev pub querier_of : KeyForm → AskForm → Option Event
querier_of key how = querier_with (ways_of how) (key_in key)

abbrev pub querier_get_with : ℕ → Option Inquiry → Option Event
querier_get_with id (Some i) = Some (QuerierGet id i Print)
querier_get_with id None = None

abbrev pub querier_get_of : ℕ → InquiryForm → Option Event
querier_get_of id what = querier_get_with id (inquiry_of what)

-- a get of liveliness tokens
abbrev pub liveliness_get_with : Option KeyArg → LivelinessForm → Option Event
liveliness_get_with (Some k) f = Some (LivelinessGet k (optional f.has_timeout f.timeout) (optional f.has_token f.token) Print)
liveliness_get_with None f = None

abbrev pub liveliness_get_of : KeyForm → LivelinessForm → Option Event
liveliness_get_of key f = liveliness_get_with (key_in key) f
