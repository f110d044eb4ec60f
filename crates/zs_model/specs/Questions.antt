-- What a get asks: the parameters and the mode that it comes to, how long it waits, its row, and the request that is sent.
use Rattle.std.specs.Prelude.{ℕ, ◌+◌, min, Bool, true, false, List, [], ◌∷◌, option_map, unwrap_or, if◌then◌else◌, encode_utf8_all}
use Rattle.std.specs.Str.{chars}
use Rattle.zs_keys.specs.Key.{undeclared}
use Rattle.zs_wire.specs.Parameters.{trimmed_text, text_with, contains_name, time_name, any_key_name}
use Rattle.zs_wire.specs.declared.body.Value.{Value}
use Rattle.zs_wire.specs.declared.request.ConsolidationMode.{ConsolidationMode}
use Rattle.zs_wire.specs.declared.request.ConsolidationMode.TheVariants as by
use Rattle.zs_wire.specs.declared.request.Request.{Request}
use Rattle.zs_wire.specs.declared.wire_expr.WireExpr.{WireExpr}
use Rattle.zs_sample.specs.Encoding.{encoding_of}
use Rattle.zs_subscriptions.specs.Recipients.{has_session, has_network}
use Rattle.zs_query.specs.declared.get_row.GetRow.{GetRow}
use Rattle.zs_events.specs.Kinds.{Question}

-- its parameters, as the bytes of their text, without the signs at the end that say nothing there
abbrev pub given_parameters : Question → List ℕ
given_parameters q = trimmed_text (encode_utf8_all q.inquiry.parameters)

-- and with the name that says that replies on any key are taken, where the get says so
abbrev pub parameters_of : Question → List ℕ
parameters_of q = if q.settings.any_key then text_with any_key_name [] (given_parameters q) else given_parameters q

-- which of the replies on one key are handed out: where that is left open, all of those in a range of time, else the newest
abbrev pub mode_by : ConsolidationMode → Bool → ConsolidationMode
mode_by by.Auto timed = if timed then by.None else by.Latest
mode_by by.None timed = by.None
mode_by by.Monotonic timed = by.Monotonic
mode_by by.Latest timed = by.Latest

abbrev pub mode_of : Question → ConsolidationMode
mode_of q = mode_by q.settings.consolidation (contains_name time_name (given_parameters q))

-- how long it waits: what it says, or else what the settings say
abbrev pub timeout_of : ℕ → Question → ℕ
timeout_of default q = unwrap_or q.settings.timeout default

-- the last moment that there is
abbrev pub last_moment : ℕ
last_moment = 18446744073709551615

-- the row of a get that is asked at a moment: it waits for the sides that its destination has
abbrev pub row_asked : ℕ → ℕ → ℕ → List ℕ → Question → GetRow
row_asked default moment number text q = record {
  number = number;
  key = undeclared text;
  any_key = contains_name any_key_name (parameters_of q);
  mode = mode_of q;
  local_wanted = has_session q.settings.destination;
  network_wanted = has_network q.settings.destination;
  deadline = min (moment + timeout_of default q) last_moment;
  querier = q.querier;
  cancellation_token = q.inquiry.cancellation_token;
}

-- a value as it is sent: the empty encoding is the default
abbrev pub sent_value : Value → Value
sent_value value = record value { encoding = encoding_of value.encoding }

-- the request of a get, with its key in this form
abbrev pub request_of : ℕ → WireExpr → ℕ → Question → Request
request_of default wire number q = record {
  rid = number;
  wire = wire;
  parameters = chars (parameters_of q);
  target = q.settings.target;
  consolidation = mode_of q;
  timeout = timeout_of default q;
  value = option_map sent_value q.inquiry.value;
  qos = q.settings.qos;
  source = q.inquiry.source;
  attachment = q.inquiry.attachment;
}

-- whether anybody is met
abbrev pub is_some_met : List ℕ → Bool
is_some_met [] = false
is_some_met (queryable ∷ met) = true

-- the row of a get that met these queryables, once this session's final is given where it met none
abbrev pub row_waiting : ℕ → ℕ → ℕ → List ℕ → Question → List ℕ → GetRow
row_waiting default moment number text q met = record (row_asked default moment number text q) { local_wanted = is_some_met met }
