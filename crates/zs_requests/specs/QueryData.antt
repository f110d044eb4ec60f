-- What a queryable is handed of a request.
use Rattle.std.specs.Prelude.{ℕ, List, Option, encode_utf8_all}
use Rattle.std.specs.Option.{option_map}
use Rattle.zs_keys.specs.Key.{Key}
use Rattle.zs_wire.specs.Parameters.{trimmed_text}
use Rattle.zs_wire.specs.declared.quality.QoSType.{QoSType}
use Rattle.zs_wire.specs.declared.origin.SourceInfo.{SourceInfo}
use Rattle.zs_sample.specs.Encoding.{encoding_of}
use Rattle.zs_requests.specs.declared.request_row.RequestRow.{RequestRow}

-- the request's fields
pub record Query : Type 0 where
  pub key_expr : Key
  pub parameters : List ℕ
  pub qos : QoSType
  pub source : Option SourceInfo
  pub payload : Option (List (List ℕ))
  pub encoding : Option (List ℕ)
  pub attachment : Option (List (List ℕ))

-- those of a request: its parameters end before the characters that say nothing there
abbrev pub query_of : RequestRow → Query
query_of row = record {
  key_expr = row.key;
  parameters = trimmed_text (encode_utf8_all row.parameters);
  qos = row.qos;
  source = row.source;
  payload = option_map (λ v. v.payload) row.value;
  encoding = option_map (λ v. encoding_of v.encoding) row.value;
  attachment = row.attachment;
}
