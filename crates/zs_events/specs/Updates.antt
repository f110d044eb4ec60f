-- What an application says of a key, as it stands in a message.
use Rattle.std.specs.Prelude.{ℕ, List, [], ◌∷◌, Option, Some, None, unwrap_or, codes}
use Rattle.zs_events.specs.declared.update.PushBody.{PushBody}
use Rattle.zs_events.specs.declared.update.PushBody.TheVariants.{Put, Delete}
use Rattle.zs_events.specs.declared.update.Update.{Update}
use Rattle.zs_sample.specs.Encoding.{encoding_of}
use Rattle.zs_wire.specs.declared.body.Body.{Body}
use Rattle.zs_wire.specs.declared.sample_kind.SampleKind.TheVariants.{Put as put_kind, Delete as delete_kind}

-- the encoding where none is named
abbrev pub default_encoding : List ℕ
default_encoding = codes "zenoh/bytes"

-- the body of an update that puts or deletes; the empty encoding is the default one, and what is deleted has no value
abbrev pub body_by : PushBody → List ℕ → Update → Body
body_by (Put payload encoding) unnamed update = record {
  kind = put_kind;
  payload = payload;
  encoding = encoding_of (unwrap_or encoding unnamed);
  timestamp = update.timestamp;
  source = update.source;
  attachment = update.attachment;
}
body_by Delete unnamed update = record {
  kind = delete_kind;
  payload = [];
  encoding = default_encoding;
  timestamp = update.timestamp;
  source = update.source;
  attachment = update.attachment;
}

-- and of an update, which has this encoding where it names none
abbrev pub body_of : List ℕ → Update → Body
body_of unnamed update = body_by update.body unnamed update

-- the texts of an update: the encoding that it names, if it names one
abbrev pub texts_by : PushBody → List (List ℕ)
texts_by (Put payload (Some encoding)) = encoding ∷ []
texts_by (Put payload None) = []
texts_by Delete = []
