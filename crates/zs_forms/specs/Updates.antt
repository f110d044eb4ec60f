-- What is said of a key, in plain numbers and bytes.
use Rattle.std.specs.Prelude.{ℕ, if◌then◌else◌, Bool, List, Option, None, Some}
use Rattle.zs_bytes.specs.Payload.{one_slice}
use Rattle.zs_events.specs.declared.update.PushBody.{PushBody}
use Rattle.zs_events.specs.declared.update.PushBody.TheVariants.{Put, Delete}
use Rattle.zs_events.specs.declared.update.Update.{Update}
use Rattle.zs_forms.specs.Origins.{timestamp_of, source_of}
use Rattle.zs_forms.specs.Texts.{encoding_in}
use Rattle.zs_forms.specs.declared.updates.ExtrasForm.{ExtrasForm}

-- an attachment of these bytes, if there is one
abbrev pub attachment_of : Bool → List ℕ → Option (List (List ℕ))
attachment_of is_there bytes = if is_there then Some (one_slice bytes) else None

-- a value of these bytes, where its encoding is known
abbrev pub value_with : List ℕ → Option (Option (List ℕ)) → Option PushBody
value_with payload (Some encoding) = Some (Put (one_slice payload) encoding)
value_with payload None = None

abbrev pub value_of : List ℕ → List ℕ → Option PushBody
value_of payload encoding = value_with payload (encoding_in encoding)

-- what is said beside it
abbrev pub update_of : PushBody → ExtrasForm → Update
update_of body f = record {
  body = body;
  timestamp = timestamp_of f.timestamp;
  source = source_of f.source;
  attachment = attachment_of f.has_attachment f.attachment.now;
}

abbrev pub put_with : Option PushBody → ExtrasForm → Option Update
put_with (Some body) f = Some (update_of body f)
put_with None f = None

-- a put, if its encoding is known, and a deletion
abbrev pub put_update : List ℕ → ExtrasForm → Option Update
put_update payload f = put_with (value_of payload f.encoding.now) f

abbrev pub delete_update : ExtrasForm → Update
delete_update f = update_of Delete f
