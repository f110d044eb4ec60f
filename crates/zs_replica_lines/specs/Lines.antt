-- What a line asks of its side, by its fields.
use Rattle.std.specs.Prelude.{ℕ, ◌==◌, Bool, true, false, not, List, [], ◌∷◌, Option, None, Some, option_map, codes, bytes_eq, if◌then◌else◌}
use Rattle.std.specs.List.{list_any}
use Rattle.std.specs.Str.{chars}
use Rattle.zs_keys.specs.Matching.{includes}
use Rattle.zs_keys.specs.Text.{is_canonical}
use Rattle.zs_wire.specs.declared.origin.Timestamp.{Timestamp}
use Rattle.zs_wire.specs.declared.quality.CongestionControl.TheVariants.{Drop, Block}
use Rattle.zs_wire.specs.declared.request.ConsolidationMode.TheVariants.{Latest}
use Rattle.zs_wire.specs.declared.request.QueryTarget.TheVariants.{BestMatching}
use Rattle.zs_sample.specs.declared.locality.Locality.TheVariants.{Any}
use Rattle.zs_events.specs.declared.chan.Chan.TheVariants.{Print}
use Rattle.zs_events.specs.declared.event.Event.{Event}
use Rattle.zs_events.specs.declared.event.Event.TheVariants.{Publish, Get}
use Rattle.zs_events.specs.declared.inquiry.Inquiry.{Inquiry}
use Rattle.zs_events.specs.declared.inquiry.QuerySettings.{QuerySettings}
use Rattle.zs_events.specs.declared.key_arg.KeyArg.TheVariants.{Text}
use Rattle.zs_events.specs.declared.publication.PublicationQuality.{PublicationQuality}
use Rattle.zs_events.specs.declared.update.PushBody.{PushBody}
use Rattle.zs_events.specs.declared.update.PushBody.TheVariants.{Put, Delete}
use Rattle.zs_events.specs.declared.update.Update.{Update}
use Rattle.zs_parts.specs.Symbols.{payload_of}
use Rattle.zs_parts.specs.Options.{timestamp_of}
use Rattle.zs_replica_lines.specs.declared.line.ReplicaLine.{ReplicaLine}
use Rattle.zs_replica_lines.specs.declared.line.ReplicaLine.TheVariants.{Take, Refuse, Dump}
use Rattle.zs_replica_lines.specs.declared.line.ReplicaRefusal.{ReplicaRefusal}
use Rattle.zs_replica_lines.specs.declared.line.ReplicaRefusal.TheVariants.{BadKeyExpr, WildKey, Outside}

-- the keys that are replicated
abbrev pub all_keys : List ℕ
all_keys = codes "r/**"

abbrev pub has_star : List ℕ → Bool
has_star text = list_any (λ b. b == 42) text

-- why a write at a key is refused
abbrev pub write_refusal : List ℕ → Option ReplicaRefusal
write_refusal text =
    if not (is_canonical text) then Some BadKeyExpr else
    if has_star text then Some WildKey else
    if not (includes all_keys text) then Some Outside else None

-- and a question
abbrev pub question_refusal : List ℕ → Option ReplicaRefusal
question_refusal text = if not (is_canonical text) then Some BadKeyExpr else None

abbrev pub unless_refused : Option ReplicaRefusal → Event → ReplicaLine
unless_refused None event = Take event
unless_refused (Some refusal) event = Refuse refusal

-- a publication of a key with that moment, and else as a script line without options has it
abbrev pub plain_quality : PublicationQuality
plain_quality = record { qos = record { priority = 5; congestion = Drop; express = false }; reliable = true }

abbrev pub publication : List ℕ → PushBody → Timestamp → Event
publication text body time =
    Publish Any (Text (chars text)) (record { body = body; timestamp = Some time; source = None; attachment = None }) plain_quality

-- a get that hands out the newest reply of each key, and else as a script line without options has it
abbrev pub plain_settings : QuerySettings
plain_settings = record {
  destination = Any;
  target = BestMatching;
  consolidation = Latest;
  timeout = None;
  qos = record { priority = 5; congestion = Block; express = false };
  any_key = false;
}

abbrev pub plain_inquiry : Inquiry
plain_inquiry = record { parameters = []; value = None; source = None; attachment = None; cancellation_token = None }

abbrev pub question : List ℕ → Event
question text = Get (Text (chars text)) plain_settings plain_inquiry Print

abbrev pub write_line : List ℕ → PushBody → Timestamp → ReplicaLine
write_line text body time = unless_refused (write_refusal text) (publication text body time)

-- `put KEYTEXT BYTES TS` behind its word
abbrev pub put_at : List ℕ → List (List ℕ) → Option Timestamp → Option ReplicaLine
put_at text payload None = None
put_at text payload (Some time) = Some (write_line text (Put payload None) time)

abbrev pub put_of : List ℕ → Option (List (List ℕ)) → Option Timestamp → Option ReplicaLine
put_of text None time = None
put_of text (Some payload) time = put_at text payload time

-- `del KEYTEXT TS`
abbrev pub delete_of : List ℕ → Option Timestamp → Option ReplicaLine
delete_of text None = None
delete_of text (Some time) = Some (write_line text Delete time)

-- `get KEYTEXT`
abbrev pub get_of : List ℕ → ReplicaLine
get_of text = unless_refused (question_refusal text) (question text)

-- `dump`
abbrev pub line_of_one : List ℕ → Option ReplicaLine
line_of_one word = if bytes_eq word (codes "dump") then Some Dump else None

abbrev pub line_of_two : List ℕ → List ℕ → Option ReplicaLine
line_of_two word text = if bytes_eq word (codes "get") then Some (get_of text) else None

abbrev pub line_of_three : List ℕ → List ℕ → List ℕ → Option ReplicaLine
line_of_three word text time = if bytes_eq word (codes "del") then delete_of text (timestamp_of time) else None

abbrev pub line_of_four : List ℕ → List ℕ → List ℕ → List ℕ → Option ReplicaLine
line_of_four word text bytes time = if bytes_eq word (codes "put") then put_of text (payload_of bytes) (timestamp_of time) else None

-- what the fields say, if they are of one of these forms
abbrev pub line_of : List (List ℕ) → Option ReplicaLine
line_of [] = None
line_of (word ∷ []) = line_of_one word
line_of (word ∷ text ∷ []) = line_of_two word text
line_of (word ∷ text ∷ time ∷ []) = line_of_three word text time
line_of (word ∷ text ∷ bytes ∷ time ∷ []) = line_of_four word text bytes time
line_of (word ∷ text ∷ bytes ∷ time ∷ more ∷ fields) = None

-- the names of the refusals
abbrev pub refusal_name : ReplicaRefusal → List ℕ
refusal_name BadKeyExpr = codes "BadKeyExpr"
refusal_name WildKey = codes "WildKey"
refusal_name Outside = codes "Outside"
