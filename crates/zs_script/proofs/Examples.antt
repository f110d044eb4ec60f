-- The definitions at worked examples.
use Rattle.std.proofs.Common.{◌≡◌, [], ◌∷◌, ◌++◌, Some, None, Ok, Err, refl, true, false, codes}
use Rattle.std.specs.Str.{chars, is_utf8}
use Rattle.std.specs.Fmt.{digits}
use Rattle.hex.proofs.OnLiterals.{hex_on_literals}
use Rattle.zs_keys.specs.Key.{undeclared}
use Rattle.zs_wire.specs.declared.message.Message.TheVariants.{DeclareKeyExpr, UndeclareKeyExpr, Push, Response, ResponseFinal, Close as close_message}
use Rattle.zs_wire.specs.declared.quality.CongestionControl.TheVariants.{Drop, Block}
use Rattle.zs_wire.specs.declared.request.ConsolidationMode.TheVariants.{Auto, Latest}
use Rattle.zs_wire.specs.declared.request.QueryTarget.TheVariants.{BestMatching, All}
use Rattle.zs_wire.specs.declared.response.Answered.TheVariants.{Reply, Err as error_reply}
use Rattle.zs_wire.specs.declared.sample_kind.SampleKind.TheVariants.{Put as put_kind, Delete as delete_kind}
use Rattle.zs_wire.specs.declared.wire_expr.Mapping.TheVariants.{Sender, Receiver}
use Rattle.zs_sample.specs.declared.quality.Priority.TheVariants.{Data}
use Rattle.zs_sample.specs.declared.quality.Reliability.TheVariants.{Reliable}
use Rattle.zs_sample.specs.declared.locality.Locality.TheVariants.{SessionLocal, Remote, Any}
use Rattle.zs_events.specs.declared.entity_kind.BackgroundKind.TheVariants.{Sub as background_sub}
use Rattle.zs_events.specs.declared.entity_kind.EntityKind.TheVariants.{Sub as sub_kind, Pub as pub_kind}
use Rattle.zs_events.specs.declared.chan.Chan.TheVariants.{Print}
use Rattle.zs_events.specs.declared.event.Event.TheVariants.{Key, UndeclareKey, Sub, Pub, Undeclare, Background, Publish, PublishBy, Get as Ask, Tick, Close, Net}
use Rattle.zs_events.specs.declared.script_event.ScriptEvent.TheVariants.{Core}
use Rattle.zs_events.specs.declared.update.PushBody.TheVariants.{Put, Delete}
use Rattle.zs_events.specs.declared.key_arg.KeyArg.TheVariants.{Text, Number}
use Rattle.zs_events.specs.declared.turn.Answer.TheVariants.{Ok as accepted, Refused}
use Rattle.zs_events.specs.declared.turn.Effect.TheVariants.{Hand, End}
use Rattle.zs_events.specs.declared.turn.HandOver.TheVariants.{Sample, Reply as handed_reply}
use Rattle.zs_events.specs.declared.turn.Kind.TheVariants.{Subscriber, Get, LivelinessGet}
use Rattle.zs_events.specs.declared.turn.Refusal.TheVariants.{NotFound}
use Rattle.zs_lines.specs.Lines.{lines, fields}
use Rattle.zs_parts.specs.Parts.{read, form}
use Rattle.zs_grammar.specs.Grammar.{undeclare_of, push_of, response_on, response_of, message_of, event_of}
use Rattle.zs_printing.specs.Pieces.{written}
use Rattle.zs_printing.specs.Printing.{hand_pieces, replied_pieces, turn_text}
use Rattle.zs_printing.specs.Words.{hex_digits}

-- bytes cut at line feeds, with and without one at the end
two_lines : lines (codes "ab" ++ 10 ∷ codes "c") ≡ codes "ab" ∷ codes "c" ∷ []
two_lines = refl

ended_lines : lines (codes "ab" ++ 10 ∷ 10 ∷ []) ≡ codes "ab" ∷ [] ∷ []
ended_lines = refl

three_fields : fields (codes "sub" ++ 9 ∷ codes "any" ++ 9 ∷ []) ≡ codes "sub" ∷ codes "any" ∷ [] ∷ []
three_fields = refl

-- lines and their events
a_sub : event_of (codes "sub" ++ 9 ∷ codes "any" ++ 9 ∷ codes "test/k") ≡ Some (Core (Sub Any (Text (codes "test/k")) Print))
unfolding event_of undeclare_of message_of push_of form read chars is_utf8 hex_on_literals lib.Utf8.encode
a_sub = refl

a_local_sub : event_of (codes "sub" ++ 9 ∷ codes "local" ++ 9 ∷ codes "") ≡ Some (Core (Sub SessionLocal (Text []) Print))
unfolding event_of undeclare_of message_of push_of form read chars is_utf8 hex_on_literals lib.Utf8.encode
a_local_sub = refl

a_put : event_of (codes "put" ++ 9 ∷ codes "any" ++ 9 ∷ codes "test/k" ++ 9 ∷ codes "x7a656e6f68") ≡ Some (Core (Publish Any (Text (codes "test/k")) (record { body = Put (codes "zenoh" ∷ []) None; timestamp = None; source = None; attachment = None }) (record { qos = record { priority = 5; congestion = Drop; express = false }; reliable = true })))
unfolding event_of undeclare_of message_of push_of form read chars is_utf8 hex_on_literals lib.Utf8.encode
a_put = refl

an_empty_put : event_of (codes "put" ++ 9 ∷ codes "remote" ++ 9 ∷ codes "k" ++ 9 ∷ codes "x") ≡ Some (Core (Publish Remote (Text (codes "k")) (record { body = Put [] None; timestamp = None; source = None; attachment = None }) (record { qos = record { priority = 5; congestion = Drop; express = false }; reliable = true })))
unfolding event_of undeclare_of message_of push_of form read chars is_utf8 hex_on_literals lib.Utf8.encode
an_empty_put = refl

upper_digits : event_of (codes "put" ++ 9 ∷ codes "any" ++ 9 ∷ codes "k" ++ 9 ∷ codes "xA0Ff") ≡ Some (Core (Publish Any (Text (codes "k")) (record { body = Put ((160 ∷ 255 ∷ []) ∷ []) None; timestamp = None; source = None; attachment = None }) (record { qos = record { priority = 5; congestion = Drop; express = false }; reliable = true })))
unfolding event_of undeclare_of message_of push_of form read chars is_utf8 hex_on_literals lib.Utf8.encode
upper_digits = refl

all_options : event_of (codes "put" ++ 9 ∷ codes "any" ++ 9 ∷ codes "k" ++ 9 ∷ codes "x01" ++ 9 ∷ codes "enc=text/plain" ++ 9 ∷ codes "ts=5:a" ++ 9 ∷ codes "prio=1" ++ 9 ∷ codes "cc=block" ++ 9 ∷ codes "express=1" ++ 9 ∷ codes "rel=0" ++ 9 ∷ codes "src=7:3:9" ++ 9 ∷ codes "att=xff") ≡ Some (Core (Publish Any (Text (codes "k")) (record { body = Put ((1 ∷ []) ∷ []) (Some (codes "text/plain")); timestamp = Some (record { time = 5; id = 10 }); source = Some (record { source_id = record { zid = 7; eid = 3 }; source_sn = 9 }); attachment = Some ((255 ∷ []) ∷ []) }) (record { qos = record { priority = 1; congestion = Block; express = true }; reliable = false })))
unfolding event_of undeclare_of message_of push_of form read chars is_utf8 hex_on_literals lib.Utf8.encode
all_options = refl

empty_encoding : event_of (codes "put" ++ 9 ∷ codes "any" ++ 9 ∷ codes "k" ++ 9 ∷ codes "x" ++ 9 ∷ codes "enc=") ≡ Some (Core (Publish Any (Text (codes "k")) (record { body = Put [] None; timestamp = None; source = None; attachment = None }) (record { qos = record { priority = 5; congestion = Drop; express = false }; reliable = true })))
unfolding event_of undeclare_of message_of push_of form read chars is_utf8 hex_on_literals lib.Utf8.encode
empty_encoding = refl

default_encoding_named : event_of (codes "put" ++ 9 ∷ codes "any" ++ 9 ∷ codes "k" ++ 9 ∷ codes "x" ++ 9 ∷ codes "enc=zenoh/bytes") ≡ Some (Core (Publish Any (Text (codes "k")) (record { body = Put [] None; timestamp = None; source = None; attachment = None }) (record { qos = record { priority = 5; congestion = Drop; express = false }; reliable = true })))
unfolding event_of undeclare_of message_of push_of form read chars is_utf8 hex_on_literals lib.Utf8.encode
default_encoding_named = refl

control_priority : event_of (codes "put" ++ 9 ∷ codes "any" ++ 9 ∷ codes "k" ++ 9 ∷ codes "x" ++ 9 ∷ codes "prio=0") ≡ None
unfolding event_of undeclare_of message_of push_of form read chars is_utf8 hex_on_literals lib.Utf8.encode
control_priority = refl

other_order : event_of (codes "put" ++ 9 ∷ codes "any" ++ 9 ∷ codes "k" ++ 9 ∷ codes "x" ++ 9 ∷ codes "cc=drop" ++ 9 ∷ codes "prio=1") ≡ None
unfolding event_of undeclare_of message_of push_of form read chars is_utf8 hex_on_literals lib.Utf8.encode
other_order = refl

option_twice : event_of (codes "put" ++ 9 ∷ codes "any" ++ 9 ∷ codes "k" ++ 9 ∷ codes "x" ++ 9 ∷ codes "rel=1" ++ 9 ∷ codes "rel=1") ≡ None
unfolding event_of undeclare_of message_of push_of form read chars is_utf8 hex_on_literals lib.Utf8.encode
option_twice = refl

bad_flag : event_of (codes "put" ++ 9 ∷ codes "any" ++ 9 ∷ codes "k" ++ 9 ∷ codes "x" ++ 9 ∷ codes "express=2") ≡ None
unfolding event_of undeclare_of message_of push_of form read chars is_utf8 hex_on_literals lib.Utf8.encode
bad_flag = refl

bad_source : event_of (codes "put" ++ 9 ∷ codes "any" ++ 9 ∷ codes "k" ++ 9 ∷ codes "x" ++ 9 ∷ codes "src=7:3") ≡ None
unfolding event_of undeclare_of message_of push_of form read chars is_utf8 hex_on_literals lib.Utf8.encode
bad_source = refl

a_delete : event_of (codes "delete" ++ 9 ∷ codes "local" ++ 9 ∷ codes "#1" ++ 9 ∷ codes "ts=0:0") ≡ Some (Core (Publish SessionLocal (Number 1 []) (record { body = Delete; timestamp = Some (record { time = 0; id = 0 }); source = None; attachment = None }) (record { qos = record { priority = 5; congestion = Drop; express = false }; reliable = true })))
unfolding event_of undeclare_of message_of push_of form read chars is_utf8 hex_on_literals lib.Utf8.encode
a_delete = refl

no_encoding_of_a_delete : event_of (codes "delete" ++ 9 ∷ codes "any" ++ 9 ∷ codes "k" ++ 9 ∷ codes "enc=a") ≡ None
unfolding event_of undeclare_of message_of push_of form read chars is_utf8 hex_on_literals lib.Utf8.encode
no_encoding_of_a_delete = refl

a_pub : event_of (codes "pub" ++ 9 ∷ codes "remote" ++ 9 ∷ codes "k" ++ 9 ∷ codes "enc=a" ++ 9 ∷ codes "prio=7" ++ 9 ∷ codes "rel=0") ≡ Some (Core (Pub (Text (codes "k")) (record { destination = Remote; encoding = codes "a"; quality = record { qos = record { priority = 7; congestion = Drop; express = false }; reliable = false } })))
unfolding event_of undeclare_of message_of push_of form read chars is_utf8 hex_on_literals lib.Utf8.encode
a_pub = refl

a_publisher_put : event_of (codes "pput" ++ 9 ∷ codes "2" ++ 9 ∷ codes "x01") ≡ Some (Core (PublishBy 2 (record { body = Put ((1 ∷ []) ∷ []) None; timestamp = None; source = None; attachment = None })))
unfolding event_of undeclare_of message_of push_of form read chars is_utf8 hex_on_literals lib.Utf8.encode
a_publisher_put = refl

a_default_named : event_of (codes "pput" ++ 9 ∷ codes "2" ++ 9 ∷ codes "x" ++ 9 ∷ codes "enc=") ≡ Some (Core (PublishBy 2 (record { body = Put [] (Some (codes "zenoh/bytes")); timestamp = None; source = None; attachment = None })))
unfolding event_of undeclare_of message_of push_of form read chars is_utf8 hex_on_literals lib.Utf8.encode
a_default_named = refl

a_publisher_delete : event_of (codes "pdel" ++ 9 ∷ codes "2" ++ 9 ∷ codes "att=x") ≡ Some (Core (PublishBy 2 (record { body = Delete; timestamp = None; source = None; attachment = Some [] })))
unfolding event_of undeclare_of message_of push_of form read chars is_utf8 hex_on_literals lib.Utf8.encode
a_publisher_delete = refl

an_undeclare : event_of (codes "undeclare" ++ 9 ∷ codes "sub" ++ 9 ∷ codes "2") ≡ Some (Core (Undeclare sub_kind 2))
unfolding event_of undeclare_of message_of push_of form read chars is_utf8 hex_on_literals lib.Utf8.encode
an_undeclare = refl

a_pub_undeclared : event_of (codes "undeclare" ++ 9 ∷ codes "pub" ++ 9 ∷ codes "4294967295") ≡ Some (Core (Undeclare pub_kind 4294967295))
unfolding event_of undeclare_of message_of push_of form read chars is_utf8 hex_on_literals lib.Utf8.encode
a_pub_undeclared = refl

too_great : event_of (codes "undeclare" ++ 9 ∷ codes "sub" ++ 9 ∷ codes "4294967296") ≡ None
unfolding event_of undeclare_of message_of push_of form read chars is_utf8 hex_on_literals lib.Utf8.encode
too_great = refl

leading_zero : event_of (codes "undeclare" ++ 9 ∷ codes "sub" ++ 9 ∷ codes "02") ≡ None
unfolding event_of undeclare_of message_of push_of form read chars is_utf8 hex_on_literals lib.Utf8.encode
leading_zero = refl

a_background : event_of (codes "background" ++ 9 ∷ codes "sub" ++ 9 ∷ codes "2") ≡ Some (Core (Background background_sub 2))
unfolding event_of undeclare_of message_of push_of form read chars is_utf8 hex_on_literals lib.Utf8.encode
a_background = refl

no_background : event_of (codes "background" ++ 9 ∷ codes "pub" ++ 9 ∷ codes "2") ≡ None
unfolding event_of undeclare_of message_of push_of form read chars is_utf8 hex_on_literals lib.Utf8.encode
no_background = refl

a_push : event_of (codes "net" ++ 9 ∷ codes "push" ++ 9 ∷ codes "s0:k" ++ 9 ∷ codes "put" ++ 9 ∷ codes "x01" ++ 9 ∷ codes "prio=0") ≡ Some (Core (Net (Push (record {
  wire = record { scope = 0; suffix = codes "k"; mapping = Sender };
  body = record { kind = put_kind; payload = (1 ∷ []) ∷ []; encoding = codes "zenoh/bytes"; timestamp = None; source = None; attachment = None };
  qos = record { priority = 0; congestion = Drop; express = false };
  reliable = true;
}))))
unfolding event_of undeclare_of message_of push_of form read chars is_utf8 hex_on_literals lib.Utf8.encode
a_push = refl

a_push_of_nothing : event_of (codes "net" ++ 9 ∷ codes "push" ++ 9 ∷ codes "r1:" ++ 9 ∷ codes "del" ++ 9 ∷ codes "rel=0") ≡ Some (Core (Net (Push (record {
  wire = record { scope = 1; suffix = []; mapping = Receiver };
  body = record { kind = delete_kind; payload = []; encoding = codes "zenoh/bytes"; timestamp = None; source = None; attachment = None };
  qos = record { priority = 5; congestion = Drop; express = false };
  reliable = false;
}))))
unfolding event_of undeclare_of message_of push_of form read chars is_utf8 hex_on_literals lib.Utf8.encode
a_push_of_nothing = refl

a_told_number : event_of (codes "net" ++ 9 ∷ codes "keyexpr" ++ 9 ∷ codes "7" ++ 9 ∷ codes "r1:/b") ≡ Some (Core (Net (DeclareKeyExpr 7 (record { scope = 1; suffix = codes "/b"; mapping = Receiver }))))
unfolding event_of undeclare_of message_of push_of form read chars is_utf8 hex_on_literals lib.Utf8.encode
a_told_number = refl

a_number_given_up : event_of (codes "net" ++ 9 ∷ codes "unkeyexpr" ++ 9 ∷ codes "7") ≡ Some (Core (Net (UndeclareKeyExpr 7)))
unfolding event_of undeclare_of message_of push_of form read chars is_utf8 hex_on_literals lib.Utf8.encode
a_number_given_up = refl

a_net_close : event_of (codes "net" ++ 9 ∷ codes "close") ≡ Some (Core (Net close_message))
unfolding event_of undeclare_of message_of push_of form read chars is_utf8 hex_on_literals lib.Utf8.encode
a_net_close = refl

no_colon : event_of (codes "net" ++ 9 ∷ codes "keyexpr" ++ 9 ∷ codes "7" ++ 9 ∷ codes "s0") ≡ None
unfolding event_of undeclare_of message_of push_of form read chars is_utf8 hex_on_literals lib.Utf8.encode
no_colon = refl

numbered : event_of (codes "sub" ++ 9 ∷ codes "any" ++ 9 ∷ codes "#1") ≡ Some (Core (Sub Any (Number 1 []) Print))
unfolding event_of undeclare_of message_of push_of form read chars is_utf8 hex_on_literals lib.Utf8.encode
numbered = refl

numbered_suffix : event_of (codes "sub" ++ 9 ∷ codes "any" ++ 9 ∷ codes "#1:x") ≡ Some (Core (Sub Any (Number 1 (codes "x")) Print))
unfolding event_of undeclare_of message_of push_of form read chars is_utf8 hex_on_literals lib.Utf8.encode
numbered_suffix = refl

numbered_colon : event_of (codes "sub" ++ 9 ∷ codes "any" ++ 9 ∷ codes "#1:") ≡ Some (Core (Sub Any (Number 1 []) Print))
unfolding event_of undeclare_of message_of push_of form read chars is_utf8 hex_on_literals lib.Utf8.encode
numbered_colon = refl

no_number : event_of (codes "sub" ++ 9 ∷ codes "any" ++ 9 ∷ codes "#x") ≡ Some (Core (Sub Any (Text (codes "#x")) Print))
unfolding event_of undeclare_of message_of push_of form read chars is_utf8 hex_on_literals lib.Utf8.encode
no_number = refl

number_too_great : event_of (codes "sub" ++ 9 ∷ codes "any" ++ 9 ∷ codes "#65536") ≡ Some (Core (Sub Any (Text (codes "#65536")) Print))
unfolding event_of undeclare_of message_of push_of form read chars is_utf8 hex_on_literals lib.Utf8.encode
number_too_great = refl

number_zero : event_of (codes "sub" ++ 9 ∷ codes "any" ++ 9 ∷ codes "#01") ≡ Some (Core (Sub Any (Text (codes "#01")) Print))
unfolding event_of undeclare_of message_of push_of form read chars is_utf8 hex_on_literals lib.Utf8.encode
number_zero = refl

a_key : event_of (codes "key" ++ 9 ∷ codes "#65535:/b:c") ≡ Some (Core (Key (Number 65535 (codes "/b:c"))))
unfolding event_of undeclare_of message_of push_of form read chars is_utf8 hex_on_literals lib.Utf8.encode
a_key = refl

a_key_given_back : event_of (codes "undeclare" ++ 9 ∷ codes "key" ++ 9 ∷ codes "k") ≡ Some (Core (UndeclareKey (Text (codes "k"))))
unfolding event_of undeclare_of message_of push_of form read chars is_utf8 hex_on_literals lib.Utf8.encode
a_key_given_back = refl

a_close : event_of (codes "close") ≡ Some (Core Close)
unfolding event_of undeclare_of message_of push_of form read chars is_utf8 hex_on_literals lib.Utf8.encode
a_close = refl

odd_digits : event_of (codes "put" ++ 9 ∷ codes "any" ++ 9 ∷ codes "k" ++ 9 ∷ codes "x1") ≡ None
unfolding event_of undeclare_of message_of push_of form read chars is_utf8 hex_on_literals lib.Utf8.encode
odd_digits = refl

no_place : event_of (codes "sub" ++ 9 ∷ codes "all" ++ 9 ∷ codes "k") ≡ None
unfolding event_of undeclare_of message_of push_of form read chars is_utf8 hex_on_literals lib.Utf8.encode
no_place = refl

no_close : event_of (codes "close" ++ 9 ∷ []) ≡ None
unfolding event_of undeclare_of message_of push_of form read chars is_utf8 hex_on_literals lib.Utf8.encode
no_close = refl

one_field_more : event_of (codes "sub" ++ 9 ∷ codes "any" ++ 9 ∷ codes "k" ++ 9 ∷ []) ≡ None
unfolding event_of undeclare_of message_of push_of form read chars is_utf8 hex_on_literals lib.Utf8.encode
one_field_more = refl

empty_line : event_of [] ≡ None
unfolding event_of undeclare_of message_of push_of form read chars is_utf8 hex_on_literals lib.Utf8.encode
empty_line = refl

-- gets, moments and responses
a_get : event_of (codes "get" ++ 9 ∷ codes "any" ++ 9 ∷ codes "k") ≡ Some (Core (Ask (Text (codes "k")) (record { destination = Any; target = BestMatching; consolidation = Auto; timeout = None; qos = record { priority = 5; congestion = Block; express = false }; any_key = false }) (record { parameters = []; value = None; source = None; attachment = None; cancellation_token = None }) Print))
unfolding event_of undeclare_of message_of push_of response_of response_on form read chars is_utf8 hex_on_literals lib.Utf8.encode
a_get = refl

first_question : event_of (codes "get" ++ 9 ∷ codes "local" ++ 9 ∷ codes "#1:b?x?y" ++ 9 ∷ codes "target=all" ++ 9 ∷ codes "cons=latest" ++ 9 ∷ codes "timeout=18446744073709551615" ++ 9 ∷ codes "payload=x01" ++ 9 ∷ codes "cc=drop" ++ 9 ∷ codes "accept=any") ≡ Some (Core (Ask (Number 1 (codes "b")) (record { destination = SessionLocal; target = All; consolidation = Latest; timeout = Some 18446744073709551615; qos = record { priority = 5; congestion = Drop; express = false }; any_key = true }) (record { parameters = codes "x?y"; value = Some (record { payload = (1 ∷ []) ∷ []; encoding = codes "zenoh/bytes" }); source = None; attachment = None; cancellation_token = None }) Print))
unfolding event_of undeclare_of message_of push_of response_of response_on form read chars is_utf8 hex_on_literals lib.Utf8.encode
first_question = refl

empty_value : event_of (codes "get" ++ 9 ∷ codes "remote" ++ 9 ∷ codes "k?" ++ 9 ∷ codes "enc=" ++ 9 ∷ codes "src=7:3:9" ++ 9 ∷ codes "att=x") ≡ Some (Core (Ask (Text (codes "k")) (record { destination = Remote; target = BestMatching; consolidation = Auto; timeout = None; qos = record { priority = 5; congestion = Block; express = false }; any_key = false }) (record { parameters = []; value = Some (record { payload = []; encoding = codes "zenoh/bytes" }); source = Some (record { source_id = record { zid = 7; eid = 3 }; source_sn = 9 }); attachment = Some []; cancellation_token = None }) Print))
unfolding event_of undeclare_of message_of push_of response_of response_on form read chars is_utf8 hex_on_literals lib.Utf8.encode
empty_value = refl

no_match_named : event_of (codes "get" ++ 9 ∷ codes "any" ++ 9 ∷ codes "k" ++ 9 ∷ codes "accept=matching") ≡ None
unfolding event_of undeclare_of message_of push_of response_of response_on form read chars is_utf8 hex_on_literals lib.Utf8.encode
no_match_named = refl

question_of_a_put : event_of (codes "put" ++ 9 ∷ codes "any" ++ 9 ∷ codes "k?x" ++ 9 ∷ codes "x") ≡ Some (Core (Publish Any (Text (codes "k?x")) (record { body = Put [] None; timestamp = None; source = None; attachment = None }) (record { qos = record { priority = 5; congestion = Drop; express = false }; reliable = true })))
unfolding event_of undeclare_of message_of push_of response_of response_on form read chars is_utf8 hex_on_literals lib.Utf8.encode
question_of_a_put = refl

a_tick : event_of (codes "tick" ++ 9 ∷ codes "18446744073709551615") ≡ Some (Core (Tick 18446744073709551615))
unfolding event_of undeclare_of message_of push_of response_of response_on form read chars is_utf8 hex_on_literals lib.Utf8.encode
a_tick = refl

no_moment : event_of (codes "tick" ++ 9 ∷ codes "18446744073709551616") ≡ None
unfolding event_of undeclare_of message_of push_of response_of response_on form read chars is_utf8 hex_on_literals lib.Utf8.encode
no_moment = refl

a_response : event_of (codes "net" ++ 9 ∷ codes "response" ++ 9 ∷ codes "1" ++ 9 ∷ codes "s0:k" ++ 9 ∷ codes "put" ++ 9 ∷ codes "x01" ++ 9 ∷ codes "enc=a" ++ 9 ∷ codes "ts=5:a" ++ 9 ∷ codes "prio=0" ++ 9 ∷ codes "by=f:2") ≡ Some (Core (Net (Response (record {
  rid = 1;
  wire = record { scope = 0; suffix = codes "k"; mapping = Sender };
  answered = Reply (record { kind = put_kind; payload = (1 ∷ []) ∷ []; encoding = codes "a"; timestamp = Some (record { time = 5; id = 10 }); source = None; attachment = None });
  qos = record { priority = 0; congestion = Block; express = false };
  responder = Some (record { zid = 15; eid = 2 });
}))))
unfolding event_of undeclare_of message_of push_of response_of response_on form read chars is_utf8 hex_on_literals lib.Utf8.encode
a_response = refl

a_response_of_nothing : event_of (codes "net" ++ 9 ∷ codes "response" ++ 9 ∷ codes "1" ++ 9 ∷ codes "s0:k" ++ 9 ∷ codes "del" ++ 9 ∷ codes "express=1") ≡ Some (Core (Net (Response (record {
  rid = 1;
  wire = record { scope = 0; suffix = codes "k"; mapping = Sender };
  answered = Reply (record { kind = delete_kind; payload = []; encoding = codes "zenoh/bytes"; timestamp = None; source = None; attachment = None });
  qos = record { priority = 5; congestion = Block; express = true };
  responder = None;
}))))
unfolding event_of undeclare_of message_of push_of response_of response_on form read chars is_utf8 hex_on_literals lib.Utf8.encode
a_response_of_nothing = refl

a_response_of_an_error : event_of (codes "net" ++ 9 ∷ codes "response" ++ 9 ∷ codes "1" ++ 9 ∷ codes "s0:k" ++ 9 ∷ codes "err" ++ 9 ∷ codes "x01" ++ 9 ∷ codes "cc=drop") ≡ Some (Core (Net (Response (record {
  rid = 1;
  wire = record { scope = 0; suffix = codes "k"; mapping = Sender };
  answered = error_reply (record { payload = (1 ∷ []) ∷ []; encoding = codes "zenoh/bytes" });
  qos = record { priority = 5; congestion = Drop; express = false };
  responder = None;
}))))
unfolding event_of undeclare_of message_of push_of response_of response_on form read chars is_utf8 hex_on_literals lib.Utf8.encode
a_response_of_an_error = refl

no_source_of_an_error : event_of (codes "net" ++ 9 ∷ codes "response" ++ 9 ∷ codes "1" ++ 9 ∷ codes "s0:k" ++ 9 ∷ codes "err" ++ 9 ∷ codes "x01" ++ 9 ∷ codes "src=7:3:9") ≡ None
unfolding event_of undeclare_of message_of push_of response_of response_on form read chars is_utf8 hex_on_literals lib.Utf8.encode
no_source_of_an_error = refl

a_final : event_of (codes "net" ++ 9 ∷ codes "responsefinal" ++ 9 ∷ codes "1") ≡ Some (Core (Net (ResponseFinal 1)))
unfolding event_of undeclare_of message_of push_of response_of response_on form read chars is_utf8 hex_on_literals lib.Utf8.encode
a_final = refl

-- a turn that hands a sample
a_hand : turn_text 2 (record {
  answer = accepted None;
  effects = Hand (Sample Subscriber 2 (record {
    key_expr = undeclared (codes "test/k");
    payload = codes "zenoh" ∷ [];
    kind = put_kind;
    encoding = codes "zenoh/bytes";
    timestamp = Some (record { time = 5; id = 171 });
    express = false;
    priority = Data;
    congestion_control = Drop;
    reliability = Reliable;
    source_info = None;
    attachment = None;
  })) ∷ End Subscriber 2 ∷ [];
})
    ≡ codes "2" ++ 9 ∷ codes "ok" ++ 10 ∷ codes "2" ++ 9 ∷ codes "hand" ++ 9 ∷ codes "sub" ++ 9 ∷ codes "2" ++ 9 ∷ codes "put"
    ++ 9 ∷ codes "test/k" ++ 9 ∷ codes "x7a656e6f68" ++ 9 ∷ codes "enc=zenoh/bytes" ++ 9 ∷ codes "ts=5:ab" ++ 9 ∷ codes "prio=5" ++ 9 ∷ codes "cc=drop"
    ++ 9 ∷ codes "express=0" ++ 9 ∷ codes "rel=1" ++ 10 ∷ codes "2" ++ 9 ∷ codes "end" ++ 9 ∷ codes "sub" ++ 9 ∷ codes "2" ++ 10 ∷ []
unfolding hand_pieces written hex_digits lib.Utf8.encode digits
a_hand = refl

-- a turn that hands replies
a_reply : turn_text 3 (record {
  answer = accepted None;
  effects = Hand (handed_reply Get 1 (record {
    result = Ok (record {
      key_expr = undeclared (codes "k");
      payload = (1 ∷ []) ∷ [];
      kind = put_kind;
      encoding = codes "zenoh/bytes";
      timestamp = None;
      express = false;
      priority = Data;
      congestion_control = Block;
      reliability = Reliable;
      source_info = None;
      attachment = None;
    });
    replier = Some (record { zid = 171; eid = 3 });
  })) ∷ Hand (handed_reply LivelinessGet 2 (record {
    result = Err (record { payload = codes "Timeout" ∷ []; encoding = codes "zenoh/string" });
    replier = None;
  })) ∷ [];
})
    ≡ codes "3" ++ 9 ∷ codes "ok" ++ 10 ∷ codes "3" ++ 9 ∷ codes "reply" ++ 9 ∷ codes "get" ++ 9 ∷ codes "1" ++ 9 ∷ codes "put"
    ++ 9 ∷ codes "k" ++ 9 ∷ codes "x01" ++ 9 ∷ codes "enc=zenoh/bytes" ++ 9 ∷ codes "prio=5" ++ 9 ∷ codes "cc=block" ++ 9 ∷ codes "express=0"
    ++ 9 ∷ codes "rel=1" ++ 9 ∷ codes "by=ab:3" ++ 10 ∷ codes "3" ++ 9 ∷ codes "reply" ++ 9 ∷ codes "lget" ++ 9 ∷ codes "2" ++ 9 ∷ codes "err"
    ++ 9 ∷ codes "x54696d656f7574" ++ 9 ∷ codes "enc=zenoh/string" ++ 10 ∷ []
unfolding replied_pieces written hex_digits lib.Utf8.encode digits
a_reply = refl

a_refusal : turn_text 12 (record { answer = Refused NotFound; effects = [] })
    ≡ codes "12" ++ 9 ∷ codes "refused" ++ 9 ∷ codes "NotFound" ++ 10 ∷ []
unfolding digits
a_refusal = refl
