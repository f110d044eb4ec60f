-- The definitions at worked examples of channels.
use Rattle.std.proofs.Common.{◌≡◌, [], ◌∷◌, ◌++◌, Some, None, Ok, Err, refl, true, false, codes}
use Rattle.std.specs.Str.{chars, is_utf8}
use Rattle.std.specs.Fmt.{digits}
use Rattle.hex.proofs.OnLiterals.{hex_on_literals}
use Rattle.zs_keys.specs.Key.{undeclared}
use Rattle.zs_wire.specs.declared.quality.CongestionControl.TheVariants.{Block}
use Rattle.zs_wire.specs.declared.request.ConsolidationMode.TheVariants.{Auto}
use Rattle.zs_wire.specs.declared.request.QueryTarget.TheVariants.{BestMatching}
use Rattle.zs_sample.specs.declared.locality.Locality.TheVariants.{Remote, Any}
use Rattle.zs_wire.specs.declared.sample_kind.SampleKind.TheVariants.{Put as put_kind}
use Rattle.zs_sample.specs.declared.quality.Priority.TheVariants.{Data}
use Rattle.zs_sample.specs.declared.quality.Reliability.TheVariants.{Reliable}
use Rattle.zs_events.specs.declared.chan.Chan.TheVariants.{Print, Fifo, Ring}
use Rattle.zs_events.specs.declared.event.Event.TheVariants.{Sub, Get as Ask, QuerierGet, LivelinessGet as AskLiveliness}
use Rattle.zs_events.specs.declared.key_arg.KeyArg.TheVariants.{Text}
use Rattle.zs_events.specs.declared.received.Received.TheVariants.{Item, Empty, Disconnected, Deleted}
use Rattle.zs_events.specs.declared.script_event.ScriptEvent.TheVariants.{Core, Recv}
use Rattle.zs_events.specs.declared.turn.HandOver.TheVariants.{Reply as handed_reply}
use Rattle.zs_events.specs.declared.turn.Kind.TheVariants.{Subscriber, Get, LivelinessGet}
use Rattle.zs_parts.specs.Parts.{read, form}
use Rattle.zs_grammar.specs.Grammar.{undeclare_of, push_of, message_of, event_of}
use Rattle.zs_printing.specs.Pieces.{written}
use Rattle.zs_printing.specs.Printing.{line, received_fields}
use Rattle.zs_printing.specs.Words.{hex_digits}

-- where items go
a_sub_without_a_channel : event_of (codes "sub" ++ 9 ∷ codes "any" ++ 9 ∷ codes "k") ≡ Some (Core (Sub Any (Text (codes "k")) Print))
unfolding event_of undeclare_of message_of push_of form read chars is_utf8 hex_on_literals lib.Utf8.encode
a_sub_without_a_channel = refl

a_sub_with_no_channel : event_of (codes "sub" ++ 9 ∷ codes "any" ++ 9 ∷ codes "k" ++ 9 ∷ codes "print") ≡ Some (Core (Sub Any (Text (codes "k")) Print))
unfolding event_of undeclare_of message_of push_of form read chars is_utf8 hex_on_literals lib.Utf8.encode
a_sub_with_no_channel = refl

a_sub_with_a_fifo : event_of (codes "sub" ++ 9 ∷ codes "any" ++ 9 ∷ codes "k" ++ 9 ∷ codes "fifo:1") ≡ Some (Core (Sub Any (Text (codes "k")) (Fifo 1)))
unfolding event_of undeclare_of message_of push_of form read chars is_utf8 hex_on_literals lib.Utf8.encode
a_sub_with_a_fifo = refl

a_sub_with_a_ring : event_of (codes "sub" ++ 9 ∷ codes "any" ++ 9 ∷ codes "k" ++ 9 ∷ codes "ring:65535") ≡ Some (Core (Sub Any (Text (codes "k")) (Ring 65535)))
unfolding event_of undeclare_of message_of push_of form read chars is_utf8 hex_on_literals lib.Utf8.encode
a_sub_with_a_ring = refl

no_room : event_of (codes "sub" ++ 9 ∷ codes "any" ++ 9 ∷ codes "k" ++ 9 ∷ codes "fifo:0") ≡ None
unfolding event_of undeclare_of message_of push_of form read chars is_utf8 hex_on_literals lib.Utf8.encode
no_room = refl

no_room_in_a_ring : event_of (codes "sub" ++ 9 ∷ codes "any" ++ 9 ∷ codes "k" ++ 9 ∷ codes "ring:0") ≡ None
unfolding event_of undeclare_of message_of push_of form read chars is_utf8 hex_on_literals lib.Utf8.encode
no_room_in_a_ring = refl

no_room_for_so_many : event_of (codes "sub" ++ 9 ∷ codes "any" ++ 9 ∷ codes "k" ++ 9 ∷ codes "ring:65536") ≡ None
unfolding event_of undeclare_of message_of push_of form read chars is_utf8 hex_on_literals lib.Utf8.encode
no_room_for_so_many = refl

no_zero_in_front : event_of (codes "sub" ++ 9 ∷ codes "any" ++ 9 ∷ codes "k" ++ 9 ∷ codes "fifo:01") ≡ None
unfolding event_of undeclare_of message_of push_of form read chars is_utf8 hex_on_literals lib.Utf8.encode
no_zero_in_front = refl

no_size : event_of (codes "sub" ++ 9 ∷ codes "any" ++ 9 ∷ codes "k" ++ 9 ∷ codes "fifo") ≡ None
unfolding event_of undeclare_of message_of push_of form read chars is_utf8 hex_on_literals lib.Utf8.encode
no_size = refl

no_option_of_a_sub : event_of (codes "sub" ++ 9 ∷ codes "any" ++ 9 ∷ codes "k" ++ 9 ∷ codes "to=fifo:1") ≡ None
unfolding event_of undeclare_of message_of push_of form read chars is_utf8 hex_on_literals lib.Utf8.encode
no_option_of_a_sub = refl

no_second_channel : event_of (codes "sub" ++ 9 ∷ codes "any" ++ 9 ∷ codes "k" ++ 9 ∷ codes "fifo:1" ++ 9 ∷ codes "fifo:1") ≡ None
unfolding event_of undeclare_of message_of push_of form read chars is_utf8 hex_on_literals lib.Utf8.encode
no_second_channel = refl

a_get_with_a_fifo : event_of (codes "get" ++ 9 ∷ codes "remote" ++ 9 ∷ codes "k" ++ 9 ∷ codes "accept=any" ++ 9 ∷ codes "token=1" ++ 9 ∷ codes "to=fifo:2") ≡ Some (Core (Ask (Text (codes "k")) (record { destination = Remote; target = BestMatching; consolidation = Auto; timeout = None; qos = record { priority = 5; congestion = Block; express = false }; any_key = true }) (record { parameters = []; value = None; source = None; attachment = None; cancellation_token = Some 1 }) (Fifo 2)))
unfolding event_of undeclare_of message_of push_of form read chars is_utf8 hex_on_literals lib.Utf8.encode
a_get_with_a_fifo = refl

a_get_without_a_channel : event_of (codes "get" ++ 9 ∷ codes "remote" ++ 9 ∷ codes "k") ≡ Some (Core (Ask (Text (codes "k")) (record { destination = Remote; target = BestMatching; consolidation = Auto; timeout = None; qos = record { priority = 5; congestion = Block; express = false }; any_key = false }) (record { parameters = []; value = None; source = None; attachment = None; cancellation_token = None }) Print))
unfolding event_of undeclare_of message_of push_of form read chars is_utf8 hex_on_literals lib.Utf8.encode
a_get_without_a_channel = refl

no_channel_before_the_token : event_of (codes "get" ++ 9 ∷ codes "remote" ++ 9 ∷ codes "k" ++ 9 ∷ codes "to=ring:2" ++ 9 ∷ codes "token=1") ≡ None
unfolding event_of undeclare_of message_of push_of form read chars is_utf8 hex_on_literals lib.Utf8.encode
no_channel_before_the_token = refl

no_channel_of_that_name : event_of (codes "get" ++ 9 ∷ codes "remote" ++ 9 ∷ codes "k" ++ 9 ∷ codes "fifo:2") ≡ None
unfolding event_of undeclare_of message_of push_of form read chars is_utf8 hex_on_literals lib.Utf8.encode
no_channel_of_that_name = refl

a_querier_asks_with_a_ring : event_of (codes "qget" ++ 9 ∷ codes "2" ++ 9 ∷ codes "to=ring:7") ≡ Some (Core (QuerierGet 2 (record { parameters = []; value = None; source = None; attachment = None; cancellation_token = None }) (Ring 7)))
unfolding event_of undeclare_of message_of push_of form read chars is_utf8 hex_on_literals lib.Utf8.encode
a_querier_asks_with_a_ring = refl

a_liveliness_get_with_a_fifo : event_of (codes "lget" ++ 9 ∷ codes "k" ++ 9 ∷ codes "timeout=0" ++ 9 ∷ codes "to=fifo:3") ≡ Some (Core (AskLiveliness (Text (codes "k")) (Some 0) None (Fifo 3)))
unfolding event_of undeclare_of message_of push_of form read chars is_utf8 hex_on_literals lib.Utf8.encode
a_liveliness_get_with_a_fifo = refl

no_empty_channel : event_of (codes "lget" ++ 9 ∷ codes "k" ++ 9 ∷ codes "to=") ≡ None
unfolding event_of undeclare_of message_of push_of form read chars is_utf8 hex_on_literals lib.Utf8.encode
no_empty_channel = refl

-- reads
a_read_of_a_sub : event_of (codes "recv" ++ 9 ∷ codes "sub" ++ 9 ∷ codes "2") ≡ Some (Recv Subscriber 2)
unfolding event_of undeclare_of message_of push_of form read chars is_utf8 hex_on_literals lib.Utf8.encode
a_read_of_a_sub = refl

a_read_of_a_get : event_of (codes "recv" ++ 9 ∷ codes "get" ++ 9 ∷ codes "0") ≡ Some (Recv Get 0)
unfolding event_of undeclare_of message_of push_of form read chars is_utf8 hex_on_literals lib.Utf8.encode
a_read_of_a_get = refl

a_read_of_a_liveliness_get : event_of (codes "recv" ++ 9 ∷ codes "lget" ++ 9 ∷ codes "4294967295") ≡ Some (Recv LivelinessGet 4294967295)
unfolding event_of undeclare_of message_of push_of form read chars is_utf8 hex_on_literals lib.Utf8.encode
a_read_of_a_liveliness_get = refl

no_read_of_a_lsub : event_of (codes "recv" ++ 9 ∷ codes "lsub" ++ 9 ∷ codes "2") ≡ None
unfolding event_of undeclare_of message_of push_of form read chars is_utf8 hex_on_literals lib.Utf8.encode
no_read_of_a_lsub = refl

no_read_of_a_queryable : event_of (codes "recv" ++ 9 ∷ codes "queryable" ++ 9 ∷ codes "2") ≡ None
unfolding event_of undeclare_of message_of push_of form read chars is_utf8 hex_on_literals lib.Utf8.encode
no_read_of_a_queryable = refl

no_read_of_two : event_of (codes "recv" ++ 9 ∷ codes "sub" ++ 9 ∷ codes "2" ++ 9 ∷ codes "3") ≡ None
unfolding event_of undeclare_of message_of push_of form read chars is_utf8 hex_on_literals lib.Utf8.encode
no_read_of_two = refl

-- answers of reads
a_sample_read : line 4 (received_fields (Item (handed_reply Get 0 (record {
  result = Ok (record {
    key_expr = undeclared (codes "a");
    payload = (1 ∷ []) ∷ [];
    kind = put_kind;
    encoding = codes "zenoh/bytes";
    timestamp = None;
    express = false;
    priority = Data;
    congestion_control = Block;
    reliability = Reliable;
    source_info = None;
    attachment = None;
  });
  replier = None;
}))))
    ≡ codes "4" ++ 9 ∷ codes "item" ++ 9 ∷ codes "put" ++ 9 ∷ codes "a" ++ 9 ∷ codes "x01" ++ 9 ∷ codes "enc=zenoh/bytes" ++ 9 ∷ codes "prio=5"
    ++ 9 ∷ codes "cc=block" ++ 9 ∷ codes "express=0" ++ 9 ∷ codes "rel=1" ++ 10 ∷ []
unfolding written hex_digits lib.Utf8.encode digits
a_sample_read = refl

an_error_read : line 5 (received_fields (Item (handed_reply Get 1 (record {
  result = Err (record { payload = (1 ∷ []) ∷ []; encoding = codes "a" });
  replier = Some (record { zid = 15; eid = 2 });
}))))
    ≡ codes "5" ++ 9 ∷ codes "item" ++ 9 ∷ codes "err" ++ 9 ∷ codes "x01" ++ 9 ∷ codes "enc=a" ++ 9 ∷ codes "by=f:2" ++ 10 ∷ []
unfolding written hex_digits lib.Utf8.encode digits
an_error_read = refl

nothing_read : line 5 (received_fields Empty) ≡ codes "5" ++ 9 ∷ codes "empty" ++ 10 ∷ []
unfolding written digits
nothing_read = refl

nothing_more : line 5 (received_fields Disconnected) ≡ codes "5" ++ 9 ∷ codes "disconnected" ++ 10 ∷ []
unfolding written digits
nothing_more = refl

nothing_left : line 5 (received_fields Deleted) ≡ codes "5" ++ 9 ∷ codes "deleted" ++ 10 ∷ []
unfolding written digits
nothing_left = refl
