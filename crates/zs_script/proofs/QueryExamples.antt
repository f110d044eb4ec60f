-- The definitions at worked examples of queryables and queriers.
use Rattle.std.proofs.Common.{◌≡◌, [], ◌∷◌, ◌++◌, Some, None, refl, true, false, codes}
use Rattle.std.specs.Str.{chars, is_utf8}
use Rattle.std.specs.Fmt.{digits}
use Rattle.hex.proofs.OnLiterals.{hex_on_literals}
use Rattle.zs_keys.specs.Key.{undeclared}
use Rattle.zs_wire.specs.declared.message.Message.TheVariants.{Request}
use Rattle.zs_wire.specs.declared.quality.CongestionControl.TheVariants.{Drop, Block}
use Rattle.zs_wire.specs.declared.request.ConsolidationMode.TheVariants.{Auto, Latest}
use Rattle.zs_wire.specs.declared.request.QueryTarget.TheVariants.{BestMatching, AllComplete}
use Rattle.zs_wire.specs.declared.wire_expr.Mapping.TheVariants.{Sender, Receiver}
use Rattle.zs_sample.specs.declared.locality.Locality.TheVariants.{SessionLocal, Remote, Any}
use Rattle.zs_events.specs.declared.entity_kind.BackgroundKind.TheVariants.{Queryable as background_queryable}
use Rattle.zs_events.specs.declared.entity_kind.EntityKind.TheVariants.{Queryable as queryable_kind, Querier as querier_kind}
use Rattle.zs_events.specs.declared.event.Event.TheVariants.{Queryable, Querier, Undeclare, Background, CancelToken, Cancel, Get, QuerierGet, Reply as reply_event, ReplyErr, Share, Finish, Net}
use Rattle.zs_events.specs.declared.chan.Chan.TheVariants.{Print}
use Rattle.zs_events.specs.declared.script_event.ScriptEvent.TheVariants.{Core}
use Rattle.zs_events.specs.declared.update.PushBody.TheVariants.{Put, Delete}
use Rattle.zs_events.specs.declared.key_arg.KeyArg.TheVariants.{Text, Number}
use Rattle.zs_events.specs.declared.turn.Answer.TheVariants.{Ok as accepted}
use Rattle.zs_events.specs.declared.turn.Effect.TheVariants.{Hand}
use Rattle.zs_events.specs.declared.turn.HandOver.TheVariants.{Query as handed_query}
use Rattle.zs_parts.specs.Parts.{read, form}
use Rattle.zs_grammar.specs.Grammar.{undeclare_of, push_of, message_of, event_of}
use Rattle.zs_printing.specs.Pieces.{written}
use Rattle.zs_printing.specs.Printing.{queried_pieces, turn_text}
use Rattle.zs_printing.specs.Words.{hex_digits}

-- queryables, query values and requests
a_queryable : event_of (codes "queryable" ++ 9 ∷ codes "any" ++ 9 ∷ codes "complete" ++ 9 ∷ codes "#1:/b") ≡ Some (Core (Queryable Any true (Number 1 (codes "/b"))))
unfolding event_of undeclare_of message_of push_of form read chars is_utf8 hex_on_literals lib.Utf8.encode
a_queryable = refl

a_partial_queryable : event_of (codes "queryable" ++ 9 ∷ codes "local" ++ 9 ∷ codes "partial" ++ 9 ∷ codes "k") ≡ Some (Core (Queryable SessionLocal false (Text (codes "k"))))
unfolding event_of undeclare_of message_of push_of form read chars is_utf8 hex_on_literals lib.Utf8.encode
a_partial_queryable = refl

no_completeness : event_of (codes "queryable" ++ 9 ∷ codes "any" ++ 9 ∷ codes "k") ≡ None
unfolding event_of undeclare_of message_of push_of form read chars is_utf8 hex_on_literals lib.Utf8.encode
no_completeness = refl

a_queryable_undeclared : event_of (codes "undeclare" ++ 9 ∷ codes "queryable" ++ 9 ∷ codes "2") ≡ Some (Core (Undeclare queryable_kind 2))
unfolding event_of undeclare_of message_of push_of form read chars is_utf8 hex_on_literals lib.Utf8.encode
a_queryable_undeclared = refl

a_queryable_in_the_background : event_of (codes "background" ++ 9 ∷ codes "queryable" ++ 9 ∷ codes "2") ≡ Some (Core (Background background_queryable 2))
unfolding event_of undeclare_of message_of push_of form read chars is_utf8 hex_on_literals lib.Utf8.encode
a_queryable_in_the_background = refl

a_reply_as_the_query : event_of (codes "reply" ++ 9 ∷ codes "3" ++ 9 ∷ codes "k" ++ 9 ∷ codes "x01") ≡ Some (Core (reply_event 3 (Text (codes "k")) (record { body = Put ((1 ∷ []) ∷ []) None; timestamp = None; source = None; attachment = None }) (record { priority = None; congestion = None; express = None })))
unfolding event_of undeclare_of message_of push_of form read chars is_utf8 hex_on_literals lib.Utf8.encode
a_reply_as_the_query = refl

a_reply_of_its_own : event_of (codes "reply" ++ 9 ∷ codes "3" ++ 9 ∷ codes "#1" ++ 9 ∷ codes "x" ++ 9 ∷ codes "enc=a" ++ 9 ∷ codes "ts=5:a" ++ 9 ∷ codes "prio=1" ++ 9 ∷ codes "cc=drop" ++ 9 ∷ codes "express=0" ++ 9 ∷ codes "src=7:3:9" ++ 9 ∷ codes "att=xff") ≡ Some (Core (reply_event 3 (Number 1 []) (record { body = Put [] (Some (codes "a")); timestamp = Some (record { time = 5; id = 10 }); source = Some (record { source_id = record { zid = 7; eid = 3 }; source_sn = 9 }); attachment = Some ((255 ∷ []) ∷ []) }) (record { priority = Some 1; congestion = Some Drop; express = Some false })))
unfolding event_of undeclare_of message_of push_of form read chars is_utf8 hex_on_literals lib.Utf8.encode
a_reply_of_its_own = refl

no_control_reply : event_of (codes "reply" ++ 9 ∷ codes "3" ++ 9 ∷ codes "k" ++ 9 ∷ codes "x" ++ 9 ∷ codes "prio=0") ≡ None
unfolding event_of undeclare_of message_of push_of form read chars is_utf8 hex_on_literals lib.Utf8.encode
no_control_reply = refl

no_reliability_of_a_reply : event_of (codes "reply" ++ 9 ∷ codes "3" ++ 9 ∷ codes "k" ++ 9 ∷ codes "x" ++ 9 ∷ codes "rel=1") ≡ None
unfolding event_of undeclare_of message_of push_of form read chars is_utf8 hex_on_literals lib.Utf8.encode
no_reliability_of_a_reply = refl

a_reply_of_nothing : event_of (codes "replydel" ++ 9 ∷ codes "3" ++ 9 ∷ codes "k" ++ 9 ∷ codes "cc=block") ≡ Some (Core (reply_event 3 (Text (codes "k")) (record { body = Delete; timestamp = None; source = None; attachment = None }) (record { priority = None; congestion = Some Block; express = None })))
unfolding event_of undeclare_of message_of push_of form read chars is_utf8 hex_on_literals lib.Utf8.encode
a_reply_of_nothing = refl

an_error : event_of (codes "replyerr" ++ 9 ∷ codes "3" ++ 9 ∷ codes "x01" ++ 9 ∷ codes "enc=") ≡ Some (Core (ReplyErr 3 (record { payload = (1 ∷ []) ∷ []; encoding = codes "zenoh/bytes" })))
unfolding event_of undeclare_of message_of push_of form read chars is_utf8 hex_on_literals lib.Utf8.encode
an_error = refl

no_priority_of_an_error : event_of (codes "replyerr" ++ 9 ∷ codes "3" ++ 9 ∷ codes "x01" ++ 9 ∷ codes "prio=1") ≡ None
unfolding event_of undeclare_of message_of push_of form read chars is_utf8 hex_on_literals lib.Utf8.encode
no_priority_of_an_error = refl

a_share : event_of (codes "share" ++ 9 ∷ codes "3") ≡ Some (Core (Share 3))
unfolding event_of undeclare_of message_of push_of form read chars is_utf8 hex_on_literals lib.Utf8.encode
a_share = refl

a_value_given_back : event_of (codes "finish" ++ 9 ∷ codes "3") ≡ Some (Core (Finish 3))
unfolding event_of undeclare_of message_of push_of form read chars is_utf8 hex_on_literals lib.Utf8.encode
a_value_given_back = refl

a_request : event_of (codes "net" ++ 9 ∷ codes "request" ++ 9 ∷ codes "1" ++ 9 ∷ codes "s0:k") ≡ Some (Core (Net (Request (record {
  rid = 1;
  wire = record { scope = 0; suffix = codes "k"; mapping = Sender };
  parameters = [];
  target = BestMatching;
  consolidation = Auto;
  timeout = 10000;
  value = None;
  qos = record { priority = 5; congestion = Block; express = false };
  source = None;
  attachment = None;
}))))
unfolding event_of undeclare_of message_of push_of form read chars is_utf8 hex_on_literals lib.Utf8.encode
a_request = refl

a_request_with_all : event_of (codes "net" ++ 9 ∷ codes "request" ++ 9 ∷ codes "1" ++ 9 ∷ codes "r1:" ++ 9 ∷ codes "params=x;=" ++ 9 ∷ codes "target=allcomplete" ++ 9 ∷ codes "cons=latest" ++ 9 ∷ codes "timeout=0" ++ 9 ∷ codes "payload=x01" ++ 9 ∷ codes "enc=a" ++ 9 ∷ codes "prio=0" ++ 9 ∷ codes "cc=drop" ++ 9 ∷ codes "express=1" ++ 9 ∷ codes "src=7:3:9" ++ 9 ∷ codes "att=x") ≡ Some (Core (Net (Request (record {
  rid = 1;
  wire = record { scope = 1; suffix = []; mapping = Receiver };
  parameters = codes "x;=";
  target = AllComplete;
  consolidation = Latest;
  timeout = 0;
  value = Some (record { payload = (1 ∷ []) ∷ []; encoding = codes "a" });
  qos = record { priority = 0; congestion = Drop; express = true };
  source = Some (record { source_id = record { zid = 7; eid = 3 }; source_sn = 9 });
  attachment = Some [];
}))))
unfolding event_of undeclare_of message_of push_of form read chars is_utf8 hex_on_literals lib.Utf8.encode
a_request_with_all = refl

no_replier_of_a_request : event_of (codes "net" ++ 9 ∷ codes "request" ++ 9 ∷ codes "1" ++ 9 ∷ codes "s0:k" ++ 9 ∷ codes "by=f:2") ≡ None
unfolding event_of undeclare_of message_of push_of form read chars is_utf8 hex_on_literals lib.Utf8.encode
no_replier_of_a_request = refl

-- queriers
a_querier : event_of (codes "querier" ++ 9 ∷ codes "remote" ++ 9 ∷ codes "#1") ≡ Some (Core (Querier (Number 1 []) (record { destination = Remote; target = BestMatching; consolidation = Auto; timeout = None; qos = record { priority = 5; congestion = Block; express = false }; any_key = false })))
unfolding event_of undeclare_of message_of push_of form read chars is_utf8 hex_on_literals lib.Utf8.encode
a_querier = refl

a_querier_with_all : event_of (codes "querier" ++ 9 ∷ codes "any" ++ 9 ∷ codes "k?x" ++ 9 ∷ codes "target=allcomplete" ++ 9 ∷ codes "cons=latest" ++ 9 ∷ codes "timeout=0" ++ 9 ∷ codes "prio=7" ++ 9 ∷ codes "cc=drop" ++ 9 ∷ codes "express=1" ++ 9 ∷ codes "accept=any") ≡ Some (Core (Querier (Text (codes "k?x")) (record { destination = Any; target = AllComplete; consolidation = Latest; timeout = Some 0; qos = record { priority = 7; congestion = Drop; express = true }; any_key = true })))
unfolding event_of undeclare_of message_of push_of form read chars is_utf8 hex_on_literals lib.Utf8.encode
a_querier_with_all = refl

a_querier_undeclared : event_of (codes "undeclare" ++ 9 ∷ codes "querier" ++ 9 ∷ codes "2") ≡ Some (Core (Undeclare querier_kind 2))
unfolding event_of undeclare_of message_of push_of form read chars is_utf8 hex_on_literals lib.Utf8.encode
a_querier_undeclared = refl

no_querier_in_the_background : event_of (codes "background" ++ 9 ∷ codes "querier" ++ 9 ∷ codes "2") ≡ None
unfolding event_of undeclare_of message_of push_of form read chars is_utf8 hex_on_literals lib.Utf8.encode
no_querier_in_the_background = refl

a_querier_asks : event_of (codes "qget" ++ 9 ∷ codes "2") ≡ Some (Core (QuerierGet 2 (record { parameters = []; value = None; source = None; attachment = None; cancellation_token = None }) Print))
unfolding event_of undeclare_of message_of push_of form read chars is_utf8 hex_on_literals lib.Utf8.encode
a_querier_asks = refl

a_querier_asks_with_all : event_of (codes "qget" ++ 9 ∷ codes "2" ++ 9 ∷ codes "params=x;=" ++ 9 ∷ codes "enc=" ++ 9 ∷ codes "src=7:3:9" ++ 9 ∷ codes "att=x" ++ 9 ∷ codes "token=3") ≡ Some (Core (QuerierGet 2 (record { parameters = codes "x;="; value = Some (record { payload = []; encoding = codes "zenoh/bytes" }); source = Some (record { source_id = record { zid = 7; eid = 3 }; source_sn = 9 }); attachment = Some []; cancellation_token = Some 3 }) Print))
unfolding event_of undeclare_of message_of push_of form read chars is_utf8 hex_on_literals lib.Utf8.encode
a_querier_asks_with_all = refl

a_cancel_token : event_of (codes "ctoken") ≡ Some (Core CancelToken)
unfolding event_of undeclare_of message_of push_of form read chars is_utf8 hex_on_literals lib.Utf8.encode
a_cancel_token = refl

a_cancel : event_of (codes "cancel" ++ 9 ∷ codes "0") ≡ Some (Core (Cancel 0))
unfolding event_of undeclare_of message_of push_of form read chars is_utf8 hex_on_literals lib.Utf8.encode
a_cancel = refl

no_cancel_of_all : event_of (codes "cancel") ≡ None
unfolding event_of undeclare_of message_of push_of form read chars is_utf8 hex_on_literals lib.Utf8.encode
no_cancel_of_all = refl

a_get_to_cancel : event_of (codes "get" ++ 9 ∷ codes "any" ++ 9 ∷ codes "k" ++ 9 ∷ codes "accept=any" ++ 9 ∷ codes "token=7") ≡ Some (Core (Get (Text (codes "k")) (record { destination = Any; target = BestMatching; consolidation = Auto; timeout = None; qos = record { priority = 5; congestion = Block; express = false }; any_key = true }) (record { parameters = []; value = None; source = None; attachment = None; cancellation_token = Some 7 }) Print))
unfolding event_of undeclare_of message_of push_of form read chars is_utf8 hex_on_literals lib.Utf8.encode
a_get_to_cancel = refl

no_token_of_a_session : event_of (codes "get" ++ 9 ∷ codes "any" ++ 9 ∷ codes "k" ++ 9 ∷ codes "token=4294967296") ≡ None
unfolding event_of undeclare_of message_of push_of form read chars is_utf8 hex_on_literals lib.Utf8.encode
no_token_of_a_session = refl

no_target_of_its_own : event_of (codes "qget" ++ 9 ∷ codes "2" ++ 9 ∷ codes "target=all") ≡ None
unfolding event_of undeclare_of message_of push_of form read chars is_utf8 hex_on_literals lib.Utf8.encode
no_target_of_its_own = refl

-- a turn that hands a query
a_query : turn_text 4 (record {
  answer = accepted None;
  effects = Hand (handed_query 2 7 (record {
    key_expr = undeclared (codes "k");
    parameters = codes "x=1";
    qos = record { priority = 0; congestion = Block; express = false };
    source = None;
    payload = Some ((1 ∷ []) ∷ []);
    encoding = Some (codes "zenoh/bytes");
    attachment = Some [];
  })) ∷ Hand (handed_query 3 8 (record {
    key_expr = undeclared (codes "k");
    parameters = [];
    qos = record { priority = 7; congestion = Drop; express = true };
    source = Some (record { source_id = record { zid = 7; eid = 3 }; source_sn = 9 });
    payload = None;
    encoding = None;
    attachment = None;
  })) ∷ [];
})
    ≡ codes "4" ++ 9 ∷ codes "ok" ++ 10 ∷ codes "4" ++ 9 ∷ codes "hand" ++ 9 ∷ codes "queryable" ++ 9 ∷ codes "2" ++ 9 ∷ codes "7"
    ++ 9 ∷ codes "k" ++ 9 ∷ codes "params=x=1" ++ 9 ∷ codes "payload=x01" ++ 9 ∷ codes "enc=zenoh/bytes" ++ 9 ∷ codes "prio=5" ++ 9 ∷ codes "cc=block"
    ++ 9 ∷ codes "express=0" ++ 9 ∷ codes "att=x" ++ 10 ∷ codes "4" ++ 9 ∷ codes "hand" ++ 9 ∷ codes "queryable" ++ 9 ∷ codes "3" ++ 9 ∷ codes "8"
    ++ 9 ∷ codes "k" ++ 9 ∷ codes "prio=7" ++ 9 ∷ codes "cc=drop" ++ 9 ∷ codes "express=1" ++ 9 ∷ codes "src=7:3:9" ++ 10 ∷ []
unfolding queried_pieces written hex_digits lib.Utf8.encode digits
a_query = refl
