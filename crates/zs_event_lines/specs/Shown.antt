-- How the parts of script lines are printed: an option only where its value is not what its absence gives.
use Rattle.std.specs.Prelude.{ℕ, ◌==◌, Bool, true, false, not, List, [], ◌∷◌, ◌++◌, Option, Some, None, codes, decimal, encode_utf8_all}
use Rattle.zs_sample.specs.declared.locality.Locality.{Locality}
use Rattle.zs_sample.specs.declared.locality.Locality.TheVariants.{SessionLocal, Remote, Any}
use Rattle.zs_wire.specs.declared.body.Value.{Value as QueryValue}
use Rattle.zs_wire.specs.declared.quality.CongestionControl.{CongestionControl}
use Rattle.zs_wire.specs.declared.quality.CongestionControl.TheVariants.{Drop, Block}
use Rattle.zs_wire.specs.declared.quality.QoSType.{QoSType}
use Rattle.zs_wire.specs.declared.request.ConsolidationMode.{ConsolidationMode}
use Rattle.zs_wire.specs.declared.request.ConsolidationMode.TheVariants.{Auto, None as keep_all, Monotonic, Latest}
use Rattle.zs_wire.specs.declared.request.QueryTarget.{QueryTarget}
use Rattle.zs_wire.specs.declared.request.QueryTarget.TheVariants.{BestMatching, All, AllComplete}
use Rattle.zs_events.specs.declared.chan.Chan.{Chan}
use Rattle.zs_events.specs.declared.chan.Chan.TheVariants.{Print, Fifo, Ring}
use Rattle.zs_events.specs.declared.entity_kind.BackgroundKind.{BackgroundKind}
use Rattle.zs_events.specs.declared.entity_kind.BackgroundKind.TheVariants.{Sub as background_sub, Queryable as background_queryable, Listener as background_listener, Lsub as background_lsub}
use Rattle.zs_events.specs.declared.entity_kind.EntityKind.{EntityKind}
use Rattle.zs_events.specs.declared.entity_kind.EntityKind.TheVariants.{Sub as sub_kind, Pub as pub_kind, Queryable as queryable_kind, Querier as querier_kind, Listener as listener_kind, Token as token_kind, Lsub as lsub_kind}
use Rattle.zs_events.specs.declared.entity_kind.ParentKind.{ParentKind}
use Rattle.zs_events.specs.declared.entity_kind.ParentKind.TheVariants.{Pub as pub_parent, Querier as querier_parent}
use Rattle.zs_events.specs.declared.key_arg.KeyArg.{KeyArg}
use Rattle.zs_events.specs.declared.key_arg.KeyArg.TheVariants.{Text, Number, Declared}
use Rattle.zs_events.specs.declared.publication.PublicationQuality.{PublicationQuality}
use Rattle.zs_events.specs.declared.publication.ReplyQuality.{ReplyQuality}
use Rattle.zs_events.specs.declared.update.PushBody.{PushBody}
use Rattle.zs_events.specs.declared.update.PushBody.TheVariants.{Put, Delete}
use Rattle.zs_parts.specs.Options.{named_encoding}
use Rattle.zs_printing.specs.Words.{congestion_word, flag_digit, complete_word, target_word, consolidation_word, bytes_text, wire_text}
use Rattle.zs_printing.specs.Pieces.{named, field_if, parameter_fields, encoding_field, payload_field, written, timestamp as timestamp_piece, source as source_piece, attachment as attachment_piece, responder as responder_piece, interest as interest_piece}
use Rattle.zs_parts.specs.Parts.{Part, number, locality, background_kind, parent, complete, history, key, selector, wire, wire_if, payload, push_body, own_body, parameters, target, consolidation, timeout, value, encoding, timestamp, qos, reliable, quality, reply_quality, source, attachment, responder, any_key, cancellation_token, interest, channel, handed_to, channel_kind, Value, unnamed}

-- no field where that holds, else this one
abbrev pub unless : Bool → List ℕ → List (List ℕ)
unless true field = []
unless false field = field ∷ []

-- the word for whose publications are taken, or who is handed them
abbrev pub locality_word : Locality → List ℕ
locality_word Any = codes "any"
locality_word SessionLocal = codes "local"
locality_word Remote = codes "remote"

-- the word for what can be undeclared by its number
abbrev pub entity_word : EntityKind → List ℕ
entity_word sub_kind = codes "sub"
entity_word pub_kind = codes "pub"
entity_word queryable_kind = codes "queryable"
entity_word querier_kind = codes "querier"
entity_word listener_kind = codes "listener"
entity_word token_kind = codes "token"
entity_word lsub_kind = codes "lsub"

-- the word for what can be left to itself
abbrev pub background_word : BackgroundKind → List ℕ
background_word background_sub = codes "sub"
background_word background_queryable = codes "queryable"
background_word background_listener = codes "listener"
background_word background_lsub = codes "lsub"

-- the word for whose matching is asked for
abbrev pub parent_word : ParentKind → List ℕ
parent_word pub_parent = codes "pub"
parent_word querier_parent = codes "querier"

-- the word for whether a liveliness subscriber is told of what lives already
abbrev pub history_word : Bool → List ℕ
history_word true = codes "history"
history_word false = codes "live"

-- a suffix behind a colon, if there is one
abbrev pub suffix_text : List ℕ → List ℕ
suffix_text [] = []
suffix_text (b ∷ bs) = 58 ∷ b ∷ bs

-- a key: its text, or `#`, its number and its suffix
abbrev pub key_text : KeyArg → List ℕ
key_text (Text text) = encode_utf8_all text
key_text (Number n suffix) = 35 ∷ (decimal n ++ suffix_text (encode_utf8_all suffix))
key_text (Declared text n length) = encode_utf8_all text

-- parameters behind a question mark, if there are any
abbrev pub question_text : List ℕ → List ℕ
question_text [] = []
question_text (b ∷ bs) = 63 ∷ b ∷ bs

abbrev pub selector_text : KeyArg → List ℕ → List ℕ
selector_text k text = key_text k ++ question_text (encode_utf8_all text)

-- whether values are those that stand for absent options
abbrev pub is_best : QueryTarget → Bool
is_best BestMatching = true
is_best All = false
is_best AllComplete = false

abbrev pub is_auto : ConsolidationMode → Bool
is_auto Auto = true
is_auto keep_all = false
is_auto Monotonic = false
is_auto Latest = false

abbrev pub is_congestion : CongestionControl → CongestionControl → Bool
is_congestion Drop Drop = true
is_congestion Drop Block = false
is_congestion Block Drop = false
is_congestion Block Block = true

-- an encoding, unless it is the default one
abbrev pub encoding_fields : List ℕ → List (List ℕ)
encoding_fields text = field_if encoding_field (named_encoding text)

-- what is put, with the encoding that it names; nothing of what is deleted
abbrev pub body_fields : PushBody → List (List ℕ)
body_fields (Put bytes text) = bytes_text bytes ∷ field_if encoding_field text
body_fields Delete = []

-- a value: its payload, and its encoding
abbrev pub query_value_fields : Option QueryValue → List (List ℕ)
query_value_fields None = []
query_value_fields (Some v) = payload_field v.payload ∷ encoding_fields v.encoding

-- quality of service
abbrev pub priority_field : ℕ → List ℕ
priority_field n = named (codes "prio=") (decimal n)

abbrev pub congestion_field : CongestionControl → List ℕ
congestion_field congestion = named (codes "cc=") (congestion_word congestion)

abbrev pub express_field : Bool → List ℕ
express_field flag = named (codes "express=") (flag_digit flag)

abbrev pub reliable_fields : Bool → List (List ℕ)
reliable_fields flag = unless flag (named (codes "rel=") (flag_digit flag))

abbrev pub qos_fields : CongestionControl → QoSType → List (List ℕ)
qos_fields absent q =
    unless (q.priority == 5) (priority_field q.priority)
    ++ (unless (is_congestion absent q.congestion) (congestion_field q.congestion)
    ++ unless (not q.express) (express_field q.express))

abbrev pub quality_fields : PublicationQuality → List (List ℕ)
quality_fields q = qos_fields Drop q.qos ++ reliable_fields q.reliable

abbrev pub reply_quality_fields : ReplyQuality → List (List ℕ)
reply_quality_fields q =
    field_if priority_field q.priority ++ (field_if congestion_field q.congestion ++ field_if express_field q.express)

-- a channel
abbrev pub channel_text : Chan → List ℕ
channel_text Print = codes "print"
channel_text (Fifo size) = codes "fifo:" ++ decimal size
channel_text (Ring size) = codes "ring:" ++ decimal size

abbrev pub is_print : Chan → Bool
is_print Print = true
is_print (Fifo size) = false
is_print (Ring size) = false

-- the fields of a part
unfoldable pub shown : (part : Part) → Value part → List (List ℕ)
shown (number most) n = decimal n ∷ []
shown locality l = locality_word l ∷ []
shown background_kind kind = background_word kind ∷ []
shown parent kind = parent_word kind ∷ []
shown complete flag = complete_word flag ∷ []
shown history flag = history_word flag ∷ []
shown key k = key_text k ∷ []
shown selector s = selector_text s.0 s.1 ∷ []
shown wire w = wire_text w ∷ []
shown wire_if w = field_if wire_text w
shown payload bytes = bytes_text bytes ∷ []
shown (push_body kind) body = body_fields body
shown (own_body kind) body = body_fields (unnamed body)
shown parameters text = parameter_fields (encode_utf8_all text)
shown target t = unless (is_best t) (named (codes "target=") (target_word t))
shown consolidation mode = unless (is_auto mode) (named (codes "cons=") (consolidation_word mode))
shown timeout time = field_if (λ n. named (codes "timeout=") (decimal n)) time
shown value v = query_value_fields v
shown encoding text = encoding_fields text
shown timestamp time = written (timestamp_piece time)
shown (qos least absent) q = qos_fields absent q
shown reliable flag = reliable_fields flag
shown quality q = quality_fields q
shown reply_quality q = reply_quality_fields q
shown source origin = written (source_piece origin)
shown attachment bytes = written (attachment_piece bytes)
shown responder id = written (responder_piece id)
shown any_key flag = unless (not flag) (codes "accept=any")
shown cancellation_token id = field_if (λ n. named (codes "token=") (decimal n)) id
shown interest id = written (interest_piece id)
shown channel c = unless (is_print c) (channel_text c)
shown handed_to c = unless (is_print c) (named (codes "to=") (channel_text c))
shown channel_kind kind = []
