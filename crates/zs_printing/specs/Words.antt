-- The words and symbols that stand for values in printed lines.
use Rattle.std.specs.Prelude.{ℕ, Bool, true, false, zero, suc, ◌+◌, ◌/◌, ◌%◌, nat_lt, List, [], ◌∷◌, ◌++◌, codes, decimal, encode_utf8_all, if◌then◌else◌}
use Rattle.std.specs.List.{flat_map}
use Rattle.zs_bytes.specs.Payload.{bytes_of}
use Rattle.zs_wire.specs.declared.interest.InterestMode.{InterestMode}
use Rattle.zs_wire.specs.declared.interest.InterestMode.TheVariants.{Current, Future, CurrentFuture, Final}
use Rattle.zs_wire.specs.declared.interest.InterestWhat.{InterestWhat}
use Rattle.zs_wire.specs.declared.interest.InterestWhat.TheVariants.{Subscribers, Queryables, Tokens, Nothing}
use Rattle.zs_wire.specs.declared.origin.EntityGlobalId.{EntityGlobalId}
use Rattle.zs_wire.specs.declared.origin.SourceInfo.{SourceInfo}
use Rattle.zs_wire.specs.declared.origin.Timestamp.{Timestamp}
use Rattle.zs_wire.specs.declared.quality.CongestionControl.{CongestionControl}
use Rattle.zs_wire.specs.declared.quality.CongestionControl.TheVariants.{Drop, Block}
use Rattle.zs_wire.specs.declared.request.ConsolidationMode.{ConsolidationMode}
use Rattle.zs_wire.specs.declared.request.ConsolidationMode.TheVariants.{Auto, None as keep_all, Monotonic, Latest}
use Rattle.zs_wire.specs.declared.request.QueryTarget.{QueryTarget}
use Rattle.zs_wire.specs.declared.request.QueryTarget.TheVariants.{BestMatching, All, AllComplete}
use Rattle.zs_wire.specs.declared.sample_kind.SampleKind.{SampleKind}
use Rattle.zs_wire.specs.declared.sample_kind.SampleKind.TheVariants.{Put, Delete}
use Rattle.zs_wire.specs.declared.wire_expr.Mapping.{Mapping}
use Rattle.zs_wire.specs.declared.wire_expr.Mapping.TheVariants.{Sender, Receiver}
use Rattle.zs_wire.specs.declared.wire_expr.WireExpr.{WireExpr}
use Rattle.zs_sample.specs.declared.quality.Reliability.{Reliability}
use Rattle.zs_sample.specs.declared.quality.Reliability.TheVariants.{BestEffort, Reliable}
use Rattle.zs_events.specs.declared.turn.Kind.{Kind}
use Rattle.zs_events.specs.declared.turn.Kind.TheVariants.{Subscriber, LivelinessSubscriber, Publisher, Queryable, Querier, Token, Listener, Get, LivelinessGet}
use Rattle.zs_events.specs.declared.turn.Refusal.{Refusal}
use Rattle.zs_events.specs.declared.turn.Refusal.TheVariants.{SessionClosedError, NotFound, UnknownScope, BadKeyExpr, QueryCancelled, ReplyDisjoint, NotDeclared, IdsExhausted, Ignored}

-- a refusal's name
abbrev pub refusal_name : Refusal → List ℕ
refusal_name SessionClosedError = codes "SessionClosedError"
refusal_name NotFound = codes "NotFound"
refusal_name UnknownScope = codes "UnknownScope"
refusal_name BadKeyExpr = codes "BadKeyExpr"
refusal_name QueryCancelled = codes "QueryCancelled"
refusal_name ReplyDisjoint = codes "ReplyDisjoint"
refusal_name NotDeclared = codes "NotDeclared"
refusal_name IdsExhausted = codes "IdsExhausted"
refusal_name Ignored = codes "Ignored"

-- the word for what a number is of
abbrev pub kind_word : Kind → List ℕ
kind_word Subscriber = codes "sub"
kind_word LivelinessSubscriber = codes "lsub"
kind_word Publisher = codes "pub"
kind_word Queryable = codes "queryable"
kind_word Querier = codes "querier"
kind_word Token = codes "token"
kind_word Listener = codes "listener"
kind_word Get = codes "get"
kind_word LivelinessGet = codes "lget"

-- the word for what a sample does
abbrev pub sample_word : SampleKind → List ℕ
sample_word Put = codes "put"
sample_word Delete = codes "del"

-- the word for what happens where a queue is full
abbrev pub congestion_word : CongestionControl → List ℕ
congestion_word Drop = codes "drop"
congestion_word Block = codes "block"

-- a flag's digit
abbrev pub flag_digit : Bool → List ℕ
flag_digit false = codes "0"
flag_digit true = codes "1"

-- whether a message may not be lost
abbrev pub is_reliable : Reliability → Bool
is_reliable BestEffort = false
is_reliable Reliable = true

-- the word for whether a queryable has all that is there
abbrev pub complete_word : Bool → List ℕ
complete_word false = codes "partial"
complete_word true = codes "complete"

-- the word for whether anyone matches
abbrev pub truth_word : Bool → List ℕ
truth_word false = codes "false"
truth_word true = codes "true"

-- the word for whom a query reaches
abbrev pub target_word : QueryTarget → List ℕ
target_word BestMatching = codes "best"
target_word All = codes "all"
target_word AllComplete = codes "allcomplete"

-- the word for which replies of a query are kept
abbrev pub consolidation_word : ConsolidationMode → List ℕ
consolidation_word Auto = codes "auto"
consolidation_word keep_all = codes "none"
consolidation_word Monotonic = codes "monotonic"
consolidation_word Latest = codes "latest"

-- the words of an interest
abbrev pub mode_word : InterestMode → List ℕ
mode_word Current = codes "current"
mode_word Future = codes "future"
mode_word CurrentFuture = codes "currentfuture"
mode_word Final = codes "final"

abbrev pub what_word : InterestWhat → List ℕ
what_word Subscribers = codes "subscribers"
what_word Queryables = codes "queryables"
what_word Tokens = codes "tokens"
what_word Nothing = codes "none"

-- a hexadecimal digit, in lower case
abbrev pub hex_digit : ℕ → ℕ
hex_digit d = if nat_lt d 10 then 48 + d else 87 + d

-- a number in so many hexadecimal digits at most, without zeros in front
unfoldable pub hex_digits : ℕ → ℕ → List ℕ
hex_digits zero n = []
hex_digits (suc places) n = (if nat_lt n 16 then [] else hex_digits places (n / 16)) ++ hex_digit (n % 16) ∷ []

abbrev pub hex_text : ℕ → List ℕ
hex_text n = hex_digits 32 n

-- a byte in two digits
abbrev pub byte_digits : ℕ → List ℕ
byte_digits b = hex_digit (b / 16) ∷ hex_digit (b % 16) ∷ []

-- bytes: `x` and their digits
abbrev pub bytes_text : List (List ℕ) → List ℕ
bytes_text payload = 120 ∷ flat_map byte_digits (bytes_of payload)

-- a wire expression: `s` or `r`, the number, `:`, and the suffix
abbrev pub mapping_letter : Mapping → ℕ
mapping_letter Sender = 115
mapping_letter Receiver = 114

abbrev pub wire_text : WireExpr → List ℕ
wire_text w = mapping_letter w.mapping ∷ (decimal w.scope ++ 58 ∷ encode_utf8_all w.suffix)

-- `N:HEX`
abbrev pub timestamp_text : Timestamp → List ℕ
timestamp_text t = decimal t.time ++ 58 ∷ hex_text t.id

-- `HEX:N`
abbrev pub entity_text : EntityGlobalId → List ℕ
entity_text e = hex_text e.zid ++ 58 ∷ decimal e.eid

-- `HEX:N:N`
abbrev pub source_text : SourceInfo → List ℕ
source_text s = entity_text s.source_id ++ 58 ∷ decimal s.source_sn
