-- The values of options, each read from the text behind its name.
use Rattle.std.specs.Prelude.{ℕ, ◌+◌, nat_le, Bool, true, false, List, [], take, drop, Option, Some, None, option_map, option_and_then, codes, encode_utf8_all, if◌then◌else◌}
use Rattle.std.specs.List.{position}
use Rattle.std.specs.Str.{bytes_eq, chars}
use Rattle.zs_sample.specs.Encoding.{encoding_of}
use Rattle.zs_wire.specs.declared.body.Value.{Value}
use Rattle.zs_wire.specs.declared.origin.EntityGlobalId.{EntityGlobalId}
use Rattle.zs_wire.specs.declared.origin.SourceInfo.{SourceInfo}
use Rattle.zs_wire.specs.declared.origin.Timestamp.{Timestamp}
use Rattle.zs_wire.specs.declared.quality.CongestionControl.{CongestionControl}
use Rattle.zs_wire.specs.declared.quality.CongestionControl.TheVariants.{Drop, Block}
use Rattle.zs_wire.specs.declared.request.ConsolidationMode.{ConsolidationMode}
use Rattle.zs_wire.specs.declared.request.ConsolidationMode.TheVariants.{Auto, None as keep_all, Monotonic, Latest}
use Rattle.zs_wire.specs.declared.request.QueryTarget.{QueryTarget}
use Rattle.zs_wire.specs.declared.request.QueryTarget.TheVariants.{BestMatching, All, AllComplete}
use Rattle.zs_events.specs.Updates.{default_encoding}
use Rattle.zs_parts.specs.Hexadecimal.{hex_of}
use Rattle.zs_parts.specs.Symbols.{number_of, u32_max, u64_max, is_colon}

-- a text cut at its first colon, where both parts have their form
abbrev pub cut_of : {A B C : Type 0} → (A → B → C) → (List ℕ → Option A) → (List ℕ → Option B) → List ℕ → Option C
cut_of make first second field =
    option_and_then (λ place. option_and_then (λ a. option_map (λ b. make a b) (second (drop (place + 1) field)))
    (first (take place field))) (position is_colon field)

-- `N:HEX`, a time and who took it
abbrev pub timestamp_of : List ℕ → Option Timestamp
timestamp_of field = cut_of (λ time id. record { time = time; id = id }) (number_of u64_max) hex_of field

-- `HEX:N`, a session and an entity of it
abbrev pub entity_of : List ℕ → Option EntityGlobalId
entity_of field = cut_of (λ zid eid. record { zid = zid; eid = eid }) hex_of (number_of u32_max) field

-- `N:N`
abbrev pub two_numbers_of : List ℕ → Option (ℕ × ℕ)
two_numbers_of field = cut_of (λ first second. (first, second)) (number_of u32_max) (number_of u32_max) field

-- `HEX:N:N`, a session, an entity of it, and a number in a sequence
abbrev pub source_of : List ℕ → Option SourceInfo
source_of field =
    cut_of (λ zid (numbers : ℕ × ℕ). record { source_id = record { zid = zid; eid = numbers.0 }; source_sn = numbers.1 })
    hex_of two_numbers_of field

-- an encoding: the empty text is the default
abbrev pub encoding_text_of : List ℕ → Option (List ℕ)
encoding_text_of field = Some (encoding_of (chars field))

-- whether that is the default
abbrev pub is_default : List ℕ → Bool
is_default text = bytes_eq (encode_utf8_all text) default_encoding

-- an encoding, unless it is the default one
abbrev pub named_encoding : List ℕ → Option (List ℕ)
named_encoding text = if is_default text then None else Some text

-- a priority, from the least number that may stand there to 7
abbrev pub at_least : ℕ → ℕ → Option ℕ
at_least least n = if nat_le least n then Some n else None

abbrev pub priority_of : ℕ → List ℕ → Option ℕ
priority_of least field = option_and_then (λ n. at_least least n) (number_of 7 field)

-- a word for what happens where a queue is full
abbrev pub congestion_of : List ℕ → Option CongestionControl
congestion_of field =
    if bytes_eq field (codes "drop") then Some Drop else
    if bytes_eq field (codes "block") then Some Block else None

-- a flag's digit
abbrev pub flag_of : List ℕ → Option Bool
flag_of field =
    if bytes_eq field (codes "0") then Some false else
    if bytes_eq field (codes "1") then Some true else None

-- a word for whom a query reaches
abbrev pub target_of : List ℕ → Option QueryTarget
target_of field =
    if bytes_eq field (codes "best") then Some BestMatching else
    if bytes_eq field (codes "all") then Some All else
    if bytes_eq field (codes "allcomplete") then Some AllComplete else None

-- a word for which replies of a query are kept
abbrev pub consolidation_of : List ℕ → Option ConsolidationMode
consolidation_of field =
    if bytes_eq field (codes "auto") then Some Auto else
    if bytes_eq field (codes "none") then Some keep_all else
    if bytes_eq field (codes "monotonic") then Some Monotonic else
    if bytes_eq field (codes "latest") then Some Latest else None

-- the word by which a query takes replies on any key
abbrev pub any_key_of : List ℕ → Option Bool
any_key_of field = if bytes_eq field (codes "any") then Some true else None

-- a value, where its payload or its encoding is given
abbrev pub value_of : Option (List (List ℕ)) → Option (List ℕ) → Option Value
value_of None None = None
value_of None (Some encoding) = Some (record { payload = []; encoding = encoding })
value_of (Some payload) None = Some (record { payload = payload; encoding = default_encoding })
value_of (Some payload) (Some encoding) = Some (record { payload = payload; encoding = encoding })
