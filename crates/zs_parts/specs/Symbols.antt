-- The symbols that the forms of lines are made of, each read from one field.
use Rattle.std.specs.Prelude.{ℕ, ◌+◌, ◌*◌, ◌-◌, Bool, true, false, nat_le, ◌==◌, ◌&&◌, List, [], ◌∷◌, take, drop, Option, Some, None, option_map, option_and_then, unwrap_or, codes, if◌then◌else◌}
use Rattle.std.specs.List.{position, before_first, after_first}
use Rattle.std.specs.Str.{bytes_eq, chars}
use Rattle.std.specs.Result.{result_ok}
use Rattle.hex.specs.Hex.{decode_of}
use Rattle.zs_bytes.specs.Payload.{one_slice}
use Rattle.zs_sample.specs.declared.locality.Locality.{Locality}
use Rattle.zs_sample.specs.declared.locality.Locality.TheVariants.{SessionLocal, Remote, Any}
use Rattle.zs_wire.specs.declared.wire_expr.Mapping.{Mapping}
use Rattle.zs_wire.specs.declared.wire_expr.Mapping.TheVariants.{Sender, Receiver}
use Rattle.zs_wire.specs.declared.wire_expr.WireExpr.{WireExpr}
use Rattle.zs_events.specs.declared.entity_kind.BackgroundKind.{BackgroundKind}
use Rattle.zs_events.specs.declared.entity_kind.BackgroundKind.TheVariants.{Sub as background_sub, Queryable as background_queryable, Listener as background_listener, Lsub as background_lsub}
use Rattle.zs_events.specs.declared.entity_kind.EntityKind.{EntityKind}
use Rattle.zs_events.specs.declared.entity_kind.EntityKind.TheVariants.{Sub as sub_kind, Pub as pub_kind, Queryable as queryable_kind, Querier as querier_kind, Listener as listener_kind, Token as token_kind, Lsub as lsub_kind}
use Rattle.zs_events.specs.declared.entity_kind.ParentKind.{ParentKind}
use Rattle.zs_events.specs.declared.entity_kind.ParentKind.TheVariants.{Pub as pub_parent, Querier as querier_parent}
use Rattle.zs_events.specs.declared.key_arg.KeyArg.{KeyArg}
use Rattle.zs_events.specs.declared.key_arg.KeyArg.TheVariants.{Text, Number}
use Rattle.zs_events.specs.Kinds.{is_nothing}

-- a decimal digit
abbrev pub is_digit : ℕ → Bool
is_digit b = nat_le 48 b && nat_le b 57

-- the number that these digits end, where those before them make n and it is to be at most max
abbrev pub number_from : ℕ → ℕ → List ℕ → Option ℕ
number_from max n [] = if nat_le n max then Some n else None
number_from max n (b ∷ bs) = if is_digit b && nat_le n max then number_from max (10 * n + (b - 48)) bs else None

-- a number in decimal digits, at most max: `0`, or digits that do not begin with one
abbrev pub number_of : ℕ → List ℕ → Option ℕ
number_of max [] = None
number_of max (b ∷ []) = number_from max 0 (b ∷ [])
number_of max (b ∷ c ∷ bs) = if b == 48 then None else number_from max 0 (b ∷ c ∷ bs)

-- the greatest number of a time, of an entity, and of a declared key
abbrev pub u64_max : ℕ
u64_max = 18446744073709551615

abbrev pub u32_max : ℕ
u32_max = 4294967295

abbrev pub u16_max : ℕ
u16_max = 65535

-- a word for the origin of a subscriber, or the destination of a publication
abbrev pub locality_of : List ℕ → Option Locality
locality_of field =
    if bytes_eq field (codes "any") then Some Any else
    if bytes_eq field (codes "local") then Some SessionLocal else
    if bytes_eq field (codes "remote") then Some Remote else None

-- a word for what can be undeclared by its number
abbrev pub entity_kind_of : List ℕ → Option EntityKind
entity_kind_of field =
    if bytes_eq field (codes "sub") then Some sub_kind else
    if bytes_eq field (codes "pub") then Some pub_kind else
    if bytes_eq field (codes "queryable") then Some queryable_kind else
    if bytes_eq field (codes "querier") then Some querier_kind else
    if bytes_eq field (codes "listener") then Some listener_kind else
    if bytes_eq field (codes "token") then Some token_kind else
    if bytes_eq field (codes "lsub") then Some lsub_kind else None

-- a word for what can be left to itself
abbrev pub background_kind_of : List ℕ → Option BackgroundKind
background_kind_of field =
    if bytes_eq field (codes "sub") then Some background_sub else
    if bytes_eq field (codes "queryable") then Some background_queryable else
    if bytes_eq field (codes "listener") then Some background_listener else
    if bytes_eq field (codes "lsub") then Some background_lsub else None

-- a word for whose matching is asked for
abbrev pub parent_of : List ℕ → Option ParentKind
parent_of field =
    if bytes_eq field (codes "pub") then Some pub_parent else
    if bytes_eq field (codes "querier") then Some querier_parent else None

-- a word for whether a queryable has all that is there
abbrev pub complete_of : List ℕ → Option Bool
complete_of field =
    if bytes_eq field (codes "complete") then Some true else
    if bytes_eq field (codes "partial") then Some false else None

-- a word for whether a liveliness subscriber is told of what lives already
abbrev pub history_of : List ℕ → Option Bool
history_of field =
    if bytes_eq field (codes "history") then Some true else
    if bytes_eq field (codes "live") then Some false else None

-- what stands behind a prefix
abbrev pub after_prefix : List ℕ → List ℕ → Option (List ℕ)
after_prefix [] field = Some field
after_prefix (p ∷ ps) [] = None
after_prefix (p ∷ ps) (b ∷ bs) = if p == b then after_prefix ps bs else None

-- the colon that ends a number
abbrev pub is_colon : ℕ → Bool
is_colon b = b == 58

-- a declared number, and behind a colon the text of a suffix: `#N` or `#N:TEXT`
abbrev pub numbered_of : List ℕ → Option KeyArg
numbered_of field =
    option_and_then (λ rest. option_map (λ number. Number number (chars (after_first is_colon rest)))
    (number_of u16_max (before_first is_colon rest))) (after_prefix (codes "#") field)

-- a key: a declared number where the field has that form, and else a text, which need not be canonical
abbrev pub key_of : List ℕ → KeyArg
key_of field = unwrap_or (numbered_of field) (Text (chars field))

-- a payload: `x` and an even number of hexadecimal digits, of either case; its bytes lie in one slice
abbrev pub payload_of : List ℕ → Option (List (List ℕ))
payload_of [] = None
payload_of (b ∷ digits) = if b == 120 then option_map one_slice (result_ok (decode_of digits)) else None

-- a wire expression behind its mapping: a number, `:`, and a text, which may be empty
abbrev pub scoped_of : Mapping → List ℕ → Option WireExpr
scoped_of mapping rest =
    option_and_then (λ place. option_map (λ scope. record { scope = scope; suffix = chars (drop (place + 1) rest); mapping = mapping })
    (number_of u16_max (take place rest))) (position is_colon rest)

-- the same where there is such a rest, else another one
abbrev pub scoped_in : Mapping → Option (List ℕ) → Option WireExpr → Option WireExpr
scoped_in mapping None other = other
scoped_in mapping (Some rest) other = scoped_of mapping rest

-- a wire expression: `s` for the sender's numbers or `r` for the receiver's, and the rest
abbrev pub wire_of : List ℕ → Option WireExpr
wire_of field =
    scoped_in Sender (after_prefix (codes "s") field) (scoped_in Receiver (after_prefix (codes "r") field) None)

-- no scope and no suffix: it names no key
abbrev pub names_nothing : WireExpr → Bool
names_nothing w = w.scope == 0 && is_nothing w.suffix

-- a wire expression that names something
abbrev pub naming : Option WireExpr → Option WireExpr
naming None = None
naming (Some w) = if names_nothing w then None else Some w
