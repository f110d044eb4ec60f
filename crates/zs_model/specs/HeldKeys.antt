-- Which keys are held and which are told, by the events alone: plain counts over all that happened, with no table.
use Rattle.std.specs.Prelude.{ℕ, ◌+◌, ◌-◌, Bool, true, false, ◌==◌, ◌&&◌, not, nat_lt, List, [], ◌∷◌, ◌++◌, Option, Some, None, option_map, if◌then◌else◌, encode_utf8_all}
use Rattle.std.specs.Option.{option_or}
use Rattle.std.specs.Str.{bytes_eq}
use Rattle.zs_events.specs.declared.event.Event.{Event}
use Rattle.zs_events.specs.declared.event.Event.TheVariants.{Key, UndeclareKey, Net}
use Rattle.zs_events.specs.declared.key_arg.KeyArg.{KeyArg}
use Rattle.zs_events.specs.declared.key_arg.KeyArg.TheVariants.{Text, Number, Declared}
use Rattle.zs_wire.specs.declared.message.Message.TheVariants.{DeclareKeyExpr}
use Rattle.zs_wire.specs.declared.wire_expr.Mapping.{Mapping}
use Rattle.zs_wire.specs.declared.wire_expr.Mapping.TheVariants.{Sender, Receiver}
use Rattle.zs_wire.specs.declared.wire_expr.WireExpr.{WireExpr}
use Rattle.zs_events.specs.Kinds.{NamedKey, NoKey, OwnKey, PublisherKey, QuerierKey, WireKey, row_of}
use Rattle.zs_model.specs.Entry.{Entry, is_closed}
use Rattle.zs_model.specs.Publishers.{pub_at}
use Rattle.zs_model.specs.Queriers.{querier_at}
use Rattle.zs_model.specs.Live.{live_pubs, live_queriers}

-- whether an event declared a key and was answered this number
abbrev pub declares_number : ℕ → Event → Option ℕ → Bool
declares_number n (Key key) (Some number) = number == n
declares_number n e number = false

-- whether an event gave a key of this number back
abbrev pub returns_number : ℕ → Event → Bool
returns_number n (UndeclareKey (Number number suffix)) = number == n
returns_number n (UndeclareKey (Declared text number prefix_len)) = number == n
returns_number n e = false

-- whether an event tells what a number of the network stands for
abbrev pub tells_number : ℕ → Event → Bool
tells_number n (Net (DeclareKeyExpr number wire)) = number == n
tells_number n e = false

-- how often a declaration was answered the number
abbrev pub times_declared : ℕ → List Entry → ℕ
times_declared n [] = 0
times_declared n (x ∷ past) = if declares_number n x.event x.number then times_declared n past + 1 else times_declared n past

-- how often it was given back
abbrev pub times_returned : ℕ → List Entry → ℕ
times_returned n [] = 0
times_returned n (x ∷ past) = if returns_number n x.event then times_returned n past + 1 else times_returned n past

-- how many declarations of the number are not given back yet: none where the session is closed
abbrev pub held_count : ℕ → List Entry → ℕ
held_count n past = if is_closed past then 0 else times_declared n past - times_returned n past

-- a number is held while it was given back less often, and the session is open
abbrev pub is_held : ℕ → List Entry → Bool
is_held n past = not (is_closed past) && nat_lt (times_returned n past) (times_declared n past)

-- the text of the event that drew the number: the first declaration that was answered it
abbrev pub drawn_text : ℕ → List Entry → Option (List ℕ)
drawn_text n [] = None
drawn_text n (x ∷ past) = option_or (drawn_text n past) (if declares_number n x.event x.number then x.text else None)

-- the text that a number stands for: that one, while it is held
abbrev pub held_text : ℕ → List Entry → Option (List ℕ)
held_text n past = if is_held n past then drawn_text n past else None

-- whether this text is held under a number
abbrev pub stands_for : List ℕ → Option (List ℕ) → Bool
stands_for text None = false
stands_for text (Some held) = bytes_eq held text

-- whether the text of a key is held under the number that an event claims, if it claims one
abbrev pub is_claimed : List Entry → Option ℕ → Option (List ℕ) → Bool
is_claimed past None text = true
is_claimed past (Some n) None = false
is_claimed past (Some n) (Some text) = stands_for text (held_text n past)

-- whether an event was answered a number that stands for the text
abbrev pub answers_under : List ℕ → List Entry → Event → Option ℕ → Bool
answers_under text past (Key key) (Some n) = stands_for text (held_text n past)
answers_under text past e number = false

-- the number that a declaration among these was answered and that stands for the text
abbrev pub number_among : List ℕ → List Entry → List Entry → Option ℕ
number_among text past [] = None
number_among text past (x ∷ more) = if answers_under text past x.event x.number then x.number else number_among text past more

-- the number under which a text is held, if it is held
abbrev pub held_number : List ℕ → List Entry → Option ℕ
held_number text past = number_among text past past

-- the text that a key stands for
abbrev pub key_text : List Entry → KeyArg → Option (List ℕ)
key_text past (Text text) = Some (encode_utf8_all text)
key_text past (Number number suffix) = option_map (λ text. text ++ encode_utf8_all suffix) (held_text number past)
key_text past (Declared text number prefix_len) = Some (encode_utf8_all text)

-- the text that the network told last of a number
abbrev pub remote_text : ℕ → List Entry → Option (List ℕ)
remote_text n [] = None
remote_text n (x ∷ past) = if tells_number n x.event then x.text else remote_text n past

-- the text of a number of the side that a mapping names: the network's, or this session's
abbrev pub mapped_text : Mapping → ℕ → List Entry → Option (List ℕ)
mapped_text Sender n past = remote_text n past
mapped_text Receiver n past = held_text n past

-- the text that a wire expression stands for: number 0 is no number
abbrev pub wire_text : List Entry → WireExpr → Option (List ℕ)
wire_text past wire =
    if wire.scope == 0 then Some (encode_utf8_all wire.suffix)
    else option_map (λ text. text ++ encode_utf8_all wire.suffix) (mapped_text wire.mapping wire.scope past)

-- the text that a named key stands for
abbrev pub text_named : List Entry → NamedKey → Option (List ℕ)
text_named past NoKey = None
text_named past (OwnKey key) = key_text past key
text_named past (PublisherKey id) = option_map (λ row. row.key.text) (pub_at id (live_pubs past))
text_named past (QuerierKey id) = option_map (λ row. row.key.text) (querier_at id (live_queriers past))
text_named past (WireKey wire) = wire_text past wire

-- the text that the key of an event stands for
abbrev pub named_text : List Entry → Event → Option (List ℕ)
named_text past e = text_named past (row_of e).key
