-- Events whose keys are spelled with Unicode's characters, as all texts of a program are, and what follows for all that is sent.
use Rattle.std.specs.Prelude.{◌≡◌, true, List, ◌∷◌, IsUtf8}
use Rattle.std.specs.List.{AllByRecursion}
use Rattle.std.specs.Option.{IfSome}
use Rattle.std.specs.Str.{all_scalars}
use Rattle.zs_subscriptions.specs.Recipients.{has_network}
use Rattle.zs_wire.specs.declared.wire_expr.Mapping.TheVariants.{Sender}
use Rattle.zs_wire.specs.declared.wire_expr.WireExpr.{WireExpr}
use Rattle.zs_events.specs.declared.event.Event.{Event}
use Rattle.zs_events.specs.declared.key_arg.KeyArg.{KeyArg}
use Rattle.zs_events.specs.declared.key_arg.KeyArg.TheVariants.{Text, Number, Declared}
use Rattle.zs_events.specs.Kinds.{NamedKey, NoKey, OwnKey, PublisherKey, QuerierKey, WireKey, row_of}
use Rattle.zs_model.specs.declared.settings.Settings.{Settings}
use Rattle.zs_model.specs.HeldKeys.{named_text}
use Rattle.zs_model.specs.Live.{live_subs}
use Rattle.zs_model.specs.Past.{past_of}
use Rattle.zs_model.specs.Effects.{effects}
use Rattle.zs_model.specs.Received.{messages_of, sent, wire_in, spoken_text, AreReadAs, AreSpelled, AreUtf8}
use Rattle.zs_model.specs.Covered.{IsCovered}

-- a key argument's text is one of characters
abbrev pub IsSpelledArgument : KeyArg → Type 0
IsSpelledArgument (Text text) = all_scalars text ≡ true
IsSpelledArgument (Number number suffix) = all_scalars suffix ≡ true
IsSpelledArgument (Declared text number prefix_len) = all_scalars text ≡ true

-- so is that of the key that an event names
abbrev pub IsSpelledName : NamedKey → Type 0
IsSpelledName NoKey = Unit {0}
IsSpelledName (OwnKey key) = IsSpelledArgument key
IsSpelledName (PublisherKey id) = Unit {0}
IsSpelledName (QuerierKey id) = Unit {0}
IsSpelledName (WireKey wire) = all_scalars wire.suffix ≡ true

abbrev pub IsSpelled : Event → Type 0
IsSpelled e = IsSpelledName (row_of e).key

abbrev pub AllSpelled : List Event → Type 0
AllSpelled es = AllByRecursion IsSpelled es

-- then the texts that keys stand for are UTF-8: those of the past, and that of one more event
abbrev pub SpelledTextsAreUtf8 : Type 0
SpelledTextsAreUtf8 = (s : Settings) (h : List Event) → AllSpelled h → AreUtf8 (past_of s h) × ((e : Event) → IsSpelled e → IfSome (named_text (past_of s h) e) IsUtf8)

-- so each message is read as what it means
abbrev pub SpelledFormsAreRead : Type 0
SpelledFormsAreRead =
    (s : Settings) (h : List Event) (e : Event) → AreSpelled s → AllSpelled (e ∷ h)
    → AreReadAs s (spoken_text (past_of s h) e) (sent s h) (messages_of (effects s h e).effects)

-- and each live subscriber that the network is told of is covered
abbrev pub SpelledSubscribersAreCovered : Type 0
SpelledSubscribersAreCovered =
    (s : Settings) (h : List Event) → AreSpelled s → AllSpelled h
    → AllByRecursion (λ row. has_network row.origin ≡ true → IsCovered (sent s h) row.key.text) (live_subs (past_of s h))

-- a wire expression of the sender's own numbers, spelled with characters
pub record IsSent (wire : WireExpr) : Type 0 where
  pub own : wire.mapping ≡ Sender
  pub spelled : all_scalars wire.suffix ≡ true

-- so is each that is sent
abbrev pub SentKeysAreSpelled : Type 0
SentKeysAreSpelled =
    (s : Settings) (h : List Event) (e : Event) → AreSpelled s → AllSpelled (e ∷ h)
    → AllByRecursion (λ m. IfSome (wire_in m) IsSent) (messages_of (effects s h e).effects)
