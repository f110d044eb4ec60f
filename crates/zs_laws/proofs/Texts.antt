-- The texts that keys stand for are UTF-8, where events are spelled with characters.
use Rattle.std.proofs.Common.{◌≡◌, ◌++◌, ℕ, List, [], ◌∷◌, Bool, true, false, Option, Some, None, refl}
use Rattle.std.specs.Prelude.{◌==◌, option_map, if◌then◌else◌, encode_utf8_all}
use Rattle.std.specs.List.{AllByRecursion, find}
use Rattle.std.specs.Option.{IfSome, option_or}
use Rattle.std.specs.Str.{IsUtf8, all_scalars}
use Rattle.std.proofs.lemmas.Str.{IsUtf8-append}
use Rattle.zs_query.proofs.Ascending.{all_append, all_filter}
use Rattle.zs_wire.specs.declared.wire_expr.Mapping.{Mapping}
use Rattle.zs_wire.specs.declared.wire_expr.Mapping.TheVariants.{Sender, Receiver}
use Rattle.zs_wire.specs.declared.wire_expr.WireExpr.{WireExpr}
use Rattle.zs_events.specs.declared.event.Event.{Event}
use Rattle.zs_events.specs.declared.event.Event.TheVariants.{Pub, Querier}
use Rattle.zs_events.specs.declared.key_arg.KeyArg.{KeyArg}
use Rattle.zs_events.specs.declared.key_arg.KeyArg.TheVariants.{Text, Number, Declared}
use Rattle.zs_events.specs.declared.turn.Kind.TheVariants.{Publisher, Querier as querier_kind}
use Rattle.zs_events.specs.declared.turn.Refusal.{Refusal}
use Rattle.zs_events.specs.Kinds.{NamedKey, NoKey, OwnKey, PublisherKey, QuerierKey, WireKey, row_of}
use Rattle.zs_model.specs.declared.settings.Settings.{Settings}
use Rattle.zs_model.specs.declared.publisher.PubRow.{PubRow}
use Rattle.zs_model.specs.declared.querier.QuerierRow.{QuerierRow}
use Rattle.zs_model.specs.Entry.{Entry, is_closed}
use Rattle.zs_model.specs.HeldKeys.{declares_number, tells_number, is_held, drawn_text, held_text, key_text, remote_text, mapped_text, wire_text, text_named, named_text}
use Rattle.zs_model.specs.Live.{appended, declared, is_live, live_pubs, live_queriers}
use Rattle.zs_model.specs.Publishers.{pub_row, pub_at}
use Rattle.zs_model.specs.Queriers.{querier_row, querier_at}
use Rattle.zs_model.specs.Causes.{refusal_of}
use Rattle.zs_model.specs.Past.{entry_of, with_entry, past_of}
use Rattle.zs_model.specs.Received.{AreUtf8}
use Rattle.zs_laws.specs.Spelled.{IsSpelledArgument, IsSpelledName, AllSpelled, SpelledTextsAreUtf8}

-- the bytes of characters
spelled : (text : List ℕ) → all_scalars text ≡ true → IsUtf8 (encode_utf8_all text)
spelled text scalars = (text, (scalars, refl))

pub found_all : {X : Type 0} (P : X → Type 0) (f : X → Bool) (xs : List X) → AllByRecursion P xs → IfSome (find f xs) P
found_all P f [] all = tt
found_all P f (x ∷ xs) all = go (f x) (found_all P f xs all.1)
  where
    go : (b : Bool) → IfSome (find f xs) P → IfSome (if b then Some x else find f xs) P
    go true rest = all.0
    go false rest = rest

pub_text : (e : Event) (number : Option ℕ) (text : Option (List ℕ)) → IfSome text IsUtf8 → AllByRecursion (λ (row : PubRow). IsUtf8 row.key.text) (pub_row e number text)
pub_text (Pub key settings) (Some number) (Some text) utf8 = (utf8, tt)
pub_text e number text utf8 = tt

querier_text : (e : Event) (number : Option ℕ) (text : Option (List ℕ)) → IfSome text IsUtf8 → AllByRecursion (λ (row : QuerierRow). IsUtf8 row.key.text) (querier_row e number text)
querier_text (Querier key settings) (Some number) (Some text) utf8 = (utf8, tt)
querier_text e number text utf8 = tt

-- what holds of the rows of each declaration holds of all that was ever declared
declared_all : {R : Type 0} (P : R → Type 0) (of : Event → Option ℕ → Option (List ℕ) → List R)
    → ((e : Event) (number : Option ℕ) (text : Option (List ℕ)) → IfSome text IsUtf8 → AllByRecursion P (of e number text))
    → (past : List Entry) → AreUtf8 past → AllByRecursion P (declared of past)
declared_all P of each [] all = tt
declared_all {R} P of each (x ∷ past) all = go (of x.event x.number x.text) (declared_all P of each past all.1) (each x.event x.number x.text all.0)
  where
    go : (rows : List R) → AllByRecursion P (declared of past) → AllByRecursion P rows → AllByRecursion P (appended (declared of past) rows)
    go [] before here = before
    go (row ∷ rows) before here = all_append P (declared of past) (row ∷ rows) before here

pubs_text : (past : List Entry) → AreUtf8 past → AllByRecursion (λ (row : PubRow). IsUtf8 row.key.text) (live_pubs past)
pubs_text past all =
    all_filter (λ (row : PubRow). IsUtf8 row.key.text) (λ row. is_live Publisher row.id past) (declared pub_row past)
    (declared_all (λ (row : PubRow). IsUtf8 row.key.text) pub_row pub_text past all)

queriers_text : (past : List Entry) → AreUtf8 past → AllByRecursion (λ (row : QuerierRow). IsUtf8 row.key.text) (live_queriers past)
queriers_text past all =
    all_filter (λ (row : QuerierRow). IsUtf8 row.key.text) (λ row. is_live querier_kind row.id past) (declared querier_row past)
    (declared_all (λ (row : QuerierRow). IsUtf8 row.key.text) querier_row querier_text past all)

drawn_utf8 : (n : ℕ) (past : List Entry) → AreUtf8 past → IfSome (drawn_text n past) IsUtf8
drawn_utf8 n [] all = tt
drawn_utf8 n (x ∷ past) all = go (drawn_text n past) (declares_number n x.event x.number) (drawn_utf8 n past all.1)
  where
    go : (was : Option (List ℕ)) (b : Bool) → IfSome was IsUtf8 → IfSome (option_or was (if b then x.text else None)) IsUtf8
    go (Some text) b utf8 = utf8
    go None true utf8 = all.0
    go None false utf8 = tt

pub held_utf8 : (n : ℕ) (past : List Entry) → AreUtf8 past → IfSome (held_text n past) IsUtf8
held_utf8 n past all = go (is_held n past)
  where
    go : (b : Bool) → IfSome (if b then drawn_text n past else None) IsUtf8
    go true = drawn_utf8 n past all
    go false = tt

told_utf8 : (n : ℕ) (past : List Entry) → AreUtf8 past → IfSome (remote_text n past) IsUtf8
told_utf8 n [] all = tt
told_utf8 n (x ∷ past) all = go (tells_number n x.event) (told_utf8 n past all.1)
  where
    go : (b : Bool) → IfSome (remote_text n past) IsUtf8 → IfSome (if b then x.text else remote_text n past) IsUtf8
    go true utf8 = all.0
    go false utf8 = utf8

mapped_utf8 : (mapping : Mapping) (n : ℕ) (past : List Entry) → AreUtf8 past → IfSome (mapped_text mapping n past) IsUtf8
mapped_utf8 Sender n past all = told_utf8 n past all
mapped_utf8 Receiver n past all = held_utf8 n past all

suffixed_utf8 : (suffix : List ℕ) (text : Option (List ℕ)) → IfSome text IsUtf8 → all_scalars suffix ≡ true → IfSome (option_map (λ (t : List ℕ). t ++ encode_utf8_all suffix) text) IsUtf8
suffixed_utf8 suffix None utf8 scalars = tt
suffixed_utf8 suffix (Some text) utf8 scalars = IsUtf8-append text (encode_utf8_all suffix) utf8 (spelled suffix scalars)

key_utf8 : (past : List Entry) (key : KeyArg) → AreUtf8 past → IsSpelledArgument key → IfSome (key_text past key) IsUtf8
key_utf8 past (Text text) all scalars = spelled text scalars
key_utf8 past (Number n suffix) all scalars = suffixed_utf8 suffix (held_text n past) (held_utf8 n past all) scalars
key_utf8 past (Declared text n prefix_len) all scalars = spelled text scalars

wire_utf8 : (past : List Entry) (wire : WireExpr) → AreUtf8 past → all_scalars wire.suffix ≡ true → IfSome (wire_text past wire) IsUtf8
wire_utf8 past wire all scalars = go (wire.scope == 0)
  where
    go : (b : Bool) → IfSome (if b then Some (encode_utf8_all wire.suffix) else option_map (λ (t : List ℕ). t ++ encode_utf8_all wire.suffix) (mapped_text wire.mapping wire.scope past)) IsUtf8
    go true = spelled wire.suffix scalars
    go false = suffixed_utf8 wire.suffix (mapped_text wire.mapping wire.scope past) (mapped_utf8 wire.mapping wire.scope past all) scalars

named_utf8 : (past : List Entry) (key : NamedKey) → AreUtf8 past → IsSpelledName key → IfSome (text_named past key) IsUtf8
named_utf8 past NoKey all scalars = tt
named_utf8 past (OwnKey key) all scalars = key_utf8 past key all scalars
named_utf8 past (PublisherKey id) all scalars =
    go (pub_at id (live_pubs past)) (found_all (λ (row : PubRow). IsUtf8 row.key.text) (λ row. row.id == id) (live_pubs past) (pubs_text past all))
  where
    go : (o : Option PubRow) → IfSome o (λ row. IsUtf8 row.key.text) → IfSome (option_map (λ (row : PubRow). row.key.text) o) IsUtf8
    go None utf8 = tt
    go (Some row) utf8 = utf8
named_utf8 past (QuerierKey id) all scalars =
    go (querier_at id (live_queriers past)) (found_all (λ (row : QuerierRow). IsUtf8 row.key.text) (λ row. row.id == id) (live_queriers past) (queriers_text past all))
  where
    go : (o : Option QuerierRow) → IfSome o (λ row. IsUtf8 row.key.text) → IfSome (option_map (λ (row : QuerierRow). row.key.text) o) IsUtf8
    go None utf8 = tt
    go (Some row) utf8 = utf8
named_utf8 past (WireKey wire) all scalars = wire_utf8 past wire all scalars

pub past_utf8 : (s : Settings) (h : List Event) → AllSpelled h → AreUtf8 (past_of s h)
past_utf8 s [] all = tt
past_utf8 s (e ∷ h) all = go (refusal_of s (past_of s h) e) (is_closed (past_of s h)) (past_utf8 s h all.1)
  where
    go : (o : Option Refusal) (closed : Bool) → AreUtf8 (past_of s h) → AreUtf8 (with_entry o closed (entry_of s (past_of s h) e) (past_of s h))
    go (Some refusal) closed utf8 = utf8
    go None true utf8 = utf8
    go None false utf8 = (named_utf8 (past_of s h) (row_of e).key utf8 all.0, utf8)

pub event_utf8 : (s : Settings) (h : List Event) (e : Event) → AllSpelled (e ∷ h) → IfSome (named_text (past_of s h) e) IsUtf8
event_utf8 s h e all = named_utf8 (past_of s h) (row_of e).key (past_utf8 s h all.1) all.0

pub spelled_texts_are_utf8 : SpelledTextsAreUtf8
spelled_texts_are_utf8 s h all = (past_utf8 s h all, λ e one. event_utf8 s h e (one, all))
