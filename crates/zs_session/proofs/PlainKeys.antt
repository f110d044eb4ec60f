-- The texts that stand in a past are plain, where its events are.
use Rattle.std.proofs.Common.{◌≡◌, ◌++◌, List, [], ◌∷◌, Bool, true, false, Option, Some, None, IfSome, refl}
use Rattle.std.specs.Prelude.{ℕ, ◌==◌, ◌&&◌, filter, option_map, if◌then◌else◌, encode_utf8_all}
use Rattle.std.specs.List.{AllByRecursion, find, list_all}
use Rattle.std.specs.Str.{IsUtf8, all_scalars}
use Rattle.std.proofs.lemmas.Bool.{and_parts}
use Rattle.std.proofs.lemmas.Str.{IsUtf8-append}
use Rattle.zs_events.specs.declared.event.Event.{Event}
use Rattle.zs_events.specs.declared.event.Event.TheVariants.{Pub, Querier, Publish, PublishBy, Net}
use Rattle.zs_events.specs.declared.key_arg.KeyArg.{KeyArg}
use Rattle.zs_events.specs.declared.key_arg.KeyArg.TheVariants.{Text, Number, Declared}
use Rattle.zs_core.specs.Types.{Settings}
use Rattle.zs_events.specs.declared.turn.Kind.TheVariants.{Publisher, Querier as querier_kind}
use Rattle.zs_events.specs.declared.turn.Refusal.{Refusal}
use Rattle.zs_sample.specs.Encoding.{encoding_of}
use Rattle.zs_wire.specs.declared.message.Message.TheVariants.{Push}
use Rattle.zs_wire.specs.declared.sample_kind.SampleKind.{SampleKind}
use Rattle.zs_wire.specs.declared.sample_kind.SampleKind.TheVariants.{Put as put_kind, Delete as delete_kind}
use Rattle.zs_wire.specs.declared.wire_expr.Mapping.{Mapping}
use Rattle.zs_wire.specs.declared.wire_expr.Mapping.TheVariants.{Sender, Receiver}
use Rattle.zs_wire.specs.declared.wire_expr.WireExpr.{WireExpr}
use Rattle.zs_events.specs.Kinds.{NamedKey, NoKey, OwnKey, PublisherKey, QuerierKey, WireKey, Publishes, NoContent, OwnContent, ByPublisher, row_of}
use Rattle.zs_events.specs.declared.update.Update.{Update}
use Rattle.zs_events.specs.declared.update.PushBody.{PushBody}
use Rattle.zs_events.specs.declared.update.PushBody.TheVariants.{Put, Delete}
use Rattle.zs_events.specs.Updates.{default_encoding, body_by, texts_by}
use Rattle.zs_core.specs.Entry.{Entry, is_closed}
use Rattle.std.specs.Option.{option_or}
use Rattle.zs_core.specs.HeldKeys.{declares_number, tells_number, is_held, drawn_text, held_text, key_text, remote_text, mapped_text, wire_text, text_named, named_text}
use Rattle.zs_core.specs.Causes.{refusal_of}
use Rattle.zs_core.specs.Types.{PubRow}
use Rattle.zs_core.specs.Types.{QuerierRow}
use Rattle.zs_core.specs.Live.{appended, declared, is_live, live_pubs, live_queriers}
use Rattle.zs_core.specs.Publications.{handed_encoding}
use Rattle.zs_core.specs.Publishers.{pub_row, pub_at, content_of, resolved}
use Rattle.zs_core.specs.Queriers.{querier_row, querier_at}
use Rattle.zs_driving.proofs.Progress.{all_append}
use Rattle.zs_core.specs.Past.{entry_of, with_entry, past_of}
use Rattle.zs_script.specs.Plain.{is_plain, is_plain_text, is_field_text, is_plain_key, is_plain_named, is_plain_event}
use Rattle.zs_script.proofs.PlainTexts.{plain-append}

-- bytes of characters, without a tab and a line feed
abbrev pub IsText : List ℕ → Type 0
IsText text = (is_plain text ≡ true) × IsUtf8 text

abbrev pub PlainEvents : List Event → Type 0
PlainEvents es = AllByRecursion (λ e. is_plain_event e ≡ true) es

-- the bytes of a field's text
pub field_text : (text : List ℕ) → is_field_text text ≡ true → IsText (encode_utf8_all text)
field_text text plain = let parts = and_parts (all_scalars text) (is_plain_text text) plain in (parts.1, (text, (parts.0, refl)))

pub field_plain : (text : List ℕ) → is_field_text text ≡ true → is_plain_text text ≡ true
field_plain text plain = (and_parts (all_scalars text) (is_plain_text text) plain).1

-- the one text of an event beside that of its key
pub last_plain : (key : Bool) (text : List ℕ) → (key && (is_field_text text && true)) ≡ true → is_plain_text text ≡ true
last_plain key text plain = field_plain text (and_parts (is_field_text text) true (and_parts key (is_field_text text && true) plain).1).0

pub joined_text : (text more : List ℕ) → IsText text → IsText more → IsText (text ++ more)
joined_text text more a b = (plain-append text more a.0 b.0, IsUtf8-append text more a.1 b.1)

abbrev pub AllPlain : List (List ℕ) → Type 0
AllPlain texts = AllByRecursion (λ text. is_plain_text text ≡ true) texts

pub texts_plain : (texts : List (List ℕ)) → list_all is_field_text texts ≡ true → AllPlain texts
texts_plain [] plain = tt
texts_plain (text ∷ texts) plain =
    let parts = and_parts (is_field_text text) (list_all is_field_text texts) plain in
    (field_plain text parts.0, texts_plain texts parts.1)

-- the encoding where none is named is plain
pub default_plain : is_plain_text default_encoding ≡ true
unfolding lib.Utf8.encode
default_plain = refl

-- the empty encoding stands for that one
pub plain_encoding : (encoding : List ℕ) → is_plain_text encoding ≡ true → is_plain_text (encoding_of encoding) ≡ true
unfolding lib.Utf8.encode
plain_encoding [] plain = refl
plain_encoding (c ∷ cs) plain = plain

-- the encoding of an update is the one that it names, or that which it has where it names none
pub body_plain : (body : PushBody) (unnamed : List ℕ) (update : Update) → list_all is_field_text (texts_by body) ≡ true → is_plain_text (encoding_of unnamed) ≡ true
    → is_plain_text (body_by body unnamed update).encoding ≡ true
body_plain (Put payload None) unnamed update plain other = other
body_plain (Put payload (Some encoding)) unnamed update plain other = plain_encoding encoding (field_plain encoding (and_parts (is_field_text encoding) true plain).0)
body_plain Delete unnamed update plain other = default_plain

-- and so is the one that is handed out
pub plain_handed : (kind : SampleKind) (encoding : List ℕ) → is_plain_text encoding ≡ true → is_plain_text (handed_encoding kind encoding) ≡ true
plain_handed put_kind encoding plain = plain_encoding encoding plain
plain_handed delete_kind encoding plain = default_plain

-- the text that was resolved for an event is plain, and so are its own
abbrev pub PlainEntry : Entry → Type 0
PlainEntry x = IfSome x.text IsText × (is_plain_event x.event ≡ true)

-- the texts in a past are plain
abbrev pub PlainPast : List Entry → Type 0
PlainPast past = AllByRecursion PlainEntry past

-- what holds of all elements holds of those that pass a test, and of the first one that does
pub filter_all : {X : Type 0} (P : X → Type 0) (f : X → Bool) (xs : List X) → AllByRecursion P xs → AllByRecursion P (filter f xs)
filter_all P f [] all = tt
filter_all P f (x ∷ xs) all = go (f x) (filter_all P f xs all.1)
  where
    go : (b : Bool) → AllByRecursion P (filter f xs) → AllByRecursion P (if b then x ∷ filter f xs else filter f xs)
    go true rest = (all.0, rest)
    go false rest = rest

pub found_all : {X : Type 0} (P : X → Type 0) (f : X → Bool) (xs : List X) → AllByRecursion P xs → IfSome (find f xs) P
found_all P f [] all = tt
found_all P f (x ∷ xs) all = go (f x) (found_all P f xs all.1)
  where
    go : (b : Bool) → IfSome (find f xs) P → IfSome (if b then Some x else find f xs) P
    go true rest = all.0
    go false rest = rest

-- the texts of a publisher are plain
abbrev pub PlainPub : PubRow → Type 0
PlainPub row = IsText row.key.text × (is_plain_text row.settings.encoding ≡ true)

abbrev pub PlainPubs : List PubRow → Type 0
PlainPubs rows = AllByRecursion PlainPub rows

pub_plain : (e : Event) (number : Option ℕ) (text : Option (List ℕ)) → IfSome text IsText → is_plain_event e ≡ true → PlainPubs (pub_row e number text)
pub_plain (Pub key settings) (Some number) (Some text) named plain = ((named, last_plain (is_plain_key key) settings.encoding plain), tt)
pub_plain e number text named plain = tt

-- the text of a querier is plain
abbrev pub PlainQuerier : QuerierRow → Type 0
PlainQuerier row = IsText row.key.text

querier_plain : (e : Event) (number : Option ℕ) (text : Option (List ℕ)) → IfSome text IsText → is_plain_event e ≡ true → AllByRecursion PlainQuerier (querier_row e number text)
querier_plain (Querier key settings) (Some number) (Some text) named plain = (named, tt)
querier_plain e number text named plain = tt

-- all that was ever declared of a sort is plain, where each of its declarations is
declared_plain : {R : Type 0} (P : R → Type 0) (of : Event → Option ℕ → Option (List ℕ) → List R)
    → ((e : Event) (number : Option ℕ) (text : Option (List ℕ)) → IfSome text IsText → is_plain_event e ≡ true → AllByRecursion P (of e number text))
    → (past : List Entry) → PlainPast past → AllByRecursion P (declared of past)
declared_plain P of each [] all = tt
declared_plain {R} P of each (x ∷ past) all =
    go (of x.event x.number x.text) (declared_plain P of each past all.1) (each x.event x.number x.text all.0.0 all.0.1)
  where
    go : (rows : List R) → AllByRecursion P (declared of past) → AllByRecursion P rows → AllByRecursion P (appended (declared of past) rows)
    go [] before here = before
    go (row ∷ rows) before here = all_append P (declared of past) (row ∷ rows) before here

-- the live publishers of a plain past are plain, and its live queriers
pub pubs_plain : (past : List Entry) → PlainPast past → PlainPubs (live_pubs past)
pubs_plain past all = filter_all PlainPub (λ row. is_live Publisher row.id past) (declared pub_row past) (declared_plain PlainPub pub_row pub_plain past all)

queriers_plain : (past : List Entry) → PlainPast past → AllByRecursion PlainQuerier (live_queriers past)
queriers_plain past all =
    filter_all PlainQuerier (λ row. is_live querier_kind row.id past) (declared querier_row past) (declared_plain PlainQuerier querier_row querier_plain past all)

drawn_plain : (n : ℕ) (past : List Entry) → PlainPast past → IfSome (drawn_text n past) IsText
drawn_plain n [] all = tt
drawn_plain n (x ∷ past) all = go (drawn_text n past) (declares_number n x.event x.number) (drawn_plain n past all.1)
  where
    go : (was : Option (List ℕ)) (b : Bool) → IfSome was IsText → IfSome (option_or was (if b then x.text else None)) IsText
    go (Some text) b plain = plain
    go None true plain = all.0.0
    go None false plain = tt

pub held_plain : (n : ℕ) (past : List Entry) → PlainPast past → IfSome (held_text n past) IsText
held_plain n past all = go (is_held n past)
  where
    go : (b : Bool) → IfSome (if b then drawn_text n past else None) IsText
    go true = drawn_plain n past all
    go false = tt

told_plain : (n : ℕ) (past : List Entry) → PlainPast past → IfSome (remote_text n past) IsText
told_plain n [] all = tt
told_plain n (x ∷ past) all = go (tells_number n x.event) (told_plain n past all.1)
  where
    go : (b : Bool) → IfSome (remote_text n past) IsText → IfSome (if b then x.text else remote_text n past) IsText
    go true plain = all.0.0
    go false plain = plain

mapped_plain : (mapping : Mapping) (n : ℕ) (past : List Entry) → PlainPast past → IfSome (mapped_text mapping n past) IsText
mapped_plain Sender n past all = told_plain n past all
mapped_plain Receiver n past all = held_plain n past all

suffixed_plain : (suffix : List ℕ) (text : Option (List ℕ)) → IfSome text IsText → is_field_text suffix ≡ true
    → IfSome (option_map (λ (t : List ℕ). t ++ encode_utf8_all suffix) text) IsText
suffixed_plain suffix None at plain = tt
suffixed_plain suffix (Some text) at plain = joined_text text (encode_utf8_all suffix) at (field_text suffix plain)

key_plain : (past : List Entry) (key : KeyArg) → PlainPast past → is_plain_key key ≡ true → IfSome (key_text past key) IsText
key_plain past (Text text) all plain = field_text text plain
key_plain past (Number n suffix) all plain = suffixed_plain suffix (held_text n past) (held_plain n past all) plain
key_plain past (Declared text n prefix_len) all plain = field_text text plain

wire_plain : (past : List Entry) (wire : WireExpr) → PlainPast past → is_field_text wire.suffix ≡ true → IfSome (wire_text past wire) IsText
wire_plain past wire all plain = go (wire.scope == 0)
  where
    go : (b : Bool) → IfSome (if b then Some (encode_utf8_all wire.suffix) else option_map (λ (t : List ℕ). t ++ encode_utf8_all wire.suffix) (mapped_text wire.mapping wire.scope past)) IsText
    go true = field_text wire.suffix plain
    go false = suffixed_plain wire.suffix (mapped_text wire.mapping wire.scope past) (mapped_plain wire.mapping wire.scope past all) plain

-- the text that the key of a plain event stands for is plain
named_plain : (past : List Entry) (key : NamedKey) → PlainPast past → is_plain_named key ≡ true → IfSome (text_named past key) IsText
named_plain past NoKey all plain = tt
named_plain past (OwnKey key) all plain = key_plain past key all plain
named_plain past (PublisherKey id) all plain = go (pub_at id (live_pubs past)) (found_all PlainPub (λ row. row.id == id) (live_pubs past) (pubs_plain past all))
  where
    go : (o : Option PubRow) → IfSome o PlainPub → IfSome (option_map (λ row. row.key.text) o) IsText
    go None row = tt
    go (Some row) found = found.0
named_plain past (QuerierKey id) all plain =
    go (querier_at id (live_queriers past)) (found_all PlainQuerier (λ row. row.id == id) (live_queriers past) (queriers_plain past all))
  where
    go : (o : Option QuerierRow) → IfSome o PlainQuerier → IfSome (option_map (λ row. row.key.text) o) IsText
    go None row = tt
    go (Some row) found = found
named_plain past (WireKey wire) all plain = wire_plain past wire all plain

pub text_plain : (past : List Entry) (e : Event) → PlainPast past → is_plain_event e ≡ true → IfSome (named_text past e) IsText
text_plain past e all plain =
    named_plain past (row_of e).key all (and_parts (is_plain_named (row_of e).key) (list_all is_field_text (row_of e).texts) plain).0

pub past_plain : (s : Settings) (h : List Event) → PlainEvents h → PlainPast (past_of s h)
past_plain s [] plain = tt
past_plain s (e ∷ h) plain = go (refusal_of s (past_of s h) e) (is_closed (past_of s h)) (past_plain s h plain.1)
  where
    go : (o : Option Refusal) (closed : Bool) → PlainPast (past_of s h) → PlainPast (with_entry o closed (entry_of s (past_of s h) e) (past_of s h))
    go (Some refusal) closed all = all
    go None true all = all
    go None false all = ((text_plain (past_of s h) e all plain.0, plain.0), all)

-- the encoding that a publication names is plain
abbrev pub PlainContent : Publishes → Type 0
PlainContent NoContent = Unit {0}
PlainContent (OwnContent c) = is_plain_text c.body.encoding ≡ true
PlainContent (ByPublisher id c) = Unit {0}

-- what a publisher publishes names its own encoding, or another plain one
published_plain : (update : Update) (o : Option PubRow) → list_all is_field_text (texts_by update.body) ≡ true → IfSome o PlainPub → PlainContent (content_of update o)
published_plain update None named row = tt
published_plain update (Some row) named found = body_plain update.body row.settings.encoding update named (plain_encoding row.settings.encoding found.1)

pub content_plain : (pubs : List PubRow) (e : Event) → PlainPubs pubs → is_plain_event e ≡ true → PlainContent (resolved pubs (row_of e).publishes)
content_plain pubs (Publish destination key update quality) all plain =
    body_plain update.body [] update (and_parts (is_plain_key key) (list_all is_field_text (texts_by update.body)) plain).1 default_plain
content_plain pubs (PublishBy id update) all plain = published_plain update (pub_at id pubs) plain (found_all PlainPub (λ row. row.id == id) pubs all)
content_plain pubs (Net (Push push)) all plain = last_plain (is_field_text push.wire.suffix) push.body.encoding plain
content_plain pubs e all plain = tt
