-- What is sent tells of no refusal and no sample handed to a subscriber, and its texts are plain.
use Rattle.std.proofs.Common.{◌≡◌, ℕ, zero, suc, ◌==◌, ◌≤◌, ◌++◌, List, [], ◌∷◌, length, take, drop, map, filter, Bool, true, false, not, ◌&&◌, Option, Some, None, IfSome, refl, sym, ◌∙◌, ap, subst, arith}
use Rattle.std.specs.Prelude.{chars, if◌then◌else◌, option_map, unwrap_or}
use Rattle.std.specs.List.{AllByRecursion, list_all, starts_with}
use Rattle.std.specs.Str.{IsUtf8}
use Rattle.std.specs.Cmp.Lexicographic.{bytes_decides}
use Rattle.std.proofs.lemmas.Bool.{and_parts, and_from, eqb-true}
use Rattle.std.proofs.lemmas.List.{length-take}
use Rattle.std.proofs.lemmas.Str.{IsUtf8-drop, IsCharBoundary-from_take, encodes-chars}
use Rattle.zs_keys.specs.declared.declaration.Declared.{Declared}
use Rattle.zs_wire.specs.declared.message.Message.TheVariants.{DeclareKeyExpr}
use Rattle.zs_wire.specs.declared.wire_expr.WireExpr.{WireExpr}
use Rattle.zs_tables.specs.Types.{GroupKind, Subscribers, Publishers}
use Rattle.zs_keys.specs.Key.{Key as a_key}
use Rattle.zs_keys.specs.Matching.{includes}
use Rattle.zs_events.specs.declared.event.Event.{Event}
use Rattle.zs_events.specs.declared.key_arg.KeyArg.{KeyArg}
use Rattle.zs_events.specs.declared.turn.Effect.{Effect}
use Rattle.zs_events.specs.declared.turn.Effect.TheVariants.{Send, Hand, End, Matching}
use Rattle.zs_events.specs.declared.turn.HandOver.TheVariants.{Sample, Reply, Query}
use Rattle.zs_events.specs.declared.turn.Kind.TheVariants.{LivelinessSubscriber}
use Rattle.zs_events.specs.Kinds.{OwnContent, row_of}
use Rattle.zs_core.specs.Types.{PubRow}
use Rattle.zs_core.specs.Groups.{Company, aggregate_of}
use Rattle.zs_core.specs.Publishers.{resolved}
use Rattle.zs_core.specs.Effects.{Known, key_wire, entity_sends}
use Rattle.zs_core.specs.Sends.{OwnKeys, group_wire, declared_by, has_front, goes_by_number, full_wire, number_wire, wire_form, declaration_of, is_sent, push_with, sends_of}
use Rattle.zs_printing.specs.Pieces.{written}
use Rattle.zs_printing.specs.Printing.{hand_pieces, replied_pieces, queried_pieces, effect_fields}
use Rattle.zs_script.specs.Plain.{is_plain, is_plain_text, is_plain_sample, is_plain_outcome, is_plain_query, is_plain_effect, message_texts}
use Rattle.zs_session.specs.Telling.{tells}
use Rattle.zs_driving.proofs.Progress.{all_append}
use Rattle.zs_session.proofs.PlainIncluding.{included_plain}
use Rattle.zs_session.proofs.PlainKeys.{IsText, PlainContent}
use Rattle.zs_laws.proofs.Sends.{Announced, ASubscriber, APublisher, announcement, aggregates_for, announced_wire, Retracted, OfSubscriber, retraction, announced, entity_cases, sends_cases}
use Rattle.zs_events.specs.declared.publication.Content.{Content}

-- an effect that hands no sample out but to a subscriber to liveliness, with plain texts
abbrev pub IsQuiet : Effect → Type 0
IsQuiet (Send message) = list_all is_plain_text (message_texts message) ≡ true
IsQuiet (Hand (Sample LivelinessSubscriber id sample)) = is_plain_sample sample ≡ true
IsQuiet (Hand (Sample kind id sample)) = ⊥
IsQuiet (Hand (Reply kind id reply)) = is_plain_outcome reply.result ≡ true
IsQuiet (Hand (Query id value query)) = is_plain_query query ≡ true
IsQuiet (End kind id) = Unit {0}
IsQuiet (Matching id matching) = Unit {0}

abbrev pub AreQuiet : List Effect → Type 0
AreQuiet fx = AllByRecursion IsQuiet fx

-- none of them tells
quiet_one : (f : Effect) → IsQuiet f → tells (effect_fields f) ≡ false
unfolding written hand_pieces replied_pieces queried_pieces
quiet_one (Send message) plain = refl
quiet_one (Hand (Sample LivelinessSubscriber id sample)) plain = refl
quiet_one (Hand (Sample kind id sample)) plain = absurd plain
quiet_one (Hand (Reply kind id reply)) plain = refl
quiet_one (Hand (Query id value query)) plain = refl
quiet_one (End kind id) plain = refl
quiet_one (Matching id matching) plain = refl

pub quiet_tell : (fx : List Effect) → AreQuiet fx → filter tells (map effect_fields fx) ≡ []
quiet_tell [] all = refl
quiet_tell (f ∷ fx) all = rw (quiet_one f all.0) (quiet_tell fx all.1)

-- and all are plain
quiet_plain : (f : Effect) → IsQuiet f → is_plain_effect f ≡ true
quiet_plain (Send message) plain = plain
quiet_plain (Hand (Sample LivelinessSubscriber id sample)) plain = plain
quiet_plain (Hand (Sample kind id sample)) plain = absurd plain
quiet_plain (Hand (Reply kind id reply)) plain = plain
quiet_plain (Hand (Query id value query)) plain = plain
quiet_plain (End kind id) plain = refl
quiet_plain (Matching id matching) plain = refl

pub all_plain : (fx : List Effect) → AreQuiet fx → AllByRecursion (λ f. is_plain_effect f ≡ true) fx
all_plain [] all = tt
all_plain (f ∷ fx) all = (quiet_plain f all.0, all_plain fx all.1)

-- the characters of a text are plain
pub chars_plain : (text : List ℕ) → IsText text → is_plain_text (chars text) ≡ true
chars_plain text t = ap is_plain (encodes-chars text t.1) ∙ t.0

plain_behind : (n : ℕ) (text : List ℕ) → is_plain text ≡ true → is_plain (drop n text) ≡ true
plain_behind zero text h = h
plain_behind (suc n) [] h = refl
plain_behind (suc n) (b ∷ bs) h = plain_behind n bs (and_parts (not (b == 9) && not (b == 10)) (is_plain bs) h).1

-- what stands behind a front that is a text is one
behind_front : (text held : List ℕ) (n : ℕ) → has_front text n (Some held) ≡ true → IsText held → IsText text → IsText (drop n text)
behind_front text held n front h t =
    let parts = and_parts (length held == n) (starts_with (λ a b. a == b) text held) front in
    let taken : held ≡ take (length held) text = (bytes_decides held (take (length held) text)).0 parts.1 in
    let short : length held ≤ length text = omega (arith, ap length taken, length-take (length held) text) in
    let at = IsCharBoundary-from_take text (length held) t.1 short (subst IsUtf8 taken h.1) in
    subst (λ (k : ℕ). IsText (drop k text)) (eqb-true (length held) n parts.0)
    (plain_behind (length held) text t.0, IsUtf8-drop text (length held) t.1 at)

-- the texts that declared numbers stand for are texts
abbrev pub AreTexts : OwnKeys → Type 0
AreTexts k = (n : ℕ) → IfSome (k.text_of n) IsText

-- the form that a message gives a key is plain
pub wire_plain : (k : OwnKeys) (text : List ℕ) (d : Option Declared) → AreTexts k → IsText text → is_plain_text (wire_form k text d).suffix ≡ true
wire_plain k text None all t = chars_plain text t
wire_plain k text (Some d) all t = go (goes_by_number k text d) refl
  where
    fronted : (o : Option (List ℕ)) → IfSome o IsText → has_front text d.prefix_len o ≡ true → IsText (drop d.prefix_len text)
    fronted None known front = cc
    fronted (Some held) known front = behind_front text held d.prefix_len front known t

    go : (b : Bool) → goes_by_number k text d ≡ b → is_plain_text (if b then number_wire text d else full_wire text).suffix ≡ true
    go false by = chars_plain text t
    go true by =
        let last = (and_parts (d.tag == k.tag && not (d.number == 0)) (has_front text d.prefix_len (k.text_of d.number)) by).1 in
        chars_plain (drop d.prefix_len text) (fronted (k.text_of d.number) (all d.number) last)

-- what an event sends by itself
event_sent : (k : OwnKeys) (pubs : List PubRow) (number : Option ℕ) (text : Option (List ℕ)) (e : Event) → AreTexts k → IfSome text IsText
    → PlainContent (resolved pubs (row_of e).publishes) → AreQuiet (sends_of k pubs number text e)
event_sent k pubs number text e all named plain = sends_cases AreQuiet tt k pubs number text e declared (λ n. (refl, tt)) (refl, tt) pushed
  where
    spoken : (t : List ℕ) → text ≡ Some t → IsText t
    spoken t its = subst (λ (o : Option (List ℕ)). IfSome o IsText) its named

    declared : (n : ℕ) (t : List ℕ) → number ≡ Some n → text ≡ Some t → AreQuiet (Send (DeclareKeyExpr n (full_wire t)) ∷ [])
    declared n t drew its = (and_from (is_plain_text (chars t)) true (chars_plain t (spoken t its)) refl, tt)

    pushed : (t : List ℕ) (c : Content) → text ≡ Some t → resolved pubs (row_of e).publishes ≡ OwnContent c → is_sent c ≡ true
        → AreQuiet (Send (push_with (wire_form k t (declaration_of k t (row_of e).key)) c) ∷ [])
    pushed t c its is sent =
        let wire = wire_form k t (declaration_of k t (row_of e).key) in (
          and_from (is_plain_text wire.suffix) (is_plain_text c.body.encoding && true) (wire_plain k t (declaration_of k t (row_of e).key) all (spoken t its))
              (and_from (is_plain_text c.body.encoding) true (subst PlainContent is plain) refl),
          tt,
        )

-- the aggregate of a text, if it has one, is spelled and includes the text
found_spelled : (keys : List a_key) (text : List ℕ) → AllByRecursion (λ key. IsUtf8 key.text) keys
    → IfSome (aggregate_of keys text) (λ key. IsUtf8 key.text × (includes key.text text ≡ true))
found_spelled [] text all = tt
found_spelled (key ∷ keys) text all = go (includes key.text text) refl (found_spelled keys text all.1)
  where
    go : (b : Bool) → includes key.text text ≡ b → IfSome (aggregate_of keys text) (λ key. IsUtf8 key.text × (includes key.text text ≡ true))
        → IfSome (if b then Some key else aggregate_of keys text) (λ key. IsUtf8 key.text × (includes key.text text ≡ true))
    go true is rest = (all.0, is)
    go false is rest = rest

-- the form of a plain key in the declaration of its group is plain: an aggregate that includes it is plain too
group_plain : (keys : List a_key) (text : List ℕ) (own : WireExpr) → AllByRecursion (λ key. IsUtf8 key.text) keys → IsText text → is_plain_text own.suffix ≡ true
    → is_plain_text (group_wire keys text own).suffix ≡ true
group_plain keys text own all named plain = go (aggregate_of keys text) (found_spelled keys text all)
  where
    go : (o : Option a_key) → IfSome o (λ key. IsUtf8 key.text × (includes key.text text ≡ true))
        → is_plain_text (unwrap_or (option_map (λ key. full_wire key.text) o) own).suffix ≡ true
    go None found = plain
    go (Some key) found = subst (λ (t : List ℕ). is_plain t ≡ true) (sym (encodes-chars key.text found.0)) (included_plain key.text text found.1 named.0)

-- the aggregates of every kind are spelled by characters
abbrev pub AreSpelledGroups : (GroupKind → Company) → Type 0
AreSpelledGroups company = (kind : GroupKind) → AllByRecursion (λ key. IsUtf8 key.text) (company kind).aggregates

-- what an event announces has no text but its key's, and what it retracts none
announced_texts : (what : Announced) (id : ℕ) (wire : WireExpr) → message_texts (announcement what id wire) ≡ wire.suffix ∷ []
announced_texts ASubscriber id wire = refl
announced_texts what id wire = refl

retracted_quiet : (what : Retracted) (id : ℕ) → AreQuiet (Send (retraction what id) ∷ [])
retracted_quiet OfSubscriber id = (refl, tt)
retracted_quiet what id = (refl, tt)

spelled_for : (known : Known) (what : Announced) → AreSpelledGroups known.company → AllByRecursion (λ key. IsUtf8 key.text) (aggregates_for known what)
spelled_for known ASubscriber shared = shared Subscribers
spelled_for known APublisher shared = shared Publishers
spelled_for known what shared = tt

entity_sent : (known : Known) (e : Event) (number : Option ℕ) (text : Option (List ℕ)) → AreTexts known.keys → AreSpelledGroups known.company → IfSome text IsText
    → AreQuiet (entity_sends known e number text)
entity_sent known e number text all shared named = entity_cases AreQuiet tt known e number text begun (λ what id is. retracted_quiet what id)
  where
    begun : (what : Announced) (id : ℕ) (t : List ℕ) (key : KeyArg) → announced e ≡ Some what → text ≡ Some t → AreQuiet (Send (announcement what id (announced_wire known what t key)) ∷ [])
    begun what id t key is its =
        let plain = subst (λ (o : Option (List ℕ)). IfSome o IsText) its named in
        let wire = announced_wire known what t key in (
          ap (list_all is_plain_text) (announced_texts what id wire)
              ∙ and_from (is_plain_text wire.suffix) true
              (group_plain (aggregates_for known what) t (key_wire known.keys t key) (spelled_for known what shared) plain (wire_plain known.keys t (declared_by known.keys t key) all plain)) refl,
          tt,
        )

-- all that an event sends
abbrev pub sent_by : Known → Option ℕ → Option (List ℕ) → Event → List Effect
sent_by known number text e = sends_of known.keys known.pubs number text e ++ entity_sends known e number text

pub all_sent : (known : Known) (number : Option ℕ) (text : Option (List ℕ)) (e : Event) → AreTexts known.keys → AreSpelledGroups known.company → IfSome text IsText
    → PlainContent (resolved known.pubs (row_of e).publishes) → AreQuiet (sent_by known number text e)
all_sent known number text e all shared named plain =
    all_append IsQuiet (sends_of known.keys known.pubs number text e) (entity_sends known e number text)
    (event_sent known.keys known.pubs number text e all named plain) (entity_sent known e number text all shared named)
