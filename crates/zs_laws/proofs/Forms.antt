-- What spelled events send is spelled.
use Rattle.std.proofs.Common.{◌≡◌, ◌≤◌, ℕ, ◌++◌, List, [], ◌∷◌, Bool, true, false, Option, Some, None, refl, sym, ◌∙◌, ap, subst, arith, length, take, drop}
use Rattle.std.specs.Prelude.{◌==◌, ◌&&◌, not, option_map, unwrap_or, if◌then◌else◌}
use Rattle.std.specs.List.{AllByRecursion, starts_with}
use Rattle.std.specs.Option.{IfSome}
use Rattle.std.specs.Str.{IsUtf8}
use Rattle.std.proofs.lemmas.Bool.{eqb-true}
use Rattle.std.proofs.lemmas.List.{length-append}
use Rattle.std.proofs.lemmas.Str.{scalars-chars, IsUtf8-drop, IsCharBoundary-from_take}
use Rattle.std.proofs.Math.Seq.{take-append_seam}
use Rattle.zs_keys.specs.Key.{Key as a_key}
use Rattle.zs_keys.specs.Matching.{includes}
use Rattle.zs_keys.specs.declared.declaration.Declared.{Declared}
use Rattle.zs_wire.specs.declared.wire_expr.WireExpr.{WireExpr}
use Rattle.zs_tables.specs.Types.{GroupKind, Subscribers, Publishers, Queriers}
use Rattle.zs_events.specs.declared.event.Event.{Event}
use Rattle.zs_events.specs.Kinds.{row_of}
use Rattle.zs_model.specs.declared.settings.Settings.{Settings}
use Rattle.zs_model.specs.Entry.{Entry}
use Rattle.zs_model.specs.HeldKeys.{named_text}
use Rattle.zs_model.specs.Past.{past_of, entry_of}
use Rattle.zs_model.specs.Values.{values_now}
use Rattle.zs_model.specs.Groups.{aggregate_of, aggregates_of, declaration_by}
use Rattle.zs_model.specs.Sends.{OwnKeys, has_front, goes_by_number, full_wire, number_wire, wire_form, group_wire, declaration_of}
use Rattle.zs_model.specs.Effects.{known_of}
use Rattle.zs_model.specs.Received.{wire_in, AreSpelled, AreUtf8}
use Rattle.zs_laws.proofs.Reading.{front_and_rest, found_one}
use Rattle.zs_laws.specs.Spelled.{AllSpelled, IsSent, SentKeysAreSpelled}
use Rattle.zs_laws.proofs.Sent.{Sending, told_all, by_accepting}
use Rattle.zs_laws.proofs.Tested.{AreKeyed, found_of, values_of}
use Rattle.zs_laws.proofs.Texts.{past_utf8, event_utf8, held_utf8}

-- a key in full is spelled
full_sent : (text : List ℕ) → IsUtf8 text → IsSent (full_wire text)
full_sent text utf8 = record { own = refl; spelled = scalars-chars text utf8 }

-- so is the rest of one that goes by its number
number_sent : (k : OwnKeys) (text : List ℕ) (d : Declared) → ((n : ℕ) → IfSome (k.text_of n) IsUtf8) → IsUtf8 text → goes_by_number k text d ≡ true → IsSent (number_wire text d)
number_sent k text d fronts utf8 goes = by (d.tag == k.tag) (d.number == 0) (k.text_of d.number) (fronts d.number) goes
  where
    held : (front : List ℕ) → IsUtf8 front → length front ≡ d.prefix_len → starts_with (λ a b. a == b) text front ≡ true → IsSent (number_wire text d)
    held front whole long starts =
        let split : text ≡ front ++ drop (length front) text = front_and_rest text front starts in
        let within : length front ≤ length text = omega (arith, ap length split, length-append front (drop (length front) text)) in
        let begins : take (length front) text ≡ front = ap (take (length front)) split ∙ take-append_seam front (drop (length front) text) in
        let back : IsUtf8 (drop (length front) text) = IsUtf8-drop text (length front) utf8 (IsCharBoundary-from_take text (length front) utf8 within (subst IsUtf8 (sym begins) whole)) in
        record { own = refl; spelled = scalars-chars (drop d.prefix_len text) (subst (λ (i : ℕ). IsUtf8 (drop i text)) long back) }

    by_front : (front : List ℕ) → IsUtf8 front → (l s : Bool) → (length front == d.prefix_len) ≡ l → starts_with (λ a b. a == b) text front ≡ s → (l && s) ≡ true → IsSent (number_wire text d)
    by_front front whole true true long starts both = held front whole (eqb-true (length front) d.prefix_len long) starts
    by_front front whole true false long starts both = cc
    by_front front whole false s long starts both = cc

    by : (t n : Bool) (o : Option (List ℕ)) → IfSome o IsUtf8 → (t && not n && has_front text d.prefix_len o) ≡ true → IsSent (number_wire text d)
    by true false (Some front) whole goes = by_front front whole (length front == d.prefix_len) (starts_with (λ a b. a == b) text front) refl refl goes
    by true false None whole goes = cc
    by true true o whole goes = cc
    by false n o whole goes = cc

form_sent : (k : OwnKeys) (text : List ℕ) (d : Option Declared) → ((n : ℕ) → IfSome (k.text_of n) IsUtf8) → IsUtf8 text → IsSent (wire_form k text d)
form_sent k text None fronts utf8 = full_sent text utf8
form_sent k text (Some d) fronts utf8 = go (goes_by_number k text d) refl
  where
    go : (b : Bool) → goes_by_number k text d ≡ b → IsSent (if b then number_wire text d else full_wire text)
    go true goes = number_sent k text d fronts utf8 goes
    go false goes = full_sent text utf8

-- and the form in the declaration of a group
group_sent : (aggregates : List a_key) (text : List ℕ) (own : WireExpr) → AllByRecursion (λ a. IsUtf8 a.text) aggregates → IsSent own → IsSent (group_wire aggregates text own)
group_sent aggregates text own whole sent = go (aggregate_of aggregates text) refl
  where
    go : (o : Option a_key) → aggregate_of aggregates text ≡ o → IsSent (unwrap_or (option_map (λ (a : a_key). full_wire a.text) o) own)
    go None found = sent
    go (Some a) found = full_sent a.text (found_one (λ (k : a_key). IsUtf8 k.text) (λ a. includes a.text text) aggregates a whole found)

aggregates_whole : (s : Settings) (kind : GroupKind) → AreSpelled s → AllByRecursion (λ a. IsUtf8 a.text) (aggregates_of kind s)
aggregates_whole s Subscribers whole = whole.0
aggregates_whole s Publishers whole = whole.1
aggregates_whole s Queriers whole = tt

grouped_sent : (kind : GroupKind) (id : ℕ) (wire : WireExpr) → IsSent wire → IfSome (wire_in (declaration_by kind id wire)) IsSent
grouped_sent Subscribers id wire sent = sent
grouped_sent Publishers id wire sent = sent
grouped_sent Queriers id wire sent = sent

all_keyed : (past : List Entry) → AreUtf8 past → AreKeyed IsUtf8 past
all_keyed [] utf8 = tt
all_keyed (x ∷ past) utf8 = (λ own. utf8.0, all_keyed past utf8.1)

sent_by : (s : Settings) (h : List Event) (e : Event) → AreSpelled s → AllSpelled (e ∷ h)
    → Sending (known_of s (past_of s h)) e (named_text (past_of s h) e) (λ m. IfSome (wire_in m) IsSent)
sent_by s h e aggregates all =
    let past = past_of s h in
    let utf8 : AreUtf8 past = past_utf8 s h all.1 in
    let own : (t : List ℕ) → named_text past e ≡ Some t → IsUtf8 t = λ t is. subst (λ (o : Option (List ℕ)). IfSome o IsUtf8) is (event_utf8 s h e all) in
    let form : (t : List ℕ) (d : Option Declared) → named_text past e ≡ Some t → IsSent (wire_form (known_of s past).keys t d) =
    λ t d is. form_sent (known_of s past).keys t d (λ n. held_utf8 n past utf8) (own t is) in
    record {
      bare = λ m none bare. subst (λ (o : Option WireExpr). IfSome o IsSent) (sym bare) tt;
      formed = λ t d m names is none has. subst (λ (o : Option WireExpr). IfSome o IsSent) (sym has) (form t d is);
      grouped = λ kind id t d names is. grouped_sent kind id _ (group_sent (aggregates_of kind s) t _ (aggregates_whole s kind aggregates) (form t d is));
      pushed = λ t c names is published sent. form t (declaration_of (known_of s past).keys t (row_of e).key) is;
      erring = λ value error v does found. full_sent v.row.key.text (found_of IsUtf8 value v (values_now past) (values_of IsUtf8 s h (all_keyed past utf8)) found);
    }

pub sent_keys_are_spelled : SentKeysAreSpelled
sent_keys_are_spelled s h e aggregates all =
    by_accepting (AllByRecursion (λ m. IfSome (wire_in m) IsSent)) s h e tt
    (λ shut accepted.
    told_all (λ m. IfSome (wire_in m) IsSent) (known_of s (past_of s h)) (entry_of s (past_of s h) e).number (named_text (past_of s h) e) e (sent_by s h e aggregates all))
