-- What declarations of keys and entities say, told by their changes.
use Rattle.std.proofs.Common.{◌≡◌, ℕ, List, Bool, true, false, Option, Some, None, refl, sym, ◌∙◌, ap}
use Rattle.std.specs.Prelude.{◌==◌, ◌&&◌, ◌||◌, not, is_some, unwrap_or, encode_utf8_all, if◌then◌else◌}
use Rattle.zs_keys.specs.Key.{Key as a_key}
use Rattle.zs_wire.specs.declared.wire_expr.WireExpr.{WireExpr}
use Rattle.zs_subscriptions.specs.Numbers.{key_at, number_at}
use Rattle.zs_events.specs.declared.event.Event.{Event}
use Rattle.zs_events.specs.declared.event.Event.TheVariants.{Key, UndeclareKey, Net}
use Rattle.zs_events.specs.declared.key_arg.KeyArg.{KeyArg}
use Rattle.zs_events.specs.declared.key_arg.KeyArg.TheVariants.{Number, Declared}
use Rattle.zs_wire.specs.declared.message.Message.TheVariants.{DeclareKeyExpr}
use Rattle.zs_world.specs.declared.change.Change.TheVariants.{OfKeys, OfEntities}
use Rattle.zs_world.specs.declared.change.EntityRow.{EntityRow}
use Rattle.zs_world.specs.declared.change.EntityChange.TheVariants.{Add as AddEntity}
use Rattle.zs_world.specs.declared.change.KeyChange.TheVariants.{Hold, Release}
use Rattle.zs_world.specs.World.{World}
use Rattle.zs_events.specs.Kinds.{Application, OwnKey, EntityNumber, KeyNumber, said_by as said_row, is_all_of, row_of}
use Rattle.zs_model.specs.Seen.{Sight, is_not_found}
use Rattle.zs_model.specs.Settings.{last_entity, last_key}
use Rattle.zs_model.specs.Counters.{is_spent}
use Rattle.zs_world.specs.Keys.{is_key_of, has_claim, text_with_suffix}
use Rattle.zs_world.specs.EntityChanges.{row_number}
use Rattle.zs_world.specs.Changes.{key_change, key_change_by, added, tell_change}
use Rattle.zs_world.specs.Decisions.{has_run_out, number_of, to_gets_at}
use Rattle.zs_model.proofs.Gets.{IsAskedUnder}
use Rattle.zs_standing.proofs.Numbers.{number_at-known}
use Rattle.zs_standing.proofs.Saying.{IsMade, HasPassed}
use Rattle.zs_standing.proofs.Said.{said_of, said_by, all_said}

pub key_made : (w : World) (key : KeyArg) (text : Option (List ℕ)) → w.closed ≡ false
    → HasPassed (row_of (Key key)) (record { text = text; lives = true; claimed = true; owed = true; drawn = true; cancelled = false; disjoint = false; lacks = has_run_out w KeyNumber text; idle = false; spared = false })
    → IsMade w (record { number = number_of w KeyNumber text; text = text; event = Key key }) (key_change w text)
key_made w key None o p = cc (p.found)
key_made w key (Some text) o p = go (number_at text w.keys.local_resources) refl
  where
    go : (k : Option ℕ) → number_at text w.keys.local_resources ≡ k
        → IsMade w (record { number = Some (unwrap_or k w.counters.key); text = Some text; event = Key key }) (key_change_by w text k)
    go (Some number) e = all_said o (number_at-known text w.keys.local_resources number e) tt tt tt (λ i. record (said_by w (OfKeys (Hold number))) { draws_key = not (is_some (e i)) })
    go None e =
        all_said o (refl, sym (ap (λ (k : Option ℕ). not (is_some k) && is_spent last_key w.counters.key) e) ∙ p.left, e) refl tt tt
        (λ i. record (said_by w (key_change_by w text None)) { draws_key = not (is_some (e i)) })

pub back_made : (w : World) (number : ℕ) (suffix : List ℕ) (text : Option (List ℕ)) (o : Option a_key) → key_at number w.keys.local_resources ≡ o → w.closed ≡ false
    → HasPassed (row_of (UndeclareKey (Number number suffix))) (record { text = text_with_suffix suffix o; lives = true; claimed = true; owed = true; drawn = true; cancelled = false; disjoint = false; lacks = false; idle = false; spared = false })
    → IsMade w (record { number = None; text = text; event = UndeclareKey (Number number suffix) }) (OfKeys (Release number))
back_made w number suffix text None e o p = cc (p.found)
back_made w number suffix text (Some key) e o p = all_said o (ap is_some e) tt tt tt refl

pub declared_back_made : (w : World) (text : List ℕ) (number prefix_len : ℕ) (whole : Bool) → is_all_of text prefix_len ≡ whole → (key : Option a_key)
    → key_at number w.keys.local_resources ≡ key → w.closed ≡ false
    → HasPassed (record (row_of (UndeclareKey (Declared text number prefix_len))) { gives_part = not whole; claims = if whole then Some number else None })
    (record { text = Some (encode_utf8_all text); lives = true; claimed = has_claim w (if whole then Some number else None) (Some (encode_utf8_all text)); owed = true; drawn = true; cancelled = false; disjoint = false; lacks = false; idle = false; spared = false })
    → IsMade w (record { number = None; text = Some (encode_utf8_all text); event = UndeclareKey (Declared text number prefix_len) }) (OfKeys (Release number))
declared_back_made w text number prefix_len false is key e o p = cc (p.whole)
declared_back_made w text number prefix_len true is None e o p =
    let unclaimed : not (is_key_of (encode_utf8_all text) (key_at number w.keys.local_resources)) ≡ false = p.found in
    let no : true ≡ false = ap (λ (k : Option a_key). not (is_key_of (encode_utf8_all text) k)) (sym e) ∙ unclaimed in cc
declared_back_made w text number prefix_len true is (Some key) e o p = all_said o (ap is_some e) tt tt tt refl

-- what is looked up for an event that names nothing but a key of its own, and draws a number of entities
abbrev pub on_key : World → Option (List ℕ) → Sight
on_key w text = record { text = text; lives = true; claimed = true; owed = true; drawn = true; cancelled = false; disjoint = false; lacks = has_run_out w EntityNumber text; idle = false; spared = false }

-- an entity that is declared on a key: its event is accepted where that has a text, and is one with its change where both say the same on each
pub entity_made : (w : World) (e : Event) (key : KeyArg) (row : List ℕ → EntityRow) (text : Option (List ℕ)) → w.closed ≡ false
    → is_not_found (record (said_row Application) { key = OwnKey key }) (on_key w text) ≡ false → is_spent last_entity w.counters.entity ≡ false
    → IsAskedUnder (to_gets_at w e) (Some w.counters.entity) w.asking.next
    → ((t : List ℕ) → row_number (row t) ≡ w.counters.entity)
    → ((t : List ℕ) → said_of w (record { number = Some w.counters.entity; text = Some t; event = e }) ≡ said_by w (OfEntities (AddEntity (row t))))
    → IsMade w (record { number = Some w.counters.entity; text = text; event = e }) (added row text)
entity_made w e key row None o found left under number same = cc (found)
entity_made w e key row (Some text) o found left under number same =
    all_said {w = w} {x = record { number = Some w.counters.entity; text = Some text; event = e }} {c = OfEntities (AddEntity (row text))} o (number text, left) tt (ap (λ (n : ℕ). Some n) (sym (number text))) under (same text)

pub tell_made : (w : World) (number : ℕ) (wire : WireExpr) (text : Option (List ℕ)) → w.closed ≡ false
    → HasPassed (row_of (Net (DeclareKeyExpr number wire))) (record { text = text; lives = true; claimed = true; owed = true; drawn = true; cancelled = false; disjoint = false; lacks = false; idle = false; spared = false })
    → IsMade w (record { number = None; text = text; event = Net (DeclareKeyExpr number wire) }) (tell_change number text)
tell_made w number wire None o p = let no : ((number == 0) || true) ≡ false = p.known in absurd (always (number == 0) no)
  where
    always : (b : Bool) → (b || true) ≡ false → ⊥
    always true h = cc
    always false h = cc
tell_made w number wire (Some text) o p = all_said o tt refl tt tt refl
