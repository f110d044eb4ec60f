-- What an open session accepts of the network's keys: whatever it can read as a canonical text.
use Rattle.std.proofs.Common.{◌≡◌, ℕ, List, Bool, true, false, Option, Some, None, refl, sym, subst}
use Rattle.std.specs.Prelude.{◌==◌}
use Rattle.zs_keys.specs.Text.{is_canonical}
use Rattle.zs_wire.specs.declared.message.Message.TheVariants.{DeclareKeyExpr, Push as push_message}
use Rattle.zs_wire.specs.declared.push.Push.{Push}
use Rattle.zs_wire.specs.declared.wire_expr.WireExpr.{WireExpr}
use Rattle.zs_events.specs.declared.event.Event.TheVariants.{Net}
use Rattle.zs_events.specs.Kinds.{Row, row_of}
use Rattle.zs_core.specs.Types.{Settings}
use Rattle.zs_events.specs.declared.turn.Refusal.{Refusal}
use Rattle.zs_core.specs.Entry.{Entry, is_closed}
use Rattle.zs_core.specs.HeldKeys.{wire_text}
use Rattle.zs_core.specs.Seen.{Sight}
use Rattle.zs_core.specs.Causes.{holds, in_order, first_that, refusal_of}

-- what is looked up of a message that names a key and nothing else
abbrev pub sight_of : Option (List ℕ) → Sight
sight_of text = record {
  text = text;
  lives = true;
  claimed = true;
  owed = true;
  drawn = true;
  cancelled = false;
  disjoint = false;
  lacks = false;
  idle = false;
  spared = false;
}

-- the first cause of a row behind what is looked up
abbrev pub first_cause : Bool → Row → Option (List ℕ) → Option Refusal
first_cause closed row text = first_that (holds closed row (sight_of text)) in_order

abbrev pub push_row : Push → Row
push_row push = row_of (Net (push_message push))

abbrev pub key_row : ℕ → WireExpr → Row
key_row number wire = row_of (Net (DeclareKeyExpr number wire))

pub push_causes : (push : Push) (c : Bool) (o : Option (List ℕ)) (text : List ℕ) → c ≡ false → o ≡ Some text → is_canonical text ≡ true → first_cause c (push_row push) o ≡ None
push_causes push c o text unshut named canonical =
    subst (λ (b : Bool). first_cause b (push_row push) o ≡ None) (sym unshut)
    (subst (λ (x : Option (List ℕ)). first_cause false (push_row push) x ≡ None) (sym named) (rw canonical refl))

pub push_accepted : (s : Settings) (past : List Entry) (push : Push) (text : List ℕ) → is_closed past ≡ false → wire_text past push.wire ≡ Some text → is_canonical text ≡ true
    → refusal_of s past (Net (push_message push)) ≡ None
push_accepted s past push text unshut named canonical = push_causes push (is_closed past) (wire_text past push.wire) text unshut named canonical

pub key_causes : (number : ℕ) (wire : WireExpr) (c z : Bool) (o : Option (List ℕ)) (text : List ℕ) → c ≡ false → z ≡ false → o ≡ Some text → is_canonical text ≡ true
    → first_cause c (record (key_row number wire) { tells_zero = z }) o ≡ None
key_causes number wire c z o text unshut other named canonical =
    subst (λ (b : Bool). first_cause b (record (key_row number wire) { tells_zero = z }) o ≡ None) (sym unshut)
    (subst (λ (b : Bool). first_cause false (record (key_row number wire) { tells_zero = b }) o ≡ None) (sym other)
    (subst (λ (x : Option (List ℕ)). first_cause false (record (key_row number wire) { tells_zero = false }) x ≡ None) (sym named) (rw canonical refl)))

pub key_accepted : (s : Settings) (past : List Entry) (number : ℕ) (wire : WireExpr) (text : List ℕ) → is_closed past ≡ false → (number == 0) ≡ false
    → wire_text past wire ≡ Some text → is_canonical text ≡ true → refusal_of s past (Net (DeclareKeyExpr number wire)) ≡ None
key_accepted s past number wire text unshut other named canonical =
    key_causes number wire (is_closed past) (number == 0) (wire_text past wire) text unshut other named canonical
