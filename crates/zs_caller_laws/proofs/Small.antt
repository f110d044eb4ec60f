-- Numbers of keys stand below the last.
use Rattle.std.proofs.Common.{◌≡◌, ◌<◌, ℕ, List, [], ◌∷◌, Bool, true, false, Option, Some, None, refl, sym, ◌∙◌, ap, subst, arith, length}
use Rattle.std.specs.Prelude.{◌&&◌, ◌||◌, not, is_some, unwrap_or, nat_le, if◌then◌else◌}
use Rattle.std.specs.List.{AllByRecursion}
use Rattle.std.proofs.lemmas.Bool.Decides.{nat_tests}
use Rattle.zs_keys.proofs.Bools.{or_none_right}
use Rattle.zs_keys.specs.Key.{Key as a_key}
use Rattle.zs_events.specs.declared.event.Event.{Event}
use Rattle.zs_events.specs.declared.event.Event.TheVariants.{Key, UndeclareKey}
use Rattle.zs_events.specs.declared.key_arg.KeyArg.{KeyArg}
use Rattle.zs_events.specs.declared.turn.Answer.TheVariants.{Ok as accepted}
use Rattle.zs_events.specs.declared.turn.Refusal.{Refusal}
use Rattle.zs_events.specs.declared.turn.Turn.{Turn}
use Rattle.zs_events.specs.Turn.{answered}
use Rattle.zs_events.specs.Kinds.{KeyNumber, row_of}
use Rattle.zs_model.specs.declared.settings.Settings.{Settings}
use Rattle.zs_model.specs.Settings.{last_key}
use Rattle.zs_model.specs.Entry.{Entry, is_closed}
use Rattle.zs_model.specs.HeldKeys.{named_text, held_text, stands_for, answers_under, number_among, held_number, key_text}
use Rattle.zs_model.specs.Live.{live_queryables, to_gets_of}
use Rattle.zs_model.specs.Values.{met_by, lacks_values}
use Rattle.zs_model.specs.Counters.{is_spent, next_key, next_value, lacks_number, drawn_number}
use Rattle.zs_model.specs.Causes.{has_cause, in_order, first_that, refusal_of}
use Rattle.zs_model.specs.Past.{entry_of, with_entry, past_of}
use Rattle.zs_model.specs.Effects.{effects_behind}
use Rattle.zs_session_cell.specs.Core.{turn_at}
use Rattle.zs_cell.specs.Keys.{declaration_of}
use Rattle.zs_caller_laws.specs.Numbers.{KeyNumbersAreSmall, KeysComeBackDeclared}

-- where an event declares a key, its number stands below the last
abbrev IsSmall : Event → Option ℕ → Type 0
IsSmall (Key key) (Some n) = n < last_key
IsSmall e number = Unit {0}

abbrev AreSmall : List Entry → Type 0
AreSmall past = AllByRecursion (λ x. IsSmall x.event x.number) past

among_small : (text : List ℕ) (past more : List Entry) (n : ℕ) → AreSmall more → number_among text past more ≡ Some n → n < last_key
among_small text past [] n small found = cc
among_small text past (x ∷ more) n small found = go x.event x.number small.0 found (among_small text past more n small.1)
  where
    by_key : (m : ℕ) (b : Bool) → m < last_key → (if b then Some m else number_among text past more) ≡ Some n
        → (number_among text past more ≡ Some n → n < last_key) → n < last_key
    by_key m true below found ih = let same : m ≡ n = cc in subst (λ (i : ℕ). i < last_key) same below
    by_key m false below found ih = ih found

    go : (e : Event) (number : Option ℕ) → IsSmall e number → (if answers_under text past e number then number else number_among text past more) ≡ Some n
        → (number_among text past more ≡ Some n → n < last_key) → n < last_key
    go (Key key) (Some m) below found ih = by_key m (stands_for text (held_text m past)) below found ih
    go (Key key) None below found ih = ih found
    go (UndeclareKey key) number below found ih = ih found
    go e number below found ih = ih found

unspent : (next : ℕ) → is_spent last_key next ≡ false → next < last_key
unspent next left = grind (arith, nat_tests, left)

-- a number that is drawn for a key is one that was drawn before, or the next one, which is left
drawn_small : (s : Settings) (past : List Entry) (text : Option (List ℕ)) (n : ℕ) → AreSmall past → lacks_number s past KeyNumber text ≡ false
    → drawn_number s past KeyNumber text ≡ Some n → n < last_key
drawn_small s past None n small left drawn = cc
drawn_small s past (Some text) n small left drawn = go (held_number text past) refl left drawn
  where
    go : (o : Option ℕ) → held_number text past ≡ o → (not (is_some o) && is_spent last_key (next_key s past)) ≡ false
        → Some (unwrap_or o (next_key s past)) ≡ Some n → n < last_key
    go (Some m) found left drawn = let same : m ≡ n = cc in subst (λ (i : ℕ). i < last_key) same (among_small text past past m small found)
    go None found left drawn = let same : next_key s past ≡ n = cc in subst (λ (i : ℕ). i < last_key) same (unspent (next_key s past) left)

none_holds : (test : Refusal → Bool) (rs : List Refusal) → first_that test rs ≡ None → AllByRecursion (λ r. test r ≡ false) rs
none_holds test [] none = tt
none_holds test (r ∷ rs) none = go (test r) refl none (none_holds test rs)
  where
    go : (b : Bool) → test r ≡ b → (if b then Some r else first_that test rs) ≡ None → (first_that test rs ≡ None → AllByRecursion (λ r. test r ≡ false) rs)
        → AllByRecursion (λ r. test r ≡ false) (r ∷ rs)
    go true is none ih = cc
    go false is none ih = (is, ih none)

if_open : (closed lacks : Bool) → closed ≡ false → (not closed && lacks) ≡ false → lacks ≡ false
if_open true lacks unshut none = cc
if_open false lacks unshut none = none

-- an accepted event has a number left
number_left : (s : Settings) (past : List Entry) (e : Event) → is_closed past ≡ false → refusal_of s past e ≡ None → lacks_number s past (row_of e).draws (named_text past e) ≡ false
number_left s past e unshut taken =
    or_none_right (lacks_values (next_value past) (met_by (live_queryables past) (to_gets_of past e) (row_of e).to_values (named_text past e)))
    (lacks_number s past (row_of e).draws (named_text past e))
    (if_open (is_closed past)
    (lacks_values (next_value past) (met_by (live_queryables past) (to_gets_of past e) (row_of e).to_values (named_text past e))
    || lacks_number s past (row_of e).draws (named_text past e))
    unshut (none_holds (has_cause s past e) in_order taken).1.1.1.1.1.1.1.0)

key_small : (s : Settings) (past : List Entry) (key : KeyArg) (n : ℕ) → AreSmall past → is_closed past ≡ false → refusal_of s past (Key key) ≡ None
    → drawn_number s past KeyNumber (key_text past key) ≡ Some n → n < last_key
key_small s past key n small unshut taken = drawn_small s past (key_text past key) n small (number_left s past (Key key) unshut taken)

entry_small : (s : Settings) (past : List Entry) (e : Event) → AreSmall past → is_closed past ≡ false → refusal_of s past e ≡ None
    → IsSmall e (drawn_number s past (row_of e).draws (named_text past e))
entry_small s past (Key key) small unshut taken = go (drawn_number s past KeyNumber (key_text past key)) (λ n. key_small s past key n small unshut taken)
  where
    go : (o : Option ℕ) → ((n : ℕ) → o ≡ Some n → n < last_key) → IsSmall (Key key) o
    go (Some n) below = below n refl
    go None below = tt
entry_small s past (UndeclareKey key) small unshut taken = tt
entry_small s past e small unshut taken = tt

past_small : (s : Settings) (h : List Event) → AreSmall (past_of s h)
past_small s [] = tt
past_small s (e ∷ h) = go (refusal_of s (past_of s h) e) refl (is_closed (past_of s h)) refl (past_small s h)
  where
    go : (o : Option Refusal) → refusal_of s (past_of s h) e ≡ o → (b : Bool) → is_closed (past_of s h) ≡ b → AreSmall (past_of s h)
        → AreSmall (with_entry o b (entry_of s (past_of s h) e) (past_of s h))
    go (Some refusal) why b unshut small = small
    go None why true unshut small = small
    go None why false unshut small = (entry_small s (past_of s h) e small unshut why, small)

pub key_numbers_are_small : KeyNumbersAreSmall
key_numbers_are_small s h key n = go (is_closed (past_of s h)) refl (refusal_of s (past_of s h) (Key key)) refl
  where
    go : (b : Bool) → is_closed (past_of s h) ≡ b → (o : Option Refusal) → refusal_of s (past_of s h) (Key key) ≡ o
        → (if b then answered o None [] else answered o (entry_of s (past_of s h) (Key key)).number (effects_behind s (past_of s h) (Key key))).answer ≡ accepted (Some n)
        → n < last_key
    go true unshut (Some refusal) why is = cc
    go true unshut None why is = cc
    go false unshut (Some refusal) why is = cc
    go false unshut None why is = key_small s (past_of s h) key n (past_small s h) unshut why (number_is (drawn_number s (past_of s h) KeyNumber (key_text (past_of s h) key)) is)
      where
        number_is : (o : Option ℕ) → accepted o ≡ accepted (Some n) → o ≡ Some n
        number_is o is = cc

below_last : (n : ℕ) → n < last_key → nat_le n 65535 ≡ true
below_last n less = grind (arith, nat_tests, less)

turn_small : KeyNumbersAreSmall → (s : Settings) (h : List Event) (key : KeyArg) (n : ℕ) (turn : Turn) → turn ≡ turn_at s h (Key key) → turn.answer ≡ accepted (Some n) → n < last_key
unfolding turn_at
turn_small law s h key n turn is answer = law s h key n (ap (λ (t : Turn). t.answer) (sym is) ∙ answer)

with_number : (tag n : ℕ) (text : List ℕ) → nat_le n 65535 ≡ true → declaration_of tag text n ≡ Some (record { number = n; prefix_len = length text; tag = tag })
with_number tag n text small = ap (λ (b : Bool). if b then Some (record { number = n; prefix_len = length text; tag = tag }) else None) small

pub keys_come_back_declared : KeyNumbersAreSmall → KeysComeBackDeclared
keys_come_back_declared law s evicts old new tag key made declares =
    let takes = declares.accepts.takes in
    let took = takes.took in
    let small = turn_small law s took.before _ declares.number takes.turn took.turn_is takes.answer_is in
    ap (λ (k : a_key). k.declaration) declares.made_is ∙ with_number tag declares.number key.text (below_last declares.number small)
