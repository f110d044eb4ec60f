-- The texts that keys stand for, and the numbers of held texts, are what the events tell.
use Rattle.std.proofs.Common.{◌≡◌, ◌<◌, ◌+◌, ℕ, List, [], ◌∷◌, ◌++◌, Bool, true, false, Option, Some, None, refl, sym, ◌∙◌, ap, arith}
use Rattle.std.specs.Prelude.{◌==◌, ◌&&◌, not, is_some, option_map, if◌then◌else◌, encode_utf8_all, nat_lt}
use Rattle.std.proofs.lemmas.Bool.{eqb-true}
use Rattle.std.proofs.lemmas.Bool.Decides.{nat_tests}
use Rattle.std.proofs.lemmas.Slice.Eq.{bytes_eq-Decides}
use Rattle.zs_keys.specs.Key.{Key as a_key}
use Rattle.zs_wire.specs.declared.wire_expr.Mapping.{Mapping}
use Rattle.zs_wire.specs.declared.wire_expr.Mapping.TheVariants.{Sender, Receiver}
use Rattle.zs_wire.specs.declared.wire_expr.WireExpr.{WireExpr}
use Rattle.zs_subscriptions.specs.Numbers.{key_at, number_at}
use Rattle.zs_events.specs.declared.event.Event.{Event}
use Rattle.zs_events.specs.declared.event.Event.TheVariants.{Key, UndeclareKey}
use Rattle.zs_events.specs.declared.key_arg.KeyArg.{KeyArg}
use Rattle.zs_events.specs.declared.key_arg.KeyArg.TheVariants.{Text, Number, Declared}
use Rattle.zs_world.specs.World.{World}
use Rattle.zs_events.specs.Kinds.{NamedKey, NoKey, OwnKey, PublisherKey, QuerierKey, WireKey}
use Rattle.zs_model.specs.Entry.{Entry, is_closed}
use Rattle.zs_model.specs.HeldKeys.{is_claimed, declares_number, times_declared, times_returned, drawn_text, held_text, stands_for, answers_under, number_among, held_number, key_text, mapped_text, wire_text, text_named}
use Rattle.zs_world.specs.Keys.{key_of, is_key_of, has_claim, text_with_suffix, numbers_for, wire_of, text_of}
use Rattle.zs_model.specs.declared.publisher.PubRow.{PubRow}
use Rattle.zs_model.specs.Publishers.{pub_at}
use Rattle.zs_model.specs.declared.querier.QuerierRow.{QuerierRow}
use Rattle.zs_model.specs.Queriers.{querier_at}
use Rattle.zs_standing.proofs.Live.{AreLive}
use Rattle.zs_standing.proofs.DeclaredKeys.{AreKnown, held_text_is}
use Rattle.zs_model.proofs.DistinctNumbers.{found_again, named_again}

-- a known key with a suffix
suffixed_is : (suffix : List ℕ) (key : Option a_key) (text : Option (List ℕ)) → option_map (λ (k : a_key). k.text) key ≡ text
    → text_with_suffix suffix key ≡ option_map (λ (t : List ℕ). t ++ encode_utf8_all suffix) text
suffixed_is suffix key text is = go key ∙ ap (option_map (λ (t : List ℕ). t ++ encode_utf8_all suffix)) is
  where
    go : (o : Option a_key) → text_with_suffix suffix o ≡ option_map (λ (t : List ℕ). t ++ encode_utf8_all suffix) (option_map (λ (k : a_key). k.text) o)
    go None = refl
    go (Some key) = refl

key_text_is : (w : World) (past : List Entry) (key : KeyArg) → AreKnown w past → key_of w key ≡ key_text past key
key_text_is w past (Text text) k = refl
key_text_is w past (Declared text n prefix_len) k = refl
key_text_is w past (Number n suffix) k = suffixed_is suffix (key_at n w.keys.local_resources) (held_text n past) (held_text_is w past n k)

pub mapped_is : (w : World) (past : List Entry) (mapping : Mapping) (n : ℕ) → AreKnown w past
    → option_map (λ (k : a_key). k.text) (key_at n (numbers_for mapping w)) ≡ mapped_text mapping n past
mapped_is w past Sender n k = k.told n
mapped_is w past Receiver n k = held_text_is w past n k

wire_text_is : (w : World) (past : List Entry) (wire : WireExpr) → AreKnown w past → wire_of w wire ≡ wire_text past wire
wire_text_is w past wire k = go (wire.scope == 0)
  where
    go : (b : Bool) → (if b then Some (encode_utf8_all wire.suffix) else text_with_suffix wire.suffix (key_at wire.scope (numbers_for wire.mapping w)))
        ≡ (if b then Some (encode_utf8_all wire.suffix) else option_map (λ (text : List ℕ). text ++ encode_utf8_all wire.suffix) (mapped_text wire.mapping wire.scope past))
    go true = refl
    go false = suffixed_is wire.suffix (key_at wire.scope (numbers_for wire.mapping w)) (mapped_text wire.mapping wire.scope past) (mapped_is w past wire.mapping wire.scope k)

-- the text of a named key
pub text_is : (w : World) (past : List Entry) (key : NamedKey) → AreLive w past → AreKnown w past → text_of w key ≡ text_named past key
text_is w past NoKey l k = refl
text_is w past (OwnKey key) l k = key_text_is w past key k
text_is w past (PublisherKey id) l k = ap (λ (rows : List PubRow). option_map (λ (row : PubRow). row.key.text) (pub_at id rows)) l.pubs.table
text_is w past (QuerierKey id) l k = ap (λ (rows : List QuerierRow). option_map (λ (row : QuerierRow). row.key.text) (querier_at id rows)) l.queriers.table
text_is w past (WireKey wire) l k = wire_text_is w past wire k

-- a number that stands for a text by the events is found for it in the table
pub found_at : (w : World) (past : List Entry) (text : List ℕ) (n : ℕ) → AreKnown w past → stands_for text (held_text n past) ≡ true → number_at text w.keys.local_resources ≡ Some n
found_at w past text n k stands = go (key_at n w.keys.local_resources) refl
  where
    go : (o : Option a_key) → key_at n w.keys.local_resources ≡ o → number_at text w.keys.local_resources ≡ Some n
    go None at =
        let none : None ≡ held_text n past = ap (option_map (λ (key : a_key). key.text)) (sym at) ∙ held_text_is w past n k in
        let no : false ≡ true = ap (stands_for text) none ∙ stands in cc
    go (Some key) at =
        let held : Some key.text ≡ held_text n past = ap (option_map (λ (key : a_key). key.text)) (sym at) ∙ held_text_is w past n k in
        let same : key.text ≡ text = (bytes_eq-Decides key.text text).0 (ap (stands_for text) held ∙ stands) in
        ap (λ (t : List ℕ). number_at t w.keys.local_resources) (sym same) ∙ found_again n w.keys.local_resources key k.once at

-- and one that is found stands for it
stands_at : (w : World) (past : List Entry) (text : List ℕ) (n : ℕ) → AreKnown w past → number_at text w.keys.local_resources ≡ Some n → stands_for text (held_text n past) ≡ true
stands_at w past text n k found =
    let known = named_again text w.keys.local_resources n k.once found in
    let held : Some known.0.text ≡ held_text n past = ap (option_map (λ (key : a_key). key.text)) (sym known.1) ∙ held_text_is w past n k in
    ap (stands_for text) (sym held) ∙ known.2

-- what is found in the past stands for the text
among_text : (text : List ℕ) (past more : List Entry) (n : ℕ) → number_among text past more ≡ Some n → stands_for text (held_text n past) ≡ true
among_text text past [] n found = cc
among_text text past (x ∷ more) n found = go x.event x.number found (among_text text past more n)
  where
    by_key : (m : ℕ) (b : Bool) → stands_for text (held_text m past) ≡ b → (if b then Some m else number_among text past more) ≡ Some n
        → (number_among text past more ≡ Some n → stands_for text (held_text n past) ≡ true) → stands_for text (held_text n past) ≡ true
    by_key m true stands found ih = let same : m ≡ n = cc in ap (λ (i : ℕ). stands_for text (held_text i past)) (sym same) ∙ stands
    by_key m false stands found ih = ih found

    go : (e : Event) (number : Option ℕ) → (if answers_under text past e number then number else number_among text past more) ≡ Some n
        → (number_among text past more ≡ Some n → stands_for text (held_text n past) ≡ true) → stands_for text (held_text n past) ≡ true
    go (Key key) (Some m) found ih = by_key m (stands_for text (held_text m past)) refl found ih
    go (Key key) None found ih = ih found
    go (UndeclareKey key) number found ih = ih found
    go e number found ih = ih found

-- a number that stands for the text and was given is found in the past, or another one is
among_some : (text : List ℕ) (past more : List Entry) (n : ℕ) → stands_for text (held_text n past) ≡ true → 0 < times_declared n more → is_some (number_among text past more) ≡ true
among_some text past [] n stands some = absurd (omega (arith, some))
among_some text past (x ∷ more) n stands some = go x.event x.number some (among_some text past more n stands)
  where
    by_key : (m : ℕ) (b : Bool) → stands_for text (held_text m past) ≡ b → 0 < (if m == n then times_declared n more + 1 else times_declared n more)
        → (0 < times_declared n more → is_some (number_among text past more) ≡ true) → is_some (if b then Some m else number_among text past more) ≡ true
    by_key m true is some ih = refl
    by_key m false is some ih = pick (m == n) refl some
      where
        pick : (t : Bool) → (m == n) ≡ t → 0 < (if t then times_declared n more + 1 else times_declared n more) → is_some (number_among text past more) ≡ true
        pick true e some =
            let no : false ≡ true = sym is ∙ ap (λ (i : ℕ). stands_for text (held_text i past)) (eqb-true m n e) ∙ stands in cc
        pick false e some = ih some

    go : (e : Event) (number : Option ℕ) → 0 < (if declares_number n e number then times_declared n more + 1 else times_declared n more)
        → (0 < times_declared n more → is_some (number_among text past more) ≡ true)
        → is_some (if answers_under text past e number then number else number_among text past more) ≡ true
    go (Key key) (Some m) some ih = by_key m (stands_for text (held_text m past)) refl some ih
    go (Key key) None some ih = ih some
    go (UndeclareKey key) number some ih = ih some
    go e number some ih = ih some

-- a number that stands for a text was given
stands_given : (text : List ℕ) (past : List Entry) (n : ℕ) → stands_for text (held_text n past) ≡ true → 0 < times_declared n past
stands_given text past n stands = go (is_closed past) (nat_lt (times_returned n past) (times_declared n past)) refl stands
  where
    go : (c l : Bool) → nat_lt (times_returned n past) (times_declared n past) ≡ l → stands_for text (if not c && l then drawn_text n past else None) ≡ true → 0 < times_declared n past
    go true l less stands = cc
    go false false less stands = cc
    go false true less stands = let more : times_returned n past < times_declared n past = grind (arith, nat_tests, less) in omega (arith, more)

-- the number of a text is the same by the table and by the events
pub number_is : (w : World) (past : List Entry) (text : List ℕ) → AreKnown w past → number_at text w.keys.local_resources ≡ held_number text past
number_is w past text k = go (number_at text w.keys.local_resources) refl (held_number text past) refl
  where
    go : (a : Option ℕ) → number_at text w.keys.local_resources ≡ a → (b : Option ℕ) → held_number text past ≡ b → a ≡ b
    go None at None held = refl
    go a at (Some n) held = sym at ∙ found_at w past text n k (among_text text past past n held)
    go (Some n) at None held =
        let stands : stands_for text (held_text n past) ≡ true = stands_at w past text n k at in
        let some : is_some (held_number text past) ≡ true = among_some text past past n stands (stands_given text past n stands) in
        let no : true ≡ false = sym some ∙ ap is_some held in cc

-- what is claimed of a number is so by the table where it is by the events
pub claim_is : (w : World) (past : List Entry) (claims : Option ℕ) (text : Option (List ℕ)) → AreKnown w past → has_claim w claims text ≡ is_claimed past claims text
claim_is w past None text k = refl
claim_is w past (Some n) None k = refl
claim_is w past (Some n) (Some text) k = go (key_at n w.keys.local_resources) ∙ ap (stands_for text) (held_text_is w past n k)
  where
    go : (o : Option a_key) → is_key_of text o ≡ stands_for text (option_map (λ (key : a_key). key.text) o)
    go None = refl
    go (Some key) = refl
