-- The subscription of each group stands, as entities join and leave: by the table of groups and the messages alone.
use Rattle.std.proofs.Common.{◌≡◌, ℕ, ◌+◌, ◌<◌, Bool, true, false, List, [], ◌∷◌, length, Option, Some, None, refl, sym, ◌∙◌, ap, arith, cond}
use Rattle.std.specs.Prelude.{◌==◌, ◌||◌, not, filter, bytes_eq, if◌then◌else◌}
use Rattle.std.specs.List.{list_any}
use Rattle.std.specs.Option.{option_or}
use Rattle.std.specs.BTreeSet.{insert_key}
use Rattle.std.specs.Ordering.{nat_cmp}
use Rattle.std.proofs.lemmas.Bool.{eqb-true}
use Rattle.std.proofs.lemmas.Bool.Decides.{nat_tests}
use Rattle.std.proofs.lemmas.Slice.Eq.{bytes_eq-Decides}
use Rattle.zs_wire.specs.declared.message.Message.{Message}
use Rattle.zs_wire.specs.declared.message.Message.TheVariants.{DeclareSubscriber}
use Rattle.zs_wire.specs.declared.wire_expr.WireExpr.{WireExpr}
use Rattle.zs_tables.specs.Groups.{Group, has_text, number_of_group, members_of, joined, left}
use Rattle.zs_model.specs.Groups.{is_empty, sends_if, last_sends, subscriber_end}
use Rattle.zs_model.specs.Received.{messages_of, sent_behind, read_as}
use Rattle.zs_model.specs.Covered.{subscription_text}
use Rattle.zs_model.proofs.Groups.{AreApart, numbered, number_joined, number_kept, members_joined, more_nonempty, number_left_is, members_left}

-- each group's subscription, of its number and its text, was sent and not ended, and its number is below the next one
pub record AreSubscribed (gs : List Group) (next : ℕ) (messages : List Message) : Type 0 where
  pub stands : (text : List ℕ) (n : ℕ) → number_of_group text gs ≡ Some n → subscription_text n messages ≡ Some text
  pub below : (text : List ℕ) (n : ℕ) → number_of_group text gs ≡ Some n → n < next

-- a group that has members has a number
pub number_there : (text : List ℕ) (gs : List Group) → is_empty (members_of text gs) ≡ false → (n : ℕ) × (number_of_group text gs ≡ Some n)
number_there text [] some = cc
number_there text (g ∷ gs) some = go (has_text text g) some (number_there text gs)
  where
    go : (b : Bool) → is_empty (if b then g.members else members_of text gs) ≡ false
        → (is_empty (members_of text gs) ≡ false → (n : ℕ) × (number_of_group text gs ≡ Some n))
        → (n : ℕ) × ((if b then Some g.number else number_of_group text gs) ≡ Some n)
    go true some ih = (g.number, refl)
    go false some ih = ih some

-- the number of a group behind one that joins the group of its own text
number_behind : (own : List ℕ) (id : ℕ) (text : List ℕ) (gs : List Group) → AreApart gs
    → number_of_group text (joined own id gs) ≡ (if bytes_eq own text then option_or (number_of_group text gs) (Some id) else number_of_group text gs)
number_behind own id text gs apart =
    number_joined own id text gs apart ∙ ap (numbered (number_of_group text gs) (Some id)) (members_joined own id text gs apart) ∙ go (bytes_eq own text)
  where
    go : (b : Bool) → numbered (number_of_group text gs) (Some id) (if b then insert_key nat_cmp (members_of text gs) id else members_of text gs)
        ≡ (if b then option_or (number_of_group text gs) (Some id) else number_of_group text gs)
    go true = rw (more_nonempty (members_of text gs) id) refl
    go false = sym (number_kept text gs (Some id) apart)

-- a group that has a number behind one that leaves had it before, and has members
number_before : (own : List ℕ) (id : ℕ) (text : List ℕ) (gs : List Group) (n : ℕ) → AreApart gs → number_of_group text (left own id gs) ≡ Some n
    → (number_of_group text gs ≡ Some n) × (is_empty (members_of text (left own id gs)) ≡ false)
number_before own id text gs n apart is =
    go (number_of_group text gs) (is_empty (members_of text (left own id gs))) (sym (number_left_is own id text gs None apart) ∙ is)
  where
    go : (o : Option ℕ) (b : Bool) → (if b then None else option_or o None) ≡ Some n → (o ≡ Some n) × (b ≡ false)
    go o true is = cc
    go None false is = cc
    go (Some m) false is = (is, refl)

-- one that joins a group, which is sent if it had no members
pub subscribed_more : (own : List ℕ) (id : ℕ) (wire : WireExpr) (gs : List Group) (before : List Message) → AreApart gs → AreSubscribed gs id before
    → (first : Bool) → (length (members_of own gs) == 0) ≡ first → (first ≡ true → read_as before wire ≡ Some own)
    → AreSubscribed (joined own id gs) (id + 1) (sent_behind (messages_of (sends_if first (DeclareSubscriber id wire))) before)
subscribed_more own id wire gs before apart are first empty reads = record { stands = λ text n is. by first text n empty reads is; below = under }
  where
    under_by : (b : Bool) (o : Option ℕ) (n : ℕ) → (if b then option_or o (Some id) else o) ≡ Some n → (o ≡ Some n → n < id) → n < id + 1
    under_by true None n is was = let same : id ≡ n = cc in omega (arith, same)
    under_by true (Some m) n is was = omega (arith, was is)
    under_by false o n is was = omega (arith, was is)

    under : (text : List ℕ) (n : ℕ) → number_of_group text (joined own id gs) ≡ Some n → n < id + 1
    under text n is = under_by (bytes_eq own text) (number_of_group text gs) n (sym (number_behind own id text gs apart) ∙ is) (are.below text n)

    none_there : (text : List ℕ) → own ≡ text → (length (members_of own gs) == 0) ≡ true → number_of_group text gs ≡ None
    none_there text same none = number_kept text gs None apart ∙ rw (← same) (pick (members_of own gs) none)
      where
        pick : (members : List ℕ) → (length members == 0) ≡ true → numbered (number_of_group own gs) None members ≡ None
        pick [] none = refl
        pick (m ∷ members) none = let no : false ≡ true = grind (arith, nat_tests, none) in cc

    some_there : (text : List ℕ) → own ≡ text → (length (members_of own gs) == 0) ≡ false → (n : ℕ) × (number_of_group text gs ≡ Some n)
    some_there text same some = number_there text gs (rw (← same) (pick (members_of own gs) some))
      where
        pick : (members : List ℕ) → (length members == 0) ≡ false → is_empty members ≡ false
        pick [] some = cc
        pick (m ∷ members) some = refl

    new : (text : List ℕ) (n : ℕ) (b : Bool) → (id == n) ≡ b → own ≡ text → id ≡ n → read_as before wire ≡ Some own
        → (if b then read_as before wire else subscription_text n before) ≡ Some text
    new text n true e same is reads = reads ∙ ap (λ (t : List ℕ). Some t) same
    new text n false e same is reads = let no : false ≡ true = sym e ∙ grind (arith, nat_tests, is) in cc

    old : (text : List ℕ) (n : ℕ) (b : Bool) → (id == n) ≡ b → number_of_group text gs ≡ Some n
        → (if b then read_as before wire else subscription_text n before) ≡ Some text
    old text n true e is = absurd (omega (arith, eqb-true id n e, are.below text n is))
    old text n false e is = are.stands text n is

    by_text : (text : List ℕ) (n : ℕ) (b : Bool) → bytes_eq own text ≡ b → (length (members_of own gs) == 0) ≡ true → read_as before wire ≡ Some own
        → (if b then option_or (number_of_group text gs) (Some id) else number_of_group text gs) ≡ Some n
        → (if id == n then read_as before wire else subscription_text n before) ≡ Some text
    by_text text n true same none reads is =
        let here : own ≡ text = (bytes_eq-Decides own text).0 same in
        let drawn : Some id ≡ Some n = sym (ap (λ (o : Option ℕ). option_or o (Some id)) (none_there text here none)) ∙ is in
        let its : id ≡ n = cc in new text n (id == n) refl here its reads
    by_text text n false other none reads is = old text n (id == n) refl is

    kept : (text : List ℕ) (n : ℕ) (b : Bool) → bytes_eq own text ≡ b → (length (members_of own gs) == 0) ≡ false
        → (if b then option_or (number_of_group text gs) (Some id) else number_of_group text gs) ≡ Some n → number_of_group text gs ≡ Some n
    kept text n true same some is =
        let there = some_there text ((bytes_eq-Decides own text).0 same) some in
        there.1 ∙ sym (ap (λ (o : Option ℕ). option_or o (Some id)) there.1) ∙ is
    kept text n false other some is = is

    by : (f : Bool) (text : List ℕ) (n : ℕ) → (length (members_of own gs) == 0) ≡ f → (f ≡ true → read_as before wire ≡ Some own)
        → number_of_group text (joined own id gs) ≡ Some n
        → subscription_text n (sent_behind (messages_of (sends_if f (DeclareSubscriber id wire))) before) ≡ Some text
    by true text n none reads is = by_text text n (bytes_eq own text) refl none (reads refl) (sym (number_behind own id text gs apart) ∙ is)
    by false text n some reads is = are.stands text n (kept text n (bytes_eq own text) refl some (sym (number_behind own id text gs apart) ∙ is))

-- the only member leaves nobody
only_left : (id : ℕ) (members : List ℕ) → (length members == 1) ≡ true → list_any (λ n. n == id) members ≡ true
    → is_empty (filter (λ other. not (other == id)) members) ≡ true
only_left id [] one there = cc
only_left id (m ∷ []) one there = go (m == id) there
  where
    go : (b : Bool) → (b || false) ≡ true → is_empty (cond (not b) (m ∷ []) []) ≡ true
    go true there = refl
    go false there = cc
only_left id (m ∷ k ∷ members) one there = let no : false ≡ true = grind (arith, nat_tests, one) in cc

-- one that leaves a group of which it is a member, whose end is sent if it was the last
pub subscribed_less : (own : List ℕ) (id : ℕ) (gs : List Group) (next : ℕ) (before : List Message) → AreApart gs
    → list_any (λ n. n == id) (members_of own gs) ≡ true → AreSubscribed gs next before
    → (last : Bool) → (length (members_of own gs) == 1) ≡ last
    → AreSubscribed (left own id gs) next (sent_behind (messages_of (last_sends subscriber_end (if last then number_of_group own gs else None))) before)
subscribed_less own id gs next before apart there are last one = record { stands = by last one; below = λ text n is. are.below text n (was text n is) }
  where
    was : (text : List ℕ) (n : ℕ) → number_of_group text (left own id gs) ≡ Some n → number_of_group text gs ≡ Some n
    was text n is = (number_before own id text gs n apart is).0

    gone : (length (members_of own gs) == 1) ≡ true → is_empty (members_of own (left own id gs)) ≡ true
    gone one =
        ap is_empty (members_left own id own gs apart)
        ∙ rw ((bytes_eq-Decides own own).1 refl) (only_left id (members_of own gs) one there)

    -- the number that ends is that of no other group
    by_number : (m : ℕ) → number_of_group own gs ≡ Some m → (length (members_of own gs) == 1) ≡ true → (text : List ℕ) (n : ℕ)
        → number_of_group text (left own id gs) ≡ Some n → (b : Bool) → (m == n) ≡ b → (if b then None else subscription_text n before) ≡ Some text
    by_number m at one text n is true e =
        let same : m ≡ n = eqb-true m n e in
        let mine : subscription_text n before ≡ Some own = ap (λ (k : ℕ). subscription_text k before) (sym same) ∙ are.stands own m at in
        let its : Some own ≡ Some text = sym mine ∙ are.stands text n (was text n is) in
        let here : own ≡ text = cc in
        let no : true ≡ false = sym (gone one) ∙ ap (λ (t : List ℕ). is_empty (members_of t (left own id gs))) here ∙ (number_before own id text gs n apart is).1 in cc
    by_number m at one text n is false e = are.stands text n (was text n is)

    ended : (o : Option ℕ) → number_of_group own gs ≡ o → (length (members_of own gs) == 1) ≡ true → (text : List ℕ) (n : ℕ)
        → number_of_group text (left own id gs) ≡ Some n → subscription_text n (sent_behind (messages_of (last_sends subscriber_end o)) before) ≡ Some text
    ended None at one text n is = are.stands text n (was text n is)
    ended (Some m) at one text n is = by_number m at one text n is (m == n) refl

    by : (l : Bool) → (length (members_of own gs) == 1) ≡ l → (text : List ℕ) (n : ℕ) → number_of_group text (left own id gs) ≡ Some n
        → subscription_text n (sent_behind (messages_of (last_sends subscriber_end (if l then number_of_group own gs else None))) before) ≡ Some text
    by true one text n is = ended (number_of_group own gs) refl one text n is
    by false one text n is = are.stands text n (was text n is)
