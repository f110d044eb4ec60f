-- The tables of keys are what the events tell: counts, texts and numbers. Each table goes by the changes of its own area.
use Rattle.std.proofs.Common.{◌≡◌, ◌≤◌, ◌<◌, ◌+◌, ◌-◌, ℕ, List, [], ◌∷◌, Bool, true, false, Option, Some, None, refl, sym, ◌∙◌, ap, subst, arith}
use Rattle.std.specs.Prelude.{◌==◌, ◌&&◌, ◌||◌, not, nat_lt, is_some, option_map, if◌then◌else◌}
use Rattle.std.proofs.lemmas.Bool.{eqb-true}
use Rattle.std.proofs.lemmas.Bool.Decides.{nat_tests}
use Rattle.zs_keys.specs.Key.{Key as a_key}
use Rattle.zs_subscriptions.specs.Numbers.{NumberedKey, key_at, without}
use Rattle.zs_entity_tables.specs.declared.declared_key.KeyHolders.{KeyHolders}
use Rattle.zs_world.specs.declared.change.Change.{Change}
use Rattle.zs_world.specs.declared.change.Change.TheVariants.{Nothing, OfKeys, OfNetwork, Shut}
use Rattle.zs_world.specs.declared.change.KeyChange.TheVariants.{Declare, Hold, Release}
use Rattle.zs_world.specs.declared.change.NetworkChange.TheVariants.{TellKey}
use Rattle.zs_world.specs.World.{World}
use Rattle.zs_model.specs.Entry.{Entry, is_closed}
use Rattle.std.specs.Option.{option_or}
use Rattle.zs_model.specs.HeldKeys.{times_declared, times_returned, is_held, held_count, drawn_text, held_text, remote_text, declares_number}
use Rattle.zs_entity_tables.specs.DeclaredKeys.{holders_of, has_holder, raised, is_last, lowered}
use Rattle.zs_world.specs.Changes.{with_change, Fits}
use Rattle.zs_standing.proofs.Numbers.{has_holder-raised, holders_of-raised, has_holder-lowered, holders_of-lowered, holders_none, key_at-placed, key_at-without, or_known}
use Rattle.zs_model.proofs.DistinctNumbers.{Once, apart, once-placed, once-without}
use Rattle.zs_standing.proofs.Saying.{IsMade, IsText, closes, declares_by, returns_by, told_by}

-- what the tables of keys are behind a past
pub record AreKnown (w : World) (past : List Entry) : Type 0 where
  pub closed : w.closed ≡ is_closed past
  pub emptied : w.closed ≡ true → (w.keys.local_resources ≡ []) × (w.keys.holders ≡ [])
  -- a number stands for a key where someone holds it
  pub tied : (n : ℕ) → is_some (key_at n w.keys.local_resources) ≡ has_holder n w.keys.holders
  -- who holds a number is counted
  pub counted : (n : ℕ) → has_holder n w.keys.holders ≡ true → 0 < holders_of n w.keys.holders
  -- a number was given as often as it was taken back and is held
  pub balanced : w.closed ≡ false → (n : ℕ) → times_declared n past ≡ times_returned n past + holders_of n w.keys.holders
  -- no number from the next one on was given
  pub unused : (n : ℕ) → w.counters.key ≤ n → times_declared n past ≡ 0
  -- the text of a number is that of the event that drew it
  pub drawn : (n : ℕ) (key : a_key) → key_at n w.keys.local_resources ≡ Some key → drawn_text n past ≡ Some key.text
  pub once : Once w.keys.local_resources
  pub told : (n : ℕ) → option_map (λ (key : a_key). key.text) (key_at n w.keys.remote_resources) ≡ remote_text n past

tied_step : (w : World) (c : Change) (n : ℕ) → Fits w c → is_some (key_at n w.keys.local_resources) ≡ has_holder n w.keys.holders
    → is_some (key_at n (with_change c w).keys.local_resources) ≡ has_holder n (with_change c w).keys.holders
tied_step w (OfKeys (Declare m key)) n fits ih =
    let placed_is = key_at-placed n (record { number = m; key = key }) w.keys.local_resources in
    ap is_some placed_is ∙ grind (arith, nat_tests, ih) ∙ sym (has_holder-raised n m w.keys.holders)
tied_step w (OfKeys (Hold m)) n fits ih =
    or_known m n (λ (i : ℕ). is_some (key_at i w.keys.local_resources)) (has_holder n w.keys.holders) fits ih ∙ sym (has_holder-raised n m w.keys.holders)
tied_step w (OfKeys (Release m)) n fits ih = go (is_last m w.keys.holders) ∙ sym (has_holder-lowered n m w.keys.holders)
  where
    go : (b : Bool) → is_some (key_at n (if b then without m w.keys.local_resources else w.keys.local_resources)) ≡ (if (m == n) && b then false else has_holder n w.keys.holders)
    go true = ap is_some (key_at-without n m w.keys.local_resources) ∙ grind (arith, nat_tests, ih)
    go false = grind (arith, nat_tests, ih)
tied_step w Shut n fits ih = refl
tied_step w Nothing n fits ih = ih
tied_step w c n fits ih = ih

more_counted : (n m : ℕ) (hs : List KeyHolders) → has_holder n (raised m hs) ≡ true → (has_holder n hs ≡ true → 0 < holders_of n hs) → 0 < holders_of n (raised m hs)
more_counted n m hs h ih = go (m == n) refl
  where
    go : (t : Bool) → (m == n) ≡ t → 0 < holders_of n (raised m hs)
    go true e = rw (holders_of-raised n m hs, e) (omega arith)
    go false e =
        let before : has_holder n hs ≡ true = ap (λ (t : Bool). t || has_holder n hs) (sym e) ∙ sym (has_holder-raised n m hs) ∙ h in
        rw (holders_of-raised n m hs, e) (ih before)

less_counted : (n m : ℕ) (hs : List KeyHolders) → has_holder n (lowered m hs) ≡ true → (has_holder n hs ≡ true → 0 < holders_of n hs)
    → 0 < holders_of n (lowered m hs)
less_counted n m hs h ih = go (m == n) refl (is_last m hs) refl (sym (has_holder-lowered n m hs) ∙ h)
  where
    go : (t : Bool) → (m == n) ≡ t → (l : Bool) → is_last m hs ≡ l → (if t && l then false else has_holder n hs) ≡ true → 0 < holders_of n (lowered m hs)
    go true e true k held = cc
    go true e false k held =
        let same : m ≡ n = eqb-true m n e in
        let more : 1 < holders_of m hs = grind (arith, nat_tests, k) in
        let here : 1 < holders_of n hs = subst (λ (i : ℕ). 1 < holders_of i hs) same more in
        rw (holders_of-lowered n m hs, e) (omega (arith, here))
    go false e l k held = rw (holders_of-lowered n m hs, e) (ih held)

counted_step : (w : World) (c : Change) (n : ℕ) → (has_holder n w.keys.holders ≡ true → 0 < holders_of n w.keys.holders)
    → has_holder n (with_change c w).keys.holders ≡ true → 0 < holders_of n (with_change c w).keys.holders
counted_step w (OfKeys (Declare m key)) n ih h = more_counted n m w.keys.holders h ih
counted_step w (OfKeys (Hold m)) n ih h = more_counted n m w.keys.holders h ih
counted_step w (OfKeys (Release m)) n ih h = less_counted n m w.keys.holders h ih
counted_step w Shut n ih h = cc
counted_step w Nothing n ih h = ih h
counted_step w c n ih h = ih h

less_balanced : (n m before back : ℕ) (hs : List KeyHolders) → 0 < holders_of m hs → before ≡ back + holders_of n hs
    → before ≡ (if m == n then back + 1 else back) + holders_of n (lowered m hs)
less_balanced n m before back hs held ih = go (m == n) refl
  where
    go : (t : Bool) → (m == n) ≡ t → before ≡ (if t then back + 1 else back) + holders_of n (lowered m hs)
    go true e =
        let same : m ≡ n = eqb-true m n e in
        let here : 0 < holders_of n hs = subst (λ (i : ℕ). 0 < holders_of i hs) same held in
        rw (holders_of-lowered n m hs, e) (omega (arith, here, ih))
    go false e = rw (holders_of-lowered n m hs, e) ih

balanced_step : (w : World) (c : Change) (n before back : ℕ) → Fits w c
    → ((m : ℕ) → is_some (key_at m w.keys.local_resources) ≡ true → 0 < holders_of m w.keys.holders)
    → before ≡ back + holders_of n w.keys.holders → (with_change c w).closed ≡ false
    → (if declares_by n c then before + 1 else before) ≡ (if returns_by n c then back + 1 else back) + holders_of n (with_change c w).keys.holders
balanced_step w (OfKeys (Declare m key)) n before back fits some ih o = rw (holders_of-raised n m w.keys.holders) (grind (arith, nat_tests, ih))
balanced_step w (OfKeys (Hold m)) n before back fits some ih o = rw (holders_of-raised n m w.keys.holders) (grind (arith, nat_tests, ih))
balanced_step w (OfKeys (Release m)) n before back fits some ih o = less_balanced n m before back w.keys.holders (some m fits) ih
balanced_step w Shut n before back fits some ih o = cc
balanced_step w Nothing n before back fits some ih o = ih
balanced_step w c n before back fits some ih o = ih

unused_step : (w : World) (c : Change) (n before : ℕ) → Fits w c → (w.counters.key ≤ n → before ≡ 0)
    → (is_some (key_at n w.keys.local_resources) ≡ true → 0 < before) → (with_change c w).counters.key ≤ n → (if declares_by n c then before + 1 else before) ≡ 0
unused_step w (OfKeys (Declare m key)) n before fits ih known above = go (m == n) refl
  where
    go : (t : Bool) → (m == n) ≡ t → (if t then before + 1 else before) ≡ 0
    go true e = let same : m ≡ n = eqb-true m n e in absurd (omega (arith, same, fits.0, above))
    go false e = ih (omega (arith, above))
unused_step w (OfKeys (Hold m)) n before fits ih known above = go (m == n) refl
  where
    go : (t : Bool) → (m == n) ≡ t → (if t then before + 1 else before) ≡ 0
    go true e =
        let here : is_some (key_at n w.keys.local_resources) ≡ true = ap (λ (i : ℕ). is_some (key_at i w.keys.local_resources)) (sym (eqb-true m n e)) ∙ fits in
        absurd (omega (arith, known here, ih above))
    go false e = ih above
unused_step w (OfKeys (Release m)) n before fits ih known above = ih above
unused_step w Nothing n before fits ih known above = ih above
unused_step w c n before fits ih known above = ih above

-- a number that was never given has no text
undrawn : (n : ℕ) (past : List Entry) → times_declared n past ≡ 0 → drawn_text n past ≡ None
undrawn n [] none = refl
undrawn n (x ∷ past) none = go (declares_number n x.event x.number) none (undrawn n past)
  where
    go : (b : Bool) → (if b then times_declared n past + 1 else times_declared n past) ≡ 0 → (times_declared n past ≡ 0 → drawn_text n past ≡ None)
        → option_or (drawn_text n past) (if b then x.text else None) ≡ None
    go true none ih = absurd (omega (arith, none))
    go false none ih = ap (λ (o : Option (List ℕ)). option_or o None) (ih none)

back_known : (n m : ℕ) (last : Bool) (rows : List NumberedKey) (key : a_key) → key_at n (if last then without m rows else rows) ≡ Some key → key_at n rows ≡ Some key
back_known n m true rows key at = go (m == n) (sym (key_at-without n m rows) ∙ at)
  where
    go : (t : Bool) → (if t then None else key_at n rows) ≡ Some key → key_at n rows ≡ Some key
    go true e = cc
    go false e = e
back_known n m false rows key at = at

drawn_step : (w : World) (c : Change) (text was : Option (List ℕ)) (n : ℕ) (key : a_key) → Fits w c → IsText w text c → (w.counters.key ≤ n → was ≡ None)
    → ((k : a_key) → key_at n w.keys.local_resources ≡ Some k → was ≡ Some k.text) → key_at n (with_change c w).keys.local_resources ≡ Some key
    → option_or was (if declares_by n c then text else None) ≡ Some key.text
drawn_step w (OfKeys (Declare m new)) text was n key fits is fresh ih at =
    go (m == n) refl (sym (key_at-placed n (record { number = m; key = new }) w.keys.local_resources) ∙ at)
  where
    go : (t : Bool) → (m == n) ≡ t → (if t then Some new else key_at n w.keys.local_resources) ≡ Some key → option_or was (if t then text else None) ≡ Some key.text
    go true t at =
        let none : was ≡ None = fresh (omega (arith, eqb-true m n t, fits.0)) in
        let this : new ≡ key = cc in
        rw none (is ∙ ap (λ (k : a_key). Some k.text) this)
    go false t at = rw (ih key at) refl
drawn_step w (OfKeys (Hold m)) text was n key fits is fresh ih at = rw (ih key at) refl
drawn_step w (OfKeys (Release m)) text was n key fits is fresh ih at = rw (ih key (back_known n m (is_last m w.keys.holders) w.keys.local_resources key at)) refl
drawn_step w Shut text was n key fits is fresh ih at = cc
drawn_step w Nothing text was n key fits is fresh ih at = rw (ih key at) refl
drawn_step w c text was n key fits is fresh ih at = rw (ih key at) refl

once_step : (w : World) (c : Change) → Fits w c → ((m : ℕ) → w.counters.key ≤ m → key_at m w.keys.local_resources ≡ None) → Once w.keys.local_resources → Once (with_change c w).keys.local_resources
once_step w (OfKeys (Declare m key)) fits fresh ih =
    once-placed (record { number = m; key = key }) w.keys.local_resources
    (apart (record { number = m; key = key }) w.keys.local_resources (fresh m (omega (arith, fits.0))) fits.2) ih
once_step w (OfKeys (Hold m)) fits fresh ih = ih
once_step w (OfKeys (Release m)) fits fresh ih = go (is_last m w.keys.holders)
  where
    go : (last : Bool) → Once (if last then without m w.keys.local_resources else w.keys.local_resources)
    go true = once-without (λ row. not (row.number == m)) w.keys.local_resources ih
    go false = ih
once_step w Shut fits fresh ih = tt
once_step w Nothing fits fresh ih = ih
once_step w c fits fresh ih = ih

told_step : (w : World) (c : Change) (text was : Option (List ℕ)) (n : ℕ) → IsText w text c
    → option_map (λ (key : a_key). key.text) (key_at n w.keys.remote_resources) ≡ was
    → option_map (λ (key : a_key). key.text) (key_at n (with_change c w).keys.remote_resources) ≡ (if told_by n c then text else was)
told_step w (OfNetwork (TellKey m new)) text was n is ih =
    ap (option_map (λ (key : a_key). key.text)) (key_at-placed n (record { number = m; key = new }) w.keys.remote_resources) ∙ go (m == n)
  where
    go : (b : Bool) → option_map (λ (key : a_key). key.text) (if b then Some new else key_at n w.keys.remote_resources) ≡ (if b then text else was)
    go true = sym is
    go false = ih
told_step w Nothing text was n is ih = ih
told_step w c text was n is ih = ih

closed_step : (w : World) (c : Change) (shut : Bool) → w.closed ≡ shut → (with_change c w).closed ≡ (closes c || shut)
closed_step w Shut shut was = refl
closed_step w Nothing shut was = was
closed_step w c shut was = was

emptied_step : (w : World) (c : Change) → w.closed ≡ false → (with_change c w).closed ≡ true → ((with_change c w).keys.local_resources ≡ []) × ((with_change c w).keys.holders ≡ [])
emptied_step w Shut o shut = (refl, refl)
emptied_step w Nothing o shut = let no : false ≡ true = sym o ∙ shut in cc
emptied_step w c o shut = let no : false ≡ true = sym o ∙ shut in cc

-- a number that stands for a key is counted, and was given
counted_some : (w : World) (past : List Entry) → AreKnown w past → (n : ℕ) → is_some (key_at n w.keys.local_resources) ≡ true → 0 < holders_of n w.keys.holders
counted_some w past k n known = k.counted n (sym (k.tied n) ∙ known)

given_some : (w : World) (past : List Entry) → AreKnown w past → w.closed ≡ false → (n : ℕ) → is_some (key_at n w.keys.local_resources) ≡ true → 0 < times_declared n past
given_some w past k o n known =
    let some : 0 < holders_of n w.keys.holders = counted_some w past k n known in
    omega (arith, some, k.balanced o n)

-- no number from the next one on stands for a key
fresh_number : (w : World) (past : List Entry) → AreKnown w past → w.closed ≡ false → (n : ℕ) → w.counters.key ≤ n → key_at n w.keys.local_resources ≡ None
fresh_number w past k o n above = go (key_at n w.keys.local_resources) refl
  where
    go : (key : Option a_key) → key_at n w.keys.local_resources ≡ key → key ≡ None
    go None e = refl
    go (Some key) e = absurd (omega (arith, given_some w past k o n (ap is_some e), k.unused n above))

-- an accepted event keeps them so
pub known_more : (w : World) (past : List Entry) (x : Entry) (c : Change) → IsMade w x c → AreKnown w past → AreKnown (with_change c w) (x ∷ past)
known_more w past x c m k = record {
  closed = closed_step w c (is_closed past) k.closed ∙ ap (λ (b : Bool). b || is_closed past) (sym m.closes);
  emptied = emptied_step w c m.unclosed;
  tied = λ n. tied_step w c n m.fits (k.tied n);
  counted = λ n. counted_step w c n (k.counted n);
  balanced = λ o n. rw (m.keys.declares n, m.keys.returns n)
      (balanced_step w c n (times_declared n past) (times_returned n past) m.fits (counted_some w past k) (k.balanced m.unclosed n) o);
  unused = λ n above. rw (m.keys.declares n)
      (unused_step w c n (times_declared n past) m.fits (k.unused n) (given_some w past k m.unclosed n) above);
  drawn = λ n key at. rw (m.keys.declares n)
      (drawn_step w c x.text (drawn_text n past) n key m.fits m.keys.text (λ above. undrawn n past (k.unused n above)) (k.drawn n) at);
  once = once_step w c m.fits (fresh_number w past k m.unclosed) k.once;
  told = λ n. rw (m.keys.tells n) (told_step w c x.text (remote_text n past) n m.keys.text (k.told n));
}

-- a number is held where someone holds it
pub held_by : (w : World) (past : List Entry) (n : ℕ) → AreKnown w past → w.closed ≡ false → has_holder n w.keys.holders ≡ is_held n past
held_by w past n k o =
    let open_held : is_held n past ≡ nat_lt (times_returned n past) (times_declared n past) = ap (λ (b : Bool). not b && nat_lt (times_returned n past) (times_declared n past)) (sym k.closed ∙ o) in
    go (has_holder n w.keys.holders) refl ∙ sym open_held
  where
    even : times_declared n past ≡ times_returned n past + holders_of n w.keys.holders
    even = k.balanced o n

    go : (b : Bool) → has_holder n w.keys.holders ≡ b → has_holder n w.keys.holders ≡ nat_lt (times_returned n past) (times_declared n past)
    go true e = let some : 0 < holders_of n w.keys.holders = k.counted n e in e ∙ grind (arith, nat_tests, some, even)
    go false e = let none : holders_of n w.keys.holders ≡ 0 = holders_none n w.keys.holders e in e ∙ grind (arith, nat_tests, none, even)

-- whether a number is held
pub held_is : (w : World) (past : List Entry) (n : ℕ) → AreKnown w past → has_holder n w.keys.holders ≡ is_held n past
held_is w past n k = go w.closed refl
  where
    go : (b : Bool) → w.closed ≡ b → has_holder n w.keys.holders ≡ is_held n past
    go true shut =
        let closed : is_closed past ≡ true = sym k.closed ∙ shut in
        ap (has_holder n) ((k.emptied shut).1) ∙ sym (ap (λ (b : Bool). not b && nat_lt (times_returned n past) (times_declared n past)) closed)
    go false unshut = held_by w past n k unshut

-- how many hold it
pub count_is : (w : World) (past : List Entry) (n : ℕ) → AreKnown w past → holders_of n w.keys.holders ≡ held_count n past
count_is w past n k = go w.closed refl
  where
    go : (b : Bool) → w.closed ≡ b → holders_of n w.keys.holders ≡ held_count n past
    go true shut =
        let closed : is_closed past ≡ true = sym k.closed ∙ shut in
        ap (holders_of n) ((k.emptied shut).1) ∙ sym (ap (λ (b : Bool). if b then 0 else times_declared n past - times_returned n past) closed)
    go false unshut =
        let closed : is_closed past ≡ false = sym k.closed ∙ unshut in
        let even : times_declared n past ≡ times_returned n past + holders_of n w.keys.holders = k.balanced unshut n in
        omega (arith, even) ∙ sym (ap (λ (b : Bool). if b then 0 else times_declared n past - times_returned n past) closed)

-- the text that it stands for
pub held_text_is : (w : World) (past : List Entry) (n : ℕ) → AreKnown w past → option_map (λ (key : a_key). key.text) (key_at n w.keys.local_resources) ≡ held_text n past
held_text_is w past n k = go (key_at n w.keys.local_resources) refl
  where
    go : (o : Option a_key) → key_at n w.keys.local_resources ≡ o → option_map (λ (key : a_key). key.text) o ≡ held_text n past
    go None at =
        let none : is_held n past ≡ false = sym (held_is w past n k) ∙ sym (k.tied n) ∙ ap is_some at in
        rw none refl
    go (Some key) at =
        let some : is_held n past ≡ true = sym (held_is w past n k) ∙ sym (k.tied n) ∙ ap is_some at in
        rw some (sym (k.drawn n key at))
