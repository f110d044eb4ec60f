-- The order of arrival makes no difference to what is kept.
use Rattle.std.proofs.Common.{◌≡◌, ◌⊎◌, Bool, true, false, List, [], ◌∷◌, inl, inr, true≢false, refl, sym, ap, subst, ◌∙◌}
use Rattle.std.specs.Prelude.{◌||◌, map}
use Rattle.std.specs.List.{AllByRecursion, list_any}
use Rattle.zs_sample.specs.Reply.{Replied}
use Rattle.zs_query.specs.Marks.{key_of}
use Rattle.zs_query.specs.Kept.{same_key, is_older, firsts, greatest, kept}
use Rattle.zs_query.specs.Laws.{IsIn, AreSame, AreApart}
use Rattle.zs_query.proofs.Ascending.{all_weaker}
use Rattle.zs_query.proofs.Order.{keys_equal, equal_keys, same_by_right}
use Rattle.zs_query.proofs.Keeping.{older_through, older_once, older_same, greatest_key, any_firsts, all_firsts}

-- what holds of each reply of a list
all_in : (P : Replied → Type 0) (rs : List Replied) (r : Replied) → AllByRecursion P rs → IsIn rs r → P r
all_in P [] r all is = absurd is
all_in P (x ∷ xs) r all (inl e) = subst P (sym e) all.0
all_in P (x ∷ xs) r all (inr rest) = all_in P xs r all.1 rest

all_by : (P : Replied → Type 0) (rs : List Replied) → ((r : Replied) → IsIn rs r → P r) → AllByRecursion P rs
all_by P [] each = tt
all_by P (x ∷ xs) each = (each x (inl refl), all_by P xs (λ r is. each r (inr is)))

-- a first reply is one of all
first_in : (rs : List Replied) (f : Replied) → IsIn (firsts rs) f → IsIn rs f
first_in rs f is = all_in (IsIn rs) (firsts rs) f (all_firsts (IsIn rs) rs (all_by (IsIn rs) rs (λ r i. i))) is

-- where an element of a mapped list comes from
record Came (g : Replied → Replied) (fs : List Replied) (r : Replied) : Type 0 where
  from : Replied
  among : IsIn fs from
  is : r ≡ g from

came : (g : Replied → Replied) (fs : List Replied) (r : Replied) → IsIn (map g fs) r → Came g fs r
came g [] r is = absurd is
came g (f ∷ fs) r (inl e) = record { from = f; among = inl refl; is = e }
came g (f ∷ fs) r (inr rest) = let t = came g fs r rest in record { from = t.from; among = inr t.among; is = t.is }

goes : (g : Replied → Replied) (fs : List Replied) (f : Replied) → IsIn fs f → IsIn (map g fs) (g f)
goes g [] f is = absurd is
goes g (x ∷ fs) f (inl e) = inl (ap g e)
goes g (x ∷ fs) f (inr rest) = inr (goes g fs f rest)

-- a reply of a list on a key
record OnKey (r : Replied) (fs : List Replied) : Type 0 where
  from : Replied
  among : IsIn fs from
  on : same_key r from ≡ true

on_key : (r : Replied) (fs : List Replied) → list_any (same_key r) fs ≡ true → OnKey r fs
on_key r [] some = absurd (true≢false (sym some))
on_key r (f ∷ fs) some = go (same_key r f) refl (on_key r fs)
  where
    go : (b : Bool) → same_key r f ≡ b → (list_any (same_key r) fs ≡ true → OnKey r fs) → OnKey r (f ∷ fs)
    go true on rest = record { from = f; among = inl refl; on = on }
    go false off rest =
        let t = rest (ap (λ (x : Bool). x || list_any (same_key r) fs) (sym off) ∙ some) in
        record { from = t.from; among = inr t.among; on = t.on }

or_true : (x : Bool) → (x || true) ≡ true
or_true true = refl
or_true false = refl

key_there : (r : Replied) (rs : List Replied) → IsIn rs r → list_any (same_key r) rs ≡ true
key_there r [] is = absurd is
key_there r (x ∷ xs) (inl e) = ap (λ (b : Bool). b || list_any (same_key r) xs) (equal_keys r x (ap key_of e))
key_there r (x ∷ xs) (inr rest) = ap (λ (b : Bool). same_key r x || b) (key_there r xs rest) ∙ or_true (same_key r x)

-- the greatest reply is one of all, or the first
greatest_among : (rs : List Replied) (f : Replied) → (greatest rs f ≡ f) ⊎ IsIn rs (greatest rs f)
greatest_among [] f = inl refl
greatest_among (r ∷ older) f = go (same_key r f) refl (is_older r (greatest older f)) refl (greatest_among older f)
  where
    P : Replied → Type 0
    P g = (g ≡ f) ⊎ IsIn (r ∷ older) g

    later : (greatest older f ≡ f) ⊎ IsIn older (greatest older f) → P (greatest older f)
    later (inl e) = inl e
    later (inr i) = inr (inr i)

    go : (b : Bool) → same_key r f ≡ b → (o : Bool) → is_older r (greatest older f) ≡ o → (greatest older f ≡ f) ⊎ IsIn older (greatest older f) → P (greatest (r ∷ older) f)
    go true same false over ih = let eq : greatest (r ∷ older) f ≡ r = rw (same, over) refl in subst P (sym eq) (inr (inl refl))
    go true same true under ih = let eq : greatest (r ∷ older) f ≡ greatest older f = rw (same, under) refl in subst P (sym eq) (later ih)
    go false other o x ih = let eq : greatest (r ∷ older) f ≡ greatest older f = rw other refl in subst P (sym eq) (later ih)

-- none on its key is newer
abbrev IsNewest : Replied → Replied → List Replied → Type 0
IsNewest f g rs = AllByRecursion (λ b. same_key b f ≡ true → is_older g b ≡ false) rs

newest : (rs : List Replied) (f : Replied) → IsNewest f (greatest rs f) rs
newest [] f = tt
newest (r ∷ older) f = go (same_key r f) refl (is_older r (greatest older f)) refl (newest older f)
  where
    P : Replied → Type 0
    P g = IsNewest f g (r ∷ older)

    go : (b : Bool) → same_key r f ≡ b → (o : Bool) → is_older r (greatest older f) ≡ o → IsNewest f (greatest older f) older → P (greatest (r ∷ older) f)
    go true same false over ih =
        let eq : greatest (r ∷ older) f ≡ r = rw (same, over) refl in
        let fact : IsNewest f r (r ∷ older) = (λ on. older_same r, all_weaker (λ b. same_key b f ≡ true → is_older (greatest older f) b ≡ false) (λ b. same_key b f ≡ true → is_older r b ≡ false) (λ b h on. older_through r (greatest older f) b over (h on)) older ih) in
        subst P (sym eq) fact
    go true same true under ih =
        let eq : greatest (r ∷ older) f ≡ greatest older f = rw (same, under) refl in
        let fact : IsNewest f (greatest older f) (r ∷ older) = (λ on. older_once r (greatest older f) under, ih) in
        subst P (sym eq) fact
    go false other o x ih =
        let eq : greatest (r ∷ older) f ≡ greatest older f = rw other refl in
        let fact : IsNewest f (greatest older f) (r ∷ older) = (λ on. absurd (true≢false (sym on ∙ other)), ih) in
        subst P (sym eq) fact

-- the greatest reply on the key of one of all is one of all
greatest_in : (rs : List Replied) (f : Replied) → IsIn rs f → IsIn rs (greatest rs f)
greatest_in rs f is = go (greatest_among rs f)
  where
    go : (greatest rs f ≡ f) ⊎ IsIn rs (greatest rs f) → IsIn rs (greatest rs f)
    go (inl e) = subst (IsIn rs) (sym e) is
    go (inr i) = i

-- what is kept is one of all, and none on its key is newer
record IsKept (rs : List Replied) (r : Replied) : Type 0 where
  among : IsIn rs r
  newest : IsNewest r r rs

kept_has : (rs : List Replied) (r : Replied) → IsIn (kept rs) r → IsKept rs r
kept_has rs r is =
    let t = came (greatest rs) (firsts rs) r is in
    let f = t.from in
    let key : key_of r ≡ key_of f = ap key_of t.is ∙ greatest_key rs f in
    record {
      among = subst (IsIn rs) (sym t.is) (greatest_in rs f (first_in rs f t.among));
      newest = all_weaker (λ b. same_key b f ≡ true → is_older (greatest rs f) b ≡ false) (λ b. same_key b r ≡ true → is_older r b ≡ false) (λ b h on. ap (λ (g : Replied). is_older g b) t.is ∙ h (sym (same_by_right b r f key) ∙ on)) rs (newest rs f);
    }

-- and each such reply is kept, where no two are alike
has_kept : (rs : List Replied) (r : Replied) → AreApart rs → IsIn rs r → IsNewest r r rs → IsIn (kept rs) r
has_kept rs r apart is newest_is =
    let t = on_key r (firsts rs) (any_firsts r rs ∙ key_there r rs is) in
    let f = t.from in
    let g = greatest rs f in
    let g_in : IsIn rs g = greatest_in rs f (first_in rs f t.among) in
    let key : key_of r ≡ key_of g = keys_equal r f t.on ∙ sym (greatest_key rs f) in
    let not_below : is_older r g ≡ false = all_in (λ b. same_key b r ≡ true → is_older r b ≡ false) rs g newest_is g_in (equal_keys g r (sym key)) in
    let not_above : is_older g r ≡ false = all_in (λ b. same_key b f ≡ true → is_older g b ≡ false) rs r (newest rs f) is t.on in
    let same : r ≡ g = apart r g is g_in (equal_keys r g key) not_below not_above in
    subst (IsIn (kept rs)) (sym same) (goes (greatest rs) (firsts rs) f t.among)

half : (rs others : List Replied) → AreSame rs others → AreApart others → (r : Replied) → IsIn (kept rs) r → IsIn (kept others) r
half rs others same apart r is =
    let k = kept_has rs r is in
    has_kept others r apart ((same r).0 k.among) (all_by (λ b. same_key b r ≡ true → is_older r b ≡ false) others (λ b i. all_in (λ c. same_key c r ≡ true → is_older r c ≡ false) rs b k.newest ((same b).1 i)))

pub free_of_order : (rs others : List Replied) → AreSame rs others → AreApart rs → AreSame (kept rs) (kept others)
free_of_order rs others same apart r =
    let other_apart : AreApart others = λ a b a_in b_in. apart a b ((same a).1 a_in) ((same b).1 b_in) in
    let turned_same : AreSame others rs = λ s. ((same s).1, (same s).0) in
    (half rs others same other_apart r, half others rs turned_same apart r)
