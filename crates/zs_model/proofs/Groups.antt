-- The groups of entities of one kind: who is in the group of a text, and its number, behind one that joins and one that leaves.
use Rattle.std.proofs.Common.{◌≡◌, ℕ, Bool, true, false, List, [], ◌∷◌, length, Option, Some, None, refl, sym, ◌∙◌, ap, arith, cond}
use Rattle.std.specs.Prelude.{◌==◌, ◌||◌, not, map, filter, bytes_eq, if◌then◌else◌}
use Rattle.std.specs.List.{list_any}
use Rattle.std.specs.Option.{option_or}
use Rattle.std.specs.BTreeSet.{insert_key}
use Rattle.std.specs.Cmp.Lexicographic.{slice_cmp}
use Rattle.std.specs.Ordering.{nat_cmp, is_lt, match_ordering}
use Rattle.std.specs.declared.cmp.Ordering.{Ordering}
use Rattle.std.specs.declared.cmp.Ordering.TheVariants.{Less, Equal, Greater}
use Rattle.std.proofs.lemmas.Bool.Decides.{nat_tests}
use Rattle.std.proofs.lemmas.Slice.Eq.{bytes_eq-Decides}
use Rattle.zs_model.specs.Groups.{is_empty}
use Rattle.zs_tables.specs.Groups.{Group, has_text, number_of_group, members_of, with_group, joined, without_member, has_members, left}

-- at most one group, which has members
abbrev pub IsOne : List Group → Type 0
IsOne [] = Unit {0}
IsOne (g ∷ []) = has_members g ≡ true
IsOne (g ∷ h ∷ gs) = ⊥

-- each text has at most one group, and that has members
abbrev pub AreApart : List Group → Type 0
AreApart gs = (text : List ℕ) → IsOne (filter (has_text text) gs)

-- the members and the number of the only group
abbrev first_members : List Group → List ℕ
first_members [] = []
first_members (g ∷ gs) = g.members

abbrev first_number : List Group → Option ℕ
first_number [] = None
first_number (g ∷ gs) = Some g.number

members_first : (text : List ℕ) (gs : List Group) → members_of text gs ≡ first_members (filter (has_text text) gs)
members_first text [] = refl
members_first text (g ∷ gs) = go (has_text text g) (members_first text gs)
  where
    go : (b : Bool) → members_of text gs ≡ first_members (filter (has_text text) gs)
        → (if b then g.members else members_of text gs) ≡ first_members (cond b (g ∷ filter (has_text text) gs) (filter (has_text text) gs))
    go true ih = refl
    go false ih = ih

number_first : (text : List ℕ) (gs : List Group) → number_of_group text gs ≡ first_number (filter (has_text text) gs)
number_first text [] = refl
number_first text (g ∷ gs) = go (has_text text g) (number_first text gs)
  where
    go : (b : Bool) → number_of_group text gs ≡ first_number (filter (has_text text) gs)
        → (if b then Some g.number else number_of_group text gs) ≡ first_number (cond b (g ∷ filter (has_text text) gs) (filter (has_text text) gs))
    go true ih = refl
    go false ih = ih

-- a change of groups that keeps their texts
abbrev Keeps : (Group → Group) → Type 0
Keeps f = (g : Group) → (f g).text ≡ g.text

map_kept : (f : Group → Group) → Keeps f → (text : List ℕ) (gs : List Group) → filter (has_text text) (map f gs) ≡ map f (filter (has_text text) gs)
map_kept f keeps text [] = refl
map_kept f keeps text (g ∷ gs) =
    ap (λ (t : List ℕ). cond (bytes_eq t text) (f g ∷ filter (has_text text) (map f gs)) (filter (has_text text) (map f gs))) (keeps g)
    ∙ go (has_text text g) (map_kept f keeps text gs)
  where
    go : (b : Bool) → filter (has_text text) (map f gs) ≡ map f (filter (has_text text) gs)
        → cond b (f g ∷ filter (has_text text) (map f gs)) (filter (has_text text) (map f gs)) ≡ map f (cond b (g ∷ filter (has_text text) gs) (filter (has_text text) gs))
    go true ih = ap (λ (rest : List Group). f g ∷ rest) ih
    go false ih = ih

-- a group with another text is put anywhere
put_other : (p : Group → Bool) (new : Group) (gs : List Group) → p new ≡ false → filter p (with_group new gs) ≡ filter p gs
put_other p new [] other = rw other refl
put_other p new (g ∷ gs) other = go (is_lt (slice_cmp nat_cmp new.text g.text)) (put_other p new gs other)
  where
    go : (b : Bool) → filter p (with_group new gs) ≡ filter p gs → filter p (if b then new ∷ g ∷ gs else g ∷ with_group new gs) ≡ filter p (g ∷ gs)
    go true ih = rw other refl
    go false ih = ap (λ (rest : List Group). cond (p g) (g ∷ rest) rest) ih

-- one where there was none is the only one
put_only : (p : Group → Bool) (new : Group) (gs : List Group) → p new ≡ true → list_any p gs ≡ false → filter p (with_group new gs) ≡ new ∷ []
put_only p new [] is none = rw is refl
put_only p new (g ∷ gs) is none = go (is_lt (slice_cmp nat_cmp new.text g.text)) (p g) refl none (put_only p new gs is)
  where
    clear : (xs : List Group) → list_any p xs ≡ false → filter p xs ≡ []
    clear [] none = refl
    clear (x ∷ xs) none = pick (p x) none (clear xs)
      where
        pick : (b : Bool) → (b || list_any p xs) ≡ false → (list_any p xs ≡ false → filter p xs ≡ []) → cond b (x ∷ filter p xs) (filter p xs) ≡ []
        pick true none ih = cc
        pick false none ih = ih none

    go : (b t : Bool) → p g ≡ t → (t || list_any p gs) ≡ false → (list_any p gs ≡ false → filter p (with_group new gs) ≡ new ∷ [])
        → filter p (if b then new ∷ g ∷ gs else g ∷ with_group new gs) ≡ new ∷ []
    go b true e none ih = cc
    go true false e none ih = rw (is, e, clear gs none) refl
    go false false e none ih = rw e (ih none)

-- a text that is equal by bytes
same_text : (a b : List ℕ) → bytes_eq a b ≡ true → a ≡ b
same_text a b e = (bytes_eq-Decides a b).0 e

-- a group with one member more
abbrev with_id : List ℕ → ℕ → Group → Group
with_id text id g = if has_text text g then record g { members = insert_key nat_cmp g.members id } else g

with_id-keeps : (text : List ℕ) (id : ℕ) → Keeps (with_id text id)
with_id-keeps text id g = go (has_text text g)
  where
    go : (b : Bool) → (if b then record g { members = insert_key nat_cmp g.members id } else g).text ≡ g.text
    go true = refl
    go false = refl

without_member-keeps : (text : List ℕ) (id : ℕ) → Keeps (without_member text id)
without_member-keeps text id g = go (has_text text g)
  where
    go : (b : Bool) → (if b then record g { members = filter (λ other. not (other == id)) g.members } else g).text ≡ g.text
    go true = refl
    go false = refl

-- what a group of a text says of another text
other_text : (own text : List ℕ) (g : Group) → has_text text g ≡ true → has_text own g ≡ bytes_eq own text
other_text own text g is = go (bytes_eq own text) refl
  where
    go : (b : Bool) → bytes_eq own text ≡ b → has_text own g ≡ b
    go true e = (bytes_eq-Decides g.text own).1 (same_text g.text text is ∙ sym (same_text own text e))
    go false e = pick (has_text own g) refl
      where
        pick : (b : Bool) → has_text own g ≡ b → has_text own g ≡ false
        pick true h =
            let same : own ≡ text = sym (same_text g.text own h) ∙ same_text g.text text is in
            let no : true ≡ false = sym ((bytes_eq-Decides own text).1 same) ∙ e in cc
        pick false h = h

-- what a filter keeps first passes it
head_passes : (p : Group → Bool) (xs : List Group) (g : Group) (gs : List Group) → filter p xs ≡ g ∷ gs → p g ≡ true
head_passes p [] g gs is = cc
head_passes p (x ∷ xs) g gs is = go (p x) refl is (head_passes p xs g gs)
  where
    go : (b : Bool) → p x ≡ b → cond b (x ∷ filter p xs) (filter p xs) ≡ g ∷ gs → (filter p xs ≡ g ∷ gs → p g ≡ true) → p g ≡ true
    go true e is ih = let same : x ≡ g = cc in ap p (sym same) ∙ e
    go false e is ih = ih is

kept_none : (p : Group → Bool) (xs : List Group) → list_any p xs ≡ false → filter p xs ≡ []
kept_none p [] none = refl
kept_none p (x ∷ xs) none = go (p x) none (kept_none p xs)
  where
    go : (b : Bool) → (b || list_any p xs) ≡ false → (list_any p xs ≡ false → filter p xs ≡ []) → cond b (x ∷ filter p xs) (filter p xs) ≡ []
    go true none ih = cc
    go false none ih = ih none

kept_some : (p : Group → Bool) (xs : List Group) → list_any p xs ≡ true → filter p xs ≡ [] → ⊥
kept_some p [] some is = cc
kept_some p (x ∷ xs) some is = go (p x) some is (kept_some p xs)
  where
    go : (b : Bool) → (b || list_any p xs) ≡ true → cond b (x ∷ filter p xs) (filter p xs) ≡ [] → (list_any p xs ≡ true → filter p xs ≡ [] → ⊥) → ⊥
    go true some is ih = cc
    go false some is ih = ih some is

filter_swap : (p q : Group → Bool) (xs : List Group) → filter p (filter q xs) ≡ filter q (filter p xs)
filter_swap p q [] = refl
filter_swap p q (x ∷ xs) = grind (arith, nat_tests, filter_swap p q xs)

-- the group that a first member makes
abbrev made_by : List ℕ → ℕ → Group
made_by own id = record { text = own; number = id; members = id ∷ [] }

-- the only group of a text behind one that joins
abbrev joined_only : Bool → List ℕ → ℕ → List Group → List Group
joined_only b own id [] = if b then made_by own id ∷ [] else []
joined_only b own id (g ∷ gs) = (if b then record g { members = insert_key nat_cmp g.members id } else g) ∷ gs

joined_other : (own : List ℕ) (id : ℕ) (gs : List Group) → joined_only false own id gs ≡ gs
joined_other own id [] = refl
joined_other own id (g ∷ gs) = refl

filter_joined : (own : List ℕ) (id : ℕ) (text : List ℕ) (gs : List Group) → IsOne (filter (has_text text) gs)
    → filter (has_text text) (joined own id gs) ≡ joined_only (bytes_eq own text) own id (filter (has_text text) gs)
filter_joined own id text gs one = go (list_any (has_text own) gs) refl
  where
    mapped : (f : List Group) → filter (has_text text) gs ≡ f → IsOne f → list_any (has_text own) gs ≡ true → map (with_id own id) f ≡ joined_only (bytes_eq own text) own id f
    mapped [] is one some = pick (bytes_eq own text) refl
      where
        pick : (b : Bool) → bytes_eq own text ≡ b → [] ≡ joined_only b own id []
        pick true e = absurd (kept_some (has_text own) gs some (rw (same_text own text e) is))
        pick false e = refl
    mapped (g ∷ []) is one some =
        ap (λ (b : Bool). (if b then record g { members = insert_key nat_cmp g.members id } else g) ∷ []) (other_text own text g (head_passes (has_text text) gs g [] is))
    mapped (g ∷ h ∷ f) is one some = absurd one

    put : (b : Bool) → bytes_eq own text ≡ b → list_any (has_text own) gs ≡ false
        → filter (has_text text) (with_group (made_by own id) gs) ≡ joined_only b own id (filter (has_text text) gs)
    put true e none =
        let none_here : list_any (has_text text) gs ≡ false = rw (← same_text own text e) none in
        put_only (has_text text) (made_by own id) gs e none_here ∙ sym (ap (joined_only true own id) (kept_none (has_text text) gs none_here))
    put false e none = put_other (has_text text) (made_by own id) gs e ∙ sym (joined_other own id (filter (has_text text) gs))

    go : (b : Bool) → list_any (has_text own) gs ≡ b
        → filter (has_text text) (if b then map (with_id own id) gs else with_group (made_by own id) gs) ≡ joined_only (bytes_eq own text) own id (filter (has_text text) gs)
    go true some = map_kept (with_id own id) (with_id-keeps own id) text gs ∙ mapped (filter (has_text text) gs) refl one some
    go false none = put (bytes_eq own text) refl none

more_some : (members : List ℕ) (id : ℕ) → not (length (insert_key nat_cmp members id) == 0) ≡ true
more_some [] id = refl
more_some (m ∷ members) id = go (nat_cmp id m)
  where
    go : (o : Ordering) → not (length (match_ordering o (id ∷ m ∷ members) (m ∷ members) (m ∷ insert_key nat_cmp members id)) == 0) ≡ true
    go Less = grind (arith, nat_tests)
    go Equal = grind (arith, nat_tests)
    go Greater = grind (arith, nat_tests)

pub more_nonempty : (members : List ℕ) (id : ℕ) → is_empty (insert_key nat_cmp members id) ≡ false
more_nonempty [] id = refl
more_nonempty (m ∷ members) id = go (nat_cmp id m)
  where
    go : (o : Ordering) → is_empty (match_ordering o (id ∷ m ∷ members) (m ∷ members) (m ∷ insert_key nat_cmp members id)) ≡ false
    go Less = refl
    go Equal = refl
    go Greater = refl

some_nonempty : (members : List ℕ) → not (length members == 0) ≡ true → is_empty members ≡ false
some_nonempty [] some = cc
some_nonempty (m ∷ members) some = refl

none_empty : (members : List ℕ) → not (length members == 0) ≡ false → members ≡ []
none_empty [] none = refl
none_empty (m ∷ members) none = let no : false ≡ true = sym none ∙ grind (arith, nat_tests) in cc

one_joined : (b : Bool) (own : List ℕ) (id : ℕ) (f : List Group) → IsOne f → IsOne (joined_only b own id f)
one_joined true own id [] one = refl
one_joined false own id [] one = tt
one_joined true own id (g ∷ []) one = more_some g.members id
one_joined false own id (g ∷ []) one = one
one_joined b own id (g ∷ h ∷ f) one = absurd one

-- they stay apart behind one that joins
pub apart_joined : (own : List ℕ) (id : ℕ) (gs : List Group) → AreApart gs → AreApart (joined own id gs)
apart_joined own id gs apart text =
    rw (filter_joined own id text gs (apart text)) (one_joined (bytes_eq own text) own id (filter (has_text text) gs) (apart text))

members_more : (b : Bool) (own : List ℕ) (id : ℕ) (f : List Group) → first_members (joined_only b own id f) ≡ (if b then insert_key nat_cmp (first_members f) id else first_members f)
members_more true own id [] = refl
members_more false own id [] = refl
members_more true own id (g ∷ f) = refl
members_more false own id (g ∷ f) = refl

-- who is in the group of a text behind one that joins the group of its own
pub members_joined : (own : List ℕ) (id : ℕ) (text : List ℕ) (gs : List Group) → AreApart gs
    → members_of text (joined own id gs) ≡ (if bytes_eq own text then insert_key nat_cmp (members_of text gs) id else members_of text gs)
members_joined own id text gs apart =
    members_first text (joined own id gs) ∙ ap first_members (filter_joined own id text gs (apart text))
    ∙ members_more (bytes_eq own text) own id (filter (has_text text) gs)
    ∙ ap (λ (members : List ℕ). if bytes_eq own text then insert_key nat_cmp members id else members) (sym (members_first text gs))

-- the number of a group with these members, where an event that was answered a number may have made it
abbrev pub numbered : Option ℕ → Option ℕ → List ℕ → Option ℕ
numbered before number members = if is_empty members then None else option_or before number

number_more : (b : Bool) (own : List ℕ) (id : ℕ) (f : List Group) → IsOne f
    → first_number (joined_only b own id f) ≡ numbered (first_number f) (Some id) (first_members (joined_only b own id f))
number_more true own id [] one = refl
number_more false own id [] one = refl
number_more true own id (g ∷ []) one = rw (more_nonempty g.members id) refl
number_more false own id (g ∷ []) one = rw (some_nonempty g.members one) refl
number_more b own id (g ∷ h ∷ f) one = absurd one

by_first : (text : List ℕ) (gs : List Group) (before number : Option ℕ)
    → first_number (filter (has_text text) gs) ≡ numbered before number (first_members (filter (has_text text) gs))
    → number_of_group text gs ≡ numbered before number (members_of text gs)
by_first text gs before number is = number_first text gs ∙ is ∙ ap (numbered before number) (sym (members_first text gs))

-- its number
pub number_joined : (own : List ℕ) (id : ℕ) (text : List ℕ) (gs : List Group) → AreApart gs
    → number_of_group text (joined own id gs) ≡ numbered (number_of_group text gs) (Some id) (members_of text (joined own id gs))
number_joined own id text gs apart =
    let f : List Group = filter (has_text text) gs in
    let step = filter_joined own id text gs (apart text) in
    by_first text (joined own id gs) (number_of_group text gs) (Some id)
    (rw step (number_more (bytes_eq own text) own id (filter (has_text text) gs) (apart text)
    ∙ ap (λ (before : Option ℕ). numbered before (Some id) (first_members (joined_only (bytes_eq own text) own id (filter (has_text text) gs)))) (sym (number_first text gs))))

number_same : (f : List Group) (number : Option ℕ) → IsOne f → first_number f ≡ numbered (first_number f) number (first_members f)
number_same [] number one = refl
number_same (g ∷ []) number one = rw (some_nonempty g.members one) refl
number_same (g ∷ h ∷ f) number one = absurd one

-- groups that stay keep their numbers
pub number_kept : (text : List ℕ) (gs : List Group) (number : Option ℕ) → AreApart gs
    → number_of_group text gs ≡ numbered (number_of_group text gs) number (members_of text gs)
number_kept text gs number apart =
    by_first text gs (number_of_group text gs) number
    (number_same (filter (has_text text) gs) number (apart text)
    ∙ ap (λ (before : Option ℕ). numbered before number (first_members (filter (has_text text) gs))) (sym (number_first text gs)))

-- the only group of a text behind one that leaves
abbrev left_only : Bool → ℕ → List Group → List Group
left_only b id [] = []
left_only b id (g ∷ gs) = filter has_members ((if b then record g { members = filter (λ other. not (other == id)) g.members } else g) ∷ gs)

filter_left : (own : List ℕ) (id : ℕ) (text : List ℕ) (gs : List Group) → IsOne (filter (has_text text) gs)
    → filter (has_text text) (left own id gs) ≡ left_only (bytes_eq own text) id (filter (has_text text) gs)
filter_left own id text gs one =
    filter_swap (has_text text) has_members (map (without_member own id) gs)
    ∙ ap (filter has_members) (map_kept (without_member own id) (without_member-keeps own id) text gs)
    ∙ go (filter (has_text text) gs) refl one
  where
    go : (f : List Group) → filter (has_text text) gs ≡ f → IsOne f → filter has_members (map (without_member own id) f) ≡ left_only (bytes_eq own text) id f
    go [] is one = refl
    go (g ∷ []) is one =
        ap (λ (b : Bool). filter has_members ((if b then record g { members = filter (λ other. not (other == id)) g.members } else g) ∷ []))
        (other_text own text g (head_passes (has_text text) gs g [] is))
    go (g ∷ h ∷ f) is one = absurd one

one_left : (b : Bool) (id : ℕ) (f : List Group) → IsOne f → IsOne (left_only b id f)
one_left b id [] one = tt
one_left b id (g ∷ []) one = go (if b then record g { members = filter (λ other. not (other == id)) g.members } else g)
  where
    go : (h : Group) → IsOne (filter has_members (h ∷ []))
    go h = pick (has_members h) refl
      where
        pick : (t : Bool) → has_members h ≡ t → IsOne (cond t (h ∷ []) [])
        pick true e = e
        pick false e = tt
one_left b id (g ∷ h ∷ f) one = absurd one

pub apart_left : (own : List ℕ) (id : ℕ) (gs : List Group) → AreApart gs → AreApart (left own id gs)
apart_left own id gs apart text =
    rw (filter_left own id text gs (apart text)) (one_left (bytes_eq own text) id (filter (has_text text) gs) (apart text))

-- the members of one group, if it has any
members_alone : (h : Group) → first_members (filter has_members (h ∷ [])) ≡ h.members
members_alone h = go (has_members h) refl
  where
    go : (t : Bool) → has_members h ≡ t → first_members (cond t (h ∷ []) []) ≡ h.members
    go true e = refl
    go false e = sym (none_empty h.members e)

members_less : (b : Bool) (id : ℕ) (f : List Group) → IsOne f
    → first_members (left_only b id f) ≡ (if b then filter (λ other. not (other == id)) (first_members f) else first_members f)
members_less true id [] one = refl
members_less false id [] one = refl
members_less true id (g ∷ []) one = members_alone (record g { members = filter (λ other. not (other == id)) g.members })
members_less false id (g ∷ []) one = members_alone g
members_less b id (g ∷ h ∷ f) one = absurd one

-- who is in the group of a text behind one that leaves the group of its own
pub members_left : (own : List ℕ) (id : ℕ) (text : List ℕ) (gs : List Group) → AreApart gs
    → members_of text (left own id gs) ≡ (if bytes_eq own text then filter (λ other. not (other == id)) (members_of text gs) else members_of text gs)
members_left own id text gs apart =
    members_first text (left own id gs) ∙ ap first_members (filter_left own id text gs (apart text))
    ∙ members_less (bytes_eq own text) id (filter (has_text text) gs) (apart text)
    ∙ ap (λ (members : List ℕ). if bytes_eq own text then filter (λ other. not (other == id)) members else members) (sym (members_first text gs))

number_alone : (h : Group) (before number : Option ℕ) → before ≡ Some h.number
    → first_number (filter has_members (h ∷ [])) ≡ numbered before number (first_members (filter has_members (h ∷ [])))
number_alone h before number is = go (has_members h) refl
  where
    go : (t : Bool) → has_members h ≡ t → first_number (cond t (h ∷ []) []) ≡ numbered before number (first_members (cond t (h ∷ []) []))
    go true e = rw (some_nonempty h.members e, is) refl
    go false e = refl

number_less : (b : Bool) (id : ℕ) (f : List Group) (number : Option ℕ) → IsOne f
    → first_number (left_only b id f) ≡ numbered (first_number f) number (first_members (left_only b id f))
number_less b id [] number one = refl
number_less true id (g ∷ []) number one = number_alone (record g { members = filter (λ other. not (other == id)) g.members }) (Some g.number) number refl
number_less false id (g ∷ []) number one = number_alone g (Some g.number) number refl
number_less b id (g ∷ h ∷ f) number one = absurd one

pub number_left_is : (own : List ℕ) (id : ℕ) (text : List ℕ) (gs : List Group) (number : Option ℕ) → AreApart gs
    → number_of_group text (left own id gs) ≡ numbered (number_of_group text gs) number (members_of text (left own id gs))
number_left_is own id text gs number apart =
    by_first text (left own id gs) (number_of_group text gs) number
    (rw (filter_left own id text gs (apart text)) (number_less (bytes_eq own text) id (filter (has_text text) gs) number (apart text)
    ∙ ap (λ (before : Option ℕ). numbered before number (first_members (left_only (bytes_eq own text) id (filter (has_text text) gs)))) (sym (number_first text gs))))
