-- The group of a text is the plain filter over the live entities.
use Rattle.std.proofs.Common.{◌≡◌, ℕ, ◌<◌, Bool, true, false, List, [], ◌∷◌, ◌++◌, Option, Some, refl, sym, ◌∙◌, ap, arith, cond}
use Rattle.std.specs.Prelude.{◌==◌, ◌&&◌, not, map, filter, bytes_eq, if◌then◌else◌}
use Rattle.std.specs.List.{AllByRecursion, find}
use Rattle.std.specs.BTreeSet.{insert_key}
use Rattle.std.specs.Ordering.{nat_cmp}
use Rattle.std.specs.declared.cmp.Ordering.TheVariants.{Greater}
use Rattle.std.proofs.lemmas.Bool.{eqb-true}
use Rattle.std.proofs.lemmas.Bool.Decides.{nat_tests}
use Rattle.zs_keys.specs.Key.{Key}
use Rattle.zs_subscriptions.specs.Ascending.{Ascend}
use Rattle.zs_subscriptions.proofs.Ascending.{all_filter, all_map}
use Rattle.zs_tables.specs.Groups.{Group, number_of_group, members_of, joined, left}
use Rattle.zs_model.specs.Groups.{Shared, share_text, shares, sharing, joined_by, left_by}
use Rattle.zs_model.proofs.Groups.{AreApart, numbered, apart_joined, members_joined, number_joined, number_kept, apart_left, members_left, number_left_is}

-- the groups are those of these entities
pub record AreGrouped (aggregates : List Key) (gs : List Group) (xs : List Shared) : Type 0 where
  pub apart : AreApart gs
  pub members : (text : List ℕ) → members_of text gs ≡ sharing aggregates text xs

-- no entities have no groups
pub grouped_none : (aggregates : List Key) → AreGrouped aggregates [] []
grouped_none aggregates = record { apart = λ text. tt; members = λ text. refl }

sharing_push : (aggregates : List Key) (text : List ℕ) (xs : List Shared) (x : Shared)
    → sharing aggregates text (xs ++ x ∷ []) ≡ sharing aggregates text xs ++ (if shares aggregates text x then x.id ∷ [] else [])
sharing_push aggregates text [] x = go (shares aggregates text x)
  where
    go : (b : Bool) → map (λ (y : Shared). y.id) (cond b (x ∷ []) []) ≡ [] ++ (if b then x.id ∷ [] else [])
    go true = refl
    go false = refl
sharing_push aggregates text (y ∷ xs) x = go (shares aggregates text y) (sharing_push aggregates text xs x)
  where
    go : (b : Bool) → sharing aggregates text (xs ++ x ∷ []) ≡ sharing aggregates text xs ++ (if shares aggregates text x then x.id ∷ [] else [])
        → map (λ (z : Shared). z.id) (cond b (y ∷ filter (shares aggregates text) (xs ++ x ∷ [])) (filter (shares aggregates text) (xs ++ x ∷ [])))
        ≡ map (λ (z : Shared). z.id) (cond b (y ∷ filter (shares aggregates text) xs) (filter (shares aggregates text) xs)) ++ (if shares aggregates text x then x.id ∷ [] else [])
    go true ih = ap (λ (rest : List ℕ). y.id ∷ rest) ih
    go false ih = ih

append_nil : (xs : List ℕ) → xs ++ [] ≡ xs
append_nil [] = refl
append_nil (x ∷ xs) = ap (λ (rest : List ℕ). x ∷ rest) (append_nil xs)

-- those who share a text are below what all are below
sharing_below : (aggregates : List Key) (text : List ℕ) (n : ℕ) (xs : List Shared) → AllByRecursion (λ y. y.id < n) xs → AllByRecursion (λ id. id < n) (sharing aggregates text xs)
sharing_below aggregates text n xs below =
    all_map (λ (y : Shared). y.id < n) (λ id. id < n) (λ (y : Shared). y.id) (λ y less. less) (filter (shares aggregates text) xs)
    (all_filter (λ (y : Shared). y.id < n) (shares aggregates text) xs below)

-- a number above all members goes behind them
placed_last : (id : ℕ) (members : List ℕ) → AllByRecursion (λ member. member < id) members → insert_key nat_cmp members id ≡ members ++ id ∷ []
placed_last id [] below = refl
placed_last id (m ∷ members) below =
    let above : nat_cmp id m ≡ Greater = grind (arith, nat_tests, below.0) in
    rw above (ap (λ (rest : List ℕ). m ∷ rest) (placed_last id members below.1))

-- one more entity, whose number is above all others
pub grouped_more : (aggregates : List Key) (gs : List Group) (xs : List Shared) (x : Shared) → AllByRecursion (λ y. y.id < x.id) xs → AreGrouped aggregates gs xs
    → AreGrouped aggregates (joined_by aggregates x gs) (xs ++ x ∷ [])
grouped_more aggregates gs xs x below are = go x.is_announced refl
  where
    own : List ℕ
    own = share_text aggregates x.text

    pushed : (text : List ℕ) (b : Bool) → x.is_announced ≡ b → sharing aggregates text (xs ++ x ∷ []) ≡ sharing aggregates text xs ++ (if b && bytes_eq own text then x.id ∷ [] else [])
    pushed text b is = sharing_push aggregates text xs x ∙ ap (λ (t : Bool). sharing aggregates text xs ++ (if t && bytes_eq own text then x.id ∷ [] else [])) is

    placed : (text : List ℕ) (b : Bool) → (if b then insert_key nat_cmp (sharing aggregates text xs) x.id else sharing aggregates text xs) ≡ sharing aggregates text xs ++ (if b then x.id ∷ [] else [])
    placed text true = placed_last x.id (sharing aggregates text xs) (sharing_below aggregates text x.id xs below)
    placed text false = sym (append_nil (sharing aggregates text xs))

    go : (b : Bool) → x.is_announced ≡ b → AreGrouped aggregates (if b then joined own x.id gs else gs) (xs ++ x ∷ [])
    go true is = record {
      apart = apart_joined own x.id gs are.apart;
      members = λ text. members_joined own x.id text gs are.apart
          ∙ ap (λ (members : List ℕ). if bytes_eq own text then insert_key nat_cmp members x.id else members) (are.members text)
          ∙ placed text (bytes_eq own text)
          ∙ sym (pushed text true is);
    }
    go false is = record {
      apart = are.apart;
      members = λ text. are.members text ∙ sym (append_nil (sharing aggregates text xs)) ∙ sym (pushed text false is);
    }

-- an entity is the only one of its number
abbrev pub IsOnly : Shared → List Shared → Type 0
IsOnly x xs = AllByRecursion (λ y. (y.id == x.id) ≡ true → y ≡ x) xs

sharing_less : (aggregates : List Key) (text : List ℕ) (x : Shared) (xs : List Shared) → IsOnly x xs
    → sharing aggregates text (filter (λ y. not (y.id == x.id)) xs)
    ≡ (if shares aggregates text x then filter (λ other. not (other == x.id)) (sharing aggregates text xs) else sharing aggregates text xs)
sharing_less aggregates text x [] only = go (shares aggregates text x)
  where
    none : List ℕ
    none = []

    go : (b : Bool) → none ≡ (if b then none else none)
    go true = refl
    go false = refl
sharing_less aggregates text x (y ∷ xs) only = go (shares aggregates text x) refl (y.id == x.id) refl only.0 (sharing_less aggregates text x xs only.1)
  where
    keeps : List Shared
    keeps = filter (λ z. not (z.id == x.id)) xs

    ids : List Shared → List ℕ
    ids zs = map (λ (z : Shared). z.id) zs

    here : (s e t : Bool) → (y.id == x.id) ≡ e → shares aggregates text y ≡ t → (e ≡ true → t ≡ s)
        → sharing aggregates text keeps ≡ (if s then filter (λ other. not (other == x.id)) (sharing aggregates text xs) else sharing aggregates text xs)
        → ids (filter (shares aggregates text) (cond (not e) (y ∷ keeps) keeps))
        ≡ (if s then filter (λ other. not (other == x.id)) (ids (cond t (y ∷ filter (shares aggregates text) xs) (filter (shares aggregates text) xs)))
        else ids (cond t (y ∷ filter (shares aggregates text) xs) (filter (shares aggregates text) xs)))
    here true true true e t is ih = ih ∙ sym (ap (λ (b : Bool). cond (not b) (y.id ∷ filter (λ other. not (other == x.id)) (sharing aggregates text xs)) (filter (λ other. not (other == x.id)) (sharing aggregates text xs))) e)
    here false true true e t is ih = let no : true ≡ false = is refl in cc
    here true true false e t is ih = let no : false ≡ true = is refl in cc
    here false true false e t is ih = ih
    here true false true e t is ih =
        ap (λ (b : Bool). ids (cond b (y ∷ filter (shares aggregates text) keeps) (filter (shares aggregates text) keeps))) t
        ∙ ap (λ (rest : List ℕ). y.id ∷ rest) ih
        ∙ sym (ap (λ (b : Bool). cond (not b) (y.id ∷ filter (λ other. not (other == x.id)) (sharing aggregates text xs)) (filter (λ other. not (other == x.id)) (sharing aggregates text xs))) e)
    here false false true e t is ih =
        ap (λ (b : Bool). ids (cond b (y ∷ filter (shares aggregates text) keeps) (filter (shares aggregates text) keeps))) t
        ∙ ap (λ (rest : List ℕ). y.id ∷ rest) ih
    here true false false e t is ih =
        ap (λ (b : Bool). ids (cond b (y ∷ filter (shares aggregates text) keeps) (filter (shares aggregates text) keeps))) t ∙ ih
    here false false false e t is ih =
        ap (λ (b : Bool). ids (cond b (y ∷ filter (shares aggregates text) keeps) (filter (shares aggregates text) keeps))) t ∙ ih

    go : (s : Bool) → shares aggregates text x ≡ s → (e : Bool) → (y.id == x.id) ≡ e → ((y.id == x.id) ≡ true → y ≡ x)
        → sharing aggregates text keeps ≡ (if shares aggregates text x then filter (λ other. not (other == x.id)) (sharing aggregates text xs) else sharing aggregates text xs)
        → ids (filter (shares aggregates text) (cond (not (y.id == x.id)) (y ∷ keeps) keeps))
        ≡ (if shares aggregates text x then filter (λ other. not (other == x.id)) (sharing aggregates text (y ∷ xs)) else sharing aggregates text (y ∷ xs))
    go s s_is e e_is same ih =
        rw (e_is, s_is) (here s e (shares aggregates text y) e_is refl (λ t. ap (shares aggregates text) (same (e_is ∙ t)) ∙ s_is) (rw (← s_is) ih))

-- one less
pub grouped_less : (aggregates : List Key) (gs : List Group) (xs : List Shared) (x : Shared) → IsOnly x xs → AreGrouped aggregates gs xs
    → AreGrouped aggregates (left_by aggregates x gs) (filter (λ y. not (y.id == x.id)) xs)
grouped_less aggregates gs xs x only are = go x.is_announced refl
  where
    own : List ℕ
    own = share_text aggregates x.text

    less : (text : List ℕ) (b : Bool) → x.is_announced ≡ b → sharing aggregates text (filter (λ y. not (y.id == x.id)) xs)
        ≡ (if b && bytes_eq own text then filter (λ other. not (other == x.id)) (sharing aggregates text xs) else sharing aggregates text xs)
    less text b is = sharing_less aggregates text x xs only
        ∙ ap (λ (t : Bool). if t && bytes_eq own text then filter (λ other. not (other == x.id)) (sharing aggregates text xs) else sharing aggregates text xs) is

    go : (b : Bool) → x.is_announced ≡ b → AreGrouped aggregates (if b then left own x.id gs else gs) (filter (λ y. not (y.id == x.id)) xs)
    go true is = record {
      apart = apart_left own x.id gs are.apart;
      members = λ text. members_left own x.id text gs are.apart
          ∙ ap (λ (members : List ℕ). if bytes_eq own text then filter (λ other. not (other == x.id)) members else members) (are.members text) ∙ sym (less text true is);
    }
    go false is = record { apart = are.apart; members = λ text. are.members text ∙ sym (less text false is) }

-- a group has the number of the first that joined it since it was last empty: behind one that joins, and one that leaves
pub number_more : (aggregates : List Key) (gs : List Group) (x : Shared) (text : List ℕ) → AreApart gs
    → number_of_group text (joined_by aggregates x gs) ≡ numbered (number_of_group text gs) (Some x.id) (members_of text (joined_by aggregates x gs))
number_more aggregates gs x text apart = go x.is_announced
  where
    go : (b : Bool) → number_of_group text (if b then joined (share_text aggregates x.text) x.id gs else gs)
        ≡ numbered (number_of_group text gs) (Some x.id) (members_of text (if b then joined (share_text aggregates x.text) x.id gs else gs))
    go true = number_joined (share_text aggregates x.text) x.id text gs apart
    go false = number_kept text gs (Some x.id) apart

pub number_less : (aggregates : List Key) (gs : List Group) (x : Shared) (text : List ℕ) (number : Option ℕ) → AreApart gs
    → number_of_group text (left_by aggregates x gs) ≡ numbered (number_of_group text gs) number (members_of text (left_by aggregates x gs))
number_less aggregates gs x text number apart = go x.is_announced
  where
    go : (b : Bool) → number_of_group text (if b then left (share_text aggregates x.text) x.id gs else gs)
        ≡ numbered (number_of_group text gs) number (members_of text (if b then left (share_text aggregates x.text) x.id gs else gs))
    go true = number_left_is (share_text aggregates x.text) x.id text gs number apart
    go false = number_kept text gs number apart

-- what is found by its number is the only one of it, where the numbers ascend
pub only_found : {R : Type 0} (shared : R → Shared) (rows : List R) (row : R) (id : ℕ) → Ascend (λ r. (shared r).id) rows
    → find (λ r. (shared r).id == id) rows ≡ Some row → IsOnly (shared row) (map shared rows)
only_found shared [] row id up found = cc
only_found {R} shared (r ∷ rows) row id up found = go ((shared r).id == id) refl found (only_found shared rows row id up.1)
  where
    above : (x : Shared) → r ≡ row → (rs : List R) → AllByRecursion (λ later. (shared r).id < (shared later).id) rs → IsOnly (shared row) (map shared rs)
    above x same [] all = tt
    above x same (later ∷ rs) all =
        let more : (shared r).id < (shared later).id = all.0 in
        let here : (shared r).id ≡ (shared row).id = ap (λ (q : R). (shared q).id) same in
        ((λ e. absurd (omega (arith, more, here, eqb-true (shared later).id (shared row).id e))), above x same rs all.1)

    go : (b : Bool) → ((shared r).id == id) ≡ b → (if b then Some r else find (λ r. (shared r).id == id) rows) ≡ Some row
        → (find (λ r. (shared r).id == id) rows ≡ Some row → IsOnly (shared row) (map shared rows)) → IsOnly (shared row) (map shared (r ∷ rows))
    go true e found ih = let same : r ≡ row = cc in ((λ e. ap shared same), above (shared r) same rows up.0)
    go false e found ih =
        let its : (shared row).id ≡ id = found_id rows found in
        ((λ same. let no : false ≡ true = sym e ∙ ap (λ (n : ℕ). (shared r).id == n) (sym its) ∙ same in cc), ih found)
      where
        found_id : (rs : List R) → find (λ r. (shared r).id == id) rs ≡ Some row → (shared row).id ≡ id
        found_id [] f = cc
        found_id (q ∷ rs) f = pick ((shared q).id == id) refl f (found_id rs)
          where
            pick : (b : Bool) → ((shared q).id == id) ≡ b → (if b then Some q else find (λ r. (shared r).id == id) rs) ≡ Some row
                → (find (λ r. (shared r).id == id) rs ≡ Some row → (shared row).id ≡ id) → (shared row).id ≡ id
            pick true t f ih = let same : q ≡ row = cc in ap (λ (p : R). (shared p).id) (sym same) ∙ eqb-true (shared q).id id t
            pick false t f ih = ih f
