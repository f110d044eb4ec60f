-- A text that includes a plain one is plain: each of its characters but the wild signs stands for an equal one of the other.
use Rattle.std.proofs.Common.{◌≡◌, ℕ, List, [], ◌∷◌, Bool, true, false, refl, sym, subst}
use Rattle.std.specs.Prelude.{◌==◌, ◌&&◌, ◌||◌, not, bytes_eq, codes, if◌then◌else◌, cond}
use Rattle.std.specs.List.{list_all, onto_first}
use Rattle.std.proofs.lemmas.Bool.{and_parts, and_from, eqb-true}
use Rattle.std.specs.Cmp.Lexicographic.{bytes_decides}
use Rattle.zs_keys.specs.Text.{chunks, is_star, is_double_star}
use Rattle.zs_keys.specs.Matching.{some_rest, pairs_first, meets, units, is_any, units_include, is_free, chunk_includes, includes}
use Rattle.zs_script.specs.Plain.{is_plain}

-- a byte that is no tab and no line feed
abbrev is_plain_byte : ℕ → Bool
is_plain_byte b = not (b == 9) && not (b == 10)

-- either of two
or_cases : {P : Type 0} (a b : Bool) → (a || b) ≡ true → (a ≡ true → P) → (b ≡ true → P) → P
or_cases true b h f g = f refl
or_cases false b h f g = g h

-- a list that includes another one has what the wild ones have, and what those have that pair with one of the other's
meets_all : {X : Type 0} (wild free : X → Bool) (same : X → X → Bool) (test : X → Bool) → ((x : X) → wild x ≡ true → test x ≡ true)
    → ((x y : X) → same x y ≡ true → test y ≡ true → test x ≡ true) → (xs ys : List X) → meets wild (λ _. false) free same xs ys ≡ true → list_all test ys ≡ true
    → list_all test xs ≡ true
unfolding meets
meets_all wild free same test by_wild by_same [] ys met all = refl
meets_all {X} wild free same test by_wild by_same (x ∷ xs) ys met all = go (wild x) refl (λ zs met all. meets_all wild free same test by_wild by_same xs zs met all) met
  where
    Later : Type 0
    Later = (zs : List X) → meets wild (λ _. false) free same xs zs ≡ true → list_all test zs ≡ true → list_all test xs ≡ true

    rest : Later → (zs : List X) → some_rest free (meets wild (λ _. false) free same xs) zs ≡ true → list_all test zs ≡ true → list_all test xs ≡ true
    rest later [] met all = later [] met refl
    rest later (z ∷ zs) met all =
        or_cases (meets wild (λ _. false) free same xs (z ∷ zs)) (free z && some_rest free (meets wild (λ _. false) free same xs) zs) met
        (λ here. later (z ∷ zs) here all)
        (λ behind. rest later zs (and_parts (free z) (some_rest free (meets wild (λ _. false) free same xs) zs) behind).1 (and_parts (test z) (list_all test zs) all).1)

    pair : Later → (zs : List X) → pairs_first (λ _. false) free same x (meets wild (λ _. false) free same xs) zs ≡ true → list_all test zs ≡ true → (test x && list_all test xs) ≡ true
    pair later [] met all = cc
    pair later (z ∷ zs) met all =
        let parts = and_parts (same x z) (meets wild (λ _. false) free same xs zs) met in
        let plain = and_parts (test z) (list_all test zs) all in
        and_from (test x) (list_all test xs) (by_same x z parts.0 plain.0) (later zs parts.1 plain.1)

    go : (b : Bool) → wild x ≡ b → Later
        → (if b then some_rest free (meets wild (λ _. false) free same xs) ys else pairs_first (λ _. false) free same x (meets wild (λ _. false) free same xs) ys) ≡ true
        → (test x && list_all test xs) ≡ true
    go true is later met = and_from (test x) (list_all test xs) (by_wild x is) (rest later ys met all)
    go false is later met = pair later ys met all

-- bytes are plain where their units are, and the other way round
units_plain : (chunk : List ℕ) → is_plain chunk ≡ true → list_all is_plain_byte (units chunk) ≡ true
units_plain [] plain = refl
units_plain (b ∷ bs) plain = let parts = and_parts (is_plain_byte b) (is_plain bs) plain in go (not (b == 0x2a)) parts.0 (units_plain bs parts.1)
  where
    go : (kept : Bool) → is_plain_byte b ≡ true → list_all is_plain_byte (units bs) ≡ true → list_all is_plain_byte (cond kept (b ∷ units bs) (units bs)) ≡ true
    go true here rest = and_from (is_plain_byte b) (list_all is_plain_byte (units bs)) here rest
    go false here rest = rest

plain_units : (chunk : List ℕ) → list_all is_plain_byte (units chunk) ≡ true → is_plain chunk ≡ true
plain_units [] plain = refl
plain_units (b ∷ bs) plain = go (b == 0x2a) refl (plain_units bs) plain
  where
    go : (star : Bool) → (b == 0x2a) ≡ star → (list_all is_plain_byte (units bs) ≡ true → is_plain bs ≡ true) → list_all is_plain_byte (cond (not star) (b ∷ units bs) (units bs)) ≡ true → (is_plain_byte b && is_plain bs) ≡ true
    go true is later plain = let at : b ≡ 0x2a = eqb-true b 0x2a is in and_from (is_plain_byte b) (is_plain bs) (subst (λ (c : ℕ). is_plain_byte c ≡ true) (sym at) refl) (later plain)
    go false is later plain = let parts = and_parts (is_plain_byte b) (list_all is_plain_byte (units bs)) plain in and_from (is_plain_byte b) (is_plain bs) parts.0 (later parts.1)

-- a chunk that includes a plain one
any_plain : (unit : ℕ) → is_any unit ≡ true → is_plain_byte unit ≡ true
any_plain unit is = let at : unit ≡ 0x24 = eqb-true unit 0x24 is in subst (λ (c : ℕ). is_plain_byte c ≡ true) (sym at) refl

same_plain : (a b : ℕ) → (a == b) ≡ true → is_plain_byte b ≡ true → is_plain_byte a ≡ true
same_plain a b is plain = let at : a ≡ b = eqb-true a b is in subst (λ (c : ℕ). is_plain_byte c ≡ true) (sym at) plain

equal_plain : (c d : List ℕ) → bytes_eq c d ≡ true → is_plain d ≡ true → is_plain c ≡ true
equal_plain c d is plain = let at : c ≡ d = (bytes_decides c d).0 is in subst (λ (t : List ℕ). is_plain t ≡ true) (sym at) plain

chunk_plain : (c d : List ℕ) → chunk_includes c d ≡ true → is_plain d ≡ true → is_plain c ≡ true
chunk_plain c d met plain =
    let inner : Bool = is_star c || (not (is_star d) && units_include (units c) (units d)) in
    or_cases (bytes_eq c d) (is_free c && is_free d && inner) (and_parts (not (is_double_star d)) _ met).1 (λ same. equal_plain c d same plain)
    (λ more.
    or_cases (is_star c) (not (is_star d) && units_include (units c) (units d)) (and_parts (is_free c && is_free d) inner more).1
    (λ star. equal_plain c (codes "*") star refl)
    (λ rest.
    plain_units c
    (meets_all is_any (λ _. true) (λ a b. a == b) is_plain_byte any_plain same_plain (units c) (units d)
    (and_parts (not (is_star d)) (units_include (units c) (units d)) rest).1 (units_plain d plain))))

-- a text is plain where its chunks are, and the other way round
onto_plain : (b : ℕ) (cs : List (List ℕ)) → is_plain_byte b ≡ true → list_all is_plain cs ≡ true → list_all is_plain (onto_first b cs) ≡ true
onto_plain b [] here rest = and_from (is_plain_byte b && true) true (and_from (is_plain_byte b) true here refl) refl
onto_plain b (c ∷ cs) here rest =
    let parts = and_parts (is_plain c) (list_all is_plain cs) rest in
    and_from (is_plain_byte b && is_plain c) (list_all is_plain cs) (and_from (is_plain_byte b) (is_plain c) here parts.0) parts.1

chunks_plain : (text : List ℕ) → is_plain text ≡ true → list_all is_plain (chunks text) ≡ true
chunks_plain [] plain = refl
chunks_plain (b ∷ bs) plain = let parts = and_parts (is_plain_byte b) (is_plain bs) plain in go (b == 0x2f) parts.0 (chunks_plain bs parts.1)
  where
    go : (cut : Bool) → is_plain_byte b ≡ true → list_all is_plain (chunks bs) ≡ true → list_all is_plain (cond cut ([] ∷ chunks bs) (onto_first b (chunks bs))) ≡ true
    go true here rest = rest
    go false here rest = onto_plain b (chunks bs) here rest

plain_onto : (b : ℕ) (cs : List (List ℕ)) → list_all is_plain (onto_first b cs) ≡ true → (is_plain_byte b ≡ true) × (list_all is_plain cs ≡ true)
plain_onto b [] plain = ((and_parts (is_plain_byte b) true (and_parts (is_plain_byte b && true) true plain).0).0, refl)
plain_onto b (c ∷ cs) plain =
    let parts = and_parts (is_plain_byte b && is_plain c) (list_all is_plain cs) plain in
    let first = and_parts (is_plain_byte b) (is_plain c) parts.0 in
    (first.0, and_from (is_plain c) (list_all is_plain cs) first.1 parts.1)

plain_chunks : (text : List ℕ) → list_all is_plain (chunks text) ≡ true → is_plain text ≡ true
plain_chunks [] plain = refl
plain_chunks (b ∷ bs) plain = go (b == 0x2f) refl (plain_chunks bs) plain
  where
    go : (cut : Bool) → (b == 0x2f) ≡ cut → (list_all is_plain (chunks bs) ≡ true → is_plain bs ≡ true) → list_all is_plain (cond cut ([] ∷ chunks bs) (onto_first b (chunks bs))) ≡ true → (is_plain_byte b && is_plain bs) ≡ true
    go true is later plain = let at : b ≡ 0x2f = eqb-true b 0x2f is in and_from (is_plain_byte b) (is_plain bs) (subst (λ (c : ℕ). is_plain_byte c ≡ true) (sym at) refl) (later plain)
    go false is later plain = let parts = plain_onto b (chunks bs) plain in and_from (is_plain_byte b) (is_plain bs) parts.0 (later parts.1)

-- the chunk that stands for any chunks
stars_plain : (chunk : List ℕ) → is_double_star chunk ≡ true → is_plain chunk ≡ true
stars_plain chunk is = equal_plain chunk (codes "**") is refl

pub included_plain : (p q : List ℕ) → includes p q ≡ true → is_plain q ≡ true → is_plain p ≡ true
included_plain p q met plain =
    plain_chunks p (meets_all is_double_star is_free chunk_includes is_plain stars_plain chunk_plain (chunks p) (chunks q) met (chunks_plain q plain))
