-- The key of a name meets that of the liveliness subscribers.
use Rattle.std.proofs.Common.{◌≡◌, ℕ, ◌==◌, Bool, true, false, List, [], ◌∷◌, ◌++◌, Option, Some, None, refl, sym, ◌∙◌, ap, cond, arith}
use Rattle.std.specs.Prelude.{not, ◌&&◌, nat_le, length, codes}
use Rattle.std.specs.List.{list_all, slice_split, onto_first}
use Rattle.std.specs.Option.{option_and_then}
use Rattle.std.proofs.lemmas.Bool.Decides.{nat_tests}
use Rattle.zs_keys.specs.Matching.{meets, is_free, chunk_meets, intersects}
use Rattle.zs_keys.specs.Text.{chunks, is_double_star}
use Rattle.zs_members.specs.Names.{is_name_byte, is_name, if_name, behind, name_in}

-- a name's bytes are none of the signs of a key
slash_not : (b : ℕ) → is_name_byte b ≡ true → (b == 0x2f) ≡ false
slash_not b name = grind (arith, nat_tests, name)

star_not : (b : ℕ) → is_name_byte b ≡ true → (b == 0x2a) ≡ false
star_not b name = grind (arith, nat_tests, name)

at_not : (b : ℕ) → is_name_byte b ≡ true → (b == 0x40) ≡ false
at_not b name = grind (arith, nat_tests, name)

first_of : (a b : Bool) → (a && b) ≡ true → a ≡ true
first_of true b both = refl
first_of false b both = cc

second_of : (a b : Bool) → (a && b) ≡ true → b ≡ true
second_of true b both = both
second_of false b both = cc

-- a name is one chunk
name_whole : (name : List ℕ) → list_all is_name_byte name ≡ true → chunks name ≡ name ∷ []
name_whole [] all = refl
name_whole (b ∷ bs) all =
    ap (λ (t : Bool). cond t ([] ∷ slice_split (λ byte. byte == 0x2f) bs) (onto_first b (slice_split (λ byte. byte == 0x2f) bs))) (slash_not b (first_of (is_name_byte b) (list_all is_name_byte bs) all))
    ∙ ap (onto_first b) (name_whole bs (second_of (is_name_byte b) (list_all is_name_byte bs) all))

-- chunks of a name's key meet those of the subscriber's
chunks_meet : (b : ℕ) (bs : List ℕ) → is_name_byte b ≡ true
    → meets is_double_star is_double_star is_free chunk_meets (codes "group" ∷ (b ∷ bs) ∷ []) (codes "group" ∷ codes "*" ∷ []) ≡ true
unfolding meets
chunks_meet b bs name = rw (star_not b name) (rw (at_not b name) refl)

name_meets : (name : List ℕ) → is_name name ≡ true → intersects (codes "group/" ++ name) (codes "group/*") ≡ true
name_meets [] is = cc
name_meets (b ∷ bs) is =
    let all : list_all is_name_byte (b ∷ bs) ≡ true =
    second_of (nat_le (length (b ∷ bs)) 64) (list_all is_name_byte (b ∷ bs)) (second_of (not (length (b ∷ bs) == 0)) (nat_le (length (b ∷ bs)) 64 && list_all is_name_byte (b ∷ bs)) is) in
    ap (λ (cs : List (List ℕ)). meets is_double_star is_double_star is_free chunk_meets
    (onto_first 103 (onto_first 114 (onto_first 111 (onto_first 117 (onto_first 112 ([] ∷ cs)))))) (codes "group" ∷ codes "*" ∷ [])) (name_whole (b ∷ bs) all)
    ∙ chunks_meet b bs (first_of (is_name_byte b) (list_all is_name_byte bs) all)

-- what stands behind a front
behind_is : (front text rest : List ℕ) → behind front text ≡ Some rest → text ≡ front ++ rest
behind_is [] text rest is = let same : text ≡ rest = cc in same
behind_is (p ∷ ps) [] rest is = cc
behind_is (p ∷ ps) (b ∷ bs) rest is = go (p == b) refl is (λ found. behind_is ps bs rest found)
  where
    go : (t : Bool) → (p == b) ≡ t → cond t (behind ps bs) None ≡ Some rest → (behind ps bs ≡ Some rest → bs ≡ ps ++ rest) → b ∷ bs ≡ (p ∷ ps) ++ rest
    go true same found later =
        let first : p ≡ b = grind (arith, nat_tests, same) in
        ap (λ (n : ℕ). n ∷ bs) (sym first) ∙ ap (λ (more : List ℕ). p ∷ more) (later found)
    go false same found later = cc

named_by : (o : Option (List ℕ)) (text name : List ℕ) → behind (codes "group/") text ≡ o → option_and_then if_name o ≡ Some name → intersects text (codes "group/*") ≡ true
named_by None text name is named = cc
named_by (Some rest) text name is named = go (is_name rest) refl named
  where
    go : (t : Bool) → is_name rest ≡ t → cond t (Some rest) None ≡ Some name → intersects text (codes "group/*") ≡ true
    go true so found = ap (λ (key : List ℕ). intersects key (codes "group/*")) (behind_is (codes "group/") text rest is) ∙ name_meets rest so
    go false so found = cc

pub key_meets : (text name : List ℕ) → name_in text ≡ Some name → intersects text (codes "group/*") ≡ true
key_meets text name named = named_by (behind (codes "group/") text) text name refl named
