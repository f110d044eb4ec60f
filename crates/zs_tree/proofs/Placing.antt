-- The block where an entry of a code and a number stands, or where it would go.
use Rattle.std.proofs.Common.{◌≡◌, ℕ, zero, suc, ◌+◌, ◌-◌, ◌<◌, ◌≤◌, Bool, true, false, List, [], ◌∷◌, ◌++◌, length, get_or, set, Result, Ok, Err, refl, sym, ap, ◌∙◌, subst, arith, add-one}
use Rattle.std.specs.Prelude.{not}
use Rattle.std.specs.List.{AllByRecursion, AllWithin, HoldsAt, insert}
use Rattle.std.specs.List.Sorted.{IsPartitionedBy}
use Rattle.std.specs.Ordering.{is_gt, ordering_reverse}
use Rattle.std.specs.declared.cmp.Ordering.{Ordering}
use Rattle.std.specs.declared.cmp.Ordering.TheVariants.{Less, Equal, Greater}
use Rattle.std.proofs.lemmas.Cmp.{upto, alike_right}
use Rattle.zs_tree.specs.declared.entry.Entry.{Entry}
use Rattle.zs_tree.specs.Entries.{IsUpTo, AreInOrder, IsPlaceOf, entry_cmp}
use Rattle.zs_tree.specs.Blocks.{flat, AreFilled, begins_up_to, IsBlockOf, IsIn, IsPutIn, front, far}
use Rattle.zs_tree.proofs.Blocks.{behind, flat_at, flat_set, insert_far, holds_far, low_far, high_far, far_within}
use Rattle.zs_tree.proofs.EditLemmas.{Place, place_cmp, place_total, place}
use Rattle.zs_tree.proofs.HitLemmas.{order_right}

-- what stands up to something that is less is less
less_down : (a b x : Place) → is_gt (place_cmp a b) ≡ false → place_cmp b x ≡ Less → place_cmp a x ≡ Less
less_down a b x up less = go (place_cmp a b) refl up
  where
    go : (o : Ordering) → place_cmp a b ≡ o → is_gt o ≡ false → place_cmp a x ≡ Less
    go Less is up' = place_total.trans a b x is less
    go Equal is up' = place_total.congr a b x is ∙ less
    go Greater is up' = absurd (cc)

-- and what stands behind something that is greater is greater
greater_up : (a b x : Place) → is_gt (place_cmp a b) ≡ false → place_cmp a x ≡ Greater → place_cmp b x ≡ Greater
greater_up a b x up greater = place_total.antisymm b x ∙ ap ordering_reverse (go (place_cmp a b) refl up)
  where
    below : place_cmp x a ≡ Less
    below = place_total.antisymm x a ∙ ap ordering_reverse greater

    go : (o : Ordering) → place_cmp a b ≡ o → is_gt o ≡ false → place_cmp x b ≡ Less
    go Less is up' = place_total.trans x a b below is
    go Equal is up' = sym (alike_right place_total a b x is) ∙ below
    go Greater is up' = absurd (cc)

-- the entries before one of some entries in order stand up to it
pub up_to_it : (xs : List Entry) (e : Entry) (rest : List Entry) → AreInOrder (xs ++ (e ∷ rest)) → AllByRecursion (λ x. IsUpTo x e) xs
up_to_it [] e rest up = tt
up_to_it (x ∷ xs) e rest up = (middle xs up.0, up_to_it xs e rest up.1)
  where
    middle : (ys : List Entry) → AllByRecursion (IsUpTo x) (ys ++ (e ∷ rest)) → IsUpTo x e
    middle [] all = all.0
    middle (y ∷ ys) all = middle ys all.1

pub all_right : (P : Entry → Type 0) (xs ys : List Entry) → AllByRecursion P (xs ++ ys) → AllByRecursion P ys
all_right P [] ys all = all
all_right P (x ∷ xs) ys all = all_right P xs ys all.1

not_greater : (o : Ordering) → not (is_gt o) ≡ true → is_gt o ≡ false
not_greater Less h = refl
not_greater Equal h = refl
not_greater Greater h = absurd (cc)

greater_of : (o : Ordering) → not (is_gt o) ≡ false → o ≡ Greater
greater_of Less h = absurd (cc)
greater_of Equal h = absurd (cc)
greater_of Greater h = refl

-- all entries before the place of a code and a number are less
all_less : (code : List ℕ) (id : ℕ) (h : Entry) (xs : List Entry) → entry_cmp code id h ≡ Less → AllByRecursion (λ x. IsUpTo x h) xs → AllByRecursion (λ x. entry_cmp code id x ≡ Less) xs
all_less code id h [] less up = tt
all_less code id h (x ∷ xs) less up = (less_down (place x) (place h) (code, id) up.0 less, all_less code id h xs less up.1)

all_greater : (code : List ℕ) (id : ℕ) (h : Entry) (xs : List Entry) → entry_cmp code id h ≡ Greater → AllByRecursion (IsUpTo h) xs → AllByRecursion (λ x. entry_cmp code id x ≡ Greater) xs
all_greater code id h [] greater up = tt
all_greater code id h (x ∷ xs) greater up = (greater_up (place h) (place x) (code, id) up.0 greater, all_greater code id h xs greater up.1)

-- all entries of blocks of which the first begins behind a code and a number
over_all : (code : List ℕ) (id : ℕ) (bs : List (List Entry)) → AreInOrder (flat bs) → AreFilled bs → AllWithin (λ b. begins_up_to code id b ≡ false) bs 0 (length bs) → AllByRecursion (λ x. entry_cmp code id x ≡ Greater) (flat bs)
over_all code id [] up filled over = tt
over_all code id ([] ∷ bs) up filled over = absurd (omega (arith, filled.0))
over_all code id ((h ∷ b) ∷ bs) up filled over =
    let greater = greater_of (entry_cmp code id h) (over 0 [] (omega arith) (omega arith)) in
    (greater, all_greater code id h (b ++ flat bs) greater up.0)

behind_high : (code : List ℕ) (id at : ℕ) (bs : List (List Entry)) → AreInOrder (flat bs) → AreFilled bs → AllWithin (λ b. begins_up_to code id b ≡ false) bs (at + 1) (length bs) → AllByRecursion (λ x. entry_cmp code id x ≡ Greater) (behind at bs)
behind_high code id zero [] up filled over = tt
behind_high code id (suc at) [] up filled over = tt
behind_high code id zero (b ∷ bs) up filled over = over_all code id bs (order_right b (flat bs) up) filled.1 (λ k d low lt. over (suc k) d (omega arith) (omega arith))
behind_high code id (suc at) (b ∷ bs) up filled over = behind_high code id at bs (order_right b (flat bs) up) filled.1 (λ k d low lt. over (suc k) d (omega arith) (omega arith))

-- a place in a block, as one of all entries
abbrev pub placed_far : List Entry → Result ℕ ℕ → Result ℕ ℕ
placed_far xs (Ok n) = Ok (far xs n)
placed_far xs (Err n) = Err (far xs n)

-- the entries before the block are less where its own do not have the code and the number
front_low : (code : List ℕ) (id n : ℕ) (xs b rest : List Entry) → 0 < length b → AreInOrder (xs ++ (b ++ rest)) → begins_up_to code id b ≡ true → IsPlaceOf code id b (Err n) → AllByRecursion (λ x. entry_cmp code id x ≡ Less) xs
front_low code id n xs [] rest some up begins there = absurd (omega (arith, some))
front_low code id zero xs (h ∷ b) rest some up begins there =
    let greater : entry_cmp code id h ≡ Greater = there.2 0 h (omega arith) (omega arith) in
    absurd (clash (entry_cmp code id h) greater (not_greater (entry_cmp code id h) begins))
  where
    clash : (o : Ordering) → o ≡ Greater → is_gt o ≡ false → ⊥
    clash Less p q = cc
    clash Equal p q = cc
    clash Greater p q = cc
front_low code id (suc n) xs (h ∷ b) rest some up begins there = all_less code id h xs (there.1 0 h (omega arith) (omega arith)) (up_to_it xs h (b ++ rest) up)

front_lows : (code : List ℕ) (id at n : ℕ) (d : List Entry) (bs : List (List Entry)) → AreInOrder (front at bs ++ (get_or bs at d ++ behind at bs)) → 0 < length (get_or bs at d) → (0 < at → HoldsAt (λ b. begins_up_to code id b ≡ true) bs at) → IsPlaceOf code id (get_or bs at d) (Err n) → AllByRecursion (λ x. entry_cmp code id x ≡ Less) (front at bs)
front_lows code id zero n d bs up some begins there = tt
front_lows code id (suc at) n d bs up some begins there = front_low code id n (front (suc at) bs) (get_or bs (suc at) d) (behind (suc at) bs) some up (begins (omega arith) d) there

filled_at : (at : ℕ) (d : List Entry) (bs : List (List Entry)) → at < length bs → AreFilled bs → 0 < length (get_or bs at d)
filled_at at d [] lt filled = absurd (omega arith)
filled_at zero d (b ∷ bs) lt filled = filled.0
filled_at (suc at) d (b ∷ bs) lt filled = filled_at at d bs (omega arith) filled.1

-- a place in the block of a code and a number is their place among all entries
pub place_is : (code : List ℕ) (id at : ℕ) (d : List Entry) (bs : List (List Entry)) (r : Result ℕ ℕ) → at < length bs → AreInOrder (flat bs) → AreFilled bs → IsBlockOf code id at bs → IsPlaceOf code id (get_or bs at d) r → IsPlaceOf code id (flat bs) (placed_far (front at bs) r)
place_is code id at d bs (Ok n) lt up filled block there =
    subst (λ (es : List Entry). IsPlaceOf code id es (Ok (far (front at bs) n))) (sym (flat_at at d bs lt))
    (holds_far (λ e. entry_cmp code id e ≡ Equal) (front at bs) (get_or bs at d) (behind at bs) n there.0 there.1)
place_is code id at d bs (Err n) lt up filled block there =
    subst (λ (es : List Entry). IsPlaceOf code id es (Err (far (front at bs) n))) (sym is) (
      far_within (front at bs) b (behind at bs) n there.0,
      low_far (λ e. entry_cmp code id e ≡ Less) (front at bs) b (behind at bs) n there.0 (front_lows code id at n d bs up' b_is block.up there) there.1,
      high_far (λ e. entry_cmp code id e ≡ Greater) (front at bs) b (behind at bs) n there.2 (behind_high code id at bs up filled block.over),
    )
  where
    b : List Entry
    b = get_or bs at d

    is : flat bs ≡ front at bs ++ (b ++ behind at bs)
    is = flat_at at d bs lt

    up' : AreInOrder (front at bs ++ (b ++ behind at bs))
    up' = subst AreInOrder is up

    b_is : 0 < length b
    b_is = filled_at at d bs lt filled

-- the blocks that begin up to a code and a number come first
not_over : (code : List ℕ) (id : ℕ) (e : Entry) (bs : List (List Entry)) → AllByRecursion (IsUpTo e) (flat bs) → AreFilled bs → (j : ℕ) (d : List Entry) → j < length bs → begins_up_to code id (get_or bs j d) ≡ true → not (is_gt (entry_cmp code id e)) ≡ true
not_over code id e [] up filled j d lt begins = absurd (omega arith)
not_over code id e ([] ∷ bs) up filled j d lt begins = absurd (omega (arith, filled.0))
not_over code id e ((h ∷ b) ∷ bs) up filled zero d lt begins = ap not (upto place_total (place e) (place h) (code, id) up.0 (not_greater (entry_cmp code id h) begins))
not_over code id e ((h ∷ b) ∷ bs) up filled (suc j) d lt begins = not_over code id e bs (all_right (IsUpTo e) (h ∷ b) (flat bs) up) filled.1 j d (omega arith) begins

pub heads_parted : (code : List ℕ) (id : ℕ) (bs : List (List Entry)) → AreInOrder (flat bs) → AreFilled bs → IsPartitionedBy (λ b. begins_up_to code id b) bs
heads_parted code id bs up filled = λ i j d le lt begins. at bs up filled i j d le lt begins
  where
    at : (cs : List (List Entry)) → AreInOrder (flat cs) → AreFilled cs → (i j : ℕ) (d : List Entry) → i ≤ j → j < length cs → begins_up_to code id (get_or cs j d) ≡ true → begins_up_to code id (get_or cs i d) ≡ true
    at [] order all i j d le lt begins = absurd (omega arith)
    at ([] ∷ cs) order all i j d le lt begins = absurd (omega (arith, all.0))
    at ((h ∷ c) ∷ cs) order all zero zero d le lt begins = begins
    at ((h ∷ c) ∷ cs) order all zero (suc j) d le lt begins = not_over code id h cs (all_right (IsUpTo h) c (flat cs) order.0) all.1 j d (omega arith) begins
    at ((h ∷ c) ∷ cs) order all (suc i) zero d le lt begins = absurd (omega arith)
    at ((h ∷ c) ∷ cs) order all (suc i) (suc j) d le lt begins = at cs (order_right (h ∷ c) (flat cs) order) all.1 i j d (omega arith) (omega arith) begins

-- the last block that begins up to a code and a number, by how many do
pub block_found : (code : List ℕ) (id count at : ℕ) (bs : List (List Entry)) → at ≡ count - 1 → AllWithin (λ b. begins_up_to code id b ≡ true) bs 0 count → AllWithin (λ b. begins_up_to code id b ≡ false) bs count (length bs) → IsBlockOf code id at bs
block_found code id count at bs is low high = record {
  up = λ some d. low at d (omega arith) (omega (arith, is));
  over = λ k d from lt. high k d (omega (arith, is)) lt;
}

-- an entry that was put into its block
pub put_is : (entry : Entry) (at place : ℕ) (b new : List Entry) (bs : List (List Entry)) → at < length bs → AreInOrder (flat bs) → AreFilled bs → b ≡ get_or bs at b → IsBlockOf entry.code.items entry.id at bs → IsIn entry.code.items entry.id at bs (Err place) → new ≡ insert b place entry → IsPutIn entry (flat bs) (flat (set bs at new))
put_is entry at place b new bs lt up filled b_is block there is = record {
  at = far (front at bs) place;
  place = place_is entry.code.items entry.id at b bs (Err place) lt up filled block (there b);
  is = flat_set at new bs lt
      ∙ (ap (λ (es : List Entry). front at bs ++ (es ++ behind at bs)) (is ∙ ap (λ (es : List Entry). insert es place entry) b_is)
      ∙ (sym (insert_far (front at bs) (get_or bs at b) (behind at bs) place entry (there b).0)
      ∙ ap (λ (es : List Entry). insert es (far (front at bs) place) entry) (sym (flat_at at b bs lt))));
}
