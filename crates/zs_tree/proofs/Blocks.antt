-- The entries of all blocks, with one block set apart.
use Rattle.std.proofs.Common.{◌≡◌, ℕ, zero, suc, ◌+◌, ◌<◌, ◌≤◌, Bool, true, false, List, [], ◌∷◌, ◌++◌, length, get_or, take, drop, set, Ok, Err, refl, sym, ap, ◌∙◌, subst, append_assoc, arith}
use Rattle.std.specs.List.{AllByRecursion, AllWithin, HoldsAt, insert, remove}
use Rattle.std.proofs.lemmas.List.Elements.{All-from_recursion}
use Rattle.zs_tree.specs.declared.entry.Entry.{Entry}
use Rattle.zs_tree.specs.Blocks.{flat, AreFilled, front, far}

-- the entries of the blocks behind the one at a place
abbrev pub behind : ℕ → List (List Entry) → List Entry
behind at [] = []
behind zero (b ∷ bs) = flat bs
behind (suc at) (b ∷ bs) = behind at bs

pub flat_at : (at : ℕ) (d : List Entry) (bs : List (List Entry)) → at < length bs → flat bs ≡ front at bs ++ (get_or bs at d ++ behind at bs)
flat_at at d [] lt = absurd (omega arith)
flat_at zero d (b ∷ bs) lt = refl
flat_at (suc at) d (b ∷ bs) lt = ap (λ (es : List Entry). b ++ es) (flat_at at d bs (omega arith)) ∙ sym (append_assoc b (front at bs) (get_or bs at d ++ behind at bs))

pub flat_set : (at : ℕ) (x : List Entry) (bs : List (List Entry)) → at < length bs → flat (set bs at x) ≡ front at bs ++ (x ++ behind at bs)
flat_set at x [] lt = absurd (omega arith)
flat_set zero x (b ∷ bs) lt = refl
flat_set (suc at) x (b ∷ bs) lt = ap (λ (es : List Entry). b ++ es) (flat_set at x bs (omega arith)) ∙ sym (append_assoc b (front at bs) (x ++ behind at bs))

pub flat_without : (at : ℕ) (bs : List (List Entry)) → at < length bs → flat (remove bs at) ≡ front at bs ++ behind at bs
flat_without at [] lt = absurd (omega arith)
flat_without zero (b ∷ bs) lt = refl
flat_without (suc at) (b ∷ bs) lt = ap (λ (es : List Entry). b ++ es) (flat_without at bs (omega arith)) ∙ sym (append_assoc b (front at bs) (behind at bs))

-- an empty block changes nothing
pub flat_empty : (at : ℕ) (bs : List (List Entry)) → at ≤ length bs → flat (insert bs at []) ≡ flat bs
flat_empty zero bs le = refl
flat_empty (suc at) [] le = absurd (omega arith)
flat_empty (suc at) (b ∷ bs) le = ap (λ (es : List Entry). b ++ es) (flat_empty at bs (omega arith))

-- a block in two
pub flat_split : (at : ℕ) (first second d : List Entry) (bs : List (List Entry)) → at < length bs → get_or bs at d ≡ first ++ second → flat (set (set (insert bs (suc at) []) at first) (suc at) second) ≡ flat bs
flat_split at first second d [] lt is = absurd (omega arith)
flat_split zero first second d (b ∷ bs) lt is = sym (append_assoc first second (flat bs)) ∙ ap (λ (es : List Entry). es ++ flat bs) (sym is)
flat_split (suc at) first second d (b ∷ bs) lt is = ap (λ (es : List Entry). b ++ es) (flat_split at first second d bs (omega arith) is)

pub filled_split : (at : ℕ) (first second : List Entry) (bs : List (List Entry)) → at < length bs → 0 < length first → 0 < length second → AreFilled bs → AreFilled (set (set (insert bs (suc at) []) at first) (suc at) second)
filled_split at first second [] lt some more all = absurd (omega arith)
filled_split zero first second (b ∷ bs) lt some more all = (some, (more, all.1))
filled_split (suc at) first second (b ∷ bs) lt some more all = (all.0, filled_split at first second bs (omega arith) some more all.1)

pub filled_set : (at : ℕ) (x : List Entry) (bs : List (List Entry)) → 0 < length x → AreFilled bs → AreFilled (set bs at x)
filled_set at x [] some all = tt
filled_set zero x (b ∷ bs) some all = (some, all.1)
filled_set (suc at) x (b ∷ bs) some all = (all.0, filled_set at x bs some all.1)

pub filled_without : (at : ℕ) (bs : List (List Entry)) → AreFilled bs → AreFilled (remove bs at)
filled_without zero [] all = tt
filled_without (suc at) [] all = tt
filled_without zero (b ∷ bs) all = all.1
filled_without (suc at) (b ∷ bs) all = (all.0, filled_without at bs all.1)

pub filled_drop : (n : ℕ) (bs : List (List Entry)) → AreFilled bs → AreFilled (drop n bs)
filled_drop zero bs all = all
filled_drop (suc n) [] all = tt
filled_drop (suc n) (b ∷ bs) all = filled_drop n bs all.1

pub behind_is : (at : ℕ) (bs : List (List Entry)) → behind at bs ≡ flat (drop (suc at) bs)
behind_is zero [] = refl
behind_is (suc at) [] = refl
behind_is zero (b ∷ bs) = refl
behind_is (suc at) (b ∷ bs) = behind_is at bs

-- an entry that is put into a block
in_block : (b rest : List Entry) (n : ℕ) (new : Entry) → n ≤ length b → insert (b ++ rest) n new ≡ insert b n new ++ rest
in_block b rest zero new le = refl
in_block [] rest (suc n) new le = absurd (omega arith)
in_block (e ∷ b) rest (suc n) new le = ap (λ (es : List Entry). e ∷ es) (in_block b rest n new (omega arith))

pub insert_far : (xs b rest : List Entry) (n : ℕ) (new : Entry) → n ≤ length b → insert (xs ++ (b ++ rest)) (far xs n) new ≡ xs ++ (insert b n new ++ rest)
insert_far [] b rest n new le = in_block b rest n new le
insert_far (x ∷ xs) b rest n new le = ap (λ (es : List Entry). x ∷ es) (insert_far xs b rest n new le)

-- an entry that is taken out of a block
out_of_block : (b rest : List Entry) (n : ℕ) → n < length b → remove (b ++ rest) n ≡ remove b n ++ rest
out_of_block [] rest n lt = absurd (omega arith)
out_of_block (e ∷ b) rest zero lt = refl
out_of_block (e ∷ b) rest (suc n) lt = ap (λ (es : List Entry). e ∷ es) (out_of_block b rest n (omega arith))

pub remove_far : (xs b rest : List Entry) (n : ℕ) → n < length b → remove (xs ++ (b ++ rest)) (far xs n) ≡ xs ++ (remove b n ++ rest)
remove_far [] b rest n lt = out_of_block b rest n lt
remove_far (x ∷ xs) b rest n lt = ap (λ (es : List Entry). x ∷ es) (remove_far xs b rest n lt)

-- what holds at a place of a block
pub holds_far : (P : Entry → Type 0) (xs b rest : List Entry) (n : ℕ) → n < length b → HoldsAt P b n → (far xs n < length (xs ++ (b ++ rest))) × HoldsAt P (xs ++ (b ++ rest)) (far xs n)
holds_far P [] b rest n lt is = here b n lt is
  where
    here : (c : List Entry) (m : ℕ) → m < length c → HoldsAt P c m → (m < length (c ++ rest)) × HoldsAt P (c ++ rest) m
    here [] m lt is = absurd (omega arith)
    here (e ∷ c) zero lt is = (omega arith, is)
    here (e ∷ c) (suc m) lt is = let more = here c m (omega arith) is in (omega (arith, more.0), more.1)
holds_far P (x ∷ xs) b rest n lt is = let more = holds_far P xs b rest n lt is in (omega (arith, more.0), more.1)

-- one more element before the places that something holds at
within_step : (P : Entry → Type 0) (x : Entry) (xs : List Entry) (n : ℕ) → P x → AllWithin P xs 0 n → AllWithin P (x ∷ xs) 0 (suc n)
within_step P x xs n first all zero d from lt = first
within_step P x xs n first all (suc k) d from lt = all k d (omega arith) (omega arith)

above_step : (P : Entry → Type 0) (x : Entry) (xs : List Entry) (n end : ℕ) → AllWithin P xs n end → AllWithin P (x ∷ xs) (suc n) (suc end)
above_step P x xs n end all zero d from lt = absurd (omega arith)
above_step P x xs n end all (suc k) d from lt = all k d (omega arith) (omega arith)

low_here : (P : Entry → Type 0) (c rest : List Entry) (m : ℕ) → m ≤ length c → AllWithin P c 0 m → AllWithin P (c ++ rest) 0 m
low_here P c rest zero le low = λ k d from lt. absurd (omega arith)
low_here P [] rest (suc m) le low = absurd (omega arith)
low_here P (e ∷ c) rest (suc m) le low = within_step P e (c ++ rest) m (low 0 e (omega arith) (omega arith)) (low_here P c rest m (omega arith) (λ k d from lt. low (suc k) d (omega arith) (omega arith)))

-- what holds of all entries before a place of a block
pub low_far : (P : Entry → Type 0) (xs b rest : List Entry) (n : ℕ) → n ≤ length b → AllByRecursion P xs → AllWithin P b 0 n → AllWithin P (xs ++ (b ++ rest)) 0 (far xs n)
low_far P [] b rest n le all low = low_here P b rest n le low
low_far P (x ∷ xs) b rest n le all low = within_step P x (xs ++ (b ++ rest)) (far xs n) all.0 (low_far P xs b rest n le all.1 low)

high_here : (P : Entry → Type 0) (c rest : List Entry) (m : ℕ) → AllWithin P c m (length c) → AllByRecursion P rest → AllWithin P (c ++ rest) m (length (c ++ rest))
high_here P [] rest m high all = λ k d from lt. All-from_recursion P rest all k d lt
high_here P (e ∷ c) rest zero high all = within_step P e (c ++ rest) (length (c ++ rest)) (high 0 e (omega arith) (omega arith)) (high_here P c rest 0 (λ k d from lt. high (suc k) d (omega arith) (omega arith)) all)
high_here P (e ∷ c) rest (suc m) high all = above_step P e (c ++ rest) m (length (c ++ rest)) (high_here P c rest m (λ k d from lt. high (suc k) d (omega arith) (omega arith)) all)

-- and of all from there on
pub high_far : (P : Entry → Type 0) (xs b rest : List Entry) (n : ℕ) → AllWithin P b n (length b) → AllByRecursion P rest → AllWithin P (xs ++ (b ++ rest)) (far xs n) (length (xs ++ (b ++ rest)))
high_far P [] b rest n high all = high_here P b rest n high all
high_far P (x ∷ xs) b rest n high all = above_step P x (xs ++ (b ++ rest)) (far xs n) (length (xs ++ (b ++ rest))) (high_far P xs b rest n high all)

pub far_within : (xs b rest : List Entry) (n : ℕ) → n ≤ length b → far xs n ≤ length (xs ++ (b ++ rest))
far_within [] b rest n le = here b n le
  where
    here : (c : List Entry) (m : ℕ) → m ≤ length c → m ≤ length (c ++ rest)
    here c zero le = omega arith
    here [] (suc m) le = absurd (omega arith)
    here (e ∷ c) (suc m) le = let more = here c m (omega arith) in omega (arith, more)
far_within (x ∷ xs) b rest n le = let more = far_within xs b rest n le in omega (arith, more)

-- a block before a new one
pub still_at : (at : ℕ) (x d : List Entry) (bs : List (List Entry)) → at < length bs → get_or (insert bs (suc at) x) at d ≡ get_or bs at d
still_at at x d [] lt = absurd (omega arith)
still_at zero x d (b ∷ bs) lt = refl
still_at (suc at) x d (b ∷ bs) lt = still_at at x d bs (omega arith)

pub same_at : (at : ℕ) (c d : List Entry) (bs : List (List Entry)) → at < length bs → get_or bs at c ≡ get_or bs at d
same_at at c d [] lt = absurd (omega arith)
same_at zero c d (b ∷ bs) lt = refl
same_at (suc at) c d (b ∷ bs) lt = same_at at c d bs (omega arith)

-- the last entry of a block
only : (b : List Entry) (n : ℕ) → n < length b → length b ≤ 1 → remove b n ≡ []
only [] n lt le = absurd (omega arith)
only (e ∷ []) zero lt le = refl
only (e ∷ []) (suc n) lt le = absurd (omega arith)
only (e ∷ (f ∷ es)) n lt le = absurd (omega arith)

-- the entries without one of a block
pub without_is : (at place : ℕ) (b new : List Entry) (bs : List (List Entry)) → at < length bs → b ≡ get_or bs at b → place < length b → new ≡ remove b place → flat (set bs at new) ≡ remove (flat bs) (far (front at bs) place)
without_is at place b new bs lt b_is place_lt is =
    flat_set at new bs lt
    ∙ (ap (λ (es : List Entry). front at bs ++ (es ++ behind at bs)) is
    ∙ (sym (remove_far (front at bs) b (behind at bs) place place_lt)
    ∙ ap (λ (es : List Entry). remove es (far (front at bs) place)) (ap (λ (es : List Entry). front at bs ++ (es ++ behind at bs)) b_is ∙ sym (flat_at at b bs lt))))

pub last_out : (at place : ℕ) (d : List Entry) (bs : List (List Entry)) → at < length bs → place < length (get_or bs at d) → length (get_or bs at d) ≤ 1 → flat (remove bs at) ≡ remove (flat bs) (far (front at bs) place)
last_out at place d bs lt place_lt le =
    flat_without at bs lt
    ∙ (sym (ap (λ (es : List Entry). front at bs ++ (es ++ behind at bs)) (only (get_or bs at d) place place_lt le))
    ∙ (sym (remove_far (front at bs) (get_or bs at d) (behind at bs) place place_lt)
    ∙ ap (λ (es : List Entry). remove es (far (front at bs) place)) (sym (flat_at at d bs lt))))
