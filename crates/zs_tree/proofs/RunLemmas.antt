-- Runs of entries in their order.
use Rattle.std.proofs.Common.{◌≡◌, ℕ, zero, suc, ◌<◌, ◌≤◌, Bool, true, false, List, [], ◌∷◌, ◌++◌, length, get_or, take, drop, string_bytes, refl, sym, ◌∙◌, ap, arith, append-nil}
use Rattle.std.specs.List.{AllByRecursion, AllWithin}
use Rattle.std.specs.List.Sorted.{IsPartitionedBy}
use Rattle.std.specs.Ordering.{nat_cmp, is_gt, is_lt, ordering_then}
use Rattle.std.specs.declared.cmp.Ordering.{Ordering}
use Rattle.std.specs.declared.cmp.Ordering.TheVariants.{Less, Equal, Greater}
use Rattle.std.specs.Cmp.Lexicographic.{nat_list_cmp_total}
use Rattle.std.proofs.lemmas.Cmp.{tied_itself}
use Rattle.std.proofs.lemmas.List.Elements.{All-from_recursion}
use Rattle.zs_keys.specs.Text.{chunks}
use Rattle.zs_tree.specs.declared.entry.Entry.{Entry}
use Rattle.zs_tree.specs.declared.runs.Bound.{Bound}
use Rattle.zs_tree.specs.declared.runs.Bound.TheVariants.{Open, Below, Closed}
use Rattle.zs_tree.specs.declared.code.Beside.{Beside}
use Rattle.zs_tree.specs.declared.code.Beside.TheVariants.{Before, Within, Behind}
use Rattle.zs_tree.specs.Code.{IsBy, onto_chunk, code_cmp}
use Rattle.zs_tree.specs.Entries.{IsUpTo, AreInOrder}
use Rattle.zs_tree.specs.Runs.{within, lies, BeginsWithin, is_nil}
use Rattle.zs_tree.proofs.Codes.{UpTo, front_between}
use Rattle.zs_tree.proofs.Beside.{cmp_onto}
use Rattle.zs_tree.proofs.Missed.{lies-path, lies-parts}

-- what does not come before a chunk
pub not_before : (chunk rest : List ℕ) (r : Beside) → IsBy (onto_chunk 2 chunk) rest r → (r ≡ Before → ⊥)
    → false ≡ is_lt (code_cmp rest (onto_chunk 2 chunk []))
not_before chunk rest Before h k = absurd (k refl)
not_before chunk rest (Within more) h k = rw (h, cmp_onto 2 chunk more.now []) (at_end more.now)
  where
    at_end : (code : List ℕ) → false ≡ is_lt (code_cmp code [])
    at_end [] = refl
    at_end (x ∷ code) = refl
not_before chunk rest Behind h k = rw (h []) refl

upto_of : (o p : Ordering) → is_gt (ordering_then o p) ≡ false → is_gt o ≡ false
upto_of Less p h = refl
upto_of Equal p h = refl
upto_of Greater p h = h

-- entries in order have codes in order
pub code_upto : (e f : Entry) → IsUpTo e f → UpTo e.code.items f.code.items
code_upto e f h = upto_of (code_cmp e.code.items f.code.items) (nat_cmp e.id f.id) h

pub upto_itself : (code : List ℕ) → UpTo code code
upto_itself code = rw (tied_itself nat_list_cmp_total code) refl

pub order_at : (es : List Entry) → AreInOrder es → (i j : ℕ) (d : Entry) → i ≤ j → j < length es
    → UpTo (get_or es i d).code.items (get_or es j d).code.items
order_at [] up i j d le lt = absurd (omega arith)
order_at (e ∷ es) up zero zero d le lt = upto_itself e.code.items
order_at (e ∷ es) up zero (suc j) d le lt =
    code_upto e (get_or es j d) (All-from_recursion (IsUpTo e) es up.0 j d (omega arith))
order_at (e ∷ es) up (suc i) zero d le lt = absurd (omega arith)
order_at (e ∷ es) up (suc i) (suc j) d le lt = order_at es up.1 i j d (omega arith) (omega arith)

below_of : (m r h : List ℕ) (o : Ordering) → code_cmp m r ≡ o → is_gt o ≡ false → is_lt (code_cmp r h) ≡ true → is_lt (code_cmp m h) ≡ true
below_of m r h Less is up lt = go (code_cmp r h) refl lt
  where
    go : (p : Ordering) → code_cmp r h ≡ p → is_lt p ≡ true → is_lt (code_cmp m h) ≡ true
    go Less there l = rw (nat_list_cmp_total.trans m r h is there) refl
    go Equal there l = absurd (cc)
    go Greater there l = absurd (cc)
below_of m r h Equal is up lt = rw (nat_list_cmp_total.congr m r h is) lt
below_of m r h Greater is up lt = absurd (cc)

nil_up : (m : List ℕ) → UpTo m [] → is_nil m ≡ true
nil_up [] h = refl
nil_up (x ∷ m) h = absurd (cc)

-- what stands up to something within a bound is within it
within_down : (bound : Bound) (m r : List ℕ) → UpTo m r → within bound r ≡ true → within bound m ≡ true
within_down Open m r up h = refl
within_down (Below chunk) m r up h = below_of m r (onto_chunk 2 chunk.now []) (code_cmp m r) refl up h
within_down Closed m [] up h = nil_up m up
within_down Closed m (x ∷ r) up h = absurd (cc)

-- what stands between two codes that lie there lies there
pub lies_between : (path : List ℕ) (bound : Bound) (a b d : List ℕ) → lies path bound a ≡ true → UpTo a b → UpTo b d
    → lies path bound d ≡ true → lies path bound b ≡ true
lies_between path bound a b d h low high k =
    let (ra, a_is, a_in) = lies-parts path a bound h in
    let (rd, d_is, d_in) = lies-parts path d bound k in
    let (m, b_is, up, down) = front_between path ra b rd (rw a_is at low) (rw d_is at high) in
    rw b_is (lies-path path m bound (within_down bound m rd down d_in))

-- of entries in order, of which the first lies there, none does behind one that does not
pub parted : (path : List ℕ) (bound : Bound) (es : List Entry) → AreInOrder es → BeginsWithin path bound es
    → IsPartitionedBy (λ (e : Entry). lies path bound e.code.items) es
parted path bound [] up first = absurd first
parted path bound (e ∷ es) up first = λ i j d le lt h.
    lies_between path bound e.code.items (get_or (e ∷ es) i d).code.items (get_or (e ∷ es) j d).code.items first
    (order_at (e ∷ es) up zero i d (omega arith) (omega arith)) (order_at (e ∷ es) up i j d le lt) h

all_take : (P : Entry → Type 0) (n : ℕ) (es : List Entry) → AllByRecursion P es → AllByRecursion P (take n es)
all_take P zero es h = tt
all_take P (suc n) [] h = tt
all_take P (suc n) (e ∷ es) h = (h.0, all_take P n es h.1)

pub order_take : (n : ℕ) (es : List Entry) → AreInOrder es → AreInOrder (take n es)
order_take zero es h = tt
order_take (suc n) [] h = tt
order_take (suc n) (e ∷ es) h = (all_take (IsUpTo e) n es h.0, order_take n es h.1)

pub begins_take : (path : List ℕ) (bound : Bound) (n : ℕ) (es : List Entry) → 0 < n → BeginsWithin path bound es
    → BeginsWithin path bound (take n es)
begins_take path bound zero es h first = absurd (omega arith)
begins_take path bound (suc n) [] h first = first
begins_take path bound (suc n) (e ∷ es) h first = first

-- the entries before a point of a front
pub all_front : (P : Entry → Type 0) (at end : ℕ) (es : List Entry) → at ≤ length (take end es) → AllWithin P (take end es) 0 at
    → AllByRecursion P (take at es)
all_front P zero end es le h = tt
all_front P (suc at) end [] le h = tt
all_front P (suc at) zero (e ∷ es) le h = absurd (omega arith)
all_front P (suc at) (suc end) (e ∷ es) le h =
    (h 0 e (omega arith) (omega arith), all_front P at end es (omega arith) (λ k d low lt. h (suc k) d (omega arith) (omega arith)))

-- the first entry is before the point
pub some_front : (path : List ℕ) (bound : Bound) (at end : ℕ) (es : List Entry) → 0 < end → BeginsWithin path bound es
    → AllWithin (λ (e : Entry). lies path bound e.code.items ≡ false) (take end es) at (length (take end es)) → 0 < length (take at es)
some_front path bound at end [] h first out = absurd first
some_front path bound at zero (e ∷ es) h first out = absurd (omega arith)
some_front path bound zero (suc end) (e ∷ es) h first out =
    let there : lies path bound e.code.items ≡ false = out 0 e (omega arith) (omega arith) in absurd (cc)
some_front path bound (suc at) (suc end) (e ∷ es) h first out = omega arith

pub begins_some : (path : List ℕ) (bound : Bound) (es : List Entry) → BeginsWithin path bound es → 0 < length es
begins_some path bound [] first = absurd first
begins_some path bound (e ∷ es) first = omega arith
