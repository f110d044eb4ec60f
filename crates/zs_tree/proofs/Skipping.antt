-- What a look-up leaves out of the blocks that it has before it.
use Rattle.std.proofs.Common.{◌≡◌, ℕ, zero, suc, ◌+◌, ◌<◌, ◌≤◌, Bool, true, false, List, [], ◌∷◌, ◌++◌, length, get_or, take, drop, refl, sym, ap, ◌∙◌, subst, append_assoc, append-nil, length-append, arith}
use Rattle.std.specs.Prelude.{◌==◌}
use Rattle.std.specs.List.{AllByRecursion, AllWithin}
use Rattle.std.proofs.lemmas.Bool.Decides.{nat_tests}
use Rattle.std.proofs.lemmas.List.{nil_from_length}
use Rattle.std.specs.List.Sorted.{IsPartitionedBy}
use Rattle.zs_tree.specs.declared.entry.Entry.{Entry}
use Rattle.zs_tree.specs.declared.left.Left.{Left}
use Rattle.zs_tree.specs.declared.runs.Bound.{Bound}
use Rattle.zs_tree.specs.Entries.{IsUpTo, AreInOrder}
use Rattle.zs_tree.specs.Runs.{lies, BeginsWithin}
use Rattle.zs_tree.specs.Blocks.{flat, AreFilled, begins_within, left_of, LeavesOut, LieBehind, EntersAt, front}
use Rattle.zs_tree.proofs.Blocks.{behind, flat_at, behind_is, filled_drop}
use Rattle.zs_tree.proofs.HitLemmas.{order_right}
use Rattle.zs_tree.proofs.Placing.{up_to_it, all_right}
use Rattle.zs_tree.proofs.RunLemmas.{lies_between, code_upto}

-- what stands between two entries that lie there lies there
between : (path : List ℕ) (bound : Bound) (f e h : Entry) → lies path bound f.code.items ≡ true → IsUpTo f e → IsUpTo e h → lies path bound h.code.items ≡ true → lies path bound e.code.items ≡ true
between path bound f e h there low high at_end = lies_between path bound f.code.items e.code.items h.code.items there (code_upto f e low) (code_upto e h high) at_end

all_between : (path : List ℕ) (bound : Bound) (f h : Entry) (xs : List Entry) → lies path bound f.code.items ≡ true → lies path bound h.code.items ≡ true → AllByRecursion (IsUpTo f) xs → AllByRecursion (λ x. IsUpTo x h) xs → AllByRecursion (λ x. lies path bound x.code.items ≡ true) xs
all_between path bound f h [] there at_end low high = tt
all_between path bound f h (x ∷ xs) there at_end low high = (between path bound f x h there low.0 high.0 at_end, all_between path bound f h xs there at_end low.1 high.1)

all_left : (P : Entry → Type 0) (xs ys : List Entry) → AllByRecursion P (xs ++ ys) → AllByRecursion P xs
all_left P [] ys all = tt
all_left P (x ∷ xs) ys all = (all.0, all_left P xs ys all.1)

pub order_left : (xs ys : List Entry) → AreInOrder (xs ++ ys) → AreInOrder xs
order_left [] ys up = tt
order_left (x ∷ xs) ys up = (all_left (IsUpTo x) xs ys up.0, order_left xs ys up.1)

-- of two blocks the first begins there if the second does
first_within : (path : List ℕ) (bound : Bound) (f e : Entry) (bs : List (List Entry)) → lies path bound f.code.items ≡ true → IsUpTo f e → AllByRecursion (IsUpTo e) (flat bs) → AreFilled bs → (j : ℕ) (d : List Entry) → j < length bs → begins_within path bound (get_or bs j d) ≡ true → lies path bound e.code.items ≡ true
first_within path bound f e [] there low up filled j d lt begins = absurd (omega arith)
first_within path bound f e ([] ∷ bs) there low up filled j d lt begins = absurd (omega (arith, filled.0))
first_within path bound f e ((h ∷ b) ∷ bs) there low up filled zero d lt begins = between path bound f e h there low up.0 begins
first_within path bound f e ((h ∷ b) ∷ bs) there low up filled (suc j) d lt begins = first_within path bound f e bs there low (all_right (IsUpTo e) (h ∷ b) (flat bs) up) filled.1 j d (omega arith) begins

-- the blocks that begin there come first
pub within_parted : (path : List ℕ) (bound : Bound) (bs : List (List Entry)) → LieBehind path bound (flat bs) → AreFilled bs → IsPartitionedBy (λ b. begins_within path bound b) bs
within_parted path bound bs lie filled = λ i j d le lt begins. at bs lie.behind lie.order filled i j d le lt begins
  where
    at : (cs : List (List Entry)) → AllByRecursion (IsUpTo lie.first) (flat cs) → AreInOrder (flat cs) → AreFilled cs → (i j : ℕ) (d : List Entry) → i ≤ j → j < length cs → begins_within path bound (get_or cs j d) ≡ true → begins_within path bound (get_or cs i d) ≡ true
    at [] low order all i j d le lt begins = absurd (omega arith)
    at ([] ∷ cs) low order all i j d le lt begins = absurd (omega (arith, all.0))
    at ((h ∷ c) ∷ cs) low order all zero zero d le lt begins = begins
    at ((h ∷ c) ∷ cs) low order all zero (suc j) d le lt begins = first_within path bound lie.first h cs lie.there low.0 (all_right (IsUpTo h) c (flat cs) order.0) all.1 j d (omega arith) begins
    at ((h ∷ c) ∷ cs) low order all (suc i) zero d le lt begins = absurd (omega arith)
    at ((h ∷ c) ∷ cs) low order all (suc i) (suc j) d le lt begins = at cs (all_right (IsUpTo lie.first) (h ∷ c) (flat cs) low) (order_right (h ∷ c) (flat cs) order) all.1 i j d (omega arith) (omega arith) begins

-- a block that begins there
pub begins_there : (path : List ℕ) (bound : Bound) (b : List Entry) → begins_within path bound b ≡ true → BeginsWithin path bound b
begins_there path bound [] begins = absurd (cc)
begins_there path bound (e ∷ es) begins = begins

-- a block of some in order
pub block_order : (at : ℕ) (d : List Entry) (bs : List (List Entry)) → at < length bs → AreInOrder (flat bs) → AreInOrder (get_or bs at d)
block_order at d bs lt up = order_left (get_or bs at d) (behind at bs) (order_right (front at bs) (get_or bs at d ++ behind at bs) (subst AreInOrder (flat_at at d bs lt) up))

front_there : (path : List ℕ) (bound : Bound) (at : ℕ) (b : List Entry) (bs : List (List Entry)) (rest : List Entry) → LieBehind path bound (front at bs ++ (b ++ rest)) → BeginsWithin path bound b → AllByRecursion (λ e. lies path bound e.code.items ≡ true) (front at bs)
front_there path bound at [] bs rest lie begins = absurd begins
front_there path bound at (h ∷ b) bs rest lie begins =
    all_between path bound lie.first h (front at bs) lie.there begins
    (all_left (IsUpTo lie.first) (front at bs) (h ∷ (b ++ rest)) lie.behind)
    (up_to_it (front at bs) h (b ++ rest) lie.order)

all_both : (P : Entry → Type 0) (xs ys : List Entry) → AllByRecursion P xs → AllByRecursion P ys → AllByRecursion P (xs ++ ys)
all_both P [] ys all more = more
all_both P (x ∷ xs) ys all more = (all.0, all_both P xs ys all.1 more)

-- what is left of blocks behind those entries that lie there
pub blocks_left : (path : List ℕ) (bound : Bound) (at : ℕ) (d run block : List Entry) (bs : List (List Entry)) → at < length bs → LieBehind path bound (flat bs) → begins_within path bound (get_or bs at d) ≡ true → get_or bs at d ≡ run ++ block → AllByRecursion (λ e. lies path bound e.code.items ≡ true) run → LeavesOut path bound (flat bs) (block ++ flat (drop (suc at) bs))
blocks_left path bound at d run block bs lt lie begins parts there = record {
  run = front at bs ++ run;
  parts = is ∙ (ap (λ (es : List Entry). front at bs ++ (es ++ behind at bs)) parts
      ∙ (ap (λ (es : List Entry). front at bs ++ es) (append_assoc run block (behind at bs))
      ∙ (sym (append_assoc (front at bs) run (block ++ behind at bs)) ∙ ap (λ (es : List Entry). (front at bs ++ run) ++ (block ++ es)) (behind_is at bs))));
  there = all_both (λ e. lies path bound e.code.items ≡ true) (front at bs) run
      (front_there path bound at (get_or bs at d) bs (behind at bs) (subst (LieBehind path bound) is lie) (begins_there path bound (get_or bs at d) begins)) there;
}
  where
    is : flat bs ≡ front at bs ++ (get_or bs at d ++ behind at bs)
    is = flat_at at d bs lt

-- none is left out
pub none_left_out : (path : List ℕ) (bound : Bound) (all : List Entry) → LeavesOut path bound all all
none_left_out path bound all = record { run = []; parts = refl; there = tt }

-- what is left behind the run of a block
pub run_left : (path : List ℕ) (bound : Bound) (all run block rest : List Entry) → all ≡ run ++ block → AllByRecursion (λ e. lies path bound e.code.items ≡ true) run → LeavesOut path bound (all ++ rest) (block ++ rest)
run_left path bound all run block rest parts there = record { run = run; parts = ap (λ (es : List Entry). es ++ rest) parts ∙ append_assoc run block rest; there = there }

-- and behind that of a whole block with the blocks behind it
pub more_left : (path : List ℕ) (bound : Bound) (all run block rest left : List Entry) → all ≡ run ++ block → block ≡ [] → AllByRecursion (λ e. lies path bound e.code.items ≡ true) run → LeavesOut path bound rest left → LeavesOut path bound (all ++ rest) left
more_left path bound all run block rest left parts none there more = record {
  run = run ++ more.run;
  parts = ap (λ (es : List Entry). es ++ rest) (parts ∙ (ap (λ (es : List Entry). run ++ es) none ∙ append-nil run))
      ∙ (ap (λ (es : List Entry). run ++ es) more.parts ∙ sym (append_assoc run more.run left));
  there = all_both (λ e. lies path bound e.code.items ≡ true) run more.run there more.there;
}

-- the entries behind a block that begins there
pub lie_behind : (path : List ℕ) (bound : Bound) (block rest : List Entry) → AreInOrder (block ++ rest) → BeginsWithin path bound block → LieBehind path bound rest
lie_behind path bound [] rest up begins = absurd begins
lie_behind path bound (f ∷ block) rest up begins = record { first = f; there = begins; behind = all_right (IsUpTo f) block rest up.0; order = order_right (f ∷ block) rest up }

pub leaves_fewer : (path : List ℕ) (bound : Bound) (all rest : List Entry) (left : LeavesOut path bound all rest) → 0 < length left.run → length rest < length all
leaves_fewer path bound all rest left some = omega (arith, ap length left.parts, length-append left.run rest)

pub some_more : (xs ys : List Entry) → 0 < length xs → 0 < length (xs ++ ys)
some_more xs ys some = omega (arith, length-append xs ys)

-- what is entered
pub enters_is : (first : Entry) (all : List Entry) (left : Left) (e : EntersAt first all left) → all ≡ first ∷ (e.rest ++ flat left.later.now)
enters_is first all left e = sym e.same ∙ ap (λ (es : List Entry). es ++ flat left.later.now) e.begins

pub enters_all : (first : Entry) (all : List Entry) (left : Left) → EntersAt first all left → AreInOrder all → AreInOrder (left_of left)
enters_all first all left e up = subst AreInOrder (sym e.same) up

pub enters_order : (first : Entry) (all : List Entry) (left : Left) → EntersAt first all left → AreInOrder all → AreInOrder left.block.now
enters_order first all left e up = order_left left.block.now (flat left.later.now) (enters_all first all left e up)

pub enters_begins : (path : List ℕ) (bound : Bound) (first : Entry) (all : List Entry) (left : Left) → EntersAt first all left → lies path bound first.code.items ≡ true → BeginsWithin path bound left.block.now
enters_begins path bound first all left e there = subst (BeginsWithin path bound) (sym e.begins) there

pub empty_is : (b : Bool) (xs : List Entry) → b ≡ (length xs == 0) → b ≡ true → xs ≡ []
empty_is b xs is empty = nil_from_length xs (no_length (length xs) (sym is ∙ empty))
  where
    no_length : (n : ℕ) → (n == 0) ≡ true → n ≡ 0
    no_length n p = grind (arith, nat_tests, p)
