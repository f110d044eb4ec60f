-- Totals of weights: after a change of views, and beside one another.
use Rattle.std.proofs.Common.{◌≡◌, ℕ, zero, suc, ◌+◌, ◌≤◌, true, false, List, [], ◌∷◌, ◌++◌, set, refl, sym, ap, arith}
use mathlib.Core.Option.{some, some-ne-none, some-injective}
use lib.ListN.{get_elem?}
use Rattle.zs_gate.specs.declared.view.View.{View}
use Rattle.zs_gate.specs.declared.view.View.TheVariants.{Keeper, Door, Out, Inside, Knock, Spent}
use Rattle.zs_gate.specs.declared.view.Phase.TheVariants.{Open, Draining, Drained}
use Rattle.zs_gate.specs.Views.{total, keeper, door_keeper, marked_keeper, drained_keeper, door, number, pass, counted_pass, inside_pass, late_pass}

pub total-set : (f : View → ℕ) (views : List View) (i : ℕ) (v w : View) → get_elem? views i ≡ some v → total f (set views i w) + f v ≡ total f views + f w
total-set f [] i v w at = absurd (some-ne-none v (sym at))
total-set f (x ∷ xs) zero v w at = let e : f x ≡ f v = ap f (some-injective x v at) in omega arith
total-set f (x ∷ xs) (suc i) v w at = let ih = total-set f xs i v w at in omega arith

pub total-snoc : (f : View → ℕ) (views : List View) (w : View) → total f (views ++ w ∷ []) ≡ total f views + f w
total-snoc f [] w = omega arith
total-snoc f (x ∷ xs) w = let ih = total-snoc f xs w in omega arith

-- what the totals of the new views are to those of the old: `gone` went, `came` came
pub record Sums (old new : List View) (gone came : (View → ℕ) → ℕ) : Type 0 where
  pub keepers : total keeper new + gone keeper ≡ total keeper old + came keeper
  pub door_keepers : total door_keeper new + gone door_keeper ≡ total door_keeper old + came door_keeper
  pub marks : total marked_keeper new + gone marked_keeper ≡ total marked_keeper old + came marked_keeper
  pub drains : total drained_keeper new + gone drained_keeper ≡ total drained_keeper old + came drained_keeper
  pub doors : total door new + gone door ≡ total door old + came door
  pub numbers : total number new + gone number ≡ total number old + came number
  pub passes : total pass new + gone pass ≡ total pass old + came pass
  pub counts : total counted_pass new + gone counted_pass ≡ total counted_pass old + came counted_pass
  pub insides : total inside_pass new + gone inside_pass ≡ total inside_pass old + came inside_pass
  pub lates : total late_pass new + gone late_pass ≡ total late_pass old + came late_pass

sums : (old new : List View) (gone came : (View → ℕ) → ℕ) → ((f : View → ℕ) → total f new + gone f ≡ total f old + came f) → Sums old new gone came
sums old new gone came is = record {
  keepers = is keeper;
  door_keepers = is door_keeper;
  marks = is marked_keeper;
  drains = is drained_keeper;
  doors = is door;
  numbers = is number;
  passes = is pass;
  counts = is counted_pass;
  insides = is inside_pass;
  lates = is late_pass;
}

-- one view changed
pub changed : (views : List View) (i : ℕ) (v w : View) → get_elem? views i ≡ some v → Sums views (set views i w) (λ f. f v) (λ f. f w)
changed views i v w at = sums views (set views i w) (λ f. f v) (λ f. f w) (λ f. total-set f views i v w at)

-- one view was cut in two
pub cut : (views : List View) (i : ℕ) (v left right : View) → get_elem? views i ≡ some v → Sums views (set views i left ++ right ∷ []) (λ f. f v) (λ f. f left + f right)
cut views i v left right at = sums views (set views i left ++ right ∷ []) (λ f. f v) (λ f. f left + f right)
    (λ f. let s = total-set f views i v left at in let t = total-snoc f (set views i left) right in omega arith)

-- a view took in another
pub joined : (views : List View) (i j : ℕ) (v w both spent : View) → get_elem? views i ≡ some v → get_elem? (set views i both) j ≡ some w → Sums views (set (set views i both) j spent) (λ f. f v + f w) (λ f. f both + f spent)
joined views i j v w both spent at there = sums views (set (set views i both) j spent) (λ f. f v + f w) (λ f. f both + f spent)
    (λ f. let s = total-set f views i v both at in let t = total-set f (set views i both) j w spent there in omega arith)

total-le : (f g : View → ℕ) → ((v : View) → f v ≤ g v) → (views : List View) → total f views ≤ total g views
total-le f g le [] = omega arith
total-le f g le (v ∷ vs) = let h = le v in let ih = total-le f g le vs in omega arith

-- what the weights are to one another, whatever the views are
pub record Bounds (views : List View) : Type 0 where
  pub marks : total marked_keeper views ≤ total keeper views
  pub door_keepers : total door_keeper views ≤ total keeper views
  pub drains : total drained_keeper views ≤ total marked_keeper views
  pub insides : total inside_pass views ≤ total counted_pass views
  pub counts : total counted_pass views ≤ total pass views
  pub lates : total late_pass views ≤ total pass views
  pub numbers : total door views ≡ 0 → total number views ≡ 0

marked_keeper_le : (v : View) → marked_keeper v ≤ keeper v
marked_keeper_le (Keeper has_door Open) = omega arith
marked_keeper_le (Keeper has_door (Draining looks count)) = omega arith
marked_keeper_le (Keeper has_door Drained) = omega arith
marked_keeper_le (Door out) = omega arith
marked_keeper_le (Out noted) = omega arith
marked_keeper_le Inside = omega arith
marked_keeper_le Knock = omega arith
marked_keeper_le Spent = omega arith

door_keeper_le : (v : View) → door_keeper v ≤ keeper v
door_keeper_le (Keeper true phase) = omega arith
door_keeper_le (Keeper false phase) = omega arith
door_keeper_le (Door out) = omega arith
door_keeper_le (Out noted) = omega arith
door_keeper_le Inside = omega arith
door_keeper_le Knock = omega arith
door_keeper_le Spent = omega arith

drained_keeper_le : (v : View) → drained_keeper v ≤ marked_keeper v
drained_keeper_le (Keeper has_door Open) = omega arith
drained_keeper_le (Keeper has_door (Draining looks count)) = omega arith
drained_keeper_le (Keeper has_door Drained) = omega arith
drained_keeper_le (Door out) = omega arith
drained_keeper_le (Out noted) = omega arith
drained_keeper_le Inside = omega arith
drained_keeper_le Knock = omega arith
drained_keeper_le Spent = omega arith

inside_pass_le : (v : View) → inside_pass v ≤ counted_pass v
inside_pass_le (Keeper has_door phase) = omega arith
inside_pass_le (Door out) = omega arith
inside_pass_le (Out noted) = omega arith
inside_pass_le Inside = omega arith
inside_pass_le Knock = omega arith
inside_pass_le Spent = omega arith

counted_pass_le : (v : View) → counted_pass v ≤ pass v
counted_pass_le (Keeper has_door phase) = omega arith
counted_pass_le (Door out) = omega arith
counted_pass_le (Out noted) = omega arith
counted_pass_le Inside = omega arith
counted_pass_le Knock = omega arith
counted_pass_le Spent = omega arith

late_pass_le : (v : View) → late_pass v ≤ pass v
late_pass_le (Keeper has_door phase) = omega arith
late_pass_le (Door out) = omega arith
late_pass_le (Out true) = omega arith
late_pass_le (Out false) = omega arith
late_pass_le Inside = omega arith
late_pass_le Knock = omega arith
late_pass_le Spent = omega arith

number-none : (v : View) → door v ≡ 0 → number v ≡ 0
number-none (Keeper has_door phase) none = refl
number-none (Door out) none = absurd (omega arith)
number-none (Out noted) none = refl
number-none Inside none = refl
number-none Knock none = refl
number-none Spent none = refl

numbers-none : (views : List View) → total door views ≡ 0 → total number views ≡ 0
numbers-none [] none = refl
numbers-none (v ∷ vs) none =
    let here : number v ≡ 0 = number-none v (omega arith) in
    let rest : total number vs ≡ 0 = numbers-none vs (omega arith) in
    omega arith

pub bounds : (views : List View) → Bounds views
bounds views = record {
  marks = total-le marked_keeper keeper marked_keeper_le views;
  door_keepers = total-le door_keeper keeper door_keeper_le views;
  drains = total-le drained_keeper marked_keeper drained_keeper_le views;
  insides = total-le inside_pass counted_pass inside_pass_le views;
  counts = total-le counted_pass pass counted_pass_le views;
  lates = total-le late_pass pass late_pass_le views;
  numbers = numbers-none views;
}
