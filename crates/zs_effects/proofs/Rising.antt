-- Effects whose places are in a range, and that ascend in each place.
use Rattle.std.proofs.Common.{◌≡◌, ◌≤◌, ◌<◌, ℕ, ◌+◌, List, [], ◌∷◌, ◌++◌, Bool, true, false, refl, arith, map}
use Rattle.std.specs.Prelude.{if◌then◌else◌}
use Rattle.std.specs.List.{AllByRecursion, flat_map}
use Rattle.zs_sample.specs.Reply.{Replied}
use Rattle.zs_subscriptions.specs.Ascending.{Ascend}
use Rattle.zs_subscriptions.proofs.Ascending.{all_map}
use Rattle.zs_query.proofs.Ascending.{all_append, all_weaker}
use Rattle.zs_events.specs.declared.turn.Effect.{Effect}
use Rattle.zs_model.specs.GetEffects.{hand_reply, last_hands}
use Rattle.zs_laws.specs.Order.{place}
use Rattle.zs_effects.specs.Ascending.{whom, next_whom, AreAscending}

-- an effect may stand behind another one
abbrev May : Effect → Effect → Type 0
May x y = place x ≡ place y → next_whom x ≤ whom y

pub record AreRising (low high : ℕ) (fx : List Effect) : Type 0 where
  pub rising : AreAscending fx
  pub from : AllByRecursion (λ (x : Effect). low ≤ place x) fx
  pub upto : AllByRecursion (λ (x : Effect). place x ≤ high) fx

pub none_rising : (low high : ℕ) → AreRising low high []
none_rising low high = record { rising = tt; from = tt; upto = tt }

pub wider : (low high a b : ℕ) (fx : List Effect) → a ≤ low → high ≤ b → AreRising low high fx → AreRising a b fx
wider low high a b fx down up r = record {
  rising = r.rising;
  from = all_weaker (λ (x : Effect). low ≤ place x) (λ (x : Effect). a ≤ place x) (λ x le. omega (arith, le, down)) fx r.from;
  upto = all_weaker (λ (x : Effect). place x ≤ high) (λ (x : Effect). place x ≤ b) (λ x le. omega (arith, le, up)) fx r.upto;
}

-- one list behind another one, where the places of the second are behind those of the first
may_follow : (m : ℕ) (x y : Effect) → place x ≤ m → m < place y → May x y
may_follow m x y le lt same = absurd (omega (arith, le, lt, same))

rising_append : (m : ℕ) (xs ys : List Effect) → AreAscending xs → AreAscending ys → AllByRecursion (λ (x : Effect). place x ≤ m) xs → AllByRecursion (λ (y : Effect). m < place y) ys → AreAscending (xs ++ ys)
rising_append m [] ys a b upto from = b
rising_append m (x ∷ xs) ys a b upto from = (
  all_append (May x) xs ys a.0 (all_weaker (λ (y : Effect). m < place y) (May x) (λ y lt. may_follow m x y upto.0 lt) ys from),
  rising_append m xs ys a.1 b upto.1 from,
)

pub joined : (a b c d : ℕ) (xs ys : List Effect) → b < c → a ≤ c → b ≤ d → AreRising a b xs → AreRising c d ys → AreRising a d (xs ++ ys)
joined a b c d xs ys between low high front back = record {
  rising =
      rising_append b xs ys front.rising back.rising front.upto
      (all_weaker (λ (y : Effect). c ≤ place y) (λ (y : Effect). b < place y) (λ y le. omega (arith, le, between)) ys back.from);
  from = all_append (λ (x : Effect). a ≤ place x) xs ys front.from (all_weaker (λ (y : Effect). c ≤ place y) (λ (y : Effect). a ≤ place y) (λ y le. omega (arith, le, low)) ys back.from);
  upto = all_append (λ (x : Effect). place x ≤ d) xs ys (all_weaker (λ (x : Effect). place x ≤ b) (λ (x : Effect). place x ≤ d) (λ x le. omega (arith, le, high)) xs front.upto) back.upto;
}

-- all at one place
level : (n : ℕ) (fx : List Effect) → AllByRecursion (λ (x : Effect). place x ≡ n) fx → AreAscending fx → AreRising n n fx
level n fx all up = record {
  rising = up;
  from = all_weaker (λ (x : Effect). place x ≡ n) (λ (x : Effect). n ≤ place x) (λ x same. omega (arith, same)) fx all;
  upto = all_weaker (λ (x : Effect). place x ≡ n) (λ (x : Effect). place x ≤ n) (λ x same. omega (arith, same)) fx all;
}

pub one : (n : ℕ) (x : Effect) → place x ≡ n → AreRising n n (x ∷ [])
one n x at = level n (x ∷ []) (at, tt) (tt, tt)

pub if_one : (n : ℕ) (b : Bool) (x : Effect) → place x ≡ n → AreRising n n (if b then x ∷ [] else [])
if_one n true x at = one n x at
if_one n false x at = none_rising n n

-- what rows that ascend are mapped to, each to what is for its number
pub record IsFor {X : Type 0} (n : ℕ) (number : X → ℕ) (f : X → Effect) : Type 0 where
  pub here : (x : X) → place (f x) ≡ n
  pub whose : (x : X) → whom (f x) ≡ number x
  pub next : (x : X) → next_whom (f x) ≤ number x + 1

pub mapped : {X : Type 0} (n : ℕ) (number : X → ℕ) (f : X → Effect) → IsFor n number f → (xs : List X) → Ascend number xs → AreRising n n (map f xs)
mapped {X} n number f is xs up = level n (map f xs) (all xs) (rising xs up)
  where
    all : (xs : List X) → AllByRecursion (λ (x : Effect). place x ≡ n) (map f xs)
    all [] = tt
    all (x ∷ xs) = (is.here x, all xs)

    may : (x y : X) → number x < number y → May (f x) (f y)
    may x y less same = omega (arith, is.next x, less, is.whose y)

    rising : (xs : List X) → Ascend number xs → AreAscending (map f xs)
    rising [] up = tt
    rising (x ∷ xs) up = (all_map (λ (y : X). number x < number y) (May (f x)) f (λ y less. may x y less) xs up.0, rising xs up.1)

-- several for one number, of which more may follow
pub record IsStill {X : Type 0} (n m : ℕ) (f : X → Effect) : Type 0 where
  pub here : (x : X) → place (f x) ≡ n
  pub whose : (x : X) → whom (f x) ≡ m
  pub next : (x : X) → next_whom (f x) ≡ m

pub still : {X : Type 0} (n m : ℕ) (f : X → Effect) → IsStill n m f → (xs : List X) → AreRising n n (map f xs)
still {X} n m f is xs = level n (map f xs) (all xs) (rising xs)
  where
    all : (xs : List X) → AllByRecursion (λ (x : Effect). place x ≡ n) (map f xs)
    all [] = tt
    all (x ∷ xs) = (is.here x, all xs)

    may : (x y : X) → May (f x) (f y)
    may x y same = omega (arith, is.next x, is.whose y)

    later : (x : X) (ys : List X) → AllByRecursion (May (f x)) (map f ys)
    later x [] = tt
    later x (y ∷ ys) = (may x y, later x ys)

    rising : (xs : List X) → AreAscending (map f xs)
    rising [] = tt
    rising (x ∷ xs) = (later x xs, rising xs)

-- the replies of gets that end, get by get
whose_all : (m : ℕ) (replies : List Replied) → AllByRecursion (λ (x : Effect). next_whom x ≤ m) (map (hand_reply m) replies)
whose_all m [] = tt
whose_all m (r ∷ replies) = (omega arith, whose_all m replies)

replies_from : (m n : ℕ) (replies : List Replied) → m < n → AllByRecursion (λ (y : Effect). m ≤ whom y) (map (hand_reply n) replies)
replies_from m n [] less = tt
replies_from m n (r ∷ replies) less = (omega (arith, less), replies_from m n replies less)

behind_all : (m : ℕ) (ends : List (ℕ × List Replied)) → AllByRecursion (λ (end : ℕ × List Replied). m < end.0) ends → AllByRecursion (λ (y : Effect). m ≤ whom y) (flat_map last_hands ends)
behind_all m [] less = tt
behind_all m (end ∷ ends) less = all_append (λ (y : Effect). m ≤ whom y) (last_hands end) (flat_map last_hands ends) (replies_from m end.0 end.1 less.0) (behind_all m ends less.1)

level_append : (m : ℕ) (xs ys : List Effect) → AreAscending xs → AreAscending ys → AllByRecursion (λ (x : Effect). next_whom x ≤ m) xs → AllByRecursion (λ (y : Effect). m ≤ whom y) ys → AreAscending (xs ++ ys)
level_append m [] ys a b upto from = b
level_append m (x ∷ xs) ys a b upto from = (
  all_append (May x) xs ys a.0 (all_weaker (λ (y : Effect). m ≤ whom y) (May x) (λ y le. may x y upto.0 le) ys from),
  level_append m xs ys a.1 b upto.1 from,
)
  where
    may : (x y : Effect) → next_whom x ≤ m → m ≤ whom y → May x y
    may x y here le same = omega (arith, here, le)

pub last_rising : (ends : List (ℕ × List Replied)) → Ascend (λ (end : ℕ × List Replied). end.0) ends → AreRising 1 1 (flat_map last_hands ends)
last_rising [] up = none_rising 1 1
last_rising (end ∷ ends) up =
    let first = still 1 end.0 (hand_reply end.0) (record { here = λ r. refl; whose = λ r. refl; next = λ r. refl }) end.1 in
    let rest = last_rising ends up.1 in
    record {
      rising = level_append end.0 (last_hands end) (flat_map last_hands ends) first.rising rest.rising (whose_all end.0 end.1) (behind_all end.0 ends up.0);
      from = all_append (λ (x : Effect). 1 ≤ place x) (last_hands end) (flat_map last_hands ends) first.from rest.from;
      upto = all_append (λ (x : Effect). place x ≤ 1) (last_hands end) (flat_map last_hands ends) first.upto rest.upto;
    }

-- what is sent, in whatever order
abbrev pub IsSending : Effect → Type 0
IsSending x = (place x ≡ 0) × (next_whom x ≡ 0)

pub all_sent : (fx : List Effect) → AllByRecursion IsSending fx → AreRising 0 0 fx
all_sent fx all = level 0 fx (all_weaker IsSending (λ (x : Effect). place x ≡ 0) (λ x is. is.0) fx all) (rising fx all)
  where
    may : (x y : Effect) → next_whom x ≡ 0 → May x y
    may x y none same = omega (arith, none)

    later : (x : Effect) (ys : List Effect) → next_whom x ≡ 0 → AllByRecursion (May x) ys
    later x [] none = tt
    later x (y ∷ ys) none = (may x y none, later x ys none)

    rising : (fx : List Effect) → AllByRecursion IsSending fx → AreAscending fx
    rising [] all = tt
    rising (x ∷ fx) all = (later x fx all.0.1, rising fx all.1)
