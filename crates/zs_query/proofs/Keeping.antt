-- What is kept of a list of replies, and of one reply more.
use Rattle.std.proofs.Common.{◌≡◌, Bool, true, false, List, [], ◌∷◌, ◌++◌, true≢false, refl, sym, ap, ◌∙◌}
use Rattle.std.specs.Prelude.{◌&&◌, ◌||◌, not, map, bytes_eq, if◌then◌else◌, ℕ}
use Rattle.std.specs.List.{AllByRecursion, list_any}
use Rattle.std.proofs.lemmas.List.{append-nil}
use Rattle.std.proofs.lemmas.List.Folds.{list_any-append}
use Rattle.zs_sample.specs.Reply.{Replied}
use Rattle.zs_query.specs.Marks.{Mark, mark_of, key_of, passes}
use Rattle.zs_query.specs.Kept.{same_key, is_older, passes_all, firsts, greatest, kept, last_passing, put}
use Rattle.zs_query.proofs.Ascending.{all_weaker, all_both, all_fail, all_append}
use Rattle.zs_query.proofs.Order.{below_same, below_through, below_once, key_same, keys_equal, equal_keys, same_by_left}

-- truth values
or_left : (x y : Bool) → (x || y) ≡ false → x ≡ false
or_left true y h = h
or_left false y h = refl

or_right : (x y : Bool) → (x || y) ≡ false → y ≡ false
or_right true y h = absurd (true≢false h)
or_right false y h = h

and_right : (x y : Bool) → (x && y) ≡ false → x ≡ true → y ≡ false
and_right true y h is = h
and_right false y h is = absurd (true≢false (sym is))

or_turned : (x y : Bool) → (x || (y || false)) ≡ (y || x)
or_turned true true = refl
or_turned true false = refl
or_turned false true = refl
or_turned false false = refl

not_true : (x : Bool) → not x ≡ true → x ≡ false
not_true true h = absurd (true≢false (sym h))
not_true false h = refl

-- what holds of every reply holds of each of a list
all_every : {P : Replied → Type 0} → ((r : Replied) → P r) → (rs : List Replied) → AllByRecursion P rs
all_every every [] = tt
all_every every (r ∷ rs) = (every r, all_every every rs)

-- two functions that agree on each element
map_each : {Y : Type 0} (f g : Replied → Y) (xs : List Replied) → AllByRecursion (λ x. f x ≡ g x) xs → map f xs ≡ map g xs
map_each f g [] all = refl
map_each f g (x ∷ xs) all = let rest = map_each f g xs all.1 in λ i. all.0 i ∷ rest i

map_push : (f : Replied → Replied) (xs : List Replied) (y : Replied) → map f (xs ++ y ∷ []) ≡ map f xs ++ f y ∷ []
map_push f [] y = refl
map_push f (x ∷ xs) y = ap (λ (rest : List Replied). f x ∷ rest) (map_push f xs y)

-- an order of three replies by their timestamps
pub older_through : (a b c : Replied) → is_older a b ≡ false → is_older b c ≡ false → is_older a c ≡ false
older_through a b c p q = below_through (mark_of a).timestamp (mark_of b).timestamp (mark_of c).timestamp p q

pub older_once : (a b : Replied) → is_older a b ≡ true → is_older b a ≡ false
older_once a b p = below_once (mark_of a).timestamp (mark_of b).timestamp p

pub older_same : (a : Replied) → is_older a a ≡ false
older_same a = below_same (mark_of a).timestamp

-- keys that differ differ both ways
pub turned : (r f : Replied) → same_key f r ≡ false → same_key r f ≡ false
turned r f other = go (same_key r f) refl
  where
    go : (b : Bool) → same_key r f ≡ b → same_key r f ≡ false
    go true same = absurd (true≢false (sym (equal_keys f r (sym (keys_equal r f same))) ∙ other))
    go false same = same

-- of three replies
apart_keys : (r b f : Replied) → same_key r f ≡ true → same_key r b ≡ false → same_key b f ≡ false
apart_keys r b f same other = go (same_key b f) refl
  where
    go : (c : Bool) → same_key b f ≡ c → same_key b f ≡ false
    go true on = absurd (true≢false (sym (equal_keys r b (keys_equal r f same ∙ sym (keys_equal b f on))) ∙ other))
    go false on = on

-- the greatest reply on a key is on that key
pub greatest_key : (rs : List Replied) (f : Replied) → key_of (greatest rs f) ≡ key_of f
greatest_key [] f = refl
greatest_key (r ∷ older) f = go (same_key r f) refl (not (is_older r (greatest older f))) refl (greatest_key older f)
  where
    go : (b : Bool) → same_key r f ≡ b → (c : Bool) → not (is_older r (greatest older f)) ≡ c → key_of (greatest older f) ≡ key_of f → key_of (greatest (r ∷ older) f) ≡ key_of f
    go true same true newer ih = rw (same, newer) (keys_equal r f same)
    go true same false newer ih = rw (same, newer) ih
    go false same c newer ih = rw same ih

-- what a reply on another key leaves
greatest_other : (r : Replied) (older : List Replied) (f : Replied) → same_key r f ≡ false → greatest (r ∷ older) f ≡ greatest older f
greatest_other r older f other = rw other refl

-- where no reply is on the key, the first one is the greatest
greatest_alone : (f : Replied) (rs : List Replied) → list_any (same_key f) rs ≡ false → greatest rs f ≡ f
greatest_alone f [] none = refl
greatest_alone f (r ∷ older) none =
    greatest_other r older f (turned r f (or_left (same_key f r) (list_any (same_key f) older) none)) ∙ greatest_alone f older (or_right (same_key f r) (list_any (same_key f) older) none)

-- the first reply of a key is the greatest when it comes
greatest_first : (r : Replied) (older : List Replied) → list_any (same_key r) older ≡ false → greatest (r ∷ older) r ≡ r
greatest_first r older none =
    let newer : not (is_older r (greatest older r)) ≡ true = ap (λ (g : Replied). not (is_older r g)) (greatest_alone r older none) ∙ ap not (older_same r) in
    rw (key_same r, newer) refl

-- whether a reply passes a greater one and all others, by truth values
newer_case : (x y z g : Bool) → (not y && not z) ≡ not g → (g ≡ false → x ≡ false) → (not (x || y) && not z) ≡ not g
newer_case true y z true ih low = refl
newer_case true y z false ih low = absurd (true≢false (low refl))
newer_case false y z g ih low = ih

older_case : (x y z g : Bool) → (not y && not z) ≡ not g → (x ≡ false → g ≡ false) → (not (x || y) && not z) ≡ not x
older_case true y z g ih low = refl
older_case false y z g ih low = ih ∙ ap not (low refl)

-- whether a reply passes the greatest is whether it passes each
pub passes_greatest : (r f : Replied) (rs : List Replied) → same_key r f ≡ true → (passes_all rs r && not (is_older r f)) ≡ not (is_older r (greatest rs f))
passes_greatest r f [] same = refl
passes_greatest r f (b ∷ older) same = go (same_key r b) refl (is_older b (greatest older f)) refl (passes_greatest r f older same)
  where
    go : (k : Bool) → same_key r b ≡ k → (o : Bool) → is_older b (greatest older f) ≡ o → (passes_all older r && not (is_older r f)) ≡ not (is_older r (greatest older f)) → (passes_all (b ∷ older) r && not (is_older r f)) ≡ not (is_older r (greatest (b ∷ older) f))
    go true on true below ih =
        let bf : same_key b f ≡ true = equal_keys b f (sym (keys_equal r b on) ∙ keys_equal r f same) in
        rw (on, bf, below) (newer_case (is_older r b) (list_any (λ c. same_key r c && is_older r c) older) (is_older r f) (is_older r (greatest older f)) ih (λ e. older_through r (greatest older f) b e (older_once b (greatest older f) below)))
    go true on false below ih =
        let bf : same_key b f ≡ true = equal_keys b f (sym (keys_equal r b on) ∙ keys_equal r f same) in
        rw (on, bf, below) (older_case (is_older r b) (list_any (λ c. same_key r c && is_older r c) older) (is_older r f) (is_older r (greatest older f)) ih (λ e. older_through r b (greatest older f) e below))
    go false on o below ih =
        let bf : same_key b f ≡ false = apart_keys r b f same on in
        rw (on, bf) ih

-- a reply on a new key passes
any_and : (p q : Replied → Bool) (xs : List Replied) → list_any p xs ≡ false → list_any (λ b. p b && q b) xs ≡ false
any_and p q [] none = refl
any_and p q (x ∷ xs) none =
    let here : p x ≡ false = or_left (p x) (list_any p xs) none in
    let rest : list_any (λ b. p b && q b) xs ≡ false = any_and p q xs (or_right (p x) (list_any p xs) none) in
    rw (here, rest) refl

pub passes_none : (r : Replied) (rs : List Replied) → list_any (same_key r) rs ≡ false → passes_all rs r ≡ true
passes_none r rs none = ap not (any_and (same_key r) (is_older r) rs none)

-- a reply that passes is older than none on its key
pub in_older : (r : Replied) (rs : List Replied) → AllByRecursion (λ b. same_key r b ≡ true → passes_all rs r ≡ true → is_older r b ≡ false) rs
in_older r rs = go (passes_all rs r) refl
  where
    go : (p : Bool) → passes_all rs r ≡ p → AllByRecursion (λ b. same_key r b ≡ true → passes_all rs r ≡ true → is_older r b ≡ false) rs
    go true is = all_weaker (λ b. (same_key r b && is_older r b) ≡ false) (λ b. same_key r b ≡ true → passes_all rs r ≡ true → is_older r b ≡ false) (λ b h on pass. and_right (same_key r b) (is_older r b) h on) rs (all_fail (λ b. same_key r b && is_older r b) rs (not_true (list_any (λ b. same_key r b && is_older r b) rs) is))
    go false is = all_every (λ b on pass. absurd (true≢false (sym pass ∙ is))) rs

-- the first replies are among all
pub all_firsts : (P : Replied → Type 0) (rs : List Replied) → AllByRecursion P rs → AllByRecursion P (firsts rs)
all_firsts P [] all = tt
all_firsts P (r ∷ older) all = go (list_any (same_key r) older) refl (all_firsts P older all.1)
  where
    go : (b : Bool) → list_any (same_key r) older ≡ b → AllByRecursion P (firsts older) → AllByRecursion P (firsts (r ∷ older))
    go true is rest = rw is rest
    go false is rest = let one : AllByRecursion P (r ∷ []) = (all.0, tt) in rw is (all_append P (firsts older) (r ∷ []) rest one)

-- and have each key
any_same : (r b : Replied) (xs : List Replied) → key_of r ≡ key_of b → list_any (same_key r) xs ≡ list_any (same_key b) xs
any_same r b xs is = ap (λ (k : List ℕ). list_any (λ c. bytes_eq k (key_of c)) xs) is

pub any_firsts : (r : Replied) (rs : List Replied) → list_any (same_key r) (firsts rs) ≡ list_any (same_key r) rs
any_firsts r [] = refl
any_firsts r (b ∷ older) = go (list_any (same_key b) older) refl (any_firsts r older)
  where
    absorbed : (k : Bool) → same_key r b ≡ k → list_any (same_key b) older ≡ true → list_any (same_key r) older ≡ (same_key r b || list_any (same_key r) older)
    absorbed true on is = rw on (any_same r b older (keys_equal r b on) ∙ is)
    absorbed false on is = rw on refl

    go : (k : Bool) → list_any (same_key b) older ≡ k → list_any (same_key r) (firsts older) ≡ list_any (same_key r) older → list_any (same_key r) (firsts (b ∷ older)) ≡ list_any (same_key r) (b ∷ older)
    go true is ih = rw is (ih ∙ absorbed (same_key r b) refl is)
    go false is ih = rw is (list_any-append (same_key r) (firsts older) (b ∷ []) ∙ (ap (λ (x : Bool). x || (same_key r b || false)) ih ∙ or_turned (list_any (same_key r) older) (same_key r b)))

-- no two on one key
abbrev pub AreDistinct : List Replied → Type 0
AreDistinct [] = Unit {0}
AreDistinct (f ∷ fs) = AllByRecursion (λ g. same_key f g ≡ false) fs × AreDistinct fs

distinct_push : (fs : List Replied) (r : Replied) → AreDistinct fs → AllByRecursion (λ f. same_key f r ≡ false) fs → AreDistinct (fs ++ r ∷ [])
distinct_push [] r apart other = (tt, tt)
distinct_push (f ∷ fs) r apart other =
    let one : AllByRecursion (λ g. same_key f g ≡ false) (r ∷ []) = (other.0, tt) in
    (all_append (λ g. same_key f g ≡ false) fs (r ∷ []) apart.0 one, distinct_push fs r apart.1 other.1)

pub firsts_distinct : (rs : List Replied) → AreDistinct (firsts rs)
firsts_distinct [] = tt
firsts_distinct (r ∷ older) = go (list_any (same_key r) older) refl (firsts_distinct older)
  where
    go : (b : Bool) → list_any (same_key r) older ≡ b → AreDistinct (firsts older) → AreDistinct (firsts (r ∷ older))
    go true is rest = rw is rest
    go false is rest = rw is (distinct_push (firsts older) r rest (all_firsts (λ f. same_key f r ≡ false) older (all_weaker (λ f. same_key r f ≡ false) (λ f. same_key f r ≡ false) (λ f other. turned f r other) older (all_fail (same_key r) older is))))

-- the reply where it is on the key, else another one
abbrev instead : Replied → (Replied → Replied) → Replied → Replied
instead r g f = if same_key r f then r else g f

instead_other : (r : Replied) (g : Replied → Replied) (fs : List Replied) → AllByRecursion (λ f. same_key r f ≡ false) fs → map (instead r g) fs ≡ map g fs
instead_other r g fs other = map_each (instead r g) g fs (all_weaker (λ f. same_key r f ≡ false) (λ f. instead r g f ≡ g f) (λ f is. rw is refl) fs other)

-- putting a reply into a list with one reply a key
abbrev behind : Replied → Bool → List Replied
behind r known = if known then [] else r ∷ []

put_map : (r : Replied) (g : Replied → Replied) (fs : List Replied) → AreDistinct fs → AllByRecursion (λ f. key_of (g f) ≡ key_of f) fs → put key_of r (map g fs) ≡ map (instead r g) fs ++ behind r (list_any (same_key r) fs)
put_map r g [] apart keys = refl
put_map r g (f ∷ fs) apart keys = go (same_key r f) refl (ap (bytes_eq (key_of r)) keys.0) (put_map r g fs apart.1 keys.1)
  where
    go : (b : Bool) → same_key r f ≡ b → bytes_eq (key_of r) (key_of (g f)) ≡ same_key r f → put key_of r (map g fs) ≡ map (instead r g) fs ++ behind r (list_any (same_key r) fs) → put key_of r (map g (f ∷ fs)) ≡ map (instead r g) (f ∷ fs) ++ behind r (list_any (same_key r) (f ∷ fs))
    go true on key ih =
        let others : map (instead r g) fs ≡ map g fs = instead_other r g fs (all_weaker (λ h. same_key f h ≡ false) (λ h. same_key r h ≡ false) (λ h other. same_by_left r f h (keys_equal r f on) ∙ other) fs apart.0) in
        rw (key ∙ on, on) (ap (λ (rest : List Replied). r ∷ rest) (sym others ∙ sym (append-nil (map (instead r g) fs))))
    go false on key ih = rw (key ∙ on, on) (ap (λ (rest : List Replied). g f ∷ rest) ih)

-- the greatest reply of a key after one more that passes
at_pass : (r : Replied) (older : List Replied) (f : Replied) → passes_all older r ≡ true → (same_key r f ≡ true → is_older r f ≡ false) → greatest (r ∷ older) f ≡ instead r (greatest older) f
at_pass r older f pass newer = go (same_key r f) refl
  where
    go : (b : Bool) → same_key r f ≡ b → greatest (r ∷ older) f ≡ instead r (greatest older) f
    go true on =
        let over : not (is_older r (greatest older f)) ≡ true = sym (passes_greatest r f older on) ∙ ((λ i. pass i && not (newer on i))) in
        rw (on, over) refl
    go false on = rw on refl

-- and after one that doesn't
at_fail : (r : Replied) (older : List Replied) (f : Replied) → passes_all older r ≡ false → greatest (r ∷ older) f ≡ greatest older f
at_fail r older f fail = go (same_key r f) refl
  where
    go : (b : Bool) → same_key r f ≡ b → greatest (r ∷ older) f ≡ greatest older f
    go true on =
        let under : not (is_older r (greatest older f)) ≡ false = sym (passes_greatest r f older on) ∙ ap (λ (x : Bool). x && not (is_older r f)) fail in
        rw (on, under) refl
    go false on = rw on refl

-- what is kept after one reply more
pub kept_more : (r : Replied) (older : List Replied) → kept (r ∷ older) ≡ (if passes_all older r then put key_of r (kept older) else kept older)
kept_more r older = go (list_any (same_key r) older) refl (passes_all older r) refl
  where
    keys : AllByRecursion (λ f. key_of (greatest older f) ≡ key_of f) (firsts older)
    keys = all_every (λ f. greatest_key older f) (firsts older)

    each : passes_all older r ≡ true → map (greatest (r ∷ older)) (firsts older) ≡ map (instead r (greatest older)) (firsts older)
    each pass = map_each (greatest (r ∷ older)) (instead r (greatest older)) (firsts older) (all_weaker (λ b. same_key r b ≡ true → passes_all older r ≡ true → is_older r b ≡ false) (λ f. greatest (r ∷ older) f ≡ instead r (greatest older) f) (λ f newer. at_pass r older f pass (λ on. newer on pass)) (firsts older) (all_firsts (λ b. same_key r b ≡ true → passes_all older r ≡ true → is_older r b ≡ false) older (in_older r older)))

    into : put key_of r (kept older) ≡ map (instead r (greatest older)) (firsts older) ++ behind r (list_any (same_key r) older)
    into = put_map r (greatest older) (firsts older) (firsts_distinct older) keys ∙ ap (λ (k : Bool). map (instead r (greatest older)) (firsts older) ++ behind r k) (any_firsts r older)

    go : (k : Bool) → list_any (same_key r) older ≡ k → (p : Bool) → passes_all older r ≡ p → kept (r ∷ older) ≡ (if passes_all older r then put key_of r (kept older) else kept older)
    go true known true pass =
        let put_is : map (instead r (greatest older)) (firsts older) ≡ put key_of r (kept older) = sym (append-nil (map (instead r (greatest older)) (firsts older))) ∙ sym (into ∙ ap (λ (k : Bool). map (instead r (greatest older)) (firsts older) ++ behind r k) known) in
        rw (known, pass) (each pass ∙ put_is)
    go true known false fail = rw (known, fail) (map_each (greatest (r ∷ older)) (greatest older) (firsts older) (all_every (λ f. at_fail r older f fail) (firsts older)))
    go false new p pass =
        let passing : passes_all older r ≡ true = passes_none r older new in
        let put_is : map (instead r (greatest older)) (firsts older) ++ r ∷ [] ≡ put key_of r (kept older) = sym (into ∙ ap (λ (k : Bool). map (instead r (greatest older)) (firsts older) ++ behind r k) new) in
        let last : greatest (r ∷ older) r ≡ r = greatest_first r older new in
        let whole : map (greatest (r ∷ older)) (firsts older ++ r ∷ []) ≡ put key_of r (kept older) = map_push (greatest (r ∷ older)) (firsts older) r ∙ ((λ i. each passing i ++ last i ∷ []) ∙ put_is) in
        rw (new, passing) whole

-- what is greatest is the last that passes, for each first reply
step_last : (r : Replied) (older : List Replied) (f : Replied) → (same_key r f ≡ true → passes_all older r ≡ true → is_older r f ≡ false) → greatest older f ≡ last_passing older f → greatest (r ∷ older) f ≡ last_passing (r ∷ older) f
step_last r older f newer ih = go (same_key r f) refl (passes_all older r) refl
  where
    go : (b : Bool) → same_key r f ≡ b → (p : Bool) → passes_all older r ≡ p → greatest (r ∷ older) f ≡ last_passing (r ∷ older) f
    go true on true pass = at_pass r older f pass (λ on'. newer on' pass) ∙ rw (on, pass) refl
    go true on false fail = at_fail r older f fail ∙ rw (on, fail) ih
    go false on p pass = greatest_other r older f on ∙ rw on ih

last_first : (r : Replied) (older : List Replied) → list_any (same_key r) older ≡ false → last_passing (r ∷ older) r ≡ r
last_first r older new = rw (key_same r, passes_none r older new) refl

pub last_is : (rs : List Replied) → AllByRecursion (λ f. greatest rs f ≡ last_passing rs f) (firsts rs)
last_is [] = tt
last_is (r ∷ older) = go (list_any (same_key r) older) refl (last_is older)
  where
    more : AllByRecursion (λ f. greatest older f ≡ last_passing older f) (firsts older) → AllByRecursion (λ f. greatest (r ∷ older) f ≡ last_passing (r ∷ older) f) (firsts older)
    more ih = all_both (λ f. same_key r f ≡ true → passes_all older r ≡ true → is_older r f ≡ false) (λ f. greatest older f ≡ last_passing older f) (λ f. greatest (r ∷ older) f ≡ last_passing (r ∷ older) f) (λ f newer is. step_last r older f newer is) (firsts older) (all_firsts (λ b. same_key r b ≡ true → passes_all older r ≡ true → is_older r b ≡ false) older (in_older r older)) ih

    go : (b : Bool) → list_any (same_key r) older ≡ b → AllByRecursion (λ f. greatest older f ≡ last_passing older f) (firsts older) → AllByRecursion (λ f. greatest (r ∷ older) f ≡ last_passing (r ∷ older) f) (firsts (r ∷ older))
    go true known ih = rw known (more ih)
    go false new ih =
        let one : AllByRecursion (λ f. greatest (r ∷ older) f ≡ last_passing (r ∷ older) f) (r ∷ []) = (greatest_first r older new ∙ sym (last_first r older new), tt) in
        rw new (all_append (λ f. greatest (r ∷ older) f ≡ last_passing (r ∷ older) f) (firsts older) (r ∷ []) (more ih) one)

pub kept_last : (rs : List Replied) → kept rs ≡ map (last_passing rs) (firsts rs)
kept_last rs = map_each (greatest rs) (last_passing rs) (firsts rs) (last_is rs)

-- what is kept tells whether a reply passes all
passes_marks : (r : Replied) (g : Replied → Replied) (fs : List Replied) (p : Bool) → AllByRecursion (λ f. key_of (g f) ≡ key_of f) fs → AllByRecursion (λ f. same_key r f ≡ true → not (is_older r (g f)) ≡ p) fs → (list_any (same_key r) fs ≡ false → p ≡ true) → passes (map mark_of (map g fs)) (mark_of r) ≡ p
passes_marks r g [] p keys facts none = sym (none refl)
passes_marks r g (f ∷ fs) p keys facts none = go (same_key r f) refl (ap (bytes_eq (key_of r)) keys.0) (passes_marks r g fs p keys.1 facts.1)
  where
    go : (b : Bool) → same_key r f ≡ b → bytes_eq (key_of r) (key_of (g f)) ≡ same_key r f → ((list_any (same_key r) fs ≡ false → p ≡ true) → passes (map mark_of (map g fs)) (mark_of r) ≡ p) → passes (map mark_of (map g (f ∷ fs))) (mark_of r) ≡ p
    go true on key ih = rw (key ∙ on) (facts.0 on)
    go false on key ih = rw (key ∙ on) (ih (λ rest. none (ap (λ (x : Bool). x || list_any (same_key r) fs) on ∙ rest)))

pub passes_kept : (r : Replied) (rs : List Replied) → passes (map mark_of (kept rs)) (mark_of r) ≡ passes_all rs r
passes_kept r rs = passes_marks r (greatest rs) (firsts rs) (passes_all rs r) (all_every (λ f. greatest_key rs f) (firsts rs))
    (all_weaker (λ b. same_key r b ≡ true → passes_all rs r ≡ true → is_older r b ≡ false) (λ f. same_key r f ≡ true → not (is_older r (greatest rs f)) ≡ passes_all rs r) (λ f newer on. sym (passes_greatest r f rs on) ∙ by_pass (passes_all rs r) (is_older r f) (newer on)) (firsts rs) (all_firsts (λ b. same_key r b ≡ true → passes_all rs r ≡ true → is_older r b ≡ false) rs (in_older r rs)))
    (λ none. passes_none r rs (sym (any_firsts r rs) ∙ none))
  where
    by_pass : (p o : Bool) → (p ≡ true → o ≡ false) → (p && not o) ≡ p
    by_pass true o newer = ap not (newer refl)
    by_pass false o newer = refl

-- marks are put as their replies are
pub marks_of_put : (r : Replied) (rs : List Replied) → map mark_of (put key_of r rs) ≡ put (λ (m : Mark). m.key) (mark_of r) (map mark_of rs)
marks_of_put r [] = refl
marks_of_put r (b ∷ rs) = go (same_key r b) refl (marks_of_put r rs)
  where
    go : (k : Bool) → same_key r b ≡ k → map mark_of (put key_of r rs) ≡ put (λ (m : Mark). m.key) (mark_of r) (map mark_of rs) → map mark_of (put key_of r (b ∷ rs)) ≡ put (λ (m : Mark). m.key) (mark_of r) (map mark_of (b ∷ rs))
    go true on ih = rw on refl
    go false on ih = rw on (ap (λ (ms : List Mark). mark_of b ∷ ms) ih)
