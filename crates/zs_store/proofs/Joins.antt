-- The laws of stores.
use Rattle.std.proofs.Common.{◌≡◌, ℕ, Bool, true, false, cond, List, [], ◌∷◌, ◌++◌, Option, Some, None, refl, sym, ap, ◌∙◌, subst, arith}
use Rattle.std.specs.Prelude.{bytes_eq}
use Rattle.std.specs.List.{All, Contains}
use Rattle.std.proofs.lemmas.List.Elements.{All-cons, All-head, All-tail, All-weaker, All-contains, All-contains_itself}
use Rattle.zs_store.specs.Entry.{EntrySeen, greatest}
use Rattle.zs_store.specs.Store.{Write, KeysAscend, found, best, joined, store_of}
use Rattle.zs_store.specs.Laws.{StoresHoldBest, SameWritesSameStore, StoresJoin}
use Rattle.zs_store.proofs.Newer.{either, either_nothing, either_itself, either_turned, either_grouped}
use Rattle.zs_store.proofs.Stores.{after_write, found_merged, ascend_merged, ascend_nothing, ascend_rest, above_first, none_above, same_key, same_stores}

pub ascend_joined : (ws store : List Write) → KeysAscend store → KeysAscend (joined ws store)
ascend_joined [] store ascend = ascend
ascend_joined (w ∷ ws) store ascend = ascend_merged w (joined ws store) (ascend_joined ws store ascend)

pub ascend_store : (ws : List Write) → KeysAscend (store_of ws)
ascend_store ws = ascend_joined ws [] ascend_nothing

-- a store that took writes has the greater of what it had and what they have
pub found_joined : (key : List ℕ) (ws store : List Write) → KeysAscend store → found key (joined ws store) ≡ either (best key ws) (found key store)
found_joined key [] store ascend = refl
found_joined key (w ∷ ws) store ascend =
    found_merged key w (joined ws store) (ascend_joined ws store ascend)
    ∙ (ap (after_write key w) (found_joined key ws store ascend)
    ∙ go (bytes_eq key w.key))
  where
    go : (b : Bool) → cond b (either (either (best key ws) (found key store)) (Some w.entry)) (either (best key ws) (found key store))
        ≡ either (cond b (greatest w.entry (best key ws)) (best key ws)) (found key store)
    go true = either_turned (either (best key ws) (found key store)) (Some w.entry) ∙ sym (either_grouped (Some w.entry) (best key ws) (found key store))
    go false = refl

pub found_store : (key : List ℕ) (ws : List Write) → found key (store_of ws) ≡ best key ws
found_store key ws = found_joined key ws [] ascend_nothing ∙ either_nothing (best key ws)

pub stores_hold_best : StoresHoldBest
stores_hold_best writes = record { ascend = ascend_store writes; best = λ key. found_store key writes }

-- a store has one entry of each key, and that is the best
pub best_found : (key : List ℕ) (ws : List Write) → KeysAscend ws → best key ws ≡ found key ws
best_found key [] ascend = refl
best_found key (w ∷ ws) ascend = go (bytes_eq key w.key) refl (best_found key ws (ascend_rest w ws ascend))
  where
    go : (b : Bool) → bytes_eq key w.key ≡ b → best key ws ≡ found key ws
        → cond b (greatest w.entry (best key ws)) (best key ws) ≡ cond b (Some w.entry) (found key ws)
    go true h rest =
        let nothing = subst (λ k. found k ws ≡ None) (sym (same_key key w.key h)) (none_above w.key ws (above_first w ws ascend)) in
        ap (greatest w.entry) (rest ∙ nothing)
    go false h rest = rest

pub best_append : (key : List ℕ) (xs ys : List Write) → best key (xs ++ ys) ≡ either (best key xs) (best key ys)
best_append key [] ys = refl
best_append key (x ∷ xs) ys = go (bytes_eq key x.key) (best_append key xs ys)
  where
    go : (b : Bool) → best key (xs ++ ys) ≡ either (best key xs) (best key ys)
        → cond b (greatest x.entry (best key (xs ++ ys))) (best key (xs ++ ys)) ≡ either (cond b (greatest x.entry (best key xs)) (best key xs)) (best key ys)
    go true rest = ap (greatest x.entry) rest ∙ sym (either_grouped (Some x.entry) (best key xs) (best key ys))
    go false rest = rest

found_both : (key : List ℕ) (x y : List Write) → KeysAscend x → KeysAscend y → found key (joined x y) ≡ either (found key x) (found key y)
found_both key x y a b = found_joined key x y b ∙ ap (λ o. either o (found key y)) (best_found key x a)

turned : (x y : List Write) → KeysAscend x → KeysAscend y → joined x y ≡ joined y x
turned x y a b =
    same_stores (joined x y) (joined y x) (ascend_joined x y b) (ascend_joined y x a)
    (λ key. found_both key x y a b ∙ (either_turned (found key x) (found key y) ∙ sym (found_both key y x b a)))

grouped : (x y z : List Write) → KeysAscend x → KeysAscend y → KeysAscend z → joined (joined x y) z ≡ joined x (joined y z)
grouped x y z a b c =
    same_stores (joined (joined x y) z) (joined x (joined y z)) (ascend_joined (joined x y) z c) (ascend_joined x (joined y z) (ascend_joined y z c))
    (λ key. found_both key (joined x y) z (ascend_joined x y b) c
    ∙ (ap (λ o. either o (found key z)) (found_both key x y a b)
    ∙ (either_grouped (found key x) (found key y) (found key z)
    ∙ sym (found_both key x (joined y z) a (ascend_joined y z c) ∙ ap (either (found key x)) (found_both key y z b c)))))

once : (x : List Write) → KeysAscend x → joined x x ≡ x
once x a =
    same_stores (joined x x) x (ascend_joined x x a) a
    (λ key. found_both key x x a a ∙ either_itself (found key x))

appended : (xs ys : List Write) → store_of (xs ++ ys) ≡ joined (store_of xs) (store_of ys)
appended xs ys =
    same_stores (store_of (xs ++ ys)) (joined (store_of xs) (store_of ys)) (ascend_store (xs ++ ys)) (ascend_joined (store_of xs) (store_of ys) (ascend_store ys))
    (λ key. found_store key (xs ++ ys)
    ∙ (best_append key xs ys
    ∙ sym (found_both key (store_of xs) (store_of ys) (ascend_store xs) (ascend_store ys)
    ∙ (ap (λ o. either o (found key (store_of ys))) (found_store key xs) ∙ ap (either (best key xs)) (found_store key ys)))))

pub stores_join : StoresJoin
stores_join = record { commutative = turned; associative = grouped; idempotent = once; both = appended }

-- what a write has at a key
abbrev at : List ℕ → Write → Option EntrySeen
at key w = cond (bytes_eq key w.key) (Some w.entry) None

best_more : (key : List ℕ) (w : Write) (ws : List Write) → best key (w ∷ ws) ≡ either (at key w) (best key ws)
best_more key w ws = go (bytes_eq key w.key)
  where
    go : (b : Bool) → cond b (greatest w.entry (best key ws)) (best key ws) ≡ either (cond b (Some w.entry) None) (best key ws)
    go true = refl
    go false = refl

-- a write changes nothing of what a list has at its best
abbrev IsHeld : List Write → Write → Type 0
IsHeld ws w = (key : List ℕ) → either (at key w) (best key ws) ≡ best key ws

all_held : (ws : List Write) → All (IsHeld ws) ws
all_held [] = λ k d h. absurd (omega arith)
all_held (x ∷ ws) = All-cons (IsHeld (x ∷ ws)) x ws first (All-weaker (IsHeld ws) (IsHeld (x ∷ ws)) later ws (all_held ws))
  where
    first : IsHeld (x ∷ ws) x
    first key =
        ap (either (at key x)) (best_more key x ws)
        ∙ (sym (either_grouped (at key x) (at key x) (best key ws))
        ∙ (ap (λ o. either o (best key ws)) (either_itself (at key x))
        ∙ sym (best_more key x ws)))

    later : (w : Write) → IsHeld ws w → IsHeld (x ∷ ws) w
    later w held key =
        ap (either (at key w)) (best_more key x ws)
        ∙ (sym (either_grouped (at key w) (at key x) (best key ws))
        ∙ (ap (λ o. either o (best key ws)) (either_turned (at key w) (at key x))
        ∙ (either_grouped (at key x) (at key w) (best key ws)
        ∙ (ap (either (at key x)) (held key)
        ∙ sym (best_more key x ws)))))

-- so does a list of writes that it holds
best_held : (key : List ℕ) (xs ys : List Write) → All (IsHeld xs) ys → either (best key ys) (best key xs) ≡ best key xs
best_held key xs [] all = refl
best_held key xs (y ∷ ys) all =
    ap (λ o. either o (best key xs)) (best_more key y ys)
    ∙ (either_grouped (at key y) (best key ys) (best key xs)
    ∙ (ap (either (at key y)) (best_held key xs ys (All-tail (IsHeld xs) y ys all))
    ∙ All-head (IsHeld xs) y ys all key))

held_by : (xs ys : List Write) → ((w : Write) → Contains ys w → Contains xs w) → All (IsHeld xs) ys
held_by xs ys has =
    All-weaker (Contains ys) (IsHeld xs) (λ w in_ys. All-contains (IsHeld xs) xs w (all_held xs) (has w in_ys)) ys (All-contains_itself ys)

pub same_writes : SameWritesSameStore
same_writes xs ys same =
    same_stores (store_of xs) (store_of ys) (ascend_store xs) (ascend_store ys)
    (λ key. found_store key xs
    ∙ (sym (best_held key xs ys (held_by xs ys (λ w. (same w).1)))
    ∙ (either_turned (best key ys) (best key xs)
    ∙ (best_held key ys xs (held_by ys xs (λ w. (same w).0))
    ∙ sym (found_store key ys)))))
