-- Laws of stores: of all that was written at a key the newest entry stands, whatever came first, and however often it came.
use Rattle.std.specs.Prelude.{◌≡◌, ◌↔◌, ℕ, List, ◌++◌, MatchOption, false}
use Rattle.std.specs.List.{All, Contains}
use Rattle.zs_store.specs.Entry.{EntrySeen, is_below}
use Rattle.zs_store.specs.Store.{Write, KeysAscend, found, best, joined, store_of}

-- a store has at each key the greatest entry that was written there, and its keys ascend
pub record HoldsBest (writes : List Write) (store : List Write) : Type 0 where
  pub ascend : KeysAscend store
  pub best : (key : List ℕ) → found key store ≡ best key writes

abbrev pub StoresHoldBest : Type 0
StoresHoldBest = (writes : List Write) → HoldsBest writes (store_of writes)

-- an entry was written at a key, and no entry that was written there is above it
pub record IsGreatest (key : List ℕ) (writes : List Write) (entry : EntrySeen) : Type 0 where
  pub written : Contains writes (record { key = key; entry = entry })
  pub above : All (λ w. w.key ≡ key → is_below entry w.entry ≡ false) writes

-- the greatest entry of a key is just that; there is none where nothing was written at the key
abbrev pub BestIsGreatest : Type 0
BestIsGreatest = (key : List ℕ) (writes : List Write) → MatchOption (best key writes) (All (λ w. w.key ≡ key → ⊥) writes) (IsGreatest key writes)

-- two lists with the same writes leave the same store, in whatever order and however often they have each
abbrev pub SameWritesSameStore : Type 0
SameWritesSameStore = (xs ys : List Write) → ((w : Write) → Contains xs w ↔ Contains ys w) → store_of xs ≡ store_of ys

-- stores join as those of a semilattice do
pub record StoresJoin : Type 0 where
  pub commutative : (x y : List Write) → KeysAscend x → KeysAscend y → joined x y ≡ joined y x
  pub associative : (x y z : List Write) → KeysAscend x → KeysAscend y → KeysAscend z → joined (joined x y) z ≡ joined x (joined y z)
  pub idempotent : (x : List Write) → KeysAscend x → joined x x ≡ x
  pub both : (xs ys : List Write) → store_of (xs ++ ys) ≡ joined (store_of xs) (store_of ys)
