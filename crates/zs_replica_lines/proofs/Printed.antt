-- The lines of a store, one key more.
use Rattle.std.proofs.Common.{◌≡◌, ℕ, List, [], ◌∷◌, ◌++◌, map, refl, sym, ap, ◌∙◌, append_assoc, Bor}
use Rattle.std.specs.Prelude.{String}
use Rattle.std.specs.Map.Iter.{deref_pair}
use mathlib.Core.List.{append-nil}
use Rattle.zs_store.specs.declared.entry.Entry.{Entry}
use Rattle.zs_store.specs.Store.{write_of}
use Rattle.zs_replica_lines.specs.Shown.{write_text, store_text}

pub one_write : {A : Type 0} (number : ℕ) (side : List ℕ) (xs : List (Bor (String A) × Bor Entry)) (x : Bor (String A) × Bor Entry)
    → store_text number side (map write_of (map deref_pair (xs ++ x ∷ []))) ≡ store_text number side (map write_of (map deref_pair xs)) ++ write_text number side (write_of (deref_pair x))
one_write number side [] x = append-nil (write_text number side (write_of (deref_pair x)))
one_write number side (y ∷ xs) x =
    ap (λ (text : List ℕ). write_text number side (write_of (deref_pair y)) ++ text) (one_write number side xs x)
    ∙ sym (append_assoc (write_text number side (write_of (deref_pair y))) (store_text number side (map write_of (map deref_pair xs))) (write_text number side (write_of (deref_pair x))))
