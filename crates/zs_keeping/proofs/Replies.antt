-- Replies that are made one after the other.
use Rattle.std.proofs.Common.{◌≡◌, ℕ, List, [], ◌∷◌, ◌++◌, map, refl, sym, ap, ◌∙◌, append_assoc, Bor}
use Rattle.std.specs.Prelude.{String}
use Rattle.std.specs.Map.Iter.{deref_pair}
use mathlib.Core.List.{append-nil}
use Rattle.zs_events.specs.declared.event.Event.{Event}
use Rattle.zs_store.specs.declared.entry.Entry.{Entry}
use Rattle.zs_store.specs.Store.{write_of}
use Rattle.zs_keeping.specs.Answering.{reply_if, replies_of}

-- one entry more
pub one_reply : {A : Type 0} (value : ℕ) (key : List ℕ) (xs : List (Bor (String A) × Bor Entry)) (x : Bor (String A) × Bor Entry)
    → replies_of value key (map write_of (map deref_pair (xs ++ x ∷ []))) ≡ replies_of value key (map write_of (map deref_pair xs)) ++ reply_if value key (write_of (deref_pair x))
one_reply value key [] x = append-nil (reply_if value key (write_of (deref_pair x)))
one_reply value key (y ∷ xs) x =
    ap (λ (es : List Event). reply_if value key (write_of (deref_pair y)) ++ es) (one_reply value key xs x)
    ∙ sym (append_assoc (reply_if value key (write_of (deref_pair y))) (replies_of value key (map write_of (map deref_pair xs))) (reply_if value key (write_of (deref_pair x))))
