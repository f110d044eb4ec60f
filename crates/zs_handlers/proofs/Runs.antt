-- Runs of a fifo.
use Rattle.std.proofs.Common.{◌≡◌, ℕ, List, [], ◌∷◌, ◌++◌, drop, slice_get, Some, refl, sym, ◌∙◌, ap, rules}
use Rattle.std.proofs.lemmas.List.{append_assoc}
use Rattle.zs_handlers.specs.Queue.{Queue}
use Rattle.zs_handlers.specs.Calls.{Call, Leads, pushed_items, received_items}
use Rattle.zs_handlers.specs.Calls.Call.{push, receive, end, nothing}

module _ {T : Type 0} where
  -- a list with a first item is that item and the rest
  pub first_and_rest : (xs : List T) (x : T) → Some x ≡ slice_get xs 0 → xs ≡ x ∷ drop 1 xs
  first_and_rest [] x h = search rules
  first_and_rest (y ∷ xs) x h = search rules

  -- what was received and what is there is what was pushed
  pub received_items-append : (n : ℕ) (calls : List (Call T)) (q : Queue T) → Leads n calls q → received_items calls ++ q.items ≡ pushed_items calls
  received_items-append n [] q leads = rw leads refl
  received_items-append n (push x ∷ calls) q (before, leads, step) =
      rw step (sym (append_assoc (received_items calls) before.items (x ∷ [])) ∙ ap (λ xs. xs ++ x ∷ []) (received_items-append n calls before leads))
  received_items-append n (receive x ∷ calls) q (before, leads, step) =
      rw step.1 (append_assoc (received_items calls) (x ∷ []) (drop 1 before.items)
      ∙ ap (λ xs. received_items calls ++ xs) (sym (first_and_rest before.items x step.0)) ∙ received_items-append n calls before leads)
  received_items-append n (end ∷ calls) q (before, leads, step) = rw step (received_items-append n calls before leads)
  received_items-append n (nothing ∷ calls) q (before, leads, step) = rw step (received_items-append n calls before leads)
