-- Stores of writes that come in any order.
use Rattle.std.proofs.Common.{◌≡◌, ℕ, suc, zero, List, [], ◌∷◌, ◌++◌, Bool, true, false, refl, sym, ◌∙◌, ap, cond}
use Rattle.std.specs.Prelude.{not, filter, drop}
use Rattle.std.specs.List.{AllByRecursion, flat_map}
use Rattle.std.proofs.lemmas.List.{append_assoc}
use Rattle.zs_sample.specs.declared.sample_fields.SampleFields.{SampleFields}
use Rattle.zs_model.specs.Publications.{Publication}
use Rattle.zs_store.specs.Store.{Write, merged, joined, store_of}
use Rattle.zs_store.specs.Laws.{StoresHoldBest, StoresJoin}
use Rattle.zs_arrivals.specs.Publications.{goes_out, came_in, samples_of}

-- a store with more writes
pub store_more : (xs ys : List Write) → store_of (xs ++ ys) ≡ joined xs (store_of ys)
store_more [] ys = refl
store_more (w ∷ xs) ys = ap (λ (store : List Write). merged w store) (store_more xs ys)

module _ (best : StoresHoldBest) (joins : StoresJoin) where
  -- the order of two lists of writes doesn't matter
  pub store_turned : (xs ys : List Write) → store_of (xs ++ ys) ≡ store_of (ys ++ xs)
  store_turned xs ys =
      joins.both xs ys ∙ joins.commutative (store_of xs) (store_of ys) (best xs).ascend (best ys).ascend ∙ sym (joins.both ys xs)

  -- nor where in one of two lists something stands
  store_second : (ws xs ys : List Write) → store_of (ws ++ (xs ++ ys)) ≡ store_of (xs ++ (ws ++ ys))
  store_second ws xs ys =
      ap store_of (sym (append_assoc ws xs ys))
      ∙ joins.both (ws ++ xs) ys
      ∙ ap (λ (store : List Write). joined store (store_of ys)) (store_turned ws xs)
      ∙ sym (joins.both (xs ++ ws) ys)
      ∙ ap store_of (append_assoc xs ws ys)

  -- what is sorted into two lists leaves the same store
  pub store_sorted : (f : SampleFields → List Write) (made : List Publication) → AllByRecursion (λ p. goes_out p ≡ not (came_in p)) made
      → store_of (flat_map f (samples_of made)) ≡ store_of (flat_map f (samples_of (filter goes_out made)) ++ flat_map f (samples_of (filter came_in made)))
  store_sorted f [] sorts = refl
  store_sorted f (p ∷ made) sorts =
      store_more (f p.sample) (flat_map f (samples_of made))
      ∙ ap (λ (store : List Write). joined (f p.sample) store) (store_sorted f made sorts.1)
      ∙ sym (store_more (f p.sample) (outs ++ ins))
      ∙ go (came_in p) (goes_out p) sorts.0
    where
      outs : List Write
      outs = flat_map f (samples_of (filter goes_out made))

      ins : List Write
      ins = flat_map f (samples_of (filter came_in made))

      go : (c g : Bool) → g ≡ not c
          → store_of (f p.sample ++ (outs ++ ins))
          ≡ store_of (flat_map f (samples_of (cond g (p ∷ filter goes_out made) (filter goes_out made))) ++ flat_map f (samples_of (cond c (p ∷ filter came_in made) (filter came_in made))))
      go true true sort = cc
      go true false sort = store_second (f p.sample) outs ins
      go false true sort = ap store_of (sym (append_assoc (f p.sample) outs ins))
      go false false sort = cc

-- where each element gives one, dropping before or behind is the same
pub drop_singles : (f : SampleFields → List Write) (n : ℕ) (xs : List SampleFields) → AllByRecursion (λ x. (w : Write) × (f x ≡ w ∷ [])) xs
    → flat_map f (drop n xs) ≡ drop n (flat_map f xs)
drop_singles f zero xs each = refl
drop_singles f (suc n) [] each = refl
drop_singles f (suc n) (x ∷ xs) each = drop_singles f n xs each.1 ∙ ap (λ (ws : List Write). drop (suc n) (ws ++ flat_map f xs)) (sym each.0.1)
