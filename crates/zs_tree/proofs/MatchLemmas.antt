-- A look-up of all entries that hit.
use Rattle.std.proofs.Common.{◌≡◌, ℕ, ◌<◌, ◌≤◌, List, [], ◌∷◌, ◌++◌, ◌+◌, ◌-◌, length, length-append, take, drop, Option, None, refl, sym, ◌∙◌, ap, arith, append_assoc, append-nil}
use Rattle.std.specs.Prelude.{filter, map}
use Rattle.std.specs.Ordering.{nat_cmp}
use Rattle.std.specs.List.Sorted.{IsSorted, IsPermutation}
use Rattle.std.proofs.Math.Seq.{take-append_seam, drop-append_seam}
use Rattle.zs_tree.specs.declared.entry.Entry.{Entry}
use Rattle.zs_tree.specs.Rows.{matches, first_above}
use Rattle.zs_tree.specs.Entries.{row_of, by_number, AreInOrder, AllAscend, IsNextRun, hits, hit_ids, lesser}
use Rattle.zs_tree.proofs.Sorted.{matches_sorted, sorted_is, sorted, least_of, least_parts, least_sorted, least_ascending, ids_ascend, lesser_none, lesser_assoc}

ids_parts : (xs ys : List Entry) → map (λ e. e.id) (xs ++ ys) ≡ map (λ e. e.id) xs ++ map (λ e. e.id) ys
ids_parts [] ys = refl
ids_parts (x ∷ xs) ys = ap (λ (rest : List ℕ). x.id ∷ rest) (ids_parts xs ys)

-- what was pushed, and what is left to push
pub record Pushed (text : List ℕ) (all rest : List Entry) (old into : List ℕ) : Type 0 where
  pub done : List ℕ
  pub into_is : into ≡ old ++ done
  pub all_is : hit_ids text all ≡ done ++ hit_ids text rest
  pub order : AreInOrder rest

pub pushed_start : (text : List ℕ) (all : List Entry) (old : List ℕ) → AreInOrder all → Pushed text all all old old
pushed_start text all old up = record { done = []; into_is = sym (append-nil old); all_is = refl; order = up }

pub pushed_run : (text : List ℕ) (all rest run behind : List Entry) (old into into' : List ℕ) → Pushed text all rest old into
    → IsNextRun text rest run behind → into' ≡ into ++ map (λ e. e.id) run → Pushed text all behind old into'
pushed_run text all rest run behind old into into' p r is = record {
  done = p.done ++ map (λ e. e.id) run;
  into_is = is ∙ rw p.into_is (append_assoc old p.done (map (λ e. e.id) run));
  all_is = p.all_is ∙ ap (λ (ids : List ℕ). p.done ++ ids) (ap (map (λ (e : Entry). e.id)) r.found ∙ ids_parts run (filter (hits text) behind))
      ∙ sym (append_assoc p.done (map (λ e. e.id) run) (hit_ids text behind));
  order = r.order;
}

pub pushed_all : (text : List ℕ) (all rest : List Entry) (old into : List ℕ) → Pushed text all rest old into → filter (hits text) rest ≡ []
    → into ≡ old ++ hit_ids text all
pushed_all text all rest old into p none =
    p.into_is ∙ ap (λ (ids : List ℕ). old ++ ids) (sym (p.all_is ∙ rw none (append-nil p.done)))

pub pushed_part : (text : List ℕ) (all rest : List Entry) (old into : List ℕ) → Pushed text all rest old into → take (length old) into ≡ old
pushed_part text all rest old into p = rw p.into_is (take-append_seam old p.done)

-- what a list holds once the old numbers are gone and the rest is sorted
pub matches_of_sorted : (text : List ℕ) (es : List Entry) (ids out : List ℕ) → ids ≡ hit_ids text es → IsPermutation ids out
    → IsSorted nat_cmp out → out ≡ matches text (by_number (map row_of es))
matches_of_sorted text es ids out is moved up =
    sorted_is ids out moved up ∙ ap sorted is ∙ sym (matches_sorted text es)

-- the least so far, and what is left to look at
pub record Least (text : List ℕ) (after : Option ℕ) (all rest : List Entry) (least : Option ℕ) : Type 0 where
  pub is : least_of after (hit_ids text all) ≡ lesser least (least_of after (hit_ids text rest))
  pub order : AreInOrder rest

pub least_start : (text : List ℕ) (after : Option ℕ) (all : List Entry) → AreInOrder all → Least text after all all None
least_start text after all up = record { is = refl; order = up }

pub least_run : (text : List ℕ) (after : Option ℕ) (all rest run behind : List Entry) (least found least' : Option ℕ) → Least text after all rest least
    → IsNextRun text rest run behind → found ≡ first_above after (map (λ e. e.id) run) → least' ≡ lesser least found → Least text after all behind least'
least_run text after all rest run behind least found least' l r found_is is = record {
  is =
      let run_is : found ≡ least_of after (map (λ (e : Entry). e.id) run) =
      found_is ∙ least_ascending after (map (λ (e : Entry). e.id) run) (ids_ascend run r.ascending) in
      let parts : hit_ids text rest ≡ map (λ (e : Entry). e.id) run ++ hit_ids text behind =
      ap (map (λ (e : Entry). e.id)) r.found ∙ ids_parts run (filter (hits text) behind) in
      l.is ∙ ap (λ (ids : List ℕ). lesser least (least_of after ids)) parts
      ∙ ap (lesser least) (least_parts after (map (λ (e : Entry). e.id) run) (hit_ids text behind))
      ∙ sym (lesser_assoc least (least_of after (map (λ (e : Entry). e.id) run)) (least_of after (hit_ids text behind)))
      ∙ ap (λ (o : Option ℕ). lesser (lesser least o) (least_of after (hit_ids text behind))) (sym run_is)
      ∙ ap (λ (o : Option ℕ). lesser o (least_of after (hit_ids text behind))) (sym is);
  order = r.order;
}

pub least_all : (text : List ℕ) (after : Option ℕ) (all rest : List Entry) (least : Option ℕ) → Least text after all rest least
    → filter (hits text) rest ≡ [] → least ≡ first_above after (matches text (by_number (map row_of all)))
least_all text after all rest least l none =
    let none' : least_of after (hit_ids text all) ≡ least = l.is ∙ rw none (lesser_none least) in
    sym none' ∙ sym (least_sorted after (hit_ids text all)) ∙ ap (first_above after) (sym (matches_sorted text all))

-- what is left of a list that was turned by what it held before, once that is cut off
pub turned : (old ids pushed : List ℕ) (held len : ℕ) → pushed ≡ old ++ ids → held ≡ length old → len ≡ length pushed
    → take (len - held) (drop held pushed ++ take held pushed) ≡ ids
turned old ids pushed held len is held_is len_is =
    let back : drop held pushed ≡ ids = rw (is, held_is) (drop-append_seam old ids) in
    let front : take held pushed ≡ old = rw (is, held_is) (take-append_seam old ids) in
    let all : length pushed ≡ length old + length ids = ap length is ∙ length-append old ids in
    let kept : len - held ≡ length ids = omega (arith, all, held_is, len_is) in
    rw (back, front, kept) (take-append_seam ids old)
