-- The greatest entry of a key was written there, and none that was is above it.
use Rattle.std.proofs.Common.{◌≡◌, ℕ, Bool, true, false, cond, List, [], ◌∷◌, Option, Some, None, refl, sym, ap, ◌∙◌, subst, arith}
use Rattle.std.specs.Prelude.{bytes_eq, MatchOption}
use Rattle.std.specs.List.{All, Contains}
use Rattle.std.proofs.lemmas.List.Elements.{All-cons, All-weaker, Contains-append_right}
use Rattle.zs_store.specs.Entry.{EntrySeen, is_below, greater, greatest}
use Rattle.zs_store.specs.Store.{Write, best}
use Rattle.zs_store.specs.Laws.{IsGreatest, BestIsGreatest}
use Rattle.zs_store.proofs.Newer.{not_below, not_below_itself, below_not_above, when_below, when_not_below}
use Rattle.zs_store.proofs.Stores.{same_key, same_itself}

first_written : (key : List ℕ) (w : Write) (ws : List Write) → key ≡ w.key → Contains (w ∷ ws) (record { key = key; entry = w.entry })
first_written key w ws same = (0, omega arith, ap (λ k. record { key = k; entry = w.entry }) (sym same))

later_written : (key : List ℕ) (w : Write) (ws : List Write) (entry : EntrySeen) → Contains ws (record { key = key; entry = entry }) → Contains (w ∷ ws) (record { key = key; entry = entry })
later_written key w ws entry has = Contains-append_right (w ∷ []) ws (record { key = key; entry = entry }) has

abbrev NotThere : List ℕ → Write → Type 0
NotThere key w = w.key ≡ key → ⊥

abbrev NotAbove : List ℕ → EntrySeen → Write → Type 0
NotAbove key entry w = w.key ≡ key → is_below entry w.entry ≡ false

other_key : (key : List ℕ) (w : Write) → bytes_eq key w.key ≡ false → NotThere key w
other_key key w h same = absurd (let e = sym h ∙ subst (λ k. bytes_eq key k ≡ true) (sym same) (same_itself key) in cc)

abbrev IsBest : List ℕ → List Write → Option EntrySeen → Type 0
IsBest key ws o = MatchOption o (All (NotThere key) ws) (IsGreatest key ws)

first_is : (key : List ℕ) (w : Write) (ws : List Write) → key ≡ w.key → All (NotAbove key w.entry) ws → IsGreatest key (w ∷ ws) w.entry
first_is key w ws same rest = record {
  written = first_written key w ws same;
  above = All-cons (NotAbove key w.entry) w ws (λ k. not_below_itself w.entry) rest;
}

greater_is : (key : List ℕ) (w : Write) (ws : List Write) (e : EntrySeen) → key ≡ w.key → IsGreatest key ws e → IsGreatest key (w ∷ ws) (greater w.entry e)
greater_is key w ws e same is = go (is_below w.entry e) refl
  where
    go : (b : Bool) → is_below w.entry e ≡ b → IsGreatest key (w ∷ ws) (greater w.entry e)
    go true h = subst (IsGreatest key (w ∷ ws)) (sym (when_below w.entry e h)) (record {
      written = later_written key w ws e is.written;
      above = All-cons (NotAbove key e) w ws (λ k. below_not_above w.entry e h) is.above;
    })
    go false h = subst (IsGreatest key (w ∷ ws)) (sym (when_not_below w.entry e h))
        (first_is key w ws same (All-weaker (NotAbove key e) (NotAbove key w.entry) (λ v above k. not_below w.entry e v.entry h (above k)) ws is.above))

with_first : (key : List ℕ) (w : Write) (ws : List Write) (o : Option EntrySeen) → key ≡ w.key → IsBest key ws o → IsBest key (w ∷ ws) (greatest w.entry o)
with_first key w ws None same is = first_is key w ws same (All-weaker (NotThere key) (NotAbove key w.entry) (λ v none k. absurd (none k)) ws is)
with_first key w ws (Some e) same is = greater_is key w ws e same is

with_other : (key : List ℕ) (w : Write) (ws : List Write) (o : Option EntrySeen) → bytes_eq key w.key ≡ false → IsBest key ws o → IsBest key (w ∷ ws) o
with_other key w ws None h is = All-cons (NotThere key) w ws (other_key key w h) is
with_other key w ws (Some e) h is = record {
  written = later_written key w ws e is.written;
  above = All-cons (NotAbove key e) w ws (λ k. absurd (other_key key w h k)) is.above;
}

pub best_is_greatest : BestIsGreatest
best_is_greatest key [] = λ k d h. absurd (omega arith)
best_is_greatest key (w ∷ ws) = go (bytes_eq key w.key) refl (best key ws) (best_is_greatest key ws)
  where
    go : (b : Bool) → bytes_eq key w.key ≡ b → (o : Option EntrySeen) → IsBest key ws o → IsBest key (w ∷ ws) (cond b (greatest w.entry o) o)
    go true h o is = with_first key w ws o (same_key key w.key h) is
    go false h o is = with_other key w ws o h is
