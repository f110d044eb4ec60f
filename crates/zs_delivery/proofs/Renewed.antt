-- Lists of rows in which each number stands once, as it was told last.
use Rattle.std.proofs.Common.{◌≡◌, ℕ, List, [], ◌∷◌, ◌++◌, Bool, true, false, Option, Some, None, refl, sym, ◌∙◌, ap, subst, cond}
use Rattle.std.specs.Prelude.{◌==◌, ◌||◌, not, find, filter}
use Rattle.std.specs.List.{list_any}
use Rattle.std.specs.Option.{option_or}
use Rattle.std.proofs.lemmas.Bool.{eqb-true}

module _ {R : Type 0} (number : R → ℕ) where
  -- the row of a number
  abbrev pub under : ℕ → List R → Option R
  under id rows = find (λ row. number row == id) rows

  -- the rows of all other numbers
  abbrev pub without : ℕ → List R → List R
  without n rows = filter (λ row. not (number row == n)) rows

  pub under_without : (n id : ℕ) (rows : List R) → under id (without n rows) ≡ cond (n == id) None (under id rows)
  under_without n id [] = go (n == id)
    where
      go : (b : Bool) → under id [] ≡ cond b None (under id [])
      go true = refl
      go false = refl
  under_without n id (row ∷ rows) = go (under_without n id rows) (number row == n) refl
    where
      same : (number row == n) ≡ true → (n == id) ≡ (number row == id)
      same is = ap (λ (k : ℕ). k == id) (sym (eqb-true (number row) n is))

      kept : (a b : Bool) → ((a ≡ true) → (b ≡ true) → (number row == n) ≡ true) → (number row == n) ≡ false
          → cond a (Some row) (cond b None (under id rows)) ≡ cond b None (cond a (Some row) (under id rows))
      kept true true both apart =
          let same_number : (number row == n) ≡ true = both refl refl in
          cc
      kept true false both apart = refl
      kept false b both apart = refl

      both : (number row == id) ≡ true → (n == id) ≡ true → (number row == n) ≡ true
      both mine its = subst (λ (k : ℕ). (number row == k) ≡ true) (sym (eqb-true n id its)) mine

      go : under id (without n rows) ≡ cond (n == id) None (under id rows)
          → (b : Bool) → (number row == n) ≡ b → under id (cond (not b) (row ∷ without n rows) (without n rows)) ≡ cond (n == id) None (cond (number row == id) (Some row) (under id rows))
      go rest true is = rest ∙ gone (n == id) (number row == id) (same is)
        where
          gone : (a b : Bool) → a ≡ b → cond a None (under id rows) ≡ cond a None (cond b (Some row) (under id rows))
          gone true b at = refl
          gone false true at = cc
          gone false false at = refl
      go rest false is =
          ap (λ (o : Option R). cond (number row == id) (Some row) o) rest
          ∙ kept (number row == id) (n == id) both is

  pub under_behind : (id : ℕ) (rows : List R) (row : R) → under id (rows ++ row ∷ []) ≡ option_or (under id rows) (cond (number row == id) (Some row) None)
  under_behind id [] row = refl
  under_behind id (x ∷ rows) row = go (under_behind id rows row) (number x == id)
    where
      go : under id (rows ++ row ∷ []) ≡ option_or (under id rows) (cond (number row == id) (Some row) None)
          → (b : Bool) → cond b (Some x) (under id (rows ++ row ∷ [])) ≡ option_or (cond b (Some x) (under id rows)) (cond (number row == id) (Some row) None)
      go rest true = refl
      go rest false = rest

  -- a row that is told anew stands for its number, and all others as they were
  pub under_renewed : (n id : ℕ) (rows : List R) (row : R) → number row ≡ n → under id (without n rows ++ row ∷ []) ≡ cond (n == id) (Some row) (under id rows)
  under_renewed n id rows row its =
      under_behind id (without n rows) row
      ∙ ap (λ (o : Option R). option_or o (cond (number row == id) (Some row) None)) (under_without n id rows)
      ∙ ap (λ (k : ℕ). option_or (cond (n == id) None (under id rows)) (cond (k == id) (Some row) None)) its
      ∙ go (n == id) (under id rows)
    where
      go : (b : Bool) (o : Option R) → option_or (cond b None o) (cond b (Some row) None) ≡ cond b (Some row) o
      go true o = refl
      go false None = refl
      go false (Some x) = refl

  -- a filter that keeps all
  pub all_kept : (rows : List R) → filter (λ row. true) rows ≡ rows
  all_kept [] = refl
  all_kept (row ∷ rows) = ap (λ (xs : List R). row ∷ xs) (all_kept rows)

  -- where no row has a number, none is under it
  pub none_under : (id : ℕ) (rows : List R) → list_any (λ row. number row == id) rows ≡ false → under id rows ≡ None
  none_under id [] none = refl
  none_under id (row ∷ rows) none = go (λ rest. none_under id rows rest) (number row == id) none
    where
      go : (list_any (λ r. number r == id) rows ≡ false → under id rows ≡ None) → (b : Bool) → (b || list_any (λ row. number row == id) rows) ≡ false → cond b (Some row) (under id rows) ≡ None
      go rest true is = cc
      go rest false is = rest is
