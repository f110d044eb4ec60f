-- How an index follows the rows that it is of.
use Rattle.std.proofs.Common.{◌≡◌, ℕ, Bool, true, false, List, [], Option, Some, None, refl, sym, ap, ◌∙◌, arith}
use Rattle.std.specs.Prelude.{◌==◌, ◌&&◌, ◌||◌, not, is_some, if◌then◌else◌}
use Rattle.std.proofs.lemmas.Bool.Decides.{nat_tests}
use Rattle.zs_rows.specs.declared.mark.Mark.{Mark}
use Rattle.zs_rows.specs.Index.{is_marked, names, row_names, Notes, Forgets, IsSame, IsIndexOf}
use Rattle.zs_rows.specs.Rows.{row_at, Updates}

no_key : {X : Type 0} (key_of : X → Option ℕ) (k : ℕ) (r : Option X) → is_some r ≡ false → row_names key_of k r ≡ false
no_key key_of k None no_row = refl
no_key key_of k (Some y) no_row = cc

same_number : (n q : ℕ) → (n == q) ≡ true → n ≡ q
same_number n q is = grind (arith, nat_tests, is)

-- no row, no mark
pub index_none : {X : Type 0} (key_of : X → Option ℕ) → IsIndexOf key_of [] []
index_none key_of k q = refl

-- with one row more, and its mark
pub index_more : {X : Type 0} (key_of : X → Option ℕ) (n : ℕ) (x : X) (rows rows' : List (ℕ × X)) (marks marks' : List Mark) → is_some (row_at n rows) ≡ false → Updates n (Some x) rows rows' → Notes (key_of x) n marks marks' → IsIndexOf key_of rows marks → IsIndexOf key_of rows' marks'
index_more {X} key_of n x rows rows' marks marks' unused found notes is k q = notes k q ∙ (rw (is k q, found q) (go (n == q) refl))
  where
    go : (b : Bool) → (n == q) ≡ b → ((names k (key_of x) && (q == n)) || row_names key_of k (row_at q rows)) ≡ row_names key_of k (if n == q then Some x else row_at q rows)
    go true same =
        let none = no_key key_of k (row_at q rows) (ap (λ m. is_some (row_at m rows)) (sym (same_number n q same)) ∙ unused) in
        rw (none, same) (here (names k (key_of x)))
      where
        here : (b : Bool) → ((b && (q == n)) || false) ≡ b
        here true = grind (arith, nat_tests, same)
        here false = refl
    go false apart = grind (arith, nat_tests, apart)

-- with one row less, and without its mark
pub index_less : {X : Type 0} (key_of : X → Option ℕ) (n : ℕ) (x : X) (rows rows' : List (ℕ × X)) (marks marks' : List Mark) → row_at n rows ≡ Some x → Updates n None rows rows' → Forgets (key_of x) n marks marks' → IsIndexOf key_of rows marks → IsIndexOf key_of rows' marks'
index_less {X} key_of n x rows rows' marks marks' there found forgets is k q = forgets k q ∙ (rw (is k q, found q) (go (n == q) refl))
  where
    go : (b : Bool) → (n == q) ≡ b → (not (names k (key_of x) && (q == n)) && row_names key_of k (row_at q rows)) ≡ row_names key_of k (if n == q then None else row_at q rows)
    go true same =
        let row : row_at q rows ≡ Some x = ap (λ m. row_at m rows) (sym (same_number n q same)) ∙ there in
        rw (row, same) (here (names k (key_of x)))
      where
        here : (b : Bool) → (not (b && (q == n)) && b) ≡ false
        here true = grind (arith, nat_tests, same)
        here false = refl
    go false apart = grind (arith, nat_tests, apart)

-- without a row that there was none of
pub index_kept : {X : Type 0} (key_of : X → Option ℕ) (n : ℕ) (rows rows' : List (ℕ × X)) (marks : List Mark) → row_at n rows ≡ None → Updates n None rows rows' → IsIndexOf key_of rows marks → IsIndexOf key_of rows' marks
index_kept {X} key_of n rows rows' marks none found is k q = is k q ∙ rw (found q) (go (n == q) refl)
  where
    go : (b : Bool) → (n == q) ≡ b → row_names key_of k (row_at q rows) ≡ row_names key_of k (if n == q then None else row_at q rows)
    go true same = rw same (ap (row_names key_of k) (ap (λ m. row_at m rows) (sym (same_number n q same)) ∙ none))
    go false apart = rw apart refl

-- with another row in the place of one that names the same key
pub index_same : {X : Type 0} (key_of : X → Option ℕ) (n : ℕ) (x y : X) (rows rows' : List (ℕ × X)) (marks : List Mark) → row_at n rows ≡ Some x → key_of y ≡ key_of x → Updates n (Some y) rows rows' → IsIndexOf key_of rows marks → IsIndexOf key_of rows' marks
index_same {X} key_of n x y rows rows' marks there same_key found is k q = is k q ∙ rw (found q) (go (n == q) refl)
  where
    go : (b : Bool) → (n == q) ≡ b → row_names key_of k (row_at q rows) ≡ row_names key_of k (if n == q then Some y else row_at q rows)
    go true same =
        let row : row_at q rows ≡ Some x = ap (λ m. row_at m rows) (sym (same_number n q same)) ∙ there in
        rw (row, same) (ap (names k) (sym same_key))
    go false apart = rw apart refl

-- with the same marks
pub index_as : {X : Type 0} (key_of : X → Option ℕ) (rows : List (ℕ × X)) (marks marks' : List Mark) → IsSame marks marks' → IsIndexOf key_of rows marks → IsIndexOf key_of rows marks'
index_as key_of rows marks marks' same is k n = same k n ∙ is k n

-- a mark that was new and is taken back
pub undone : (key : Option ℕ) (n : ℕ) (before between after : List Mark) → ((k : ℕ) → is_marked k n before ≡ false) → Notes key n before between → Forgets key n between after → IsSame before after
undone key n before between after free notes forgets k q = forgets k q ∙ (rw (notes k q) (go (q == n) refl))
  where
    go : (b : Bool) → (q == n) ≡ b → (not (names k key && (q == n)) && ((names k key && (q == n)) || is_marked k q before)) ≡ is_marked k q before
    go true same =
        let none : is_marked k q before ≡ false = ap (λ m. is_marked k m before) (sym (same_number n q (flip same))) ∙ free k in
        rw (none, same) (here (names k key))
      where
        flip : (q == n) ≡ true → (n == q) ≡ true
        flip p = grind (arith, nat_tests, p)

        here : (b : Bool) → (not (b && true) && ((b && true) || false)) ≡ false
        here true = refl
        here false = refl
    go false apart = rw apart (here (names k key))
      where
        here : (b : Bool) → (not (b && false) && ((b && false) || is_marked k q before)) ≡ is_marked k q before
        here true = refl
        here false = refl

-- a number that no row has stands under no key
pub index_free : {X : Type 0} (key_of : X → Option ℕ) (n : ℕ) (rows : List (ℕ × X)) (marks : List Mark) → is_some (row_at n rows) ≡ false → IsIndexOf key_of rows marks → (k : ℕ) → is_marked k n marks ≡ false
index_free key_of n rows marks unused is k = is k n ∙ no_key key_of k (row_at n rows) unused
