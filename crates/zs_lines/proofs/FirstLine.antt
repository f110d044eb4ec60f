-- Which line comes first, by what a reader holds.
use Rattle.std.proofs.Common.{ℕ, suc, ◌≡◌, ◌+◌, ◌<◌, ◌≤◌, ◌==◌, true, false, List, [], ◌∷◌, ◌++◌, Some, None, Result, Err, length, take, drop, refl, ap, ◌∙◌, arith, cond, not, append-nil, length-append}
use Rattle.std.specs.List.{position}
use Rattle.std.proofs.lemmas.List.{take_all, drop_all, length-take}
use Rattle.std.proofs.lemmas.Result.{err_from_is_err_and}
use Rattle.std.specs.Result.{IsErrAnd}
use Rattle.zs_lines.specs.Lines.{lines, onto_line}
use Rattle.zs_lines.specs.Reading.{Reading, GivesLine, IsTooLong}
use Rattle.zs_lines.specs.declared.reader.LineError.{LineError}
use Rattle.zs_lines.proofs.Cuts.{feed, none-found, some-found}

lines-feed : (held left : List ℕ) → feed held < length held
    → lines (held ++ left) ≡ take (feed held) held ∷ lines (drop (suc (feed held)) held ++ left)
lines-feed [] left h = absurd (omega arith)
lines-feed (b ∷ bs) left h =
    (elim (b == 10) as (λ t. cond (not t) (1 + feed bs) 0 < length (b ∷ bs)
    → cond t ([] ∷ lines (bs ++ left)) (onto_line b (lines (bs ++ left)))
    ≡ take (cond (not t) (1 + feed bs) 0) (b ∷ bs) ∷ lines (drop (suc (cond (not t) (1 + feed bs) 0)) (b ∷ bs) ++ left)) [
      | true ↦ λ m. refl
      | false ↦ λ m. let e : 1 + feed bs ≡ suc (feed bs) = omega arith in
          rw e (ap (onto_line b) (lines-feed bs left (omega arith)))
    ]) h

-- the line that ends at the first line feed
pub lines-at : (held left : List ℕ) (place : ℕ) → Some place ≡ position (λ b. b == 10) held
    → lines (held ++ left) ≡ take place held ∷ lines (drop (place + 1) held ++ left)
lines-at held left place h =
    let found = some-found held place h in
    let e : place + 1 ≡ suc (feed held) = omega (arith, found.0) in
    rw (e, found.0) (lines-feed held left (omega (arith, found.0, found.1)))

onto-start : (b : ℕ) (ls : List (List ℕ))
    → (bytes : List ℕ) × (more : List (List ℕ)) × (onto_line b ls ≡ ((b ∷ []) ++ bytes) ∷ more)
onto-start b [] = ([], [], refl)
onto-start b (l ∷ ls) = (l, ls, refl)

lines-start : (b : ℕ) (bs left : List ℕ) → feed (b ∷ bs) ≡ length (b ∷ bs)
    → (bytes : List ℕ) × (more : List (List ℕ)) × (lines ((b ∷ bs) ++ left) ≡ ((b ∷ bs) ++ bytes) ∷ more)
lines-start b [] left h =
    (elim (b == 10) as (λ t. cond (not t) (1 + 0) 0 ≡ 1
    → (bytes : List ℕ) × (more : List (List ℕ))
    × (cond t ([] ∷ lines left) (onto_line b (lines left)) ≡ ((b ∷ []) ++ bytes) ∷ more))
    [ true ↦ λ m. absurd (omega arith) | false ↦ λ m. onto-start b (lines left) ]) h
lines-start b (d ∷ ds) left h =
    (elim (b == 10) as (λ t. cond (not t) (1 + feed (d ∷ ds)) 0 ≡ length (b ∷ d ∷ ds)
    → (bytes : List ℕ) × (more : List (List ℕ))
    × (cond t ([] ∷ lines ((d ∷ ds) ++ left)) (onto_line b (lines ((d ∷ ds) ++ left))) ≡ ((b ∷ d ∷ ds) ++ bytes) ∷ more)) [
      | true ↦ λ m. absurd (omega arith)
      | false ↦ λ m. let next = lines-start d ds left (omega arith) in
          (next.0, next.1, ap (onto_line b) next.2)
    ]) h

lines-whole : (b : ℕ) (bs : List ℕ) → feed (b ∷ bs) ≡ length (b ∷ bs) → lines (b ∷ bs) ≡ (b ∷ bs) ∷ []
lines-whole b [] h =
    (elim (b == 10) as (λ t. cond (not t) (1 + 0) 0 ≡ 1 → cond t ([] ∷ []) (onto_line b []) ≡ (b ∷ []) ∷ [])
    [ true ↦ λ m. absurd (omega arith) | false ↦ λ m. refl ]) h
lines-whole b (d ∷ ds) h =
    (elim (b == 10) as (λ t. cond (not t) (1 + feed (d ∷ ds)) 0 ≡ length (b ∷ d ∷ ds)
    → cond t ([] ∷ lines (d ∷ ds)) (onto_line b (lines (d ∷ ds))) ≡ (b ∷ d ∷ ds) ∷ [])
    [ true ↦ λ m. absurd (omega arith) | false ↦ λ m. ap (onto_line b) (lines-whole d ds (omega arith)) ]) h

-- what is held without a line feed begins a line
pub lines-held : (held left : List ℕ) → None ≡ position (λ b. b == 10) held → 0 < length held
    → (bytes : List ℕ) × (more : List (List ℕ)) × (lines (held ++ left) ≡ (held ++ bytes) ∷ more)
lines-held [] left h k = absurd (omega arith)
lines-held (b ∷ bs) left h k = lines-start b bs left (none-found (b ∷ bs) h)

-- and where nothing follows, it is one
pub lines-rest : (held : List ℕ) → None ≡ position (λ b. b == 10) held → 0 < length held → lines held ≡ held ∷ []
lines-rest [] h k = absurd (omega arith)
lines-rest (b ∷ bs) h k = lines-whole b bs (none-found (b ∷ bs) h)

-- the line up to a line feed is the next
pub given-line : (old new : Reading) (place number : ℕ) (bytes : List ℕ) → Some place ≡ position (λ b. b == 10) old.held
    → bytes ≡ take place old.held → number ≡ old.given + 1 → place ≤ old.line_max
    → new ≡ record old { held = drop (place + 1) old.held; given = old.given + 1 }
    → GivesLine old new [] number bytes
given-line old new place number bytes at taken counted short after = rw after (record {
  line = λ more follows. rw taken (lines-at old.held more place at);
  short = rw taken (omega (arith, length-take place old.held));
  number = counted;
  given = refl;
  line_max = refl;
})

-- the rest is the last line
pub given-rest : (old new : Reading) (count number : ℕ) (bytes : List ℕ) → None ≡ position (λ b. b == 10) old.held
    → old.ended ≡ true → count ≡ length old.held → 0 < count
    → bytes ≡ take count old.held → number ≡ old.given + 1 → count ≤ old.line_max
    → new ≡ record old { held = drop (count + 0) old.held; given = old.given + 1 }
    → GivesLine old new [] number bytes
given-rest old new count number bytes whole ended is some taken counted short after =
    let all : bytes ≡ old.held = taken ∙ take_all count old.held (omega arith) in
    rw after (record {
      line = λ more follows. let none : more ≡ [] = follows ended in
          rw (none, append-nil, drop_all (count + 0) old.held (omega arith), all) (lines-rest old.held whole (omega arith));
      short = rw all (omega arith);
      number = counted;
      given = refl;
      line_max = refl;
    })

pub long-line : (old : Reading) (place : ℕ) → Some place ≡ position (λ b. b == 10) old.held → old.line_max < place
    → IsTooLong old []
long-line old place at long = λ more.
    let found = some-found old.held place at in (
      take place old.held,
      lines (drop (place + 1) old.held ++ more),
      lines-at old.held more place at,
      omega (arith, length-take place old.held),
    )

pub long-rest : (old : Reading) → None ≡ position (λ b. b == 10) old.held → old.line_max < length old.held
    → IsTooLong old []
long-rest old whole long = λ more.
    let first = lines-held old.held more whole (omega arith) in
    (old.held ++ first.0, first.1, first.2, omega (arith, length-append old.held first.0))

-- a `?` hands an error on as it is
pub same-error : {A B : Type 0} (given : Result A LineError) (result : Result B LineError) (e x : LineError)
    → given ≡ Err e → IsErrAnd result (λ y. y ≡ e) → result ≡ Err x → given ≡ Err x
same-error given result e x was now is =
    let p = err_from_is_err_and result now in
    cc (was, p.1, p.2, is)
