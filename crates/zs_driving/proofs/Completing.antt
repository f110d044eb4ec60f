use Rattle.std.proofs.Common.{◌≡◌, ℕ, ◌<◌, List, [], ◌∷◌, ◌++◌, length, Bool, true, false, Option, Some, None, refl, ◌∙◌, ap, subst, arith, length-append}
use Rattle.zs_keys.specs.Stream.{TakesOff}
use Rattle.std.specs.Prelude.{◌&&◌, is_some, nat_le, Result, Ok, Err}
use Rattle.std.proofs.lemmas.Bool.Decides.{nat_tests}
use Rattle.zs_lines.specs.Lines.{lines}
use Rattle.zs_driving.specs.declared.driving.Driven.{Driven}
use Rattle.zs_driving.specs.declared.errors.DriveError.{DriveError}
use Rattle.zs_driving.specs.declared.errors.DriveError.TheVariants.{ReadFault, WriteFault, BadLine, LineTooLong, OutOfTurns, NoMemory}
use Rattle.zs_driving.specs.Tasks.{Task, is_good}
use Rattle.zs_driving.specs.Driving.{StopsAt, IsNoLine, IsLong, AreGood, HasSpentTurns, Completes, DrivesTo, Supply, Outlet}

-- a row among good rows is good
good_at : (t : Task) (before : List (List ℕ)) (row : List ℕ) (after : List (List ℕ)) → AreGood t (before ++ row ∷ after) → is_good t row ≡ true
good_at t [] row after good = good.0
good_at t (first ∷ before) row after good = good_at t before row after good.1

-- a good row is taken
not_none : (t : Task) (row : List ℕ) → is_good t row ≡ true → t.is_line row ≡ false → ⊥
not_none t row good none = let false_true : (false && nat_le (length row) t.line_max) ≡ true = rw none at good in cc

-- a good row is short enough
not_long : (t : Task) (row : List ℕ) → is_good t row ≡ true → t.line_max < length row → ⊥
not_long t row good long = go (t.is_line row) (nat_le (length row) t.line_max) refl good
  where
    go : (b short : Bool) → nat_le (length row) t.line_max ≡ short → (b && short) ≡ true → ⊥
    go true true same h = grind (arith, nat_tests, same, long)
    go true false same h = cc
    go false short same h = cc

-- no line of a good input stops a run
never_stops : (t : Task) (input : List ℕ) (left' : Option (List ℕ)) (Puts : List ℕ → Type 0) (number : ℕ) (IsCause : List ℕ → Type 0)
    → AreGood t (lines input) → ((row : List ℕ) → is_good t row ≡ true → IsCause row → ⊥)
    → StopsAt t (Some input) left' Puts number IsCause → ⊥
never_stops t input left' Puts number IsCause good never stop =
    let took = stop.source.source in
    let ends : stop.ended ≡ true → took.0 ≡ [] = λ ended. let spent = stop.source.spent ended in cc in
    let next = stop.cause took.0 ends in
    let cut : lines input ≡ stop.read ++ next.0 ∷ next.1 =
    ap lines took.1 ∙ stop.source.cut took.0 ends ∙ ap (λ (rows : List (List ℕ)). stop.read ++ rows) next.2 in
    never next.0 (good_at t stop.read next.0 next.1 (subst (λ (rows : List (List ℕ)). AreGood t rows) cut good)) next.3

-- a valid input has fewer bytes than there may be reads
never_spent : (t : Task) (input : List ℕ) (before after : Supply) → before.left ≡ Some input → length input < t.turns
    → HasSpentTurns t.turns before after → ⊥
never_spent t input before after holds few spent =
    let P : Option (List ℕ) → Type 0 = λ o. TakesOff o spent.bytes.0 after.left in
    let took : TakesOff (Some input) spent.bytes.0 after.left = subst P holds spent.bytes.1 in
    omega (arith, few, spent.bytes.2, ap length took.1, length-append spent.bytes.0 took.0)

-- a run over a valid input, without faults, ends well or for want of memory
pub completes : (t : Task) (IsEnd : ℕ → Type 0) (r : Result Driven DriveError) (before after : Supply) (from to : Outlet) (Puts : List ℕ → Type 0)
    → DrivesTo t IsEnd r before after from to Puts → Completes t r before after from to
completes t IsEnd (Ok driven) before after from to Puts d = λ input holds valid read write. tt
completes t IsEnd (Err ReadFault) before after from to Puts d = λ input holds valid read write. absurd (read (d.read_fault refl))
completes t IsEnd (Err WriteFault) before after from to Puts d = λ input holds valid read write. absurd (write (d.write_fault refl))
completes t IsEnd (Err (BadLine number)) before after from to Puts d = λ input holds valid read write.
    absurd (never_stops t input after.left Puts number (IsNoLine t) valid.0 (λ row good cause. not_none t row good cause.1)
    (subst (λ (o : Option (List ℕ)). StopsAt t o after.left Puts number (IsNoLine t)) holds (d.bad_line number refl)))
completes t IsEnd (Err (LineTooLong number)) before after from to Puts d = λ input holds valid read write.
    absurd (never_stops t input after.left Puts number (IsLong t) valid.0 (not_long t)
    (subst (λ (o : Option (List ℕ)). StopsAt t o after.left Puts number (IsLong t)) holds (d.long_line number refl)))
completes t IsEnd (Err OutOfTurns) before after from to Puts d = λ input holds valid read write.
    absurd (never_spent t input before after holds valid.1 (d.out_of_turns refl))
completes t IsEnd (Err NoMemory) before after from to Puts d = λ input holds valid read write. refl
