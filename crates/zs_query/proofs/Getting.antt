-- What each call makes of the open gets.
use Rattle.std.proofs.Common.{◌≡◌, ◌≢◌, ℕ, List, [], ◌∷◌, Result, Ok, Err, OnOk, OnErr, IfOk, refl, ap, ◌∙◌, arith}
use Rattle.std.specs.List.{AllByRecursion}
use Rattle.std.proofs.lemmas.Bool.Decides.{nat_tests}
use Rattle.zs_sample.specs.Reply.{Replied}
use Rattle.zs_query.specs.declared.open_get.OpenGet.{OpenGet}
use Rattle.zs_query.specs.declared.get_row.GetRow.{GetRow}
use Rattle.zs_query.specs.declared.side.Side.{Side}
use Rattle.zs_query.specs.declared.outcome.Peek.{Peek}
use Rattle.zs_query.specs.declared.outcome.Peek.TheVariants as peek
use Rattle.zs_query.specs.Gets.{with_get, less, less_final, after_reply, replied, peek_get}

-- where no get has the number, none is changed
pub with_none : (number : ℕ) (change : OpenGet → OpenGet) (gets : List OpenGet) → AllByRecursion (λ (g : OpenGet). g.row.number ≢ number) gets → with_get number change gets ≡ gets
with_none number change [] all = refl
with_none number change (g ∷ gets) all = grind (arith, nat_tests, all.0, with_none number change gets all.1)

-- a reply changes no row
row_after : (p : Peek) (r : Replied) (g : OpenGet) → (after_reply p r g).row ≡ g.row
row_after peek.Unknown r g = refl
row_after peek.Unmatched r g = refl
row_after peek.Kept r g = refl
row_after peek.Dropped r g = refl
row_after peek.Handed r g = refl

pub row_taken : {T E : Type 0} (result : Result T E) (r : Replied) (old new : OpenGet) → OnOk result (new ≡ replied r old) → OnErr result (new ≡ old) → new.row ≡ old.row
row_taken (Ok t) r old new ok err = ap (λ (g : OpenGet). g.row) ok ∙ row_after (peek_get old r) r old
row_taken (Err e) r old new ok err = ap (λ (g : OpenGet). g.row) err

-- a fact that follows from another where a call succeeds
pub on_ok : {T E P Q : Type 0} (result : Result T E) → (P → Q) → OnOk result P → OnOk result Q
on_ok (Ok t) f p = f p
on_ok (Err e) f p = tt

-- and where it fails
pub on_err : {T E P Q : Type 0} (result : Result T E) → (P → Q) → OnErr result P → OnErr result Q
on_err (Ok t) f p = tt
on_err (Err e) f p = f p

-- an answer that is named in two ways
pub if_ok : {T E : Type 0} (result : Result T E) (a b : T) → a ≡ b → IfOk result (λ t. t ≡ a) → IfOk result (λ t. t ≡ b)
if_ok (Ok t) a b e is = is ∙ e
if_ok (Err x) a b e is = tt

-- a get of which the row alone is written
pub row_less : (side : Side) (row : GetRow) (g h : OpenGet) → row ≡ less side g.row → g ≡ h → let new : OpenGet = record { row = row; kept = g.kept; passed = g.passed } in new ≡ less_final side h
row_less side row g h is same =
    let step : (let new : OpenGet = record { row = row; kept = g.kept; passed = g.passed } in new ≡ less_final side g) = λ i. record { row = is i; kept = g.kept; passed = g.passed } in
    step ∙ ap (less_final side) same
