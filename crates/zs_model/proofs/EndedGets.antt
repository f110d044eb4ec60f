-- A walk over the open gets, from each to the next, sees each of them once.
use Rattle.std.proofs.Common.{◌≡◌, ◌<◌, ℕ, List, [], ◌∷◌, ◌++◌, length, Bool, true, false, Option, Some, None, refl, sym, ◌∙◌, ap, arith, cond, subst}
use Rattle.std.specs.Prelude.{nat_lt, map, filter, if◌then◌else◌}
use Rattle.std.specs.List.{AllByRecursion}
use Rattle.std.proofs.lemmas.Bool.Decides.{nat_tests}
use Rattle.zs_query.specs.Ascending.{Ascend}
use Rattle.zs_query.specs.Asked.{News, is_end}
use Rattle.zs_query.specs.Gets.{is_behind, first_row}
use Rattle.zs_query.specs.declared.get_row.GetRow.{GetRow}
use Rattle.zs_query.specs.declared.open_get.OpenGet.{OpenGet}
use Rattle.zs_events.specs.declared.turn.Effect.{Effect}
use Rattle.zs_model.specs.GetEffects.{end_get, cut_effects}

-- the gets behind a number
abbrev pub behind : Option ℕ → List OpenGet → List OpenGet
behind after gets = filter (λ g. is_behind after g.row.number) gets

-- those above one that is behind a number are behind it too, and behind the one
all_pass : (p : OpenGet → Bool) (n : ℕ) (gets : List OpenGet) → ((g : OpenGet) → n < g.row.number → p g ≡ true) → AllByRecursion (λ (g : OpenGet). n < g.row.number) gets → filter p gets ≡ gets
all_pass p n [] pass all = refl
all_pass p n (g ∷ gets) pass all = rw (pass g all.0) (ap (λ (rest : List OpenGet). g ∷ rest) (all_pass p n gets pass all.1))

above_behind : (after : Option ℕ) (n m : ℕ) → is_behind after n ≡ true → n < m → is_behind after m ≡ true
above_behind None n m is less = refl
above_behind (Some a) n m is less = grind (arith, nat_tests, is, less)

above_itself : (n m : ℕ) → n < m → nat_lt n m ≡ true
above_itself n m less = grind (arith, nat_tests, less)

not_itself : (n : ℕ) → nat_lt n n ≡ false
not_itself n = grind (arith, nat_tests)

-- one that is not behind a number is not behind one that is
not_behind : (after : Option ℕ) (n m : ℕ) → is_behind after n ≡ false → is_behind after m ≡ true → nat_lt m n ≡ false
not_behind None n m is other = cc
not_behind (Some a) n m is other = grind (arith, nat_tests, is, other)

head_passes : (p : OpenGet → Bool) (xs : List OpenGet) (g : OpenGet) (gs : List OpenGet) → filter p xs ≡ g ∷ gs → p g ≡ true
head_passes p [] g gs is = cc
head_passes p (x ∷ xs) g gs is = go (p x) refl is (head_passes p xs g gs)
  where
    go : (b : Bool) → p x ≡ b → cond b (x ∷ filter p xs) (filter p xs) ≡ g ∷ gs → (filter p xs ≡ g ∷ gs → p g ≡ true) → p g ≡ true
    go true e is ih = let same : x ≡ g = cc in ap p (sym same) ∙ e
    go false e is ih = ih is

-- what is behind the first of them is the rest
rest_is : (gets : List OpenGet) → Ascend (λ (g : OpenGet). g.row.number) gets → (after : Option ℕ) (g : OpenGet) (gs : List OpenGet) → behind after gets ≡ g ∷ gs
    → behind (Some g.row.number) gets ≡ gs
rest_is [] up after g gs is = cc
rest_is (x ∷ xs) up after g gs is = go (is_behind after x.row.number) refl is (rest_is xs up.1 after g gs)
  where
    own : behind (Some x.row.number) (x ∷ xs) ≡ xs
    own = rw (not_itself x.row.number) (all_pass (λ (g : OpenGet). nat_lt x.row.number g.row.number) x.row.number xs (λ g less. above_itself x.row.number g.row.number less) up.0)

    go : (b : Bool) → is_behind after x.row.number ≡ b → cond b (x ∷ behind after xs) (behind after xs) ≡ g ∷ gs → (behind after xs ≡ g ∷ gs → behind (Some g.row.number) xs ≡ gs)
        → behind (Some g.row.number) (x ∷ xs) ≡ gs
    go true e is ih =
        let same : x ≡ g = cc in
        let all : behind after xs ≡ gs = cc in
        subst (λ (g : OpenGet). behind (Some g.row.number) (x ∷ xs) ≡ gs) same
        (own ∙ sym (all_pass (λ (g : OpenGet). is_behind after g.row.number) x.row.number xs (λ g less. above_behind after x.row.number g.row.number e less) up.0) ∙ all)
    go false e is ih =
        let passes : is_behind after g.row.number ≡ true = head_passes (λ (g : OpenGet). is_behind after g.row.number) xs g gs is in
        rw (not_behind after x.row.number g.row.number e passes) (ih is)

-- a walk stands at the first of them
record IsFirst (after : Option ℕ) (row : GetRow) (gets : List OpenGet) : Type 0 where
  get : OpenGet
  rest : List OpenGet
  its : get.row ≡ row
  are : behind after gets ≡ get ∷ rest

first_is : (after : Option ℕ) (row : GetRow) (gets : List OpenGet) → first_row (behind after gets) ≡ Some row → IsFirst after row gets
first_is after row gets first = go (behind after gets) refl first
  where
    go : (gs : List OpenGet) → behind after gets ≡ gs → first_row gs ≡ Some row → IsFirst after row gets
    go [] are first = cc
    go (g ∷ gs) are first = record { get = g; rest = gs; its = cc; are = are }

-- its end, if it ends, stands before those of the rest
one_cut : (news : News) (g : OpenGet) (gs : List OpenGet) → cut_effects news (g ∷ gs) ≡ (if is_end g.row news then end_get g.row.number ∷ [] else []) ++ cut_effects news gs
one_cut news g gs = go (is_end g.row news)
  where
    go : (b : Bool) → map end_get (map (λ (g : OpenGet). g.row.number) (cond b (g ∷ filter (λ (g : OpenGet). is_end g.row news) gs) (filter (λ (g : OpenGet). is_end g.row news) gs)))
        ≡ (if b then end_get g.row.number ∷ [] else []) ++ cut_effects news gs
    go true = refl
    go false = refl

pub cut_step : (news : News) (after : Option ℕ) (row : GetRow) (gets : List OpenGet) → Ascend (λ (g : OpenGet). g.row.number) gets → first_row (behind after gets) ≡ Some row
    → cut_effects news (behind after gets) ≡ (if is_end row news then end_get row.number ∷ [] else []) ++ cut_effects news (behind (Some row.number) gets)
cut_step news after row gets up first =
    let f = first_is after row gets first in
    ap (cut_effects news) f.are ∙ one_cut news f.get f.rest
    ∙ ap (λ (gs : List OpenGet). (if is_end f.get.row news then end_get f.get.row.number ∷ [] else []) ++ cut_effects news gs) (sym (rest_is gets up after f.get f.rest f.are))
    ∙ ap (λ (row : GetRow). (if is_end row news then end_get row.number ∷ [] else []) ++ cut_effects news (behind (Some row.number) gets)) f.its

pub cut_none : (news : News) (after : Option ℕ) (gets : List OpenGet) → first_row (behind after gets) ≡ None → cut_effects news (behind after gets) ≡ []
cut_none news after gets first = go (behind after gets) first
  where
    go : (gs : List OpenGet) → first_row gs ≡ None → cut_effects news gs ≡ []
    go [] first = refl
    go (g ∷ gs) first = cc

-- and fewer are left
pub fewer : (after : Option ℕ) (row : GetRow) (gets : List OpenGet) → Ascend (λ (g : OpenGet). g.row.number) gets → first_row (behind after gets) ≡ Some row
    → length (behind (Some row.number) gets) < length (behind after gets)
fewer after row gets up first =
    let f = first_is after row gets first in
    let left : behind (Some row.number) gets ≡ f.rest = ap (λ (row : GetRow). behind (Some row.number) gets) (sym f.its) ∙ rest_is gets up after f.get f.rest f.are in
    rw (left, f.are) (omega arith)

-- all are behind no number
pub behind_none : (gets : List OpenGet) → behind None gets ≡ gets
behind_none [] = refl
behind_none (g ∷ gets) = ap (λ (rest : List OpenGet). g ∷ rest) (behind_none gets)

assoc : (xs ys zs : List Effect) → (xs ++ ys) ++ zs ≡ xs ++ (ys ++ zs)
assoc [] ys zs = refl
assoc (x ∷ xs) ys zs = ap (λ (rest : List Effect). x ∷ rest) (assoc xs ys zs)

-- what a walk has added goes on from each to the next
pub cut_more : (news : News) (after : Option ℕ) (row : GetRow) (gets : List OpenGet) (before fx new : List Effect) → Ascend (λ (g : OpenGet). g.row.number) gets → Some row ≡ first_row (behind after gets)
    → before ++ cut_effects news (behind after gets) ≡ fx → new ≡ before ++ (if is_end row news then end_get row.number ∷ [] else [])
    → new ++ cut_effects news (behind (Some row.number) gets) ≡ fx
cut_more news after row gets before fx new up first is added =
    ap (λ (done : List Effect). done ++ cut_effects news (behind (Some row.number) gets)) added
    ∙ assoc before (if is_end row news then end_get row.number ∷ [] else []) (cut_effects news (behind (Some row.number) gets))
    ∙ ap (λ (rest : List Effect). before ++ rest) (sym (cut_step news after row gets up (sym first)))
    ∙ is
