-- A walk over those of the open gets that some news ends.
use Rattle.std.proofs.Common.{◌≡◌, ℕ, List, [], ◌∷◌, ◌++◌, Bool, true, false, Option, Some, None, refl, sym, ap, ◌∙◌}
use Rattle.std.specs.Prelude.{filter, map, if◌then◌else◌}
use Rattle.std.specs.List.{AllByRecursion}
use Rattle.zs_query.specs.Ascending.{Ascend}
use Rattle.zs_query.specs.Asked.{News, is_end}
use Rattle.zs_query.specs.Gets.{is_behind, first_row}
use Rattle.zs_query.specs.declared.get_row.GetRow.{GetRow}
use Rattle.zs_query.specs.declared.open_get.OpenGet.{OpenGet}
use Rattle.zs_query.proofs.Ascending.{all_filter, all_pass, ascend_filter}
use Rattle.zs_events.specs.declared.turn.Effect.{Effect}
use Rattle.zs_model.specs.GetEffects.{end_get, cut_effects}
use Rattle.zs_model.proofs.EndedGets.{behind, cut_more}

-- those that end
abbrev pub those : News → List OpenGet → List OpenGet
those news gets = filter (λ g. is_end g.row news) gets

twice : (p : OpenGet → Bool) (gets : List OpenGet) → filter p (filter p gets) ≡ filter p gets
twice p [] = refl
twice p (g ∷ gets) = go (p g) refl (twice p gets)
  where
    go : (b : Bool) → p g ≡ b → filter p (filter p gets) ≡ filter p gets → filter p (filter p (g ∷ gets)) ≡ filter p (g ∷ gets)
    go true is more = rw (is, is) (ap (λ (gs : List OpenGet). g ∷ gs) more)
    go false is more = rw is more

-- they bring about what all do
pub cut_those : (news : News) (gets : List OpenGet) → cut_effects news (those news gets) ≡ cut_effects news gets
cut_those news gets = ap (λ (gs : List OpenGet). map end_get (map (λ (g : OpenGet). g.row.number) gs)) (twice (λ g. is_end g.row news) gets)

pub those_ascend : (news : News) (gets : List OpenGet) → Ascend (λ (g : OpenGet). g.row.number) gets → Ascend (λ (g : OpenGet). g.row.number) (those news gets)
those_ascend news gets up = ascend_filter (λ (g : OpenGet). g.row.number) (λ (g : OpenGet). is_end g.row news) gets up

first_ends : (news : News) (row : GetRow) (gets : List OpenGet) → AllByRecursion (λ (g : OpenGet). is_end g.row news ≡ true) gets → first_row gets ≡ Some row → is_end row news ≡ true
first_ends news row [] all first = cc
first_ends news row (g ∷ gets) all first = ap (λ (r : GetRow). is_end r news) (sym same) ∙ all.0
  where
    same : g.row ≡ row
    same = cc

-- each that the walk comes to ends
one_ends : (news : News) (after : Option ℕ) (row : GetRow) (gets : List OpenGet) → first_row (behind after (those news gets)) ≡ Some row → is_end row news ≡ true
one_ends news after row gets first =
    first_ends news row (behind after (those news gets))
    (all_filter (λ (g : OpenGet). is_end g.row news ≡ true) (λ (g : OpenGet). is_behind after g.row.number) (those news gets) (all_pass (λ (g : OpenGet). is_end g.row news) gets)) first

-- and so what it has added goes on
pub cut_on : (news : News) (after : Option ℕ) (row : GetRow) (gets : List OpenGet) (before fx new : List Effect) → Ascend (λ (g : OpenGet). g.row.number) gets → Some row ≡ first_row (behind after (those news gets))
    → before ++ cut_effects news (behind after (those news gets)) ≡ fx → new ≡ before ++ end_get row.number ∷ []
    → new ++ cut_effects news (behind (Some row.number) (those news gets)) ≡ fx
cut_on news after row gets before fx new up first is added =
    cut_more news after row (those news gets) before fx new (those_ascend news gets up) first is
    (added ∙ ap (λ (b : Bool). before ++ (if b then end_get row.number ∷ [] else [])) (sym (one_ends news after row gets (sym first))))
