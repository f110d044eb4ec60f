-- What a form makes of texts has a line: of the values that it was made of, all can be said.
use Rattle.std.proofs.Common.{ℕ, ◌≡◌, Bool, true, List, [], ◌∷◌, IfSome, refl, ap, ◌∙◌}
use Rattle.std.specs.List.{list_all}
use Rattle.std.proofs.lemmas.Bool.{and_parts, and_from}
use Rattle.zs_parts.specs.Parts.{Part, Value, Maker, read, form}
use Rattle.zs_script.proofs.PlainSymbols.{on-then}
use Rattle.zs_script.proofs.PlainParts.{AreTexts}
use Rattle.zs_event_lines.specs.Slots.{slots_say, slots_are_typed, Values, slots_of, remade}
use Rattle.zs_event_lines.proofs.ReadSymbols.{weaken}
use Rattle.zs_event_lines.proofs.ReadParts.{IsSaid, is_own, Reads, reads}

-- what a form makes of values
abbrev pub made_of : {A : Type 0} (parts : List Part) → Maker parts A → Values parts → A
made_of [] made values = made
made_of (part ∷ parts) make values = made_of parts (make values.0) values.1

-- it was made of values that can be said, and is made again of those that come back
pub record MadeOf (A : Type 0) (parts : List Part) (make : Maker parts A) (made : A) : Type 0 where
  pub values : Values parts
  pub said : slots_say (slots_of parts values) ≡ true
  pub typed : slots_are_typed (slots_of parts values) ≡ true
  pub same : remade parts make values ≡ made
  pub is : made_of parts make values ≡ made

abbrev pub are_own : List Part → Bool
are_own parts = list_all is_own parts

pub form-reads : (A : Type 0) (parts : List Part) (make : Maker parts A) → are_own parts ≡ true → (fields : List (List ℕ)) → AreTexts fields
    → IfSome (form parts make fields) (MadeOf A parts make)
unfolding form
form-reads A [] made own [] h = record { values = tt; said = refl; typed = refl; same = refl; is = refl }
form-reads A [] made own (field ∷ rest) h = tt
form-reads A (part ∷ parts) make own fields h =
    let both = and_parts (is_own part) (are_own parts) own in
    on-then {A = Value part × List (List ℕ)} {B = A} (λ found. form parts (make found.0) found.1) (Reads (IsSaid part)) (MadeOf A (part ∷ parts) make)
    (λ found k. weaken (MadeOf A parts (make found.0)) (MadeOf A (part ∷ parts) make) (λ made m. record {
      values = (found.0, m.values);
      said = and_from _ _ k.0.0 m.said;
      typed = and_from _ _ k.0.1.0 m.typed;
      same = ap (λ v. remade parts (make v) m.values) k.0.1.1 ∙ m.same;
      is = m.is;
    }) (form parts (make found.0) found.1) (form-reads A parts (make found.0) both.1 found.1 k.1))
    (read part fields) (reads part both.0 fields h)
