-- What is wanted of the handlers that are held, effect by effect.
use Rattle.std.proofs.Common.{◌≡◌, ℕ, List, [], ◌∷◌, ◌++◌, ◌≤◌, length, take, flat_map, refl, sym, ap, ◌∙◌}
use Rattle.std.specs.Prelude.{is_some}
use Rattle.std.proofs.lemmas.List.{take_all}
use Rattle.std.proofs.lemmas.List.Elements.{filter-append}
use Rattle.zs_events.specs.declared.turn.Effect.{Effect}
use Rattle.zs_posts.specs.declared.call.Wanted.{Wanted}
use Rattle.zs_posts.specs.Calls.{handler_at}
use Rattle.zs_posts.specs.Posts.{Rows}
use Rattle.zs_turns.specs.declared.item.Item.{Item}
use Rattle.zs_turns.specs.Calls.{wanted_by, wanted_of, held_of, held_by}

module _ {H : Type 0} (rows : Rows H) (tag : ℕ) where
  held_all : (fx : List Effect) → flat_map (held_by rows tag) fx ≡ held_of rows (flat_map (wanted_by tag) fx)
  held_all [] = refl
  held_all (e ∷ fx) =
      ap (λ (more : List (Wanted Item)). held_by rows tag e ++ more) (held_all fx) ∙ sym (filter-append (λ (w : Wanted Item). is_some (handler_at w.key rows)) (wanted_by tag e) (flat_map (wanted_by tag) fx))

  held_is : (fx : List Effect) → flat_map (held_by rows tag) fx ≡ held_of rows (wanted_of tag fx)
  unfolding wanted_of
  held_is fx = held_all fx

  pub held_end : (all : List (Wanted Item)) (i : ℕ) (fx : List Effect) → all ≡ flat_map (held_by rows tag) (take i fx) → length fx ≤ i → all ≡ held_of rows (wanted_of tag fx)
  held_end all i fx is end = is ∙ (ap (flat_map (held_by rows tag)) (take_all i fx end) ∙ held_is fx)
