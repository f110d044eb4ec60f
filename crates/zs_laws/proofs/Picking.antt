-- What is picked of effects, and that what an event brings about beside gets is no end of one.
use Rattle.std.proofs.Common.{◌≡◌, ℕ, List, [], ◌∷◌, ◌++◌, Option, Some, None, refl, ◌∙◌, ap, map}
use Rattle.std.specs.List.{AllByRecursion, flat_map}
use Rattle.zs_query.specs.Types.{QueryValue}
use Rattle.zs_sample.specs.Reply.{Replied}
use Rattle.zs_events.specs.declared.event.Event.{Event}
use Rattle.zs_events.specs.declared.turn.Effect.{Effect}
use Rattle.zs_model.specs.GetEffects.{hand_reply, hand_query, last_hands, end_get}
use Rattle.zs_model.specs.LivelinessEffects.{hand_answer, end_asking}
use Rattle.zs_model.specs.Effects.{Known}
use Rattle.zs_laws.specs.Ended.{get_ended, with_number, picked}
use Rattle.zs_laws.proofs.Around.{Around, others_of, others_around}

pub picked_append : (word : Effect → Option ℕ) (xs ys : List Effect) → picked word (xs ++ ys) ≡ picked word xs ++ picked word ys
picked_append word [] ys = refl
picked_append word (x ∷ xs) ys = go (word x) (picked_append word xs ys)
  where
    go : (o : Option ℕ) → picked word (xs ++ ys) ≡ picked word xs ++ picked word ys → with_number o (picked word (xs ++ ys)) ≡ with_number o (picked word xs) ++ picked word ys
    go None ih = ih
    go (Some n) ih = ap (λ (rest : List ℕ). n ∷ rest) ih

pub picked_none : (word : Effect → Option ℕ) (xs : List Effect) → AllByRecursion (λ x. word x ≡ None) xs → picked word xs ≡ []
picked_none word [] all = refl
picked_none word (x ∷ xs) all = ap (λ (o : Option ℕ). with_number o (picked word xs)) all.0 ∙ picked_none word xs all.1

-- behind what has none come those of the rest, and before it
pub picked_behind : (word : Effect → Option ℕ) (xs ys : List Effect) → picked word xs ≡ [] → picked word (xs ++ ys) ≡ picked word ys
picked_behind word xs ys none = picked_append word xs ys ∙ ap (λ (ns : List ℕ). ns ++ picked word ys) none

pub any_all : {X : Type 0} (Q : X → Type 0) → ((x : X) → Q x) → (xs : List X) → AllByRecursion Q xs
any_all Q at [] = tt
any_all Q at (x ∷ xs) = (at x, any_all Q at xs)

-- of what an event brings about beside gets nothing is the end of one
no_get_around : (known : Known) (e : Event) (number : Option ℕ) → Around known e number (λ x. get_ended x ≡ None)
no_get_around known e number = record {
  sent = λ m. refl;
  sub = any_all _ (λ row sample. refl) known.subs;
  sub_end = any_all _ (λ row. refl) known.subs;
  queryable_end = any_all _ (λ row. refl) known.queryables;
  lsub = any_all _ (λ row sample. refl) known.watch.subs;
  lsub_end = any_all _ (λ row. refl) known.watch.subs;
  own = λ history same id is sample. refl;
  asking = any_all _ (λ g n same reply. refl) known.watch.gets;
  asking_end = λ m is. any_all _ (λ g n same. refl) known.watch.gets;
  ended_sub = λ id is. refl;
  ended_queryable = λ id is. refl;
  ended_lsub = λ id is. refl;
}

pub others_end_none : (known : Known) (number : Option ℕ) (text : Option (List ℕ)) (e : Event) → picked get_ended (others_of known number text e) ≡ []
others_end_none known number text e =
    picked_none get_ended (others_of known number text e) (others_around (λ x. get_ended x ≡ None) known number text e (no_get_around known e number))

-- what gets are told one after the other
pub ends_picked : (numbers : List ℕ) → picked get_ended (map end_get numbers) ≡ numbers
ends_picked [] = refl
ends_picked (n ∷ numbers) = ap (λ (rest : List ℕ). n ∷ rest) (ends_picked numbers)

pub replies_picked : (number : ℕ) (replies : List Replied) → picked get_ended (map (hand_reply number) replies) ≡ []
replies_picked number [] = refl
replies_picked number (reply ∷ replies) = replies_picked number replies

pub queries_picked : (values : List QueryValue) → picked get_ended (map hand_query values) ≡ []
queries_picked [] = refl
queries_picked (v ∷ values) = queries_picked values

pub last_picked : (ends : List (ℕ × List Replied)) → picked get_ended (flat_map last_hands ends) ≡ []
last_picked [] = refl
last_picked (end ∷ ends) = picked_behind get_ended (last_hands end) (flat_map last_hands ends) (replies_picked end.0 end.1) ∙ last_picked ends

pub timeouts_picked : (reply : Replied) (numbers : List ℕ) → picked get_ended (map (hand_answer reply) numbers) ≡ []
timeouts_picked reply [] = refl
timeouts_picked reply (n ∷ numbers) = timeouts_picked reply numbers

pub asking_picked : (numbers : List ℕ) → picked get_ended (map end_asking numbers) ≡ []
asking_picked [] = refl
asking_picked (n ∷ numbers) = asking_picked numbers
