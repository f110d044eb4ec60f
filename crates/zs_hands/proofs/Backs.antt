-- Passes that come back from calls, and the posts that get them back.
use Rattle.std.proofs.Common.{◌≡◌, List, [], ◌∷◌, ◌++◌, map, length, Option, Some, None, refl, sym, ap, ◌∙◌, subst, append_assoc, append-nil, arith}
use Rattle.std.specs.Option.{option_to_list}
use Rattle.std.specs.Arc.{arc_value}
use Rattle.atomic_table.specs.Seated.{TableId}
use Rattle.zs_posts.specs.declared.call.Call.{Call}
use Rattle.zs_posts.specs.declared.passes.Passes.{Passes}
use Rattle.zs_posts.specs.Passes.{LentSeen}
use Rattle.zs_posts.specs.Calls.{passes_lents, call_seen, all_lents}
use Rattle.zs_posts.specs.Settled.{PostsSeen, given_back, all_given_back}
use Rattle.zs_posts.proofs.InTurn.{all_append, all_parts}
use Rattle.zs_hands.specs.declared.handed.RanCall.{RanCall}
use Rattle.zs_hands.specs.Answers.{AreSame, AreBack, Answers, AnswersAll, AreOfRoom, ran_lents}

same_room : (room : TableId) (lent back : Option LentSeen) → AreSame lent back → AreOfRoom room (option_to_list lent) → AreOfRoom room (option_to_list back)
same_room room None None same all = tt
same_room room None (Some b) same all = none_some same
  where
    none_some : {A : Type 0} {x : A} {P : Type 0} → None ≡ Some x → P
    none_some e = cc
same_room room (Some l) None same all = tt
same_room room (Some l) (Some b) same all = (ap (λ x. x.room) (out (sym same)) ∙ all.0, tt)
  where
    out : {A : Type 0} {x y : A} → Some x ≡ Some y → x ≡ y
    out e = cc

-- the passes that come back are of the room of those that were lent
back_room : (room : TableId) (lent back : Passes) → AreBack lent back → AreOfRoom room (passes_lents lent) → AreOfRoom room (passes_lents back)
back_room room lent back same all =
    let above = all_parts (λ l. l.room ≡ room) (option_to_list lent.session) (option_to_list lent.parent ++ option_to_list lent.token) all.1 in
    let two = all_parts (λ l. l.room ≡ room) (option_to_list lent.parent) (option_to_list lent.token) above.1 in (
      ap (λ x. x.room) (sym same.own) ∙ all.0,
      all_append (λ l. l.room ≡ room) (option_to_list back.session) (option_to_list back.parent ++ option_to_list back.token) (same_room room lent.session back.session same.session above.0)
          (all_append (λ l. l.room ≡ room) (option_to_list back.parent) (option_to_list back.token) (same_room room lent.parent back.parent same.parent two.0) (same_room room lent.token back.token same.token two.1)),
    )

module _ {H T D : Type 0} (gives : H → T → Option T → Type 0) where
  pub rooms_back : (room : TableId) (calls : List (Call H T)) (ran : List (RanCall T D)) → AnswersAll gives calls ran → AreOfRoom room (all_lents (map call_seen calls)) → AreOfRoom room (ran_lents ran)
  rooms_back room [] [] told all = tt
  rooms_back room [] (r ∷ ran) told all = absurd told
  rooms_back room (call ∷ calls) [] told all = tt
  rooms_back room (call ∷ calls) (r ∷ ran) told all =
      let parts = all_parts (λ l. l.room ≡ room) (passes_lents call.passes) (all_lents (map call_seen calls)) all in
      all_append (λ l. l.room ≡ room) (passes_lents r.passes) (ran_lents ran) (back_room room call.passes r.passes told.0.passes parts.0) (rooms_back room calls ran told.1 parts.1)

  -- one call more
  pub told_more : (calls left rest : List (Call H T)) (call : Call H T) (ran : List (RanCall T D)) (r : RanCall T D) → left ≡ call ∷ rest
      → ((more : List (RanCall T D)) → AnswersAll gives left more → AnswersAll gives calls (ran ++ more)) → Answers (gives (arc_value call.handler)) call.item call.passes r → (more : List (RanCall T D)) → AnswersAll gives rest more → AnswersAll gives calls ((ran ++ r ∷ []) ++ more)
  told_more calls left rest call ran r is told one more others =
      subst (AnswersAll gives calls) (sym (append_assoc ran (r ∷ []) more)) (told (r ∷ more) (subst (λ (cs : List (Call H T)). AnswersAll gives cs (r ∷ more)) (sym is) (one, others)))

  pub told_all : (calls left : List (Call H T)) (ran : List (RanCall T D)) → length left ≡ 0 → ((more : List (RanCall T D)) → AnswersAll gives left more → AnswersAll gives calls (ran ++ more)) → AnswersAll gives calls ran
  told_all calls [] ran none told = subst (AnswersAll gives calls) (append-nil ran) (told [] tt)
  told_all calls (call ∷ left) ran none told = absurd (omega arith)

module _ {H : Type 0} where
  pub given_append : (lents more : List LentSeen) (s : PostsSeen H) → all_given_back (lents ++ more) s ≡ all_given_back more (all_given_back lents s)
  given_append [] more s = refl
  given_append (lent ∷ lents) more s = given_append lents more (given_back lent s)

  pub given_room : (lents : List LentSeen) (s : PostsSeen H) → (all_given_back lents s).room ≡ s.room
  given_room [] s = refl
  given_room (lent ∷ lents) s = given_room lents (given_back lent s)
