-- What is printed of a view.
use Rattle.std.specs.Prelude.{ℕ, List, [], ◌∷◌, codes, decimal}
use Rattle.std.specs.List.{flat_map}
use Rattle.zs_events.specs.declared.turn.Answer.{Answer}
use Rattle.zs_events.specs.declared.turn.Answer.TheVariants.{Ok as accepted, Refused}
use Rattle.zs_printing.specs.Printing.{line}
use Rattle.zs_printing.specs.Words.{refusal_name}
use Rattle.zs_members.specs.Members.{Member}

-- what an event is answered: the number that it drew isn't shown
abbrev pub answer_fields : Answer → List (List ℕ)
answer_fields (accepted number) = codes "ok" ∷ []
answer_fields (Refused refusal) = codes "refused" ∷ refusal_name refusal ∷ []

-- a name that the side has no token of can't be left
abbrev pub not_member : ℕ → List ℕ
not_member number = line number (codes "refused" ∷ codes "NotMember" ∷ [])

-- a side sees a name so often
abbrev pub member_text : ℕ → List ℕ → Member → List ℕ
member_text number side member = line number (side ∷ codes "sees" ∷ member.name ∷ decimal member.count ∷ [])

-- all that it sees
abbrev pub view_text : ℕ → List ℕ → List Member → List ℕ
view_text number side view = flat_map (λ member. member_text number side member) view
