-- What a call inside of its gates tells.
use Rattle.std.specs.Prelude.{◌≡◌, ℕ, Bool, true, false, ◌||◌, List, [], ◌∷◌, ◌++◌, Option, Some, None, option_map}
use Rattle.std.specs.List.{AllByRecursion}
use Rattle.std.specs.Arc.{arc_value}
use Rattle.atomic_table.specs.Seated.{TableId}
use Rattle.zs_posts.specs.Passes.{LentSeen}
use Rattle.zs_posts.specs.Calls.{passes_lents}
use Rattle.zs_posts.specs.declared.call.Call.{Call}
use Rattle.zs_posts.specs.declared.passes.Passes.{Passes}
use Rattle.zs_hands.specs.declared.calling.Under.{Under}
use Rattle.zs_hands.specs.declared.handed.Handed.{Handed}
use Rattle.zs_hands.specs.declared.handed.Handed.TheVariants.{Called, Evicted, Skipped}
use Rattle.zs_hands.specs.declared.handed.RanCall.{RanCall}

-- a pass but for its note
abbrev pub unnoted : LentSeen → LentSeen
unnoted lent = record lent { noted = false }

-- the pass that came back is the one that was lent
abbrev pub AreSame : Option LentSeen → Option LentSeen → Type 0
AreSame lent back = option_map unnoted lent ≡ option_map unnoted back

-- the number of a pass, if there is one
abbrev pub number_lent : Option LentSeen → Option ℕ
number_lent lent = option_map (λ l. l.number) lent

-- the gates of passes, by their numbers
abbrev pub numbers_of : Passes → Under
numbers_of p = record {
  session = number_lent p.session;
  parent = number_lent p.parent;
  token = number_lent p.token;
  own = p.own.number;
}

-- there is a pass whose last step found its gate's mark
abbrev pub is_noted : Option LentSeen → Bool
is_noted None = false
is_noted (Some lent) = lent.noted

-- one of the gates gave its pass back
abbrev pub is_any_noted : Passes → Bool
is_any_noted p = is_noted p.session || (is_noted p.parent || (is_noted p.token || p.own.noted))

-- the passes are those of before
pub record AreBack (lent back : Passes) : Type 0 where
  pub session : AreSame lent.session back.session
  pub parent : AreSame lent.parent back.parent
  pub token : AreSame lent.token back.token
  pub own : unnoted lent.own ≡ unnoted back.own

module _ {T D : Type 0} where
  -- the handler was called with the item and gave up what is told, unless a gate gave its pass back, and then the item comes back
  abbrev pub IsFor : (T → Option T → Type 0) → T → Bool → Handed T D → Type 0
  IsFor gives item noted (Called done) = (noted ≡ false) × gives item None
  IsFor gives item noted (Evicted other done) = (noted ≡ false) × gives item (Some other)
  IsFor gives item noted (Skipped back) = (noted ≡ true) × (back ≡ item)

  -- where the handler was called, that was inside of these gates
  abbrev pub IsInside : Under → Handed T D → Option Under → Type 0
  IsInside gates (Called done) under = under ≡ Some gates
  IsInside gates (Evicted other done) under = under ≡ Some gates
  IsInside gates (Skipped back) under = Unit {0}

  -- the handler kept what it was given, or wasn't called
  abbrev pub IsKept : Handed T D → Type 0
  IsKept (Called done) = Unit {0}
  IsKept (Evicted other done) = ⊥
  IsKept (Skipped back) = Unit {0}

  -- what a call with that item and those passes tells
  pub record Answers (gives : T → Option T → Type 0) (item : T) (lent : Passes) (ran : RanCall T D) : Type 0 where
    pub report : IsFor gives item (is_any_noted ran.passes) ran.report
    pub inside : IsInside (numbers_of lent) ran.report ran.under
    pub passes : AreBack lent ran.passes

  -- of calls in turn, each of its own handler
  abbrev pub AnswersAll : {H : Type 0} → (H → T → Option T → Type 0) → List (Call H T) → List (RanCall T D) → Type 0
  AnswersAll gives [] [] = Unit {0}
  AnswersAll gives [] (ran ∷ more) = ⊥
  AnswersAll gives (call ∷ calls) [] = ⊥
  AnswersAll gives (call ∷ calls) (ran ∷ more) = Answers (gives (arc_value call.handler)) call.item call.passes ran × AnswersAll gives calls more

  -- of all calls that ran
  abbrev pub AreKept : List (RanCall T D) → Type 0
  AreKept rans = AllByRecursion (λ ran. IsKept ran.report) rans

  -- all passes of calls that ran, and what they told
  abbrev pub ran_lents : List (RanCall T D) → List LentSeen
  ran_lents [] = []
  ran_lents (ran ∷ more) = passes_lents ran.passes ++ ran_lents more

  abbrev pub reports_of : List (RanCall T D) → List (Handed T D)
  reports_of [] = []
  reports_of (ran ∷ more) = ran.report ∷ reports_of more

-- all passes of a room
abbrev pub AreOfRoom : TableId → List LentSeen → Type 0
AreOfRoom room lents = AllByRecursion (λ l. l.room ≡ room) lents
