-- The numbers of open gets stay below the counter.
use Rattle.std.proofs.Common.{◌≡◌, ◌≢◌, ℕ, ◌+◌, ◌<◌, Bool, true, false, List, [], ◌∷◌, ◌++◌, refl, sym, subst, arith}
use Rattle.std.specs.Prelude.{◌==◌, not, if◌then◌else◌}
use Rattle.std.specs.List.{AllByRecursion}
use Rattle.std.proofs.lemmas.Bool.Decides.{nat_tests}
use Rattle.zs_sample.specs.Reply.{Replied}
use Rattle.zs_query.specs.declared.side.Side.{Side}
use Rattle.zs_query.specs.declared.get_row.GetRow.{GetRow}
use Rattle.zs_query.specs.declared.open_get.OpenGet.{OpenGet}
use Rattle.zs_query.specs.declared.outcome.Outcome.{Outcome}
use Rattle.zs_query.specs.declared.outcome.Outcome.TheVariants as outcome
use Rattle.zs_query.specs.declared.outcome.Peek.{Peek}
use Rattle.zs_query.specs.declared.outcome.Peek.TheVariants as peek
use Rattle.zs_query.specs.Gets.{get_at, with_get, without_get, fresh, less_final, peek_get, after_reply, replied, final_outcome, after_final, is_due, names}
use Rattle.zs_query.specs.Asked.{News, Quiet, ReplyTo, FinalOf, AtMoment, QuerierEnds, CancelledBy, AllEnd, gets_after}
use Rattle.zs_query.proofs.Ascending.{all_weaker, all_filter, all_append}

-- the numbers of all these gets are below one
abbrev pub AreBelow : ℕ → List OpenGet → Type 0
AreBelow next gets = AllByRecursion (λ (g : OpenGet). g.row.number < next) gets

-- a change that keeps numbers keeps them below
with_below : (next number : ℕ) (change : OpenGet → OpenGet) → ((g : OpenGet) → (change g).row.number ≡ g.row.number) → (gets : List OpenGet) → AreBelow next gets → AreBelow next (with_get number change gets)
with_below next number change same [] all = tt
with_below next number change same (g ∷ gets) all = (subst (λ (m : ℕ). m < next) (sym (kept (g.row.number == number))) all.0, with_below next number change same gets all.1)
  where
    kept : (b : Bool) → (if b then change g else g).row.number ≡ g.row.number
    kept true = same g
    kept false = refl

-- a reply keeps the number of its get
number_after : (p : Peek) (r : Replied) (g : OpenGet) → (after_reply p r g).row.number ≡ g.row.number
number_after peek.Unknown r g = refl
number_after peek.Unmatched r g = refl
number_after peek.Kept r g = refl
number_after peek.Dropped r g = refl
number_after peek.Handed r g = refl

final_below : (next number : ℕ) (side : Side) (o : Outcome) (gets : List OpenGet) → AreBelow next gets → AreBelow next (after_final o side number gets)
final_below next number side outcome.Counted gets all = with_below next number (less_final side) (λ g. refl) gets all
final_below next number side (outcome.Ended replies) gets all = all_filter (λ (g : OpenGet). g.row.number < next) (λ g. not (g.row.number == number)) gets all
final_below next number side outcome.Unknown gets all = all
final_below next number side outcome.Unmatched gets all = all
final_below next number side outcome.Kept gets all = all
final_below next number side outcome.Dropped gets all = all
final_below next number side (outcome.Handed reply) gets all = all
final_below next number side outcome.Repeated gets all = all

-- what gets hear keeps them below
pub below_after : (next : ℕ) (news : News) (gets : List OpenGet) → AreBelow next gets → AreBelow next (gets_after news gets)
below_after next Quiet gets all = all
below_after next (ReplyTo number reply) gets all = with_below next number (replied reply) (λ g. number_after (peek_get g reply) reply g) gets all
below_after next (FinalOf number side) gets all = final_below next number side (final_outcome side (get_at number gets)) gets all
below_after next (AtMoment moment) gets all = all_filter (λ (g : OpenGet). g.row.number < next) (λ g. not (is_due moment g)) gets all
below_after next (QuerierEnds id) gets all = all_filter (λ (g : OpenGet). g.row.number < next) (λ g. not (names id g.row.querier)) gets all
below_after next (CancelledBy cancellation_token) gets all = all_filter (λ (g : OpenGet). g.row.number < next) (λ g. not (names cancellation_token g.row.cancellation_token)) gets all
below_after next AllEnd gets all = tt

-- and so does one get more, with the next number
pub below_more : (next : ℕ) (row : GetRow) (gets : List OpenGet) → row.number ≡ next → AreBelow next gets → AreBelow (next + 1) (gets ++ fresh row ∷ [])
below_more next row gets is all =
    all_append (λ (g : OpenGet). g.row.number < next + 1) gets (fresh row ∷ []) (all_weaker (λ (g : OpenGet). g.row.number < next) (λ (g : OpenGet). g.row.number < next + 1) (λ g lt. omega (arith, lt)) gets all) (omega (arith, is), tt)

-- none of them has the next number
pub none_next : (next number : ℕ) (gets : List OpenGet) → number ≡ next → AreBelow next gets → AllByRecursion (λ (g : OpenGet). g.row.number ≢ number) gets
none_next next number gets is all = all_weaker (λ (g : OpenGet). g.row.number < next) (λ (g : OpenGet). g.row.number ≢ number) (λ g lt e. omega (arith, lt, e, is)) gets all

-- they are below that number
pub below_number : (next number : ℕ) (gets : List OpenGet) → number ≡ next → AreBelow next gets → AllByRecursion (λ (g : OpenGet). g.row.number < number) gets
below_number next number gets is all = all_weaker (λ (g : OpenGet). g.row.number < next) (λ (g : OpenGet). g.row.number < number) (λ g lt. omega (arith, lt, is)) gets all

-- a get that was opened with a number above all, and taken back
pub taken_back : (row : GetRow) (gets : List OpenGet) → AreBelow row.number gets → without_get row.number (gets ++ fresh row ∷ []) ≡ gets
taken_back row [] all = grind (arith, nat_tests)
taken_back row (g ∷ gets) all = grind (arith, nat_tests, all.0, taken_back row gets all.1)
