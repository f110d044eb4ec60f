-- Each kind of step in the shape that a table asks.
use Rattle.std.proofs.Common.{◌≡◌, ℕ, zero, suc, ◌+◌, ◌-◌, ◌*◌, ◌/◌, ◌%◌, ◌^◌, ◌<◌, Bool, true, false, List, length, set, refl, sym, ap, ◌∙◌, subst, arith, length-set, get_or-set_same}
use Rattle.std.specs.Prelude.{bit_or, slice_index}
use mathlib.Core.Option.{some, none}
use mathlib.Core.Logic.{dite}
use native.Mathlib.Decide.{ℕ_discrete}
use lib.ListN.{get_elem?}
use Rattle.std.proofs.lemmas.Nat.{or_shifted}
use Rattle.atomic_table.specs.Table.{step, keeps, Allows, Splits, Joins}
use Rattle.zs_gate.specs.declared.view.View.{View}
use Rattle.zs_gate.specs.declared.view.View.TheVariants.{Keeper, Door, Out, Inside, Knock, Spent}
use Rattle.zs_gate.specs.declared.view.Phase.TheVariants.{Open, Draining, Drained}
use Rattle.zs_gate.specs.Rule.{IsKept, Kept}
use Rattle.zs_gate.specs.Plays.{Mine, Enters, Retreats, Leaves, Drains, Looks, LooksAlone, Checks, one_more, one_less}
use Rattle.atomic_table.proofs.Lists.{set_again}
use Rattle.zs_gate.proofs.Steps as steps

-- a step that changes the word and the view
moves : (slots id : ℕ) (me : Mine) (f : ℕ → ℕ) (then : ℕ → Mine → Type 0)
    → ((word : ℕ) (views : List View) → IsKept word views → get_elem? views id ≡ some me.0 → word < 18446744073709551616 → (w : View) × IsKept (f word) (set views id w) × then word (w, me.1))
    → Allows Kept slots id me 0 f then
moves slots id me f then does s kept homes at small =
    let word = slice_index s.words 0 in
    let r = does word s.views kept.1 at small in
    let one : 0 < length s.words = omega (arith, kept.0) in
    let here : slice_index (set s.words 0 (f word)) 0 ≡ f word = get_or-set_same s.words 0 (f word) 0 one in
    (r.0, keeps, tt, (length-set s.words 0 (f word) ∙ kept.0, subst (λ n. IsKept n (set s.views id r.0)) (sym here) r.1), r.2)

pub enter_allowed : (slots id : ℕ) (me : Mine) (noted : Bool) → me.0 ≡ Out noted → Allows Kept slots id me 0 (λ n. (n + 2) % 2 ^ 64) (Enters (step slots 0 2 0 none) me)
enter_allowed slots id me noted is = moves slots id me (λ n. (n + 2) % 2 ^ 64) (Enters (step slots 0 2 0 none) me)
    (λ word views kept at small.
    let out : get_elem? views id ≡ some (Out noted) = at ∙ ap some is in
    let bound = steps.word_fits word views id kept in
    let fits : word + 2 ≡ (word + 2) % 2 ^ 64 = omega arith in
    dite (ℕ_discrete (word % 2) 0)
    (λ even. (Inside, subst (λ n. IsKept n (set views id Inside)) fits (steps.enters_inside word views id kept noted out even), ((λ _. refl), (λ odd. absurd (odd even)), refl)))
    (λ odd. (Knock, subst (λ n. IsKept n (set views id Knock)) fits (steps.enters_late word views id kept noted out odd), ((λ even. absurd (odd even)), (λ _. refl), refl))))

pub retreat_allowed : (slots id : ℕ) (me : Mine) → me.0 ≡ Knock → Allows Kept slots id me 0 (λ n. (n + 18446744073709551614) % 2 ^ 64) (Retreats (step slots 0 2 0 none) me)
retreat_allowed slots id me is = moves slots id me (λ n. (n + 18446744073709551614) % 2 ^ 64) (Retreats (step slots 0 2 0 none) me)
    (λ word views kept at small.
    let knock : get_elem? views id ≡ some Knock = at ∙ ap some is in
    let counts = steps.knock_counts word views id kept knock in
    let fits : word - 2 ≡ (word + 18446744073709551614) % 2 ^ 64 = omega arith in
    (Out true, subst (λ n. IsKept n (set views id (Out true))) fits (steps.retreats_out word views id kept knock), (refl, refl)))

pub leave_allowed : (slots id : ℕ) (me : Mine) → me.0 ≡ Inside → Allows Kept slots id me 0 (λ n. (n + 18446744073709551614) % 2 ^ 64) (Leaves (step slots 0 2 0 none) me)
leave_allowed slots id me is = moves slots id me (λ n. (n + 18446744073709551614) % 2 ^ 64) (Leaves (step slots 0 2 0 none) me)
    (λ word views kept at small.
    let inside : get_elem? views id ≡ some Inside = at ∙ ap some is in
    let counts = steps.inside_counts word views id kept inside in
    let fits : word - 2 ≡ (word + 18446744073709551614) % 2 ^ 64 = omega arith in
    (Out false, subst (λ n. IsKept n (set views id (Out false))) fits (steps.leaves_out word views id kept inside), (refl, refl)))

-- setting the lowest bit of an even number
set_bit : (n : ℕ) → n % 2 ≡ 0 → n + 1 ≡ bit_or n 1
set_bit n even =
    let half : n / 2 * 2 ^ 1 ≡ n = omega arith in
    subst (λ k. k + 1 ≡ bit_or k 1) half (sym (or_shifted (n / 2) 1 1 (omega arith)))

pub drain_allowed : (slots id : ℕ) (me : Mine) (has_door : Bool) → me.0 ≡ Keeper has_door Open → Allows Kept slots id me 0 (λ n. bit_or n 1) (Drains (step slots 0 1 0 none) me)
drain_allowed slots id me has_door is = moves slots id me (λ n. bit_or n 1) (Drains (step slots 0 1 0 none) me)
    (λ word views kept at small.
    let open_one : get_elem? views id ≡ some (Keeper has_door Open) = at ∙ ap some is in
    let even = steps.open_even word views id kept has_door open_one in
    (Keeper has_door (Draining 0 0), subst (λ n. IsKept n (set views id (Keeper has_door (Draining 0 0)))) (set_bit word even) (steps.drains_on word views id kept has_door open_one), (rw is, refl)))

pub look_allowed : (slots id : ℕ) (me : Mine) (times count : ℕ) → me.0 ≡ Keeper false (Draining times count) → Allows Kept slots id me 0 (λ n. n) (Looks (step slots 0 0 0 none) me)
look_allowed slots id me times count is = moves slots id me (λ n. n) (Looks (step slots 0 0 0 none) me)
    (λ word views kept at small.
    let draining : get_elem? views id ≡ some (Keeper false (Draining times count)) = at ∙ ap some is in
    let odd = steps.draining_odd word views id kept false times count draining in
    let bound = steps.word_fits word views id kept in
    dite (ℕ_discrete (word / 2) 0)
    (λ none. (Keeper false Drained, steps.looks_last word views id kept false times count draining (omega arith), (bound, (λ _. refl), (λ some_in. absurd (some_in none)), refl)))
    (λ some_in. (Keeper false (Draining (times + 1) (word / 2)), steps.looks_again word views id kept false times count (word / 2) draining, (bound, (λ none. absurd (some_in none)), (λ _. rw is), refl))))

pub look_alone_allowed : (slots id : ℕ) (me : Mine) (times count : ℕ) → me.0 ≡ Keeper true (Draining times count) → Allows Kept slots id me 0 (λ n. n) (LooksAlone (step slots 0 0 0 none) me)
look_alone_allowed slots id me times count is = moves slots id me (λ n. n) (LooksAlone (step slots 0 0 0 none) me)
    (λ word views kept at small.
    let draining : get_elem? views id ≡ some (Keeper true (Draining times count)) = at ∙ ap some is in
    (Keeper true Drained, steps.looks_last word views id kept true times count draining (steps.alone word views id kept times count draining), (refl, refl)))

pub check_allowed : (slots id : ℕ) (me : Mine) → Allows Kept slots id me 0 (λ n. n) (Checks (step slots 0 0 0 none) me)
check_allowed slots id me = moves slots id me (λ n. n) (Checks (step slots 0 0 0 none) me)
    (λ word views kept at small.
    (me.0, subst (IsKept word) (sym (set_again views id me.0 at)) kept, (steps.number_fits word views id kept me.0 at, (refl, refl))))

module _ (id : ℕ) (v : View) where
  pub gives_door_splits : v ≡ Keeper true Open → Splits Kept id v (Keeper false Open) (Door 0)
  gives_door_splits is s kept at = (kept.0, steps.gives_door (slice_index s.words 0) s.views id kept.1 (at ∙ ap some is))

  pub gives_pass_splits : (out : ℕ) → v ≡ Door out → out < 4294967295 → Splits Kept id v (one_more v) (Out false)
  gives_pass_splits out is room s kept at =
      (kept.0, rw is (steps.gives_pass (slice_index s.words 0) s.views id kept.1 out room (at ∙ ap some is)))

  module _ (other : ℕ) (w : View) where
    pub takes_door_joins : v ≡ Keeper false Open → w ≡ Door 0 → Joins Kept id v other w (Keeper true Open) Spent
    takes_door_joins is its s kept at apart there =
        (kept.0, steps.takes_door (slice_index s.words 0) s.views id kept.1 other (at ∙ ap some is) (there ∙ ap some its))

    pub clash_joins : (has_door : Bool) → v ≡ Keeper has_door Drained → w ≡ Inside → Joins Kept id v other w (Door (2 ^ 32)) Spent
    clash_joins has_door is its s kept at apart there =
        absurd (steps.no_clash (slice_index s.words 0) s.views id kept.1 other has_door (Door (2 ^ 32)) (at ∙ ap some is) (there ∙ ap some its) refl)

    pub late_joins : v ≡ Keeper false Open → w ≡ Out true → Joins Kept id v other w (Door (2 ^ 32)) Spent
    late_joins is its s kept at apart there =
        absurd (steps.no_late (slice_index s.words 0) s.views id kept.1 other (Door (2 ^ 32)) (at ∙ ap some is) (there ∙ ap some its) refl)

-- by the door's number
takes_pass_at : (id other out : ℕ) (noted : Bool) → Joins Kept id (Door out) other (Out noted) (one_less (Door out) (Out noted)) Spent
takes_pass_at id other zero noted s kept at apart there = absurd (steps.no_pass (slice_index s.words 0) s.views id kept.1 other noted (Door (2 ^ 32)) at there refl)
takes_pass_at id other (suc out) noted s kept at apart there = (kept.0, steps.takes_pass (slice_index s.words 0) s.views id kept.1 other out noted at there)

pub takes_pass_joins : (id : ℕ) (v : View) (other : ℕ) (w : View) (out : ℕ) (noted : Bool) → v ≡ Door out → w ≡ Out noted → Joins Kept id v other w (one_less v w) Spent
takes_pass_joins id v other w out noted is its =
    subst (λ (x : View × View). Joins Kept id x.0 other x.1 (one_less x.0 x.1) Spent) (λ i. (sym is i, sym its i)) (takes_pass_at id other out noted)
