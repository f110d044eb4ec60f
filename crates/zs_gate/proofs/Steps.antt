-- Each kind of step keeps the rule of a gate.
use Rattle.std.proofs.Common.{◌≡◌, ◌≢◌, ℕ, suc, ◌+◌, ◌-◌, ◌%◌, ◌^◌, ◌<◌, ◌≤◌, Bool, true, false, List, [], ◌∷◌, ◌++◌, set, arith}
use mathlib.Core.Option.{some}
use lib.ListN.{get_elem?}
use Rattle.zs_gate.specs.declared.view.View.{View}
use Rattle.zs_gate.specs.declared.view.View.TheVariants.{Keeper, Door, Out, Inside, Knock, Spent}
use Rattle.zs_gate.specs.declared.view.Phase.TheVariants.{Open, Draining, Drained}
use Rattle.zs_gate.specs.Views.{number, pass, inside_pass, late_pass}
use Rattle.zs_gate.specs.Rule.{IsKept}
use Rattle.zs_gate.proofs.Totals.{changed, cut, joined, bounds}

module _ (word : ℕ) (views : List View) (id : ℕ) (kept : IsKept word views) where
  pub word_fits : word < 2 ^ 34
  word_fits = let b = bounds views in omega arith

  pub number_fits : (v : View) → get_elem? views id ≡ some v → number v < 2 ^ 32
  number_fits v at = let s = changed views id v Spent at in omega arith

  -- enter at an even word
  pub enters_inside : (noted : Bool) → get_elem? views id ≡ some (Out noted) → word % 2 ≡ 0 → IsKept (word + 2) (set views id Inside)
  enters_inside noted at even =
      let s = changed views id (Out noted) Inside at in
      let b = bounds views in
      grind arith

  -- enter at an odd word
  pub enters_late : (noted : Bool) → get_elem? views id ≡ some (Out noted) → word % 2 ≢ 0 → IsKept (word + 2) (set views id Knock)
  enters_late noted at odd =
      let s = changed views id (Out noted) Knock at in
      let b = bounds views in
      grind arith

  pub knock_counts : get_elem? views id ≡ some Knock → 2 ≤ word
  knock_counts at = let s = changed views id Knock Spent at in omega arith

  pub retreats_out : get_elem? views id ≡ some Knock → IsKept (word - 2) (set views id (Out true))
  retreats_out at =
      let s = changed views id Knock (Out true) at in
      let fits = knock_counts at in
      let b = bounds views in
      grind arith

  pub inside_counts : get_elem? views id ≡ some Inside → 2 ≤ word
  inside_counts at = let s = changed views id Inside Spent at in omega arith

  pub leaves_out : get_elem? views id ≡ some Inside → IsKept (word - 2) (set views id (Out false))
  leaves_out at =
      let s = changed views id Inside (Out false) at in
      let fits = inside_counts at in
      let b = bounds views in
      grind arith

  -- an open keeper's word is even
  pub open_even : (has_door : Bool) → get_elem? views id ≡ some (Keeper has_door Open) → word % 2 ≡ 0
  open_even has_door at =
      let o = changed views id (Keeper has_door Open) Spent at in
      let c = bounds (set views id Spent) in
      omega arith

  pub drains_on : (has_door : Bool) → get_elem? views id ≡ some (Keeper has_door Open) → IsKept (word + 1) (set views id (Keeper has_door (Draining 0 0)))
  drains_on has_door at =
      let s = changed views id (Keeper has_door Open) (Keeper has_door (Draining 0 0)) at in
      let o = changed views id (Keeper has_door Open) Spent at in
      let b = bounds views in
      let c = bounds (set views id Spent) in
      grind arith

  -- a draining keeper's word is odd
  pub draining_odd : (has_door : Bool) (looks count : ℕ) → get_elem? views id ≡ some (Keeper has_door (Draining looks count)) → word % 2 ≡ 1
  draining_odd has_door looks count at =
      let o = changed views id (Keeper has_door (Draining looks count)) Spent at in
      let b = bounds views in
      omega arith

  -- a look that finds no one
  pub looks_last : (has_door : Bool) (looks count : ℕ) → get_elem? views id ≡ some (Keeper has_door (Draining looks count)) → word ≡ 1 → IsKept word (set views id (Keeper has_door Drained))
  looks_last has_door looks count at one =
      let s = changed views id (Keeper has_door (Draining looks count)) (Keeper has_door Drained) at in
      let odd = draining_odd has_door looks count at in
      let b = bounds views in
      grind arith

  -- a look that counts some
  pub looks_again : (has_door : Bool) (looks count more : ℕ) → get_elem? views id ≡ some (Keeper has_door (Draining looks count)) → IsKept word (set views id (Keeper has_door (Draining (looks + 1) more)))
  looks_again has_door looks count more at =
      let s = changed views id (Keeper has_door (Draining looks count)) (Keeper has_door (Draining (looks + 1) more)) at in
      let b = bounds views in
      grind arith

  -- where the keeper has the door, no pass is counted
  pub alone : (looks count : ℕ) → get_elem? views id ≡ some (Keeper true (Draining looks count)) → word ≡ 1
  alone looks count at =
      let s = changed views id (Keeper true (Draining looks count)) Spent at in
      let odd = draining_odd true looks count at in
      let b = bounds views in
      omega arith

  pub gives_door : get_elem? views id ≡ some (Keeper true Open) → IsKept word (set views id (Keeper false Open) ++ Door 0 ∷ [])
  gives_door at =
      let s = cut views id (Keeper true Open) (Keeper false Open) (Door 0) at in
      let o = changed views id (Keeper true Open) Spent at in
      let b = bounds views in
      let c = bounds (set views id Spent) in
      grind arith

  pub gives_pass : (out : ℕ) → out < 4294967295 → get_elem? views id ≡ some (Door out) → IsKept word (set views id (Door (out + 1)) ++ Out false ∷ [])
  gives_pass out room at =
      let s = cut views id (Door out) (Door (out + 1)) (Out false) at in
      let o = changed views id (Door out) Spent at in
      let b = bounds views in
      let c = bounds (set views id Spent) in
      grind arith

  module _ (other : ℕ) where
    pub takes_pass : (out : ℕ) (noted : Bool) → get_elem? views id ≡ some (Door (suc out)) → get_elem? (set views id (Door out)) other ≡ some (Out noted) → IsKept word (set (set views id (Door out)) other Spent)
    takes_pass out noted at there =
        let s = joined views id other (Door (suc out)) (Out noted) (Door out) Spent at there in
        let b = bounds views in
        grind arith

    -- a door of number 0 has no pass
    pub no_pass : (noted : Bool) (both : View) → get_elem? views id ≡ some (Door 0) → get_elem? (set views id both) other ≡ some (Out noted) → pass both ≡ 0 → ⊥
    no_pass noted both at there none =
        let o = changed views id (Door 0) Spent at in
        let s = joined views id other (Door 0) (Out noted) both Spent at there in
        let b = bounds views in
        let c = bounds (set views id Spent) in
        omega arith

    pub takes_door : get_elem? views id ≡ some (Keeper false Open) → get_elem? (set views id (Keeper true Open)) other ≡ some (Door 0) → IsKept word (set (set views id (Keeper true Open)) other Spent)
    takes_door at there =
        let s = joined views id other (Keeper false Open) (Door 0) (Keeper true Open) Spent at there in
        let o = changed views id (Keeper false Open) Spent at in
        let b = bounds views in
        let c = bounds (set (set views id (Keeper true Open)) other Spent) in
        grind arith

    -- an open keeper stands beside no pass that found the mark
    pub no_late : (both : View) → get_elem? views id ≡ some (Keeper false Open) → get_elem? (set views id both) other ≡ some (Out true) → late_pass both ≡ 0 → ⊥
    no_late both at there none =
        let o = changed views id (Keeper false Open) Spent at in
        let s = joined views id other (Keeper false Open) (Out true) both Spent at there in
        let b = bounds views in
        let c = bounds (set views id Spent) in
        omega arith

    -- a drained keeper stands beside no one inside
    pub no_clash : (has_door : Bool) (both : View) → get_elem? views id ≡ some (Keeper has_door Drained) → get_elem? (set views id both) other ≡ some Inside → inside_pass both ≡ 0 → ⊥
    no_clash has_door both at there none =
        let o = changed views id (Keeper has_door Drained) Spent at in
        let s = joined views id other (Keeper has_door Drained) Inside both Spent at there in
        omega arith
