-- Each step of a room keeps the rule of its table.
use Rattle.std.proofs.Common.{◌≡◌, ◌≢◌, ◌==◌, ℕ, ◌+◌, ◌<◌, List, [], ◌∷◌, ◌++◌, cond, length, set, refl, sym, ap, ◌∙◌, subst, ⊎_elim, eq-eqb, ne_eqb, arith, length-set, get_or-set_same}
use Rattle.std.specs.Prelude.{slice_index}
use mathlib.Core.Option.{some, none, some-ne-none}
use lib.ListN.{get_elem?}
use prog.Atomic.{either}
use Rattle.atomic_table.specs.Seated.{TableId}
use Rattle.atomic_table.specs.Table.{opening, step, keeps, Allows, Enters, Splits, Joins}
use Rattle.atomic_table.proofs.Lists.{at_set, at_snoc, set_again, set_else, exchanged}
use Rattle.zs_posts.specs.declared.numbering.View.{View}
use Rattle.zs_posts.specs.declared.numbering.View.TheVariants.{Blank, Tag, Both}
use Rattle.zs_posts.specs.Numbering.{IsNumbered, Kept, Mine, Sits, Draws, Compares, AreOne, both, alone, tagged_gate}

abbrev AllNumbered : (ℕ → TableId) → ℕ → List View → Type 0
AllNumbered gate_of next views = (id : ℕ) (v : View) → get_elem? views id ≡ some v → IsNumbered gate_of next v

-- what holds of all, after one has changed and after one more has come
all_set : (P : View → Type 0) (views : List View) (at : ℕ) (w : View) → P w → ((id : ℕ) (v : View) → get_elem? views id ≡ some v → P v) → (id : ℕ) (v : View) → get_elem? (set views at w) id ≡ some v → P v
all_set P views at w new old id v is = ⊎_elim (λ t. subst P t.1 new) (λ t. old id v t.1) (at_set views at id w v is)

all_snoc : (P : View → Type 0) (views : List View) (w : View) → P w → ((id : ℕ) (v : View) → get_elem? views id ≡ some v → P v) → (id : ℕ) (v : View) → get_elem? (views ++ w ∷ []) id ≡ some v → P v
all_snoc P views w new old id v is = ⊎_elim (λ t. old id v t) (λ t. subst P t new) (at_snoc views w v id is)

-- the gates of numbers, with one for the number `next`
abbrev drawn : (ℕ → TableId) → ℕ → TableId → ℕ → TableId
drawn gate_of next gate number = cond (number == next) gate (gate_of number)

drawn_before : (gate_of : ℕ → TableId) (gate : TableId) (number next : ℕ) → number < next → gate_of number ≡ drawn gate_of next gate number
drawn_before gate_of gate number next below = let apart : number ≢ next = omega arith in sym (ap (λ b. cond b gate (gate_of number)) (ne_eqb number next apart))

drawn_here : (gate_of : ℕ → TableId) (gate : TableId) (next : ℕ) → gate ≡ drawn gate_of next gate next
drawn_here gate_of gate next = sym (ap (λ b. cond b gate (gate_of next)) (eq-eqb next next refl))

still : (gate_of : ℕ → TableId) (gate : TableId) (next : ℕ) (v : View) → IsNumbered gate_of next v → IsNumbered (drawn gate_of next gate) (next + 1) v
still gate_of gate next Blank is = tt
still gate_of gate next (Tag number own) is = let below = is.0 in (omega arith, is.1 ∙ drawn_before gate_of gate number next is.0)
still gate_of gate next (Both number own other) is = let below = is.0 in (omega arith, is.1 ∙ drawn_before gate_of gate number next is.0, is.2 ∙ drawn_before gate_of gate number next is.0)

pub sit_enters : (slots : ℕ) (first : Mine) → Enters Kept slots 0 (λ n w. Sits (step slots 0 0 0 none) first n (w, []))
sit_enters slots first s kept homes small =
    (Blank, record { one_word = kept.one_word; gate_of = kept.gate_of; numbered = all_snoc (IsNumbered kept.gate_of (slice_index s.words 0)) s.views Blank tt kept.numbered }, refl)

pub draw_allowed : (slots id : ℕ) (me : Mine) (number : ℕ) (gate : TableId) → me.0 ≡ Blank → Allows Kept slots id me 0 (λ n. either (n == number) (number + 1) n) (Draws (step slots 0 number (number + 1) (some gate)) me)
draw_allowed slots id me number gate is s kept homes at small =
    let found = slice_index s.words 0 in
    let one : 0 < length s.words = omega (arith, kept.one_word) in
    let r = exchanged found number (number + 1)
    (λ next. (w : View) × (gate_of : ℕ → TableId) × AllNumbered gate_of next (set s.views id w) × Draws (step slots 0 number (number + 1) (some gate)) me found (w, me.1))
    (λ hit. (
      Tag number gate,
      drawn kept.gate_of number gate,
      all_set (IsNumbered (drawn kept.gate_of number gate) (number + 1)) s.views id (Tag number gate) (omega arith, drawn_here kept.gate_of gate number)
          (λ i v there. still kept.gate_of gate number v (subst (λ n. IsNumbered kept.gate_of n v) hit (kept.numbered i v there))),
      ((λ _. refl), refl),
    ))
    (λ miss. (
      me.0,
      kept.gate_of,
      (λ i v there. kept.numbered i v (subst (λ views. get_elem? views i ≡ some v) (set_again s.views id me.0 at) there)),
      ((λ hit. absurd (miss hit)), refl),
    )) in
    let next = either (found == number) (number + 1) found in
    let here : slice_index (set s.words 0 next) 0 ≡ next = get_or-set_same s.words 0 next 0 one in
    (r.0, keeps, tt, record { one_word = length-set s.words 0 next ∙ kept.one_word; gate_of = r.1; numbered = subst (λ n. AllNumbered r.1 n (set s.views id r.0)) (sym here) r.2 }, r.3)

pub copy_splits : (id : ℕ) (v : View) → Splits Kept id v v v
copy_splits id v s kept at =
    let P = IsNumbered kept.gate_of (slice_index s.words 0) in
    let mine = kept.numbered id v at in
    record { one_word = kept.one_word; gate_of = kept.gate_of; numbered = all_snoc P (set s.views id v) v mine (all_set P s.views id v mine kept.numbered) }

pair_at : (id other number : ℕ) (gate its : TableId) → Joins Kept id (Tag number gate) other (Tag number its) (Both number gate its) Blank
pair_at id other number gate its s kept at apart there =
    let P = IsNumbered kept.gate_of (slice_index s.words 0) in
    let mine = kept.numbered id (Tag number gate) at in
    let theirs = kept.numbered other (Tag number its) (sym (set_else s.views id other (Both number gate its) apart) ∙ there) in
    record {
      one_word = kept.one_word;
      gate_of = kept.gate_of;
      numbered = all_set P (set s.views id (Both number gate its)) other Blank tt (all_set P s.views id (Both number gate its) (mine.0, mine.1, theirs.1) kept.numbered);
    }

pub pair_joins : (id : ℕ) (v : View) (other : ℕ) (w : View) (number : ℕ) (gate its : TableId) → v ≡ Tag number gate → w ≡ Tag number its → Joins Kept id v other w (both v w) Blank
pair_joins id v other w number gate its is theirs =
    subst (λ (x : View × View). Joins Kept id x.0 other x.1 (both x.0 x.1) Blank) (λ i. (sym is i, sym theirs i)) (pair_at id other number gate its)

pub compare_allowed : (slots id : ℕ) (me : Mine) (number : ℕ) (gate its : TableId) → me.0 ≡ Both number gate its → Allows Kept slots id me 0 (λ n. n) (Compares (step slots 0 0 0 none) me)
compare_allowed slots id me number gate its is s kept homes at small =
    let found = slice_index s.words 0 in
    let one : 0 < length s.words = omega (arith, kept.one_word) in
    let here : slice_index (set s.words 0 found) 0 ≡ found = get_or-set_same s.words 0 found 0 one in
    let mine = kept.numbered id (Both number gate its) (at ∙ ap some is) in
    let told = all_set (IsNumbered kept.gate_of found) s.views id (Tag number gate) (mine.0, mine.1) kept.numbered in (
      Tag number gate,
      keeps,
      tt,
      record { one_word = length-set s.words 0 found ∙ kept.one_word; gate_of = kept.gate_of; numbered = subst (λ n. AllNumbered kept.gate_of n (set s.views id (Tag number gate))) (sym here) told },
      (subst AreOne (sym is) (mine.1 ∙ sym mine.2), sym (ap alone is), refl),
    )

pub opens : Kept (opening (0 ∷ []) [] Blank)
opens = record {
  one_word = refl;
  gate_of = λ _. tagged_gate Blank;
  numbered = λ id v at. ⊎_elim (λ old. absurd (some-ne-none v (sym old))) (λ new. subst (IsNumbered (λ _. tagged_gate Blank) 0) new tt) (at_snoc [] Blank v id at);
}
