-- The turns of a walk along two keys.
use Rattle.std.proofs.Common.{◌≡◌, ℕ, Bool, true, false, List, [], ◌∷◌, ◌++◌, ◌<◌, length, Bor, refl, sym, ◌∙◌, ap, append_assoc, arith}
use Rattle.std.specs.Ordering.{is_lt}
use Rattle.std.specs.declared.cmp.Ordering.TheVariants.{Less, Greater}
use Rattle.zs_keys.specs.Text.{is_double_star}
use Rattle.zs_keys.specs.Matching.{chunk_meets, is_free}
use Rattle.zs_keys.specs.Rules.{meets-ends, meets-left_end}
use Rattle.zs_tree.specs.declared.runs.Bound.{Bound}
use Rattle.zs_tree.specs.declared.runs.Bound.TheVariants.{Open, Below, Closed}
use Rattle.zs_tree.specs.Code.{IsCut, is_rough, mark_of, onto_chunk, coded, code_cmp}
use Rattle.zs_tree.specs.Runs.{within}
use Rattle.zs_tree.specs.Walk.{AreCut, ArePlain, AreMissed, Led, chunks_meet}
use Rattle.zs_tree.specs.Gap.{IsGap}
use Rattle.zs_tree.proofs.Gaps.{gap_none}
use Rattle.zs_tree.proofs.Codes.{UpTo, coded-append, cut_same}
use Rattle.zs_tree.proofs.Plain.{plain_no_double, meet_on, meet_not, meet_behind}
use Rattle.zs_tree.proofs.Missed.{missed, dead_behind, dead_high, dead_end, dead_low}

abbrev Chunks : Type 0
Chunks = List (List ℕ)

-- behind a front of chunks and one more
one_more : (back : Chunks) (y : List ℕ) (ys : Chunks) → (back ++ (y ∷ [])) ++ ys ≡ back ++ (y ∷ ys)
one_more back y ys = append_assoc back (y ∷ []) ys

behind_all : (front back : Chunks) (y : List ℕ) (ys : Chunks) → (front ++ (back ++ (y ∷ []))) ++ ys ≡ front ++ (back ++ (y ∷ ys))
behind_all front back y ys = append_assoc front (back ++ (y ∷ [])) ys ∙ ap (λ (rest : Chunks). front ++ rest) (one_more back y ys)

plain_more : (back : Chunks) (x : List ℕ) → ArePlain back → is_rough x ≡ false → ArePlain (back ++ (x ∷ []))
plain_more [] x h k = (k, tt)
plain_more (b ∷ back) x h k = (h.0, plain_more back x h.1 k)

cut_back : (xs ys : Chunks) → AreCut (xs ++ ys) → AreCut ys
cut_back [] ys h = h
cut_back (x ∷ xs) ys h = cut_back xs ys h.1

pub led_start : (asked stored : Chunks) → AreCut asked → Led asked stored asked stored (coded stored) (coded stored)
led_start asked stored cut = record {
  front = [];
  back = [];
  stored_is = refl;
  answer = λ rest. refl;
  plain = tt;
  cut = cut;
  code_is = refl;
  firm_is = refl;
}

module _ (asked stored : Chunks) (cut : AreCut stored) where
  -- behind two equal plain chunks
  pub led_plain : (left right : Chunks) (code firm : List ℕ) (x y : List ℕ) (xs ys : Chunks) (behind : List ℕ)
      → Led asked stored left right code firm → left ≡ x ∷ xs → right ≡ y ∷ ys → is_rough x ≡ false → is_rough y ≡ false
      → code ≡ onto_chunk 2 x behind → Led asked stored xs ys behind firm
  led_plain left right code firm x y xs ys behind led l r p q is =
      let led' : Led asked stored (x ∷ xs) (y ∷ ys) code firm = rw (l, r) at led in
      let stored_cut : AreCut (y ∷ ys) = cut_back led'.back (y ∷ ys) (cut_back led'.front (led'.back ++ (y ∷ ys)) (rw led'.stored_is at cut)) in
      let tail : onto_chunk 2 x behind ≡ onto_chunk 2 y (coded ys) = sym is ∙ led'.code_is ∙ rw q refl in
      let bytes : x ++ (0x2f ∷ behind) ≡ y ++ (0x2f ∷ coded ys) = cc in
      let (same, rest) = cut_same y x behind (coded ys) stored_cut.0 led'.cut.0 bytes in
      record {
        front = led'.front;
        back = led'.back ++ (x ∷ []);
        stored_is = led'.stored_is ∙ rw same (ap (λ (rest : Chunks). led'.front ++ rest) (sym (one_more led'.back y ys)));
        answer = λ rest. led'.answer rest ∙ ap (λ (rest' : Chunks). chunks_meet rest' rest) (sym (one_more led'.back x xs));
        plain = plain_more led'.back x led'.plain p;
        cut = led'.cut.1;
        code_is = rest;
        firm_is = led'.firm_is ∙ rw same (ap coded (sym (one_more led'.back y ys)));
      }

  -- what all that begin with the stored chunks up to the next one meet by
  met_behind : (x : Chunks) (y : List ℕ) (ys : Chunks) (code firm : List ℕ) (led : Led asked stored x (y ∷ ys) code firm) (rest : Chunks)
      → chunks_meet asked ((led.front ++ (led.back ++ (y ∷ []))) ++ rest) ≡ chunks_meet x (y ∷ rest)
  met_behind x y ys code firm led rest =
      ap (chunks_meet asked) (behind_all led.front led.back y rest) ∙ led.answer (led.back ++ (y ∷ rest))
      ∙ meet_behind led.back x (y ∷ rest) led.plain

  -- behind two chunks that meet, one of them wild
  pub led_rough : (left right : Chunks) (code firm : List ℕ) (x y : List ℕ) (xs ys : Chunks) (behind : List ℕ)
      → Led asked stored left right code firm → left ≡ x ∷ xs → right ≡ y ∷ ys → is_double_star x ≡ false
      → is_double_star y ≡ false → chunk_meets x y ≡ true → behind ≡ coded ys → Led asked stored xs ys behind behind
  led_rough left right code firm x y xs ys behind led l r p q meet is =
      let led' : Led asked stored (x ∷ xs) (y ∷ ys) code firm = rw (l, r) at led in
      record {
        front = led'.front ++ (led'.back ++ (y ∷ []));
        back = [];
        stored_is = led'.stored_is ∙ sym (behind_all led'.front led'.back y ys);
        answer = λ rest. met_behind (x ∷ xs) y ys code firm led' rest ∙ meet_on x y xs rest p q meet;
        plain = tt;
        cut = led'.cut.1;
        code_is = is;
        firm_is = is;
      }

  -- the code before what is left
  skip : (front rest : Chunks) (bound : Bound) (code path left : List ℕ) → stored ≡ front ++ rest → code ≡ coded stored
      → left ≡ coded rest → ((front' : List ℕ) → code ≡ front' ++ left → path ≡ front')
      → within bound (coded rest) ≡ true
      → ((more : Chunks) → UpTo (coded rest) (coded more) → within bound (coded more) ≡ true → chunks_meet asked (front ++ more) ≡ false)
      → AreMissed asked code path bound
  skip front rest bound code path left is code_is left_is parted inside fails =
      let path_is : path ≡ coded front = parted (coded front) (code_is ∙ ap coded is ∙ coded-append front rest ∙ rw left_is refl) in
      rw (code_is, path_is) (missed asked stored front rest bound is cut inside fails)

  -- two chunks do not meet
  pub skip_rough : (left right : Chunks) (code firm : List ℕ) (x y : List ℕ) (xs ys : Chunks) (whole path behind : List ℕ)
      → Led asked stored left right code firm → left ≡ x ∷ xs → right ≡ y ∷ ys → is_double_star x ≡ false
      → is_double_star y ≡ false → chunk_meets x y ≡ false → whole ≡ coded stored → behind ≡ coded ys
      → ((front' : List ℕ) → whole ≡ front' ++ behind → path ≡ front') → AreMissed asked whole path Open
  skip_rough left right code firm x y xs ys whole path behind led l r p q meet whole_is is parted =
      let led' : Led asked stored (x ∷ xs) (y ∷ ys) code firm = rw (l, r) at led in
      skip (led'.front ++ (led'.back ++ (y ∷ []))) ys Open whole path behind (led'.stored_is ∙ sym (behind_all led'.front led'.back y ys))
      whole_is is parted refl
      (λ more up inside. met_behind (x ∷ xs) y ys code firm led' more ∙ meet_not x y xs more p q meet)

  -- the asked key ends before a wild chunk
  pub skip_end_rough : (left right : Chunks) (code firm : List ℕ) (y : List ℕ) (ys : Chunks) (whole path behind : List ℕ)
      → Led asked stored left right code firm → left ≡ [] → right ≡ y ∷ ys → is_double_star y ≡ false
      → whole ≡ coded stored → behind ≡ coded ys
      → ((front' : List ℕ) → whole ≡ front' ++ behind → path ≡ front') → AreMissed asked whole path Open
  skip_end_rough left right code firm y ys whole path behind led l r q whole_is is parted =
      let led' : Led asked stored [] (y ∷ ys) code firm = rw (l, r) at led in
      skip (led'.front ++ (led'.back ++ (y ∷ []))) ys Open whole path behind (led'.stored_is ∙ sym (behind_all led'.front led'.back y ys))
      whole_is is parted refl
      (λ more up inside. met_behind [] y ys code firm led' more ∙ meets-left_end is_double_star is_double_star is_free chunk_meets y more q)

  -- it ends before a plain chunk
  pub skip_end : (left right : Chunks) (code firm : List ℕ) (y : List ℕ) (ys : Chunks) (whole path : List ℕ)
      → Led asked stored left right code firm → left ≡ [] → right ≡ y ∷ ys → is_rough y ≡ false → whole ≡ coded stored
      → ((front' : List ℕ) → whole ≡ front' ++ firm → path ≡ front') → AreMissed asked whole path Open
  skip_end left right code firm y ys whole path led l r q whole_is parted =
      let led' : Led asked stored [] (y ∷ ys) code firm = rw (l, r) at led in
      skip led'.front (led'.back ++ (y ∷ ys)) Open whole path firm led'.stored_is whole_is led'.firm_is parted refl
      (λ more up inside. led'.answer more ∙ dead_behind led'.back [] y ys led'.plain (dead_end y ys q) more up)

  -- the stored chunk is behind the asked one
  pub skip_high : (left right : Chunks) (code firm : List ℕ) (x y : List ℕ) (xs ys : Chunks) (whole path : List ℕ)
      → Led asked stored left right code firm → left ≡ x ∷ xs → right ≡ y ∷ ys → is_rough x ≡ false → is_rough y ≡ false
      → ((rest : List ℕ) → code_cmp code (onto_chunk 2 x rest) ≡ Greater) → whole ≡ coded stored
      → ((front' : List ℕ) → whole ≡ front' ++ firm → path ≡ front') → AreMissed asked whole path Open
  skip_high left right code firm x y xs ys whole path led l r p q high whole_is parted =
      let led' : Led asked stored (x ∷ xs) (y ∷ ys) code firm = rw (l, r) at led in
      let above : (rest : List ℕ) → code_cmp (coded (y ∷ ys)) (onto_chunk 2 x rest) ≡ Greater = rw led'.code_is at high in
      skip led'.front (led'.back ++ (y ∷ ys)) Open whole path firm led'.stored_is whole_is led'.firm_is parted refl
      (λ more up inside. led'.answer more ∙ dead_behind led'.back (x ∷ xs) y ys led'.plain (dead_high x xs y ys p q above) more up)

  -- it is before the asked one
  pub skip_low : (left right : Chunks) (code firm : List ℕ) (x : Bor (List ℕ)) (y : List ℕ) (xs ys : Chunks) (whole path : List ℕ)
      → Led asked stored left right code firm → left ≡ x.now ∷ xs → right ≡ y ∷ ys → is_rough x.now ≡ false → is_rough y ≡ false
      → ((rest : List ℕ) → code_cmp code (onto_chunk 2 x.now rest) ≡ Less) → whole ≡ coded stored
      → ((front' : List ℕ) → whole ≡ front' ++ code → path ≡ front') → AreMissed asked whole path (Below x)
  skip_low left right code firm x y xs ys whole path led l r p q low whole_is parted =
      let led' : Led asked stored (x.now ∷ xs) (y ∷ ys) code firm = rw (l, r) at led in
      let below : code_cmp (coded (y ∷ ys)) (onto_chunk 2 x.now []) ≡ Less = rw led'.code_is at (low []) in
      skip (led'.front ++ led'.back) (y ∷ ys) (Below x) whole path code
      (led'.stored_is ∙ sym (append_assoc led'.front led'.back (y ∷ ys))) whole_is led'.code_is parted (ap is_lt below)
      (λ more up inside.
      ap (chunks_meet asked) (append_assoc led'.front led'.back more) ∙ led'.answer (led'.back ++ more)
      ∙ meet_behind led'.back (x.now ∷ xs) more led'.plain ∙ dead_low x.now xs y ys p q more up inside)

  -- behind the `**` that comes next, what is in the gap between the asked chunks
  pub skip_stars : (left right : Chunks) (code firm : List ℕ) (y s : List ℕ) (ss : Chunks) (bound : Bound) (whole path behind : List ℕ)
      → Led asked stored left right code firm → right ≡ y ∷ s ∷ ss → is_double_star y ≡ true → is_rough s ≡ false
      → IsGap left behind bound → whole ≡ coded stored → behind ≡ coded (s ∷ ss)
      → ((front' : List ℕ) → whole ≡ front' ++ behind → path ≡ front') → AreMissed asked whole path bound
  skip_stars left right code firm y s ss bound whole path behind led r star plain gap whole_is is parted =
      let led' : Led asked stored left (y ∷ s ∷ ss) code firm = rw r at led in
      let gap' : IsGap left (coded (s ∷ ss)) bound = rw is at gap in
      skip (led'.front ++ (led'.back ++ (y ∷ []))) (s ∷ ss) bound whole path behind (led'.stored_is ∙ sym (behind_all led'.front led'.back y (s ∷ ss)))
      whole_is is parted gap'.inside
      (λ more up inside. met_behind left y (s ∷ ss) code firm led' more ∙ gap_none left y s ss bound star plain gap' more up inside)

  -- both keys end together
  pub met_ends : (left right : Chunks) (code firm : List ℕ) → Led asked stored left right code firm → left ≡ [] → right ≡ []
      → chunks_meet asked stored ≡ true
  met_ends left right code firm led l r =
      let led' : Led asked stored [] [] code firm = rw (l, r) at led in
      ap (chunks_meet asked) led'.stored_is ∙ led'.answer (led'.back ++ []) ∙ meet_behind led'.back [] [] led'.plain
      ∙ meets-ends is_double_star is_double_star is_free chunk_meets

-- the code begins with the next chunk
pub code_behind : (code : List ℕ) (right : Chunks) (y : List ℕ) (ys : Chunks) → code ≡ coded right → right ≡ y ∷ ys
    → code ≡ onto_chunk (mark_of y) y (coded ys)
code_behind code right y ys h k = h ∙ ap coded k

-- behind a chunk fewer are left
pub fewer_left : (all : Chunks) (y : List ℕ) (ys : Chunks) → all ≡ y ∷ ys → length ys < length all
fewer_left all y ys h = rw h (omega arith)
