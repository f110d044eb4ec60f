-- Runs of `$*` squeezed from the left.
use Rattle.std.proofs.Common.{◌≡◌, ◌≢◌, ℕ, suc, ◌<◌, ◌==◌, Bool, true, false, ◌&&◌, List, [], ◌∷◌, ◌++◌, length, get_or, append_assoc, refl, sym, ◌∙◌, ap, arith}
use Rattle.std.specs.Prelude.{codes}
use Rattle.std.specs.List.{starts_with, list_all}
use Rattle.std.proofs.lemmas.Bool.Decides.{nat_tests}
use Rattle.zs_keys.specs.Canonize.{without_repeat, squeezed_chunk}
use Rattle.zs_keys.proofs.Bools.{split, and_second, and_first}

abbrev starts : List ℕ → List ℕ → Bool
starts text front = starts_with (λ a b. a == b) text front

byte_is : (n b : ℕ) → (n == b) ≡ true → b ≡ n
byte_is n b h = grind (arith, nat_tests)

not_byte : (n b : ℕ) → b ≢ n → (n == b) ≡ false
not_byte n b h = grind (arith, nat_tests)

-- two `$*` at the front
repeat_shape : (a b c d : ℕ) (t : List ℕ) → starts (a ∷ b ∷ c ∷ d ∷ t) (codes "$*$*") ≡ true
    → (a ∷ b ∷ c ∷ d ∷ t) ≡ (0x24 ∷ 0x2a ∷ 0x24 ∷ 0x2a ∷ t)
repeat_shape a b c d t h =
    let h1 = and_second (0x24 == a) ((0x2a == b) && ((0x24 == c) && ((0x2a == d) && true))) h in
    let h2 = and_second (0x2a == b) ((0x24 == c) && ((0x2a == d) && true)) h1 in
    let h3 = and_second (0x24 == c) ((0x2a == d) && true) h2 in
    rw (
      byte_is 0x24 a (and_first (0x24 == a) ((0x2a == b) && ((0x24 == c) && ((0x2a == d) && true))) h),
      byte_is 0x2a b (and_first (0x2a == b) ((0x24 == c) && ((0x2a == d) && true)) h1),
      byte_is 0x24 c (and_first (0x24 == c) ((0x2a == d) && true) h2),
      byte_is 0x2a d (and_first (0x2a == d) true h3),
    ) refl

repeat : (text : List ℕ) → starts text (codes "$*$*") ≡ true
    → (t : List ℕ) × (text ≡ 0x24 ∷ 0x2a ∷ 0x24 ∷ 0x2a ∷ t)
repeat [] h = cc
repeat (a ∷ []) h = let no = and_second (0x24 == a) false h in cc
repeat (a ∷ b ∷ []) h =
    let no = and_second (0x2a == b) false (and_second (0x24 == a) ((0x2a == b) && false) h) in cc
repeat (a ∷ b ∷ c ∷ []) h =
    let no = and_second (0x24 == c) false (and_second (0x2a == b) ((0x24 == c) && false)
    (and_second (0x24 == a) ((0x2a == b) && ((0x24 == c) && false)) h)) in cc
repeat (a ∷ b ∷ c ∷ d ∷ t) h = (t, repeat_shape a b c d t h)

pub squeezed_chunk-none : squeezed_chunk [] ≡ []
unfolding squeezed_chunk
squeezed_chunk-none = refl

pub squeezed_chunk-cons : (b : ℕ) (bs : List ℕ) → squeezed_chunk (b ∷ bs) ≡ without_repeat (b ∷ squeezed_chunk bs)
unfolding squeezed_chunk
squeezed_chunk-cons b bs = refl

drops : (text t : List ℕ) → text ≡ 0x24 ∷ 0x2a ∷ 0x24 ∷ 0x2a ∷ t → without_repeat text ≡ 0x24 ∷ 0x2a ∷ t
drops text t h = rw h refl

-- by whether a `$*` goes at the front
squeezed_cases : {P : Type 0} (b : ℕ) (bs : List ℕ)
    → ((t : List ℕ) → (b ∷ squeezed_chunk bs) ≡ (0x24 ∷ 0x2a ∷ 0x24 ∷ 0x2a ∷ t) → squeezed_chunk (b ∷ bs) ≡ 0x24 ∷ 0x2a ∷ t → P)
    → (squeezed_chunk (b ∷ bs) ≡ b ∷ squeezed_chunk bs → P) → P
squeezed_cases b bs f g = split (starts (b ∷ squeezed_chunk bs) (codes "$*$*"))
    (λ h. let (t, is) = repeat (b ∷ squeezed_chunk bs) h in f t is (squeezed_chunk-cons b bs ∙ drops (b ∷ squeezed_chunk bs) t is))
    (λ h. g (squeezed_chunk-cons b bs ∙ rw h refl))

-- a text and its squeezed form begin alike
begins : (n : ℕ) (bs : List ℕ) → starts (squeezed_chunk bs) (n ∷ []) ≡ starts bs (n ∷ [])
begins n [] = rw squeezed_chunk-none refl
begins n (b ∷ bs) = squeezed_cases b bs
    (λ t is sq. let first : b ≡ 0x24 = cc in rw (sq, first) refl)
    (λ sq. rw sq refl)

-- a byte other than `$` stays
pub squeezed_chunk-plain : (b : ℕ) (bs : List ℕ) → b ≢ 0x24 → squeezed_chunk (b ∷ bs) ≡ b ∷ squeezed_chunk bs
squeezed_chunk-plain b bs h = squeezed_chunk-cons b bs ∙ rw (not_byte 0x24 b h) refl

-- and so does a text without one
pub squeezed_chunk-front : (front rest : List ℕ) → ((k : ℕ) → k < length front → get_or front k 0 ≢ 0x24)
    → squeezed_chunk (front ++ rest) ≡ front ++ squeezed_chunk rest
squeezed_chunk-front [] rest h = refl
squeezed_chunk-front (b ∷ bs) rest h =
    squeezed_chunk-plain b (bs ++ rest) (h 0 (omega arith))
    ∙ ap (λ (xs : List ℕ). b ∷ xs) (squeezed_chunk-front bs rest (λ k small. h (suc k) (omega arith)))

star-plain : ◌≢◌ {A = ℕ} 0x2a 0x24
star-plain e = absurd (omega (arith, e))

-- the squeezed form of a text that begins with `$*` does too
any-stays : (r : List ℕ) → (t : List ℕ) × (squeezed_chunk (0x24 ∷ 0x2a ∷ r) ≡ 0x24 ∷ 0x2a ∷ t)
any-stays r = squeezed_cases 0x24 (0x2a ∷ r)
    (λ t is sq. (t, sq))
    (λ sq. (squeezed_chunk r, sq ∙ rw (squeezed_chunk-plain 0x2a r star-plain) refl))

-- of two `$*` one goes
pub squeezed_chunk-repeat : (r : List ℕ) → squeezed_chunk (0x24 ∷ 0x2a ∷ 0x24 ∷ 0x2a ∷ r) ≡ squeezed_chunk (0x24 ∷ 0x2a ∷ r)
squeezed_chunk-repeat r =
    let (t, st) = any-stays r in
    squeezed_chunk-cons 0x24 (0x2a ∷ 0x24 ∷ 0x2a ∷ r)
    ∙ rw (squeezed_chunk-plain 0x2a (0x24 ∷ 0x2a ∷ r) star-plain, st) refl

-- `$*` behind a byte, before and behind the squeezing
then_any : (bs : List ℕ) → starts (squeezed_chunk bs) (codes "$*") ≡ true → starts bs (codes "$*") ≡ true
then_any [] h = let h' : starts [] (codes "$*") ≡ true = rw squeezed_chunk-none at h in cc
then_any (c ∷ cs) h = squeezed_cases c cs
    (λ t is sq.
    let first : c ≡ 0x24 = cc in
    let rest : squeezed_chunk cs ≡ 0x2a ∷ 0x24 ∷ 0x2a ∷ t = cc in
    let next : starts cs (0x2a ∷ []) ≡ true = sym (begins 0x2a cs) ∙ rw rest refl in
    rw first next)
    (λ sq.
    let h' : ((0x24 == c) && starts (squeezed_chunk cs) (0x2a ∷ [])) ≡ true = rw sq at h in
    rw (and_first (0x24 == c) (starts (squeezed_chunk cs) (0x2a ∷ [])) h')
    (sym (begins 0x2a cs) ∙ and_second (0x24 == c) (starts (squeezed_chunk cs) (0x2a ∷ [])) h'))

then_star : (bs : List ℕ) → starts (squeezed_chunk bs) (codes "*$*") ≡ true → starts bs (codes "*$*") ≡ true
then_star [] h = let h' : starts [] (codes "*$*") ≡ true = rw squeezed_chunk-none at h in cc
then_star (c ∷ cs) h = squeezed_cases c cs
    (λ t is sq. let h' : false ≡ true = rw sq at h in cc)
    (λ sq.
    let h' : ((0x2a == c) && starts (squeezed_chunk cs) (codes "$*")) ≡ true = rw sq at h in
    rw (and_first (0x2a == c) (starts (squeezed_chunk cs) (codes "$*")) h')
    (then_any cs (and_second (0x2a == c) (starts (squeezed_chunk cs) (codes "$*")) h')))

-- a `$` that begins no repeat stays
pub squeezed_chunk-other : (back : List ℕ) → starts back (codes "*$*") ≡ false → squeezed_chunk (0x24 ∷ back) ≡ 0x24 ∷ squeezed_chunk back
squeezed_chunk-other back h = squeezed_cases 0x24 back
    (λ t is sq.
    let rest : squeezed_chunk back ≡ 0x2a ∷ 0x24 ∷ 0x2a ∷ t = cc in
    let clash = then_star back (rw rest refl) in
    cc)
    (λ sq. sq)

any_shape : (text : List ℕ) → starts text (codes "$*") ≡ true → (r : List ℕ) × (text ≡ 0x24 ∷ 0x2a ∷ r)
any_shape [] h = cc
any_shape (a ∷ []) h = let no = and_second (0x24 == a) false h in cc
any_shape (a ∷ b ∷ r) h = (
  r,
  rw (
    byte_is 0x24 a (and_first (0x24 == a) ((0x2a == b) && true) h),
    byte_is 0x2a b (and_first (0x2a == b) true (and_second (0x24 == a) ((0x2a == b) && true) h)),
  ) refl,
)

-- a `$*` before another one goes
pub squeezed_chunk-behind : (back behind : List ℕ) → back ≡ 0x2a ∷ behind → starts behind (codes "$*") ≡ true
    → squeezed_chunk (0x24 ∷ back) ≡ squeezed_chunk behind
squeezed_chunk-behind back behind h k =
    let (r, is) = any_shape behind k in
    rw h (again behind r is)
  where
    again : (text r : List ℕ) → text ≡ 0x24 ∷ 0x2a ∷ r → squeezed_chunk (0x24 ∷ 0x2a ∷ text) ≡ squeezed_chunk text
    again text r e = rw e (squeezed_chunk-repeat r)

-- and a `$` stays where `*` or another `$*` is missing
pub squeezed_chunk-single : (back behind : List ℕ) → back ≡ 0x2a ∷ behind → starts behind (codes "$*") ≡ false
    → squeezed_chunk (0x24 ∷ back) ≡ 0x24 ∷ squeezed_chunk back
squeezed_chunk-single back behind h k = squeezed_chunk-other back (rw h k)

pub squeezed_chunk-no_star : (back : List ℕ) → ((rest : List ℕ) → back ≢ 0x2a ∷ rest) → squeezed_chunk (0x24 ∷ back) ≡ 0x24 ∷ squeezed_chunk back
squeezed_chunk-no_star back h = squeezed_chunk-other back (none back h)
  where
    none : (bs : List ℕ) → ((rest : List ℕ) → bs ≢ 0x2a ∷ rest) → starts bs (codes "*$*") ≡ false
    none [] g = refl
    none (b ∷ bs) g = split (0x2a == b)
        (λ t. absurd (g bs (rw (byte_is 0x2a b t) refl)))
        (λ t. rw t refl)

abbrev HasNoDollar : List ℕ → Type 0
HasNoDollar bs = (k : ℕ) → k < length bs → get_or bs k 0 ≢ 0x24

-- a text without `$` is its own squeezed form
pub squeezed_chunk-whole : (bs : List ℕ) → HasNoDollar bs → squeezed_chunk bs ≡ bs
squeezed_chunk-whole [] h = squeezed_chunk-none
squeezed_chunk-whole (b ∷ bs) h =
    squeezed_chunk-plain b bs (h 0 (omega arith))
    ∙ ap (λ (xs : List ℕ). b ∷ xs) (squeezed_chunk-whole bs (λ k small. h (suc k) (omega arith)))

-- a step of the loop: what is written and the form of the rest stay the whole form
pub squeezed_chunk-step : (whole t0 t1 t2 r0 r2 front back : List ℕ) → whole ≡ t0 ++ squeezed_chunk r0 → r0 ≡ front ++ (0x24 ∷ back)
    → HasNoDollar front → t1 ≡ t0 ++ front → (t2 ++ squeezed_chunk r2) ≡ (t1 ++ squeezed_chunk (0x24 ∷ back)) → whole ≡ t2 ++ squeezed_chunk r2
squeezed_chunk-step whole t0 t1 t2 r0 r2 front back h cut none k l =
    rw (h, cut, squeezed_chunk-front front (0x24 ∷ back) none, l, k) (sym (append_assoc t0 front (squeezed_chunk (0x24 ∷ back))))

-- squeezing twice changes nothing more
pub squeezed_chunk-once : (bs : List ℕ) → squeezed_chunk (squeezed_chunk bs) ≡ squeezed_chunk bs
squeezed_chunk-once [] = rw squeezed_chunk-none squeezed_chunk-none
squeezed_chunk-once (b ∷ bs) = squeezed_cases b bs
    (λ t is sq.
    let rest : squeezed_chunk bs ≡ 0x2a ∷ 0x24 ∷ 0x2a ∷ t = cc in
    let again : squeezed_chunk (0x2a ∷ 0x24 ∷ 0x2a ∷ t) ≡ 0x2a ∷ 0x24 ∷ 0x2a ∷ t = rw rest at (squeezed_chunk-once bs) in
    let same = sym (squeezed_chunk-plain 0x2a (0x24 ∷ 0x2a ∷ t) star-plain) ∙ again in
    let inner : squeezed_chunk (0x24 ∷ 0x2a ∷ t) ≡ 0x24 ∷ 0x2a ∷ t = cc in
    rw sq inner)
    (λ sq. rw sq (squeezed_chunk-cons b (squeezed_chunk bs) ∙ rw (squeezed_chunk-once bs) (sym (squeezed_chunk-cons b bs) ∙ sq)))

-- no byte comes in
pub squeezed_chunk-all : (test : ℕ → Bool) → test 0x24 ≡ true → test 0x2a ≡ true → (bs : List ℕ) → list_all test bs ≡ true
    → list_all test (squeezed_chunk bs) ≡ true
squeezed_chunk-all test d s [] h = rw squeezed_chunk-none refl
squeezed_chunk-all test d s (b ∷ bs) h =
    let rest = squeezed_chunk-all test d s bs (and_second (test b) (list_all test bs) h) in
    squeezed_cases b bs
    (λ t is sq.
    let tail : squeezed_chunk bs ≡ 0x2a ∷ 0x24 ∷ 0x2a ∷ t = cc in
    let all : list_all test (0x2a ∷ 0x24 ∷ 0x2a ∷ t) ≡ true = rw tail at rest in
    rw sq (and_second (test 0x2a) (list_all test (0x24 ∷ 0x2a ∷ t)) all))
    (λ sq. rw (sq, and_first (test b) (list_all test bs) h) rest)
