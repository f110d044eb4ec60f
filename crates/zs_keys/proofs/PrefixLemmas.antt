-- Where a text is cut before its last `/`, and why what stands there is canonical.
use Rattle.std.proofs.Common.{◌≡◌, ◌≢◌, ℕ, suc, ◌+◌, ◌<◌, ◌==◌, Bool, true, false, not, ◌&&◌, ◌||◌, List, [], ◌∷◌, ◌++◌, length, take, drop, get_or, Option, Some, None, refl, sym, ◌∙◌, arith, lit<, append_assoc}
use Rattle.std.specs.List.{list_all, list_any, before_first, position_or_len}
use Rattle.std.specs.Str.Pattern.{RFindsChar}
use Rattle.std.proofs.lemmas.Bool.Decides.{nat_tests}
use Rattle.std.proofs.lemmas.List.{take-append-drop}
use Rattle.std.proofs.lemmas.Str.Pattern.{NoCharPasses-char, drop_at_char}
use Rattle.zs_keys.specs.Text.{chunks, is_canonical, is_chunk, is_star, is_double_star, has_ordered_stars}
use Rattle.zs_keys.specs.Prefix.{before_slash, nonwild_prefix}
use Rattle.zs_keys.proofs.Bools.{split, and_second, and_first, both}

-- no byte is a `/`
abbrev HasNoSlash : List ℕ → Type 0
HasNoSlash bs = (k : ℕ) → k < length bs → get_or bs k 0 ≢ 0x2f

no_slash-tail : (b : ℕ) (bs : List ℕ) → HasNoSlash (b ∷ bs) → HasNoSlash bs
no_slash-tail b bs h k small = h (suc k) (omega arith)

slash-none : (bs : List ℕ) → HasNoSlash bs → before_slash bs ≡ None
unfolding before_slash
slash-none [] h = refl
slash-none (b ∷ bs) h =
    let other : b ≢ 0x2f = h 0 (omega arith) in
    let test : (b == 0x2f) ≡ false = grind (arith, nat_tests) in
    rw (slash-none bs (no_slash-tail b bs h), test) refl

slash-cut : (front rest : List ℕ) → HasNoSlash rest → before_slash (front ++ (0x2f ∷ rest)) ≡ Some front
unfolding before_slash
slash-cut [] rest h = rw (slash-none rest h) refl
slash-cut (b ∷ bs) rest h = rw (slash-cut bs rest h) refl

-- what `rsplit_once` finds
pub slash-found : (s : List ℕ) (i j : ℕ) (front : List ℕ) → RFindsChar 0x2f s (Some (i, j)) → front ≡ take i s
    → before_slash s ≡ Some front
slash-found s i j front found is =
    let cut : s ≡ front ++ (0x2f ∷ drop j s) =
    sym (take-append-drop i s) ∙ rw (is, drop_at_char 0x2f s i j found.1 (lit< tt)) refl in
    rw cut (slash-cut front (drop j s) (λ k small. NoCharPasses-char 0x2f (drop j s) k found.0 (lit< tt) small))

pub slash-missing : (s : List ℕ) → RFindsChar 0x2f s None → before_slash s ≡ None
slash-missing s none = slash-none s (λ k small. NoCharPasses-char 0x2f s k none (lit< tt) small)

-- by whether there is a value
by_option : {X P : Type 0} (o : Option X) → ((x : X) → o ≡ Some x → P) → (o ≡ None → P) → P
by_option (Some x) f g = f x refl
by_option None f g = g refl

-- what stands before the last `/` of a text is the front of it
before_slash-front : (s front : List ℕ) → before_slash s ≡ Some front → (rest : List ℕ) × (s ≡ front ++ (0x2f ∷ rest))
unfolding before_slash
before_slash-front [] front h = cc
before_slash-front (b ∷ bs) front h = by_option (before_slash bs)
    (λ f e.
    let (rest, is) = before_slash-front bs f e in
    let h' : Some (b ∷ f) ≡ Some front = rw e at h in
    let same : b ∷ f ≡ front = cc in
    (rest, rw (← same, is) refl))
    (λ e. split (b == 0x2f)
    (λ t.
    let empty : List ℕ = [] in
    let h' : Some empty ≡ Some front = rw (e, t) at h in
    let same : [] ≡ front = cc in
    let slash : b ≡ 0x2f = grind (arith, nat_tests) in
    (bs, rw (← same, slash) refl))
    (λ t. let h' : None ≡ Some front = rw (e, t) at h in cc))

-- a text has some chunk
pub chunks-some : (bs : List ℕ) → (c : List ℕ) × (cs : List (List ℕ)) × (chunks bs ≡ c ∷ cs)
chunks-some [] = ([], [], refl)
chunks-some (b ∷ bs) =
    let (c, cs, is) = chunks-some bs in
    split (b == 0x2f)
    (λ h. ([], chunks bs, rw h refl))
    (λ h. (b ∷ c, cs, rw (h, is) refl))

pub chunks-append : (a b : List ℕ) → chunks (a ++ (0x2f ∷ b)) ≡ chunks a ++ chunks b
chunks-append [] b = refl
chunks-append (x ∷ xs) b =
    let (c, cs, is) = chunks-some xs in
    split (x == 0x2f)
    (λ h. rw (h, chunks-append xs b) refl)
    (λ h. rw (h, chunks-append xs b, is) refl)

all-front : (xs ys : List (List ℕ)) → list_all is_chunk (xs ++ ys) ≡ true → list_all is_chunk xs ≡ true
all-front [] ys h = refl
all-front (x ∷ xs) ys h =
    both (is_chunk x) (list_all is_chunk xs) (and_first (is_chunk x) (list_all is_chunk (xs ++ ys)) h)
    (all-front xs ys (and_second (is_chunk x) (list_all is_chunk (xs ++ ys)) h))

ordered-front : (xs ys : List (List ℕ)) → has_ordered_stars (xs ++ ys) ≡ true → has_ordered_stars xs ≡ true
ordered-front [] ys h = refl
ordered-front (x ∷ []) ys h = refl
ordered-front (x ∷ y ∷ xs) ys h =
    both (not (is_double_star x && (is_double_star y || is_star y))) (has_ordered_stars (y ∷ xs))
    (and_first (not (is_double_star x && (is_double_star y || is_star y))) (has_ordered_stars (y ∷ (xs ++ ys))) h)
    (ordered-front (y ∷ xs) ys
    (and_second (not (is_double_star x && (is_double_star y || is_star y))) (has_ordered_stars (y ∷ (xs ++ ys))) h))

-- what stands before a `/` of a canonical text is canonical
canonical-front : (a b : List ℕ) → is_canonical (a ++ (0x2f ∷ b)) ≡ true → is_canonical a ≡ true
canonical-front a b h =
    let h' : (list_all is_chunk (chunks a ++ chunks b) && has_ordered_stars (chunks a ++ chunks b)) ≡ true =
    rw (chunks-append a b) at h in
    both (list_all is_chunk (chunks a)) (has_ordered_stars (chunks a))
    (all-front (chunks a) (chunks b)
    (and_first (list_all is_chunk (chunks a ++ chunks b)) (has_ordered_stars (chunks a ++ chunks b)) h'))
    (ordered-front (chunks a) (chunks b)
    (and_second (list_all is_chunk (chunks a ++ chunks b)) (has_ordered_stars (chunks a ++ chunks b)) h'))

whole-of : (text plain front rest tail : List ℕ) → plain ++ tail ≡ text → plain ≡ front ++ (0x2f ∷ rest)
    → text ≡ front ++ (0x2f ∷ (rest ++ tail))
whole-of text plain front rest tail h k = sym h ∙ rw k (append_assoc front (0x2f ∷ rest) tail)

abbrev star : ℕ → Bool
star b = b == 0x2a

-- so is the part of a canonical text before its first wild chunk
pub nonwild-canonical : (text front : List ℕ) → nonwild_prefix text ≡ Some front → is_canonical text ≡ true
    → is_canonical front ≡ true
nonwild-canonical text front h k = split (list_any star text)
    (λ w.
    let h' : before_slash (before_first star text) ≡ Some front = rw w at h in
    let (rest, is) = before_slash-front (before_first star text) front h' in
    let n = position_or_len star text in
    let whole = whole-of text (before_first star text) front rest (drop n text) (take-append-drop n text) is in
    canonical-front front (rest ++ drop n text) (rw whole at k))
    (λ w.
    let h' : Some text ≡ Some front = rw w at h in
    let same : text ≡ front = cc in
    rw (← same) k)

-- a text with no `*`, and one with some
pub any-none : (bs : List ℕ) → ((k : ℕ) → k < length bs → get_or bs k 0 ≢ 0x2a) → list_any star bs ≡ false
any-none [] h = refl
any-none (b ∷ bs) h =
    let other : b ≢ 0x2a = h 0 (omega arith) in
    let test : (b == 0x2a) ≡ false = grind (arith, nat_tests) in
    rw test (any-none bs (λ k small. h (suc k) (omega arith)))

pub any-some : (bs : List ℕ) → position_or_len star bs < length bs → list_any star bs ≡ true
any-some [] h = absurd (omega arith)
any-some (b ∷ bs) h = split (b == 0x2a)
    (λ t. rw t refl)
    (λ t. let h' : 1 + position_or_len star bs < length (b ∷ bs) = rw t at h in rw t (any-some bs (omega arith)))
