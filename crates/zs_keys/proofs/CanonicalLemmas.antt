-- The test of a canonical text, a chunk at a time.
use Rattle.std.proofs.Common.{◌≡◌, ℕ, Bool, true, false, not, ◌&&◌, ◌||◌, List, [], ◌∷◌, refl}
use Rattle.std.specs.List.{list_all}
use Rattle.zs_keys.specs.Text.{is_chunk, is_star, is_double_star, has_ordered_stars}

-- the list begins with a chunk that may not stand behind `**`
abbrev pub begins_with_stars : List (List ℕ) → Bool
begins_with_stars [] = false
begins_with_stars (c ∷ cs) = is_double_star c || is_star c

-- the chunks may stand at the end of a canonical text, behind a chunk `**` where the flag says so
abbrev pub fits_behind : Bool → List (List ℕ) → Bool
fits_behind flag cs = not (flag && begins_with_stars cs) && (list_all is_chunk cs && has_ordered_stars cs)

pub fits_behind-end : (flag : Bool) (cs : List (List ℕ)) → cs ≡ [] → fits_behind flag cs ≡ true
fits_behind-end true cs h = rw h refl
fits_behind-end false cs h = rw h refl

-- `and` of three facts, the second of which fails
and-fails : (a b c : Bool) → b ≡ false → (a && (b && c)) ≡ false
and-fails true b c h = rw h refl
and-fails false b c h = refl

pub fits_behind-bad : (flag : Bool) (c : List ℕ) (cs ds : List (List ℕ)) → ds ≡ c ∷ cs → is_chunk c ≡ false
    → fits_behind flag ds ≡ false
fits_behind-bad flag c cs ds h bad =
    rw h (rw bad (and-fails (not (flag && begins_with_stars (c ∷ cs))) false (has_ordered_stars (c ∷ cs)) refl))

pub fits_behind-stars : (flag : Bool) (c : List ℕ) (cs ds : List (List ℕ)) → ds ≡ c ∷ cs → flag ≡ true
    → (is_double_star c || is_star c) ≡ true → fits_behind flag ds ≡ false
fits_behind-stars flag c cs ds h on stars = rw (h, on, stars) refl

-- the order behind a chunk is that of the rest, and the rest begins as it may
ordered-cons : (c : List ℕ) (cs : List (List ℕ)) → has_ordered_stars (c ∷ cs)
    ≡ (not (is_double_star c && begins_with_stars cs) && has_ordered_stars cs)
ordered-cons c [] = elim (is_double_star c) as (λ b. true ≡ (not (b && false) && true)) [ true ↦ refl | false ↦ refl ]
ordered-cons c (d ∷ cs) = refl

swap-and : (a b c : Bool) → (a && (b && c)) ≡ (b && (a && c))
swap-and true b c = refl
swap-and false true c = refl
swap-and false false c = refl

pub fits_behind-next : (flag : Bool) (c : List ℕ) (cs ds : List (List ℕ)) → ds ≡ c ∷ cs → is_chunk c ≡ true
    → (flag && (is_double_star c || is_star c)) ≡ false
    → fits_behind flag ds ≡ fits_behind (is_double_star c) cs
fits_behind-next flag c cs ds h good apart =
    rw (h, good, apart, ordered-cons c cs)
    (swap-and (list_all is_chunk cs) (not (is_double_star c && begins_with_stars cs)) (has_ordered_stars cs))

pub ruleset canonical_steps = (fits_behind-end, fits_behind-bad, fits_behind-stars, fits_behind-next)
