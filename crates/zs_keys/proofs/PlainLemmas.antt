-- A text without wild signs is canonical where no chunk is empty and no byte is `#` or `?`.
use Rattle.std.proofs.Common.{◌≡◌, ℕ, Bool, true, false, not, ◌&&◌, ◌==◌, List, [], ◌∷◌, refl, sym, ◌∙◌, arith}
use Rattle.std.specs.Prelude.{codes, if◌then◌else◌}
use Rattle.std.specs.List.{list_all}
use Rattle.std.proofs.lemmas.Bool.Decides.{nat_tests}
use Rattle.zs_keys.specs.Text.{chunks, may_run, is_chunk, has_ordered_stars, is_canonical}
use Rattle.zs_keys.specs.Plain.{is_plain_byte, is_plain, is_sound_byte, stands_on}
use Rattle.zs_keys.proofs.Bools.{split, and_first, and_second, not_true}
use Rattle.zs_keys.proofs.EqualLemmas.{plain-not, plain-chunks}
use Rattle.zs_keys.proofs.PrefixLemmas.{chunks-some}

abbrev is_sound : List ℕ → Bool
is_sound c = list_all is_sound_byte c

-- a plain chunk of a canonical text
abbrev is_full : List ℕ → Bool
is_full [] = false
is_full (b ∷ bs) = is_sound (b ∷ bs)

-- what stands behind byte a up to the first `/`, and the chunks behind that
abbrev is_rest : ℕ → List (List ℕ) → Bool
is_rest a [] = false
is_rest a (c ∷ cs) = (if a == 0x2f then is_full c else is_sound c) && list_all is_full cs

and-false : (a : Bool) → (a && false) ≡ false
and-false true = refl
and-false false = refl

and-true : (a : Bool) → (a && true) ≡ a
and-true true = refl
and-true false = refl

regrouped : (x y p d s : Bool) → ((x && y) && (p && (d && s))) ≡ ((x && p) && ((y && d) && s))
regrouped true true p d s = refl
regrouped true false p d s = sym (and-false p)
regrouped false y p d s = refl

stands-rest : (a : ℕ) (bs : List ℕ) → stands_on a bs ≡ (is_plain bs && is_rest a (chunks bs))
stands-rest a [] = split (a == 0x2f) (λ h. rw h refl) (λ h. rw h refl)
stands-rest a (b ∷ bs) =
    let ih = stands-rest b bs in
    let (d, ds, is) = chunks-some bs in
    split (b == 0x2f)
    (λ t.
    let e : b ≡ 0x2f = grind (arith, nat_tests) in
    split (a == 0x2f)
    (λ h. rw (e, h) (sym (and-false (is_plain bs))))
    (λ h. rw (e, h) (rw (e, is) at ih ∙ rw is refl)))
    (λ t. split (a == 0x2f)
    (λ h. rw (t, is, h) (rw (ih, is, t) (regrouped (is_plain_byte b) (is_sound_byte b) (is_plain bs) (is_sound d) (list_all is_full ds))))
    (λ h. rw (t, is, h) (rw (ih, is, t) (regrouped (is_plain_byte b) (is_sound_byte b) (is_plain bs) (is_sound d) (list_all is_full ds)))))

plain-run : (a : ℕ) (bs : List ℕ) → (a == 0x24) ≡ false → is_plain bs ≡ true → may_run a bs ≡ is_sound bs
plain-run a [] h p = rw h refl
plain-run a (b ∷ bs) h p =
    let byte = and_first (is_plain_byte b) (is_plain bs) p in
    let star = not_true (b == 0x2a) (and_first (not (b == 0x2a)) (not (b == 0x24)) byte) in
    let dollar = not_true (b == 0x24) (and_second (not (b == 0x2a)) (not (b == 0x24)) byte) in
    let rest = plain-run b bs dollar (and_second (is_plain_byte b) (is_plain bs) p) in
    rw (h, star, dollar, rest, and-false (a == 0x2a)) refl

plain-chunk : (c : List ℕ) → is_plain c ≡ true → is_chunk c ≡ is_full c
plain-chunk [] p = refl
plain-chunk (b ∷ bs) p =
    rw (plain-not (b ∷ bs) (codes "*") p refl, plain-not (b ∷ bs) (codes "**") p refl, plain-not (b ∷ bs) (codes "$*") p refl)
    (plain-run 0x2f (b ∷ bs) refl p)

plain-all : (cs : List (List ℕ)) → list_all is_plain cs ≡ true → list_all is_chunk cs ≡ list_all is_full cs
plain-all [] p = refl
plain-all (c ∷ cs) p =
    rw (plain-chunk c (and_first (is_plain c) (list_all is_plain cs) p), plain-all cs (and_second (is_plain c) (list_all is_plain cs) p)) refl

plain-ordered : (cs : List (List ℕ)) → list_all is_plain cs ≡ true → has_ordered_stars cs ≡ true
plain-ordered [] p = refl
plain-ordered (c ∷ []) p = refl
plain-ordered (c ∷ d ∷ cs) p =
    rw (
      plain-not c (codes "**") (and_first (is_plain c) (list_all is_plain (d ∷ cs)) p) refl,
      plain-ordered (d ∷ cs) (and_second (is_plain c) (list_all is_plain (d ∷ cs)) p),
    ) refl

rest-all : (cs : List (List ℕ)) (c : List ℕ) (ds : List (List ℕ)) → cs ≡ c ∷ ds → is_rest 0x2f cs ≡ list_all is_full cs
rest-all cs c ds is = rw is refl

-- a text stands on behind a `/` exactly where it is plain and canonical
pub stands-canonical : (text : List ℕ) → stands_on 0x2f text ≡ (is_plain text && is_canonical text)
stands-canonical text =
    stands-rest 0x2f text
    ∙ split (is_plain text)
    (λ p.
    let (c, cs, is) = chunks-some text in
    let whole = plain-chunks text p in
    rw (p, rest-all (chunks text) c cs is, plain-all (chunks text) whole, plain-ordered (chunks text) whole)
    (sym (and-true (list_all is_full (chunks text)))))
    (λ p. rw p refl)
