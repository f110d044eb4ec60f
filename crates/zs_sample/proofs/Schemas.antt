-- Cutting a name at its first `;`, by its characters.
use Rattle.std.proofs.Common.{◌≡◌, ℕ, suc, ◌+◌, ◌<◌, List, [], ◌∷◌, ◌++◌, refl, ap, sym, subst, ◌∙◌, take, drop, length, arith, rules, length-drop, lit<}
use Rattle.std.specs.Prelude.{◌==◌, Bool, true, IsUtf8}
use Rattle.std.specs.List.{before_first, position_or_len}
use Rattle.std.specs.Str.{chars, NoCharPasses, NonePass, IsCharBoundary}
use Rattle.std.specs.Str.Pattern.{FindsChar, SplitsAroundMatch}
use Rattle.std.proofs.lemmas.List.{take-append-drop}
use Rattle.std.proofs.lemmas.Str.{chars-append, chars_past_char, chars_from_encodes, encode_ascii, IsUtf8-append, IsUtf8-encode, IsUtf8-take, IsUtf8-drop, IsCharBoundary-before_ascii}
use Rattle.std.proofs.lemmas.Str.Pattern.{drop_at_char}

-- one element more of a list
pub take-one_more : (x : ℕ) (xs : List ℕ) (k : ℕ) → take (1 + k) (x ∷ xs) ≡ x ∷ take k xs
take-one_more x xs k = let e : 1 + k ≡ suc k = omega arith in rw e refl

-- the front of a list in which nothing passes, up to what passes
pub before_first-found : (p : ℕ → Bool) (cs : List ℕ) (c : ℕ) (ds : List ℕ) → NonePass p cs → p c ≡ true → before_first p (cs ++ c ∷ ds) ≡ cs
before_first-found p [] c ds none passes = rw passes refl
before_first-found p (x ∷ cs) c ds none passes =
    rw none.0 (take-one_more x (cs ++ c ∷ ds) (position_or_len p (cs ++ c ∷ ds))
    ∙ ap (λ (t : List ℕ). x ∷ t) (before_first-found p cs c ds none.1 passes))

-- a list in which nothing passes
pub before_first-none : (p : ℕ → Bool) (cs : List ℕ) → NonePass p cs → before_first p cs ≡ cs
before_first-none p [] none = refl
before_first-none p (x ∷ cs) none =
    rw none.0 (take-one_more x cs (position_or_len p cs) ∙ ap (λ (t : List ℕ). x ∷ t) (before_first-none p cs none.1))

-- the characters of a name with its schema
pub chars-schema : (base schema : List ℕ) → IsUtf8 base → IsUtf8 schema → chars (base ++ 0x3b ∷ schema) ≡ chars base ++ 0x3b ∷ chars schema
chars-schema base schema base_utf8 schema_utf8 =
    let semicolon = encode_ascii 0x3b (lit< tt) in
    let sign_utf8 : IsUtf8 (0x3b ∷ []) = subst IsUtf8 semicolon (IsUtf8-encode 0x3b (search rules)) in
    chars-append base (0x3b ∷ schema) base_utf8
    ∙ ap (λ (t : List ℕ). chars base ++ t)
    (chars_past_char (0x3b ∷ schema) schema 0x3b (IsUtf8-append (0x3b ∷ []) schema sign_utf8 schema_utf8)
    (ap (λ (t : List ℕ). t ++ schema) (sym semicolon)))

-- a text without a `;`
pub base-none : (text : List ℕ) → IsUtf8 text → NoCharPasses (λ c. c == 0x3b) text → chars text ≡ before_first (λ c. c == 0x3b) (chars text)
base-none text utf8 (cs, spelled, none) =
    rw (sym (chars_from_encodes cs text utf8 spelled)) (sym (before_first-none (λ c. c == 0x3b) cs none))

-- a text with a `;`
pub base-found : (text front back : List ℕ) → IsUtf8 front → IsUtf8 back → text ≡ front ++ 0x3b ∷ back → NoCharPasses (λ c. c == 0x3b) front → chars front ≡ before_first (λ c. c == 0x3b) (chars text)
base-found text front back front_utf8 back_utf8 whole (cs, spelled, none) =
    let first : cs ≡ chars front = chars_from_encodes cs front front_utf8 spelled in
    let whole_chars : chars text ≡ cs ++ 0x3b ∷ chars back =
    ap chars whole ∙ chars-schema front back front_utf8 back_utf8
    ∙ ap (λ (t : List ℕ). t ++ 0x3b ∷ chars back) (sym first) in
    rw whole_chars (sym first ∙ sym (before_first-found (λ c. c == 0x3b) cs 0x3b (chars back) none refl))

-- a text that was cut at its first `;`
pub base-split : (text front back : List ℕ) → IsUtf8 text → SplitsAroundMatch (FindsChar 0x3b) text front back → chars front ≡ before_first (λ c. c == 0x3b) (chars text)
base-split text front back utf8 (i, j, (none, at), front_is, back_is, _, _, _) =
    let sign : drop i text ≡ 0x3b ∷ drop j text = drop_at_char 0x3b text i j at (lit< tt) in
    let whole : text ≡ front ++ 0x3b ∷ back =
    sym (take-append-drop i text) ∙ ap (λ (t : List ℕ). take i text ++ t) sign ∙ rw (front_is, back_is) refl in
    let within : i < length text = omega (arith, ap length sign, length-drop i text) in
    let before : IsCharBoundary text i = IsCharBoundary-before_ascii text i within (rw (at.byte (lit< tt)) (lit< tt)) in
    let behind : IsCharBoundary text j = rw at.ends at.after in
    base-found text front back (rw front_is (IsUtf8-take text i utf8 before)) (rw back_is (IsUtf8-drop text j utf8 behind)) whole (rw front_is none)
