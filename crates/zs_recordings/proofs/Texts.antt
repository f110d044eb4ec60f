-- What was printed is UTF-8 text: of texts in code, of entries, and of the lines that a text is cut into.
use Rattle.std.proofs.Common.{◌≡◌, ◌+◌, ◌<◌, ℕ, suc, List, [], ◌∷◌, ◌++◌, length, take, drop, get_or, true, Option, Some, None, refl, sym, ◌∙◌, ap, subst, arith, codes}
use Rattle.std.specs.Prelude.{String, Result, Ok, Err, OnOk}
use Rattle.std.specs.List.{flat_map}
use Rattle.std.specs.Str.{IsUtf8, is_utf8}
use Rattle.std.specs.String.{string_bytes}
use Rattle.std.proofs.lemmas.Str.{IsUtf8-string_bytes, IsUtf8-take, IsUtf8-drop, IsCharBoundary-before_ascii, IsCharBoundary-after_ascii, is_utf8-from_IsUtf8}
use Rattle.zs_driving.specs.Tasks.{lines_behind}
use Rattle.zs_driving.specs.Languages.{text_of, events_of, rules_of, events_behind}
use Rattle.zs_events.specs.declared.event.Event.{Event}
use Rattle.zs_events.specs.declared.event.Event.TheVariants.{Close}
use Rattle.zs_core.specs.Types.{Settings}
use Rattle.zs_core.specs.Effects.{effects}
use Rattle.zs_recordings.specs.Entries.{entry_text, recorded_of}
use Rattle.zs_recordings.specs.Recording.{AreTexts, record_language}
use Rattle.zs_recordings.specs.Machines.{AreRowTexts, AllAreTexts}

-- the bytes of a text in code
pub utf8-text : {Z : Type 0} (text : String Z) (bytes : List ℕ) → string_bytes text ≡ bytes → is_utf8 bytes ≡ true
utf8-text text bytes same = is_utf8-from_IsUtf8 bytes (subst IsUtf8 same (IsUtf8-string_bytes text))

pub ok-keeps : {A E : Type 0} (r : Result A E) (P : Type 0) → P → OnOk r P
ok-keeps (Ok found) P p = p
ok-keeps (Err error) P p = tt

-- a text that is cut at a line feed
at-seam : (xs ys : List ℕ) (b : ℕ) → get_or (xs ++ b ∷ ys) (length xs) 0 ≡ b
at-seam [] ys b = refl
at-seam (x ∷ xs) ys b = at-seam xs ys b

within : (xs ys : List ℕ) (b : ℕ) → length xs < length (xs ++ b ∷ ys)
within [] ys b = omega arith
within (x ∷ xs) ys b = let more = within xs ys b in omega (arith, more)

front-of : (xs ys : List ℕ) → take (length xs) (xs ++ ys) ≡ xs
front-of [] ys = refl
front-of (x ∷ xs) ys = ap (λ (rest : List ℕ). x ∷ rest) (front-of xs ys)

past-seam : (xs ys : List ℕ) (b : ℕ) → drop (length xs + 1) (xs ++ b ∷ ys) ≡ ys
past-seam xs ys b =
    let next : suc (length xs) ≡ length xs + 1 = omega arith in
    subst (λ (n : ℕ). drop n (xs ++ b ∷ ys) ≡ ys) next (go xs)
  where
    go : (xs : List ℕ) → drop (suc (length xs)) (xs ++ b ∷ ys) ≡ ys
    go [] = refl
    go (x ∷ xs) = go xs

pub cut-utf8 : (xs ys : List ℕ) (b : ℕ) → b < 128 → IsUtf8 (xs ++ b ∷ ys) → IsUtf8 xs × IsUtf8 ys
cut-utf8 xs ys b small utf8 =
    let bytes = xs ++ b ∷ ys in
    let less = within xs ys b in
    let ascii : get_or bytes (length xs) 0 < 128 = subst (λ (n : ℕ). n < 128) (sym (at-seam xs ys b)) small in (
      subst IsUtf8 (front-of xs (b ∷ ys)) (IsUtf8-take bytes (length xs) utf8 (IsCharBoundary-before_ascii bytes (length xs) less ascii)),
      subst IsUtf8 (past-seam xs ys b) (IsUtf8-drop bytes (length xs + 1) utf8 (IsCharBoundary-after_ascii bytes (length xs) utf8 less ascii)),
    )

-- rows with a line feed behind each
abbrev pub joined : List (List ℕ) → List ℕ
joined rows = flat_map (λ text. text ++ codes "\n") rows

-- the entries of a script's events, from the texts of its rows
rows-texts : (s : Settings) (h rows : List (List ℕ)) → AreRowTexts (rules_of (record_language s)) (lines_behind h rows)
    → AreRowTexts (rules_of (record_language s)) h × AreTexts s (events_of (record_language s) h) (events_of (record_language s) rows)
rows-texts s h [] texts = (texts, tt)
rows-texts s h (row ∷ rows) texts = go (recorded_of row) refl (rows-texts s (row ∷ h) rows texts)
  where
    go : (o : Option Event) → recorded_of row ≡ o
        → AreRowTexts (rules_of (record_language s)) (row ∷ h) × AreTexts s (events_of (record_language s) (row ∷ h)) (events_of (record_language s) rows)
        → AreRowTexts (rules_of (record_language s)) h × AreTexts s (events_of (record_language s) h) (events_of (record_language s) (row ∷ rows))
    go None is both =
        let l = record_language s in
        let before : events_of l (row ∷ h) ≡ events_of l h = rw is refl in
        let behind : events_of l (row ∷ rows) ≡ events_of l rows = rw is refl in (
          both.0.1,
          subst (λ (es : List Event). AreTexts s (events_of l h) es) (sym behind) (subst (λ (es : List Event). AreTexts s es (events_of l rows)) before both.1),
        )
    go (Some e) is both =
        let l = record_language s in
        let before : events_of l (row ∷ h) ≡ e ∷ events_of l h = rw is refl in
        let behind : events_of l (row ∷ rows) ≡ e ∷ events_of l rows = rw is refl in
        let own : is_utf8 (text_of l (events_of l h) (Some e)) ≡ true =
        ap (λ (o : Option Event). is_utf8 (text_of l (events_of l h) o)) (sym is) ∙ both.0.0 in (
          both.0.1,
          subst (λ (es : List Event). AreTexts s (events_of l h) es) (sym behind)
              (own, subst (λ (es : List Event). AreTexts s es (events_of l rows)) before both.1),
        )

behind-all : (s : Settings) (h rows : List (List ℕ)) → events_of (record_language s) (lines_behind h rows) ≡ events_behind (events_of (record_language s) h) (events_of (record_language s) rows)
behind-all s h [] = refl
behind-all s h (row ∷ rows) = go (recorded_of row) refl (behind-all s (row ∷ h) rows)
  where
    go : (o : Option Event) → recorded_of row ≡ o
        → events_of (record_language s) (lines_behind (row ∷ h) rows) ≡ events_behind (events_of (record_language s) (row ∷ h)) (events_of (record_language s) rows)
        → events_of (record_language s) (lines_behind (row ∷ h) rows) ≡ events_behind (events_of (record_language s) h) (events_of (record_language s) (row ∷ rows))
    go (Some e) is same = same ∙ rw is refl
    go None is same = same ∙ rw is refl

texts-push : (s : Settings) (h es : List Event) (e : Event) → AreTexts s h es
    → is_utf8 (entry_text (length (events_behind h es) + 1) e (effects s (events_behind h es) e)) ≡ true → AreTexts s h (es ++ e ∷ [])
texts-push s h [] e texts own = (own, tt)
texts-push s h (first ∷ es) e texts own = (texts.0, texts-push s (first ∷ h) es e texts.1 own)

pub texts_found : (s : Settings) (rows : List (List ℕ)) → AllAreTexts (rules_of (record_language s)) (lines_behind [] rows)
    → AreTexts s [] (events_of (record_language s) rows ++ Close ∷ [])
texts_found s rows all =
    let l = record_language s in
    texts-push s [] (events_of l rows) Close (rows-texts s [] rows all.rows).1
    (ap (λ (h : List Event). is_utf8 (entry_text (length h + 1) Close (effects s h Close))) (sym (behind-all s [] rows)) ∙ all.last)
