-- The words of linked sessions are none of another mode's.
use Rattle.std.proofs.Common.{◌≡◌, ◌&&◌, ℕ, List, [], ◌∷◌, Bool, true, false, Option, Some, None, cond, map, codes, refl, sym, subst, ◌∙◌, bytes_eq}
use Rattle.std.specs.Cmp.Lexicographic.{same_text}
use Rattle.std.specs.List.{AllByRecursion, cons_option}
use Rattle.std.specs.Str.{IsUtf8}
use Rattle.zs_keys.specs.Key.{undeclared}
use Rattle.zs_core.specs.Types.{Settings}
use Rattle.zs_core.specs.Received.{AreSpelled}
use Rattle.zs_core.specs.Settings.{is_valid}
use Rattle.zs_parts.specs.Symbols.{after_prefix}
use Rattle.zs_session.specs.Soak.{soak_of}
use Rattle.zs_session.specs.Words.{◌>>=◌, settings_of, given, if_apart, is_apart, is_link, link_of, are_settings, values, with_aggregates}

pub no_link : (words : List (List ℕ)) → is_link words ≡ false → link_of words ≡ None
no_link [] other = refl
no_link (mode ∷ words) other = rw other refl

pub no_settings : (words : List (List ℕ)) → is_link words ≡ true → settings_of words ≡ None
no_settings [] linked = cc
no_settings (mode ∷ words) linked = rw (same_text mode (codes "link") (sym linked)) refl

pub no_soak : (words : List (List ℕ)) → is_link words ≡ true → soak_of words ≡ None
no_soak [] linked = cc
no_soak (mode ∷ []) linked = refl
no_soak (mode ∷ seed ∷ []) linked = refl
no_soak (mode ∷ seed ∷ puts ∷ []) linked = rw (same_text mode (codes "link") (sym linked)) refl
no_soak (mode ∷ seed ∷ puts ∷ more ∷ words) linked = refl

spelled_keys : (texts : List (List ℕ)) → AllByRecursion IsUtf8 texts → AllByRecursion (λ a. IsUtf8 a.text) (map undeclared texts)
spelled_keys [] all = all
spelled_keys (text ∷ texts) all = (all.0, spelled_keys texts all.1)

none_some : (s : Settings) → None ≡ Some s → ⊥
none_some s clash = cc

-- where the values are UTF-8, so are the texts of the settings' aggregates
pub spelled_by : (mode : List ℕ) (words : List (List ℕ)) (s : Settings) → AllByRecursion IsUtf8 (values (codes "aggsub=") words)
    → AllByRecursion IsUtf8 (values (codes "aggpub=") words) → link_of (mode ∷ words) ≡ Some s → AreSpelled s
spelled_by mode words s subs pubs named = go (bytes_eq mode (codes "link") && are_settings words) (given words) named
  where
    found : (t : Settings) → Some (with_aggregates words t) ≡ Some s → AreSpelled s
    found t is = let same : with_aggregates words t ≡ s = cc in subst AreSpelled same (spelled_keys _ subs, spelled_keys _ pubs)

    apart : (t : Settings) (fits : Bool) → (cond fits (Some t) None >>= (λ x. Some (with_aggregates words x))) ≡ Some s → AreSpelled s
    apart t false is = absurd (none_some s is)
    apart t true is = found t is

    go : (fits : Bool) (g : Option Settings) → cond fits (g >>= if_apart >>= (λ x. Some (with_aggregates words x))) None ≡ Some s → AreSpelled s
    go false g is = absurd (none_some s is)
    go true None is = absurd (none_some s is)
    go true (Some t) is = apart t (is_valid t && is_apart t) is

others : (value : Option (List ℕ)) (texts : List (List ℕ)) → AllByRecursion IsUtf8 (cons_option value texts) → AllByRecursion IsUtf8 texts
others None texts all = all
others (Some text) texts all = all.1

-- so it is where the values of all words are
pub spelled_words : (words : List (List ℕ)) → AllByRecursion IsUtf8 (values (codes "aggsub=") words) → AllByRecursion IsUtf8 (values (codes "aggpub=") words)
    → (s : Settings) → link_of words ≡ Some s → AreSpelled s
spelled_words [] subs pubs s named = absurd (none_some s named)
spelled_words (mode ∷ words) subs pubs s named =
    spelled_by mode words s (others (after_prefix (codes "aggsub=") mode) (values (codes "aggsub=") words) subs)
    (others (after_prefix (codes "aggpub=") mode) (values (codes "aggpub=") words) pubs) named
