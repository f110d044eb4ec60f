-- The words of the mode that makes its script.
use Rattle.std.proofs.Common.{◌≡◌, ℕ, List, [], ◌∷◌, Bool, true, false, Some, None, codes, refl, sym, ◌∙◌, bytes_eq}
use Rattle.std.specs.Cmp.Lexicographic.{same_text}
use Rattle.zs_core.specs.Types.{Settings}
use Rattle.zs_session.specs.Soak.{soak_named, soak_of}
use Rattle.zs_session.specs.Words.{settings_of}
use Rattle.zs_session.specs.declared.soak.Soak.{Soak}

-- words that name such a script give no settings
pub soak_or_settings : (words : List (List ℕ)) (soak : Soak) → soak_of words ≡ Some soak → settings_of words ≡ None
soak_or_settings [] soak named = cc
soak_or_settings (mode ∷ []) soak named = cc
soak_or_settings (mode ∷ seed ∷ []) soak named = cc
soak_or_settings (mode ∷ seed ∷ puts ∷ more ∷ words) soak named = cc
soak_or_settings (mode ∷ seed ∷ puts ∷ []) soak named = go (bytes_eq mode (codes "soak")) refl named
  where
    go : (b : Bool) → bytes_eq mode (codes "soak") ≡ b → soak_named b seed puts ≡ Some soak → settings_of (mode ∷ seed ∷ puts ∷ []) ≡ None
    go true same named = rw (same_text mode (codes "soak") (sym same)) refl
    go false same named = cc

-- so the words of one mode are none of the other's
pub not_both : (words : List (List ℕ)) (soak : Soak) (s : Settings) → soak_of words ≡ Some soak → settings_of words ≡ Some s → ⊥
not_both words soak s named found =
    let none : settings_of words ≡ None = soak_or_settings words soak named in
    let clash : None ≡ Some s = sym none ∙ found in
    cc
