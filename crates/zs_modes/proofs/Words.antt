-- The words of the mode in which callers put are those of no other mode.
use Rattle.std.proofs.Common.{◌≡◌, ℕ, List, [], ◌∷◌, Bool, true, false, Option, Some, None, codes, refl, sym, ◌∙◌, bytes_eq}
use Rattle.std.specs.Cmp.Lexicographic.{same_text}
use Rattle.zs_session.specs.Soak.{soak_of}
use Rattle.zs_session.specs.Words.{settings_of, link_of}
use Rattle.zs_workers.specs.declared.tally.Workers.{Workers}
use Rattle.zs_modes.specs.Working.{workers_named, workers_of}

-- words that name no other mode
pub record AreNoOther (words : List (List ℕ)) : Type 0 where
  pub settings : settings_of words ≡ None
  pub soak : soak_of words ≡ None
  pub link : link_of words ≡ None

pub no_other : (words : List (List ℕ)) (workers : Workers) → workers_of words ≡ Some workers → AreNoOther words
no_other [] workers named = cc
no_other (mode ∷ []) workers named = cc
no_other (mode ∷ callers ∷ []) workers named = cc
no_other (mode ∷ callers ∷ puts ∷ more ∷ words) workers named = cc
no_other (mode ∷ callers ∷ puts ∷ []) workers named = go (bytes_eq mode (codes "workers")) refl named
  where
    go : (b : Bool) → bytes_eq mode (codes "workers") ≡ b → workers_named b callers puts ≡ Some workers → AreNoOther (mode ∷ callers ∷ puts ∷ [])
    go true same named = record {
      settings = rw (same_text mode (codes "workers") (sym same)) refl;
      soak = rw (same_text mode (codes "workers") (sym same)) refl;
      link = rw (same_text mode (codes "workers") (sym same)) refl;
    }
    go false same named = cc

-- what is none is not some
pub not_some : {A : Type 0} {found : Option A} {value : A} → found ≡ None → found ≡ Some value → ⊥
not_some none some =
    let clash : None ≡ Some _ = sym none ∙ some in
    cc
