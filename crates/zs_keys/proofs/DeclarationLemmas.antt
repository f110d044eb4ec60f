-- When a declaration stays at another text.
use Rattle.std.proofs.Common.{◌≡◌, ℕ, true, false, List, take, Option, Some, None, Result, Ok, Err, IfErr, inl, inr, refl}
use Rattle.std.specs.Prelude.{◌==◌}
use Rattle.std.specs.List.{starts_with}
use Rattle.zs_keys.specs.Key.{Key, IsCause, kept_declaration}
use Rattle.zs_keys.specs.declared.key_error.KeyError.{KeyError}
use Rattle.zs_keys.specs.declared.key_error.KeyError.TheVariants.{NoMemory}
use Rattle.zs_keys.specs.declared.declaration.Declared.{Declared}

pub kept-so : (old new : List ℕ) (d : Declared) (declaration : Option Declared) → declaration ≡ Some d
    → starts_with (λ a b. a == b) new (take d.prefix_len old) ≡ true → kept_declaration old new declaration ≡ Some d
kept-so old new d declaration h k = rw h (rw k refl)

pub kept-not : (old new : List ℕ) (d : Declared) (declaration : Option Declared) → declaration ≡ Some d
    → starts_with (λ a b. a == b) new (take d.prefix_len old) ≡ false → kept_declaration old new declaration ≡ None
kept-not old new d declaration h k = rw h (rw k refl)

-- where nothing is refused, only memory can be missing
pub only_memory : (r : Result Key KeyError) (refusal : Option KeyError) → IfErr r (λ e. IsCause e refusal) → refusal ≡ None
    → IfErr r (λ e. e ≡ NoMemory)
only_memory (Ok key) refusal h k = tt
only_memory (Err e) refusal (inl p) k = p
only_memory (Err e) refusal (inr q) k = cc
