-- What contracts see of a key expression, and why a text is refused as one.
use Rattle.std.specs.Prelude.{◌≡◌, ◌⊎◌, ◌==◌, ◌&&◌, ◌∷◌, ◌++◌, ℕ, Bool, List, take, Option, Some, None, codes, if◌then◌else◌}
use Rattle.std.specs.List.{starts_with, ends_with}
use Rattle.zs_keys.specs.Text.{is_canonical}
use Rattle.zs_keys.specs.Canonize.{canonize}
use Rattle.zs_keys.specs.declared.declaration.Declared.{Declared}
use Rattle.zs_keys.specs.declared.key_error.KeyError.{KeyError}
use Rattle.zs_keys.specs.declared.key_error.KeyError.TheVariants.{BadKeyExpr, ConcatStars, NoMemory}

-- the bytes of its text, and how a session declared it, if one did
pub record Key : Type 0 where
  pub text : List ℕ
  pub declaration : Option Declared

-- the key with this text and no declaration
abbrev pub undeclared : List ℕ → Key
undeclared text = record { text = text; declaration = None }

-- a text is refused where it is not canonical
abbrev pub text_refusal : List ℕ → Option KeyError
text_refusal text = if is_canonical text then None else Some BadKeyExpr

-- the text ends with `*` and the suffix begins with `*`
abbrev pub joins_stars : List ℕ → List ℕ → Bool
joins_stars text suffix = ends_with (λ a b. a == b) text (codes "*") && starts_with (λ a b. a == b) suffix (codes "*")

-- so is a suffix that would make other stars of those that meet, and then one whose text is not canonical
abbrev pub concat_refusal : List ℕ → List ℕ → Option KeyError
concat_refusal text suffix = if joins_stars text suffix then Some ConcatStars else text_refusal (text ++ suffix)

-- an error is want of memory, or this refusal
abbrev pub IsCause : KeyError → Option KeyError → Type 0
IsCause error refusal = (error ≡ NoMemory) ⊎ (refusal ≡ Some error)

-- two texts with a `/` between them, in canonical form
abbrev pub join_text : List ℕ → List ℕ → List ℕ
join_text text suffix = canonize (text ++ (0x2f ∷ suffix))

-- a declaration stays exactly where the part of the old text that it stands for begins the new one
abbrev pub kept_declaration : List ℕ → List ℕ → Option Declared → Option Declared
kept_declaration old new None = None
kept_declaration old new (Some d) = if starts_with (λ a b. a == b) new (take d.prefix_len old) then Some d else None

-- a key expression joined to a text
abbrev pub join_key : Key → List ℕ → Key
join_key key suffix = record {
  text = join_text key.text suffix;
  declaration = kept_declaration key.text (join_text key.text suffix) key.declaration;
}
