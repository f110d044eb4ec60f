use Rattle.std.proofs.Common.{◌≡◌, true, ℕ, List, subst}
use Rattle.std.specs.Str.{all_scalars}
use Rattle.std.proofs.lemmas.Str.{scalars-chars}
use Rattle.zs_typed.proofs.symbols.type_text.Goals as goal

pub returns : goal.returns
returns c = subst (λ (text : List ℕ). all_scalars text ≡ true) c.as_str-text.ensures.characters (scalars-chars c.as_str-text.result.now c.as_str-text.utf8)
