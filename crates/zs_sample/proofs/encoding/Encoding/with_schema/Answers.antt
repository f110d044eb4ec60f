use Rattle.std.proofs.Common.{ℕ, List, ◌∷◌, ◌++◌, ap, ◌∙◌}
use Rattle.std.specs.Prelude.{◌==◌}
use Rattle.std.specs.List.{before_first}
use Rattle.std.specs.Str.{chars}
use Rattle.zs_sample.proofs.Schemas.{chars-schema}
use Rattle.zs_sample.proofs.encoding.Encoding.with_schema.Goals as goal

pub returns : goal.returns
returns c =
    c.in_ok-of.ensures
    ∙ ap chars (c.as_str-2.ensures.value ∙ c.in_ok-name.ensures.ok)
    ∙ chars-schema c.before_schema-base.result.now c.args.schema.now c.before_schema-base.utf8 c.utf8.schema
    ∙ ap (λ (base : List ℕ). base ++ 0x3b ∷ chars c.args.schema.now)
    (c.before_schema-base.ensures ∙ ap (before_first (λ s. s == 0x3b)) c.as_str.ensures.characters)
