use Rattle.std.proofs.Common.{◌≡◌, Bool, false, ◌&&◌, refl, sym, ◌∙◌}
use Rattle.std.specs.Prelude.{codes}
use Rattle.std.proofs.lemmas.Str.Pattern.{ends_text}
use Rattle.zs_keys.proofs.joining.joins_stars.Goals as goal

fails-first : (a b r : Bool) → r ≡ a → r ≡ false → r ≡ (a && b)
fails-first a b r h k = rw (sym h ∙ k, k) refl

pub returns-else-ends_with : goal.returns-else-ends_with
returns-else-ends_with c =
    fails-first _ _ _ (ends_text _ (codes "*") c.args.text.now c.ends_with.ensures.cases) c.if-ends_with.false
