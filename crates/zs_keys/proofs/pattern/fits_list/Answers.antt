use Rattle.std.proofs.Common.{sym, ◌∙◌}
use Rattle.zs_keys.proofs.WalkLemmas.{walk-left}
use Rattle.zs_keys.proofs.pattern.fits_list.Goals as goal

pub returns-in-LeftWild : goal.returns-in-LeftWild
returns-in-LeftWild g c =
    let (x, is_wild, onto) = c.in-LeftWild.ensures in
    c.stands_behind.ensures ∙ sym (walk-left g.P.Pattern.wild g.P.Pattern.wild_right g.P.Pattern.same _ _ _ _ x is_wild onto)
