use Rattle.std.proofs.Common.{sym, ◌∙◌}
use Rattle.zs_keys.proofs.WalkLemmas.{walk-left}
use Rattle.zs_keys.proofs.SymmetricLemmas.{match-right}
use Rattle.zs_keys.proofs.pattern.matches_list.Goals as goal

pub returns-in-LeftWild : goal.returns-in-LeftWild
returns-in-LeftWild g c =
    let (x, is_wild, onto) = c.in-LeftWild.ensures in
    c.stands_anywhere.ensures
    ∙ sym (walk-left g.P.Pattern.wild g.P.Pattern.wild_right g.P.Pattern.same _ _ _ _ x is_wild onto)

pub returns-in-RightWild : goal.returns-in-RightWild
returns-in-RightWild g c =
    let (y, is_wild, onto) = c.in-RightWild.ensures in
    c.stands_anywhere-in-RightWild.ensures
    ∙ sym (match-right g.P.Pattern.wild g.P.Pattern.wild_right g.P.Pattern.same c.requires.one_wild c.requires.even
    _ _ _ _ y is_wild onto)
