use Rattle.std.proofs.Common.{sym}
use Rattle.zs_keys.proofs.WalkLemmas.{onto-differ, onto-next}
use Rattle.zs_keys.proofs.pattern.walk_both.Goals as goal

pub returns-then-not-is_same : goal.returns-then-not-is_same
returns-then-not-is_same g c =
    onto-differ g.P.Pattern.wild g.P.Pattern.wild_right g.P.Pattern.same _ _ _ _ _ _ _ _ c.loop-first.invariant
    c.in-Some.ensures c.in-Some-split_first.ensures
    (sym c.if-is_wild.ensures) (sym c.if-is_wild_right.ensures) (sym c.if-not-is_same.ensures)

pub loop-first-preserved : goal.loop-first-preserved
loop-first-preserved g c =
    onto-next g.P.Pattern.wild g.P.Pattern.wild_right g.P.Pattern.same _ _ _ _ _ _ _ _ c.loop-first.invariant
    c.in-Some.ensures c.in-Some-split_first.ensures
    (sym c.if-is_wild.ensures) (sym c.if-is_wild_right.ensures) (sym c.if-not-is_same.ensures)
