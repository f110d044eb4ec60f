use Rattle.std.proofs.Common.{sym, ◌∙◌}
use Rattle.zs_keys.proofs.WalkLemmas.{search-ended, search-found}
use Rattle.zs_keys.proofs.pattern.stands_behind.Goals as goal

pub returns-in-Ended : goal.returns-in-Ended
returns-in-Ended g c =
    sym (c.loop-rest.invariant.answer
    ∙ search-ended g.P.Pattern.wild g.P.Pattern.wild_right g.P.Pattern.same _ _ c.in-Ended.ensures)

pub loop-rest-preserved : goal.loop-rest-preserved
loop-rest-preserved g c =
    let (x, is_wild, onto) = c.in-LeftWild.ensures in
    record {
      plain = sym onto.wilds ∙ c.loop-rest.invariant.plain;
      answer = c.loop-rest.invariant.answer
          ∙ search-found g.P.Pattern.wild g.P.Pattern.wild_right g.P.Pattern.same _ _ _ _ x is_wild onto c.loop-rest.invariant.plain;
    }
