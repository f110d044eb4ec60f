use Rattle.std.proofs.Common.{sym, ◌∙◌}
use Rattle.zs_keys.proofs.SymmetricLemmas.{last-plain, anywhere-first, anywhere-second}
use Rattle.zs_keys.proofs.pattern.stands_anywhere.Goals as goal

pub stands_behind-requires-2 : goal.stands_behind-requires-2
stands_behind-requires-2 g c =
    last-plain g.P.Pattern.wild g.P.Pattern.wild_right g.P.Pattern.same c.requires.one_wild c.requires.even _ _
    c.last_piece-right_end.ensures

pub stands_behind-requires-else-stands_behind : goal.stands_behind-requires-else-stands_behind
stands_behind-requires-else-stands_behind g c =
    last-plain g.P.Pattern.wild g.P.Pattern.wild_right g.P.Pattern.same c.requires.one_wild c.requires.even _ _
    c.last_piece-left_end.ensures

pub returns-then-stands_behind : goal.returns-then-stands_behind
returns-then-stands_behind g c =
    c.if-stands_behind.true
    ∙ sym (anywhere-first g.P.Pattern.wild g.P.Pattern.wild_right g.P.Pattern.same c.requires.one_wild c.requires.even _ _ _ _
    (sym c.if-not-has_wild.ensures) c.last_piece-left_end.ensures c.last_piece-right_end.ensures (sym c.if-stands_behind.ensures))

pub returns-else-stands_behind : goal.returns-else-stands_behind
returns-else-stands_behind g c =
    c.stands_behind-else-stands_behind.ensures
    ∙ sym (anywhere-second g.P.Pattern.wild g.P.Pattern.wild_right g.P.Pattern.same c.requires.one_wild c.requires.even _ _ _ _
    (sym c.if-not-has_wild.ensures) c.last_piece-left_end.ensures c.last_piece-right_end.ensures (sym c.if-stands_behind.ensures))
