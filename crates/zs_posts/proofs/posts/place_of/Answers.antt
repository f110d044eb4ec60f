use Rattle.std.proofs.Common.{sym, ◌∙◌, arith}
use Rattle.zs_posts.proofs.Settling.{found_at, none_found}
use Rattle.zs_posts.proofs.posts.place_of.Goals as goal

pub returns-then-is_of-clause-first : goal.returns-then-is_of-clause-first
returns-then-is_of-clause-first g c =
    (found_at c.args.key c.args.ready.now.items c.loop-i.i c.in-Some.post.now c.loop-i.invariant c.in-Some.ensures.item.3.0 c.in-Some.ensures.lookup (sym c.is_of.ensures ∙ c.if-is_of.true)).0

pub returns-then-is_of-clause-others : goal.returns-then-is_of-clause-others
returns-then-is_of-clause-others g c =
    (found_at c.args.key c.args.ready.now.items c.loop-i.i c.in-Some.post.now c.loop-i.invariant c.in-Some.ensures.item.3.0 c.in-Some.ensures.lookup (sym c.is_of.ensures ∙ c.if-is_of.true)).1

pub returns-clause-none : goal.returns-clause-none
returns-clause-none g c = none_found c.args.key c.args.ready.now.items c.loop-i.i (omega (arith, c.loop-i-test.false, c.len-i-end.ensures, c.args.ready.now.ok.0)) c.loop-i.invariant
