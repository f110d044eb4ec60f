use Rattle.std.proofs.Common.{take}
use Rattle.std.specs.List.{AllByRecursion}
use Rattle.zs_posts.proofs.Settling.{IsOther}
use Rattle.zs_posts.proofs.posts.place_of.Given as goal

abbrev pub invariant-loop-i : goal.invariant-loop-i
invariant-loop-i g l = AllByRecursion (IsOther l.key) (take l.i l.ready.items)
