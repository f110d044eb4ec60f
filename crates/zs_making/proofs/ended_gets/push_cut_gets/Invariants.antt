use Rattle.std.proofs.Common.{◌≡◌, ◌++◌, length}
use Rattle.zs_model.specs.GetEffects.{cut_effects}
use Rattle.zs_making.specs.Spoken.{ender_news}
use Rattle.zs_model.proofs.EndedGets.{behind}
use Rattle.zs_making.proofs.CutGets.{those}
use Rattle.zs_making.proofs.ended_gets.push_cut_gets.Given as goal

abbrev pub invariant-gets : goal.invariant-gets
invariant-gets l = l.effects ++ cut_effects (ender_news l.ender) (behind l.after (those (ender_news l.ender) l.gets)) ≡ l.fn.effects ++ cut_effects (ender_news l.ender) l.gets

abbrev pub decreases-gets : goal.decreases-gets
decreases-gets l = length (behind l.after (those (ender_news l.ender) l.gets))
