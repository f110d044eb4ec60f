use Rattle.std.proofs.Common.{◌≡◌, ◌++◌, take}
use Rattle.zs_model.specs.Publications.{hands_to}
use Rattle.zs_making.proofs.publications.hand_copies.Given as goal

abbrev pub invariant-loop-id : goal.invariant-loop-id
invariant-loop-id l = l.effects ≡ l.fn.effects ++ hands_to l.sample (take l.id-index l.ids)
