use Rattle.std.proofs.Common.{◌≡◌, take}
use Rattle.zs_model.proofs.key_list.copies.Given as goal

abbrev pub invariant-copies : goal.invariant-copies
invariant-copies l = l.copies.items ≡ take l.key-index l.keys
