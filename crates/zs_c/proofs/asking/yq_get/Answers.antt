use Rattle.zs_c.proofs.asking.yq_get.Goals as goal

pub returns : goal.returns
returns c = c.take_read.ensures _ c.get-read.ensures
