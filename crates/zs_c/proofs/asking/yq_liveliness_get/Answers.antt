use Rattle.zs_c.proofs.asking.yq_liveliness_get.Goals as goal

pub returns : goal.returns
returns c = c.take_read.ensures _ c.liveliness_get-read.ensures
