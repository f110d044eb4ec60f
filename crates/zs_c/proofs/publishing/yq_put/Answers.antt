use Rattle.zs_c.proofs.publishing.yq_put.Goals as goal

pub returns : goal.returns
returns c = c.take_read.ensures _ c.put-read.ensures
