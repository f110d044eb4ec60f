use Rattle.zs_c.proofs.receiving.yq_receive.Goals as goal

pub returns : goal.returns
returns c = c.take_read.ensures _ c.received-read.ensures
