use Rattle.zs_c.proofs.publishing.yq_publisher_delete.Goals as goal

pub returns : goal.returns
returns c = c.take_read.ensures _ c.deletion-read.ensures
