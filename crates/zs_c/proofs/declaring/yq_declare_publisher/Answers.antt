use Rattle.zs_c.proofs.declaring.yq_declare_publisher.Goals as goal

pub returns : goal.returns
returns c = c.take_read.ensures _ c.declare_publisher-read.ensures
