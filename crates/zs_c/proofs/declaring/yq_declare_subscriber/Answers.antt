use Rattle.zs_c.proofs.declaring.yq_declare_subscriber.Goals as goal

pub returns : goal.returns
returns c = c.take_read.ensures _ c.declare_subscriber-read.ensures
