use Rattle.zs_c.proofs.declaring.yq_declare_liveliness_subscriber.Goals as goal

pub returns : goal.returns
returns c = c.take_read.ensures _ c.declare_liveliness_subscriber-read.ensures
