use Rattle.zs_c.proofs.declaring.yq_declare_queryable.Goals as goal

pub returns : goal.returns
returns c = c.take_read.ensures _ c.declare_queryable-read.ensures
