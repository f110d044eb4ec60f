use Rattle.zs_c.proofs.declaring.yq_undeclare_key.Goals as goal

pub returns : goal.returns
returns c = c.take_read.ensures _ c.undeclare_key-read.ensures
