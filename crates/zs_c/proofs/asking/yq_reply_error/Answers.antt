use Rattle.zs_c.proofs.asking.yq_reply_error.Goals as goal

pub returns : goal.returns
returns c = c.take_read.ensures _ c.reply_error-read.ensures
