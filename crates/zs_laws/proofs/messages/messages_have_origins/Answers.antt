use Rattle.zs_laws.proofs.Origins.{messages_have_origins}
use Rattle.zs_laws.proofs.messages.messages_have_origins.Goals as goal

pub returns : goal.returns
returns c = messages_have_origins
