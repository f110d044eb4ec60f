use Rattle.zs_message_laws.proofs.Back.{messages-pass}
use Rattle.zs_message_laws.proofs.passing.messages_pass.Goals as goal

pub returns : goal.returns
returns c = messages-pass
