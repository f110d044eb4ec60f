use Rattle.zs_delivery.proofs.TokensTold.{both_tell_tokens}
use Rattle.zs_delivery.proofs.laws.remote_tokens_are_declared.Goals as goal

pub returns : goal.returns
returns c = both_tell_tokens c.wire_forms_are_read.ensures c.messages_have_origins.ensures c.spelled_texts_are_utf8.ensures c.sent_keys_are_spelled.ensures
