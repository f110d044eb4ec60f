use Rattle.zs_delivery.proofs.Deliveries.{both_hand}
use Rattle.zs_delivery.proofs.laws.delivered_are_handed.Goals as goal

pub returns : goal.returns
returns c = both_hand c.wire_forms_are_read.ensures c.messages_have_origins.ensures c.spelled_texts_are_utf8.ensures c.sent_keys_are_spelled.ensures
