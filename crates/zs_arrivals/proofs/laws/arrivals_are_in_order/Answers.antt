use Rattle.zs_arrivals.proofs.Arriving.{both_arrive}
use Rattle.zs_arrivals.proofs.laws.arrivals_are_in_order.Goals as goal

pub returns : goal.returns
returns c = both_arrive c.wire_forms_are_read.ensures c.messages_have_origins.ensures c.spelled_texts_are_utf8.ensures c.sent_keys_are_spelled.ensures
