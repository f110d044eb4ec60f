-- The laws on what is sent, for spelled events.
use Rattle.zs_laws.proofs.Received.{keys_read}
use Rattle.zs_laws.proofs.Covered.{covered}
use Rattle.zs_laws.specs.Spelled.{SpelledFormsAreRead, SpelledSubscribersAreCovered}
use Rattle.zs_laws.proofs.Texts.{past_utf8, event_utf8}

pub spelled_forms_are_read : SpelledFormsAreRead
spelled_forms_are_read s h e aggregates all = keys_read s h e aggregates (past_utf8 s h all.1) (event_utf8 s h e all)

pub spelled_subscribers_are_covered : SpelledSubscribersAreCovered
spelled_subscribers_are_covered s h aggregates all = covered s h aggregates (past_utf8 s h all)
