-- Events by which the application says values, asks for them or answers.
use Rattle.std.specs.Prelude.{Bool, true, false}
use Rattle.zs_events.specs.declared.event.Event.{Event}
use Rattle.zs_events.specs.declared.event.Event.TheVariants.{Publish, PublishBy, Get, QuerierGet, LivelinessGet, Reply, ReplyErr}

abbrev pub is_exchange : Event → Bool
is_exchange (Publish destination key update quality) = true
is_exchange (PublishBy id update) = true
is_exchange (Get key settings inquiry to) = true
is_exchange (QuerierGet id inquiry to) = true
is_exchange (LivelinessGet key timeout cancellation_token to) = true
is_exchange (Reply value key update quality) = true
is_exchange (ReplyErr value error) = true
is_exchange e = false
