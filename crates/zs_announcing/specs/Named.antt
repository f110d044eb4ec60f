-- The key that an event names, as the code names it.
use Rattle.zs_announcing.specs.declared.keys.KeyName.{KeyName}
use Rattle.zs_announcing.specs.declared.keys.KeyName.TheVariants.{Own, Publisher, Querier, Wire}
use Rattle.zs_events.specs.Kinds.{NamedKey, OwnKey, PublisherKey, QuerierKey, WireKey}

-- the key that the code names
abbrev pub named_by : KeyName → NamedKey
named_by (Own key) = OwnKey key.now
named_by (Publisher id) = PublisherKey id
named_by (Querier id) = QuerierKey id
named_by (Wire wire) = WireKey wire.now
