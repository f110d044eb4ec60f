-- What is kept by key, as the maps hold it.
use Rattle.std.specs.Prelude.{◌≡◌, Option}
use Rattle.zs_keys.specs.Key.{Key}
use Rattle.zs_wire.specs.declared.origin.Timestamp.{Timestamp}
use Rattle.zs_sample.specs.Reply.{Replied}
use Rattle.zs_query.specs.Marks.{Mark, key_of}

-- a reply under its own key
abbrev pub HasOwnKey : Key × Replied → Type 0
HasOwnKey entry = entry.0.text ≡ key_of entry.1

-- a key with a timestamp as a mark
abbrev pub mark_of_entry : Key × Option Timestamp → Mark
mark_of_entry entry = record { key = entry.0.text; timestamp = entry.1 }
