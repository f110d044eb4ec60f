-- Publishers as they are declared, and what they publish.
use Rattle.std.specs.Prelude.{ℕ, Bool, ◌-◌, ◌==◌, List, [], ◌∷◌, length, Option, Some, None, encode_utf8_all}
use Rattle.std.specs.List.{find, list_any}
use Rattle.zs_keys.specs.Key.{undeclared}
use Rattle.zs_events.specs.declared.event.Event.{Event}
use Rattle.zs_events.specs.declared.event.Event.TheVariants.{Pub}
use Rattle.zs_events.specs.declared.key_arg.KeyArg.{KeyArg}
use Rattle.zs_events.specs.declared.key_arg.KeyArg.TheVariants.{Text, Number, Declared}
use Rattle.zs_events.specs.Kinds.{Publishes, NoContent, OwnContent, ByPublisher, local_content}
use Rattle.zs_events.specs.declared.publication.Content.{Content}
use Rattle.zs_events.specs.declared.publication.PublisherSettings.{PublisherSettings}
use Rattle.zs_events.specs.declared.update.Update.{Update}
use Rattle.zs_events.specs.Updates.{body_of}
pub use Rattle.zs_model.specs.declared.publisher.Prefix.{Prefix}
pub use Rattle.zs_model.specs.declared.publisher.PubRow.{PubRow}

-- the number that stands for a part of a key's text, and how long that part is
abbrev pub prefix_of : KeyArg → List ℕ → Option Prefix
prefix_of (Text text) whole = None
prefix_of (Number number suffix) whole = Some (record { number = number; len = length whole - length (encode_utf8_all suffix) })
prefix_of (Declared text number prefix_len) whole = Some (record { number = number; len = prefix_len })

-- a publisher on the key of this text
abbrev pub pub_on : ℕ → KeyArg → PublisherSettings → List ℕ → PubRow
pub_on id key settings text = record { id = id; key = undeclared text; prefix = prefix_of key text; settings = settings }

-- the publisher that an event declares, given the number that it drew and the text of its key
abbrev pub pub_row : Event → Option ℕ → Option (List ℕ) → List PubRow
pub_row (Pub key settings) (Some number) (Some text) = pub_on number key settings text ∷ []
pub_row e number text = []

-- whether there is a publisher of that number
abbrev pub is_pub : ℕ → List PubRow → Bool
is_pub id rows = list_any (λ row. row.id == id) rows

-- the publisher of a number
abbrev pub pub_at : ℕ → List PubRow → Option PubRow
pub_at id rows = find (λ row. row.id == id) rows

-- what a publisher publishes has its destination and qualities, and its encoding unless another one is named
abbrev pub published_by : PubRow → Update → Content
published_by row update = local_content row.settings.destination (body_of row.settings.encoding update) row.settings.quality

-- what a publisher publishes, where it is live
abbrev pub content_of : Update → Option PubRow → Publishes
content_of c None = NoContent
content_of c (Some row) = OwnContent (published_by row c)

-- what is published where these publishers are live
abbrev pub resolved : List PubRow → Publishes → Publishes
resolved pubs (ByPublisher id c) = content_of c (pub_at id pubs)
resolved pubs publishes = publishes
