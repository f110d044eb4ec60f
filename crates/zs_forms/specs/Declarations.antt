-- The events by which an application declares and ends what it declared.
use Rattle.std.specs.Prelude.{ℕ, Bool, List, Option, None, Some}
use Rattle.zs_sample.specs.declared.locality.Locality.{Locality}
use Rattle.zs_events.specs.declared.chan.Chan.TheVariants.{Print}
use Rattle.zs_events.specs.declared.entity_kind.EntityKind.{EntityKind}
use Rattle.zs_events.specs.declared.entity_kind.BackgroundKind.{BackgroundKind}
use Rattle.zs_events.specs.declared.entity_kind.ParentKind.{ParentKind}
use Rattle.zs_events.specs.declared.event.Event.{Event}
use Rattle.zs_events.specs.declared.event.Event.TheVariants.{Key, UndeclareKey, Sub, Pub, Queryable, Token, Lsub, Undeclare, Background, Listen, Status}
use Rattle.zs_events.specs.declared.key_arg.KeyArg.{KeyArg}
use Rattle.zs_events.specs.declared.publication.PublicationQuality.{PublicationQuality}
use Rattle.zs_events.specs.declared.publication.PublisherSettings.{PublisherSettings}
use Rattle.zs_forms.specs.Keys.{key_of}
use Rattle.zs_forms.specs.Kinds.{entity_of, background_of as background_kind_of, parent_of}
use Rattle.zs_forms.specs.Quality.{destination_of, quality_of}
use Rattle.zs_forms.specs.Texts.{text_in}
use Rattle.zs_forms.specs.declared.keys.KeyForm.{KeyForm}
use Rattle.zs_forms.specs.declared.quality.PublicationForm.{PublicationForm}

-- the key of a form
abbrev pub key_in : KeyForm → Option KeyArg
key_in key = key_of key.number key.text.now

-- an event of a key, if there is one
abbrev pub on_key : (KeyArg → Event) → Option KeyArg → Option Event
on_key made (Some key) = Some (made key)
on_key made None = None

-- and of an origin
abbrev pub on_origin : (Locality → KeyArg → Event) → Option Locality → Option KeyArg → Option Event
on_origin made (Some origin) (Some key) = Some (made origin key)
on_origin made (Some origin) None = None
on_origin made None key = None

abbrev pub declared_key_of : KeyForm → Option Event
declared_key_of key = on_key (λ k. Key k) (key_in key)

abbrev pub undeclared_key_of : KeyForm → Option Event
undeclared_key_of key = on_key (λ k. UndeclareKey k) (key_in key)

abbrev pub subscriber_of : KeyForm → ℕ → Option Event
subscriber_of key origin = on_origin (λ o k. Sub o k Print) (destination_of origin) (key_in key)

abbrev pub queryable_of : KeyForm → ℕ → Bool → Option Event
queryable_of key origin complete = on_origin (λ o k. Queryable o complete k) (destination_of origin) (key_in key)

abbrev pub token_of : KeyForm → Option Event
token_of key = on_key (λ k. Token k) (key_in key)

abbrev pub liveliness_subscriber_of : KeyForm → Bool → Option Event
liveliness_subscriber_of key history = on_key (λ k. Lsub history k) (key_in key)

-- what a publisher says of all that it publishes
abbrev pub settings_with : Option Locality → Option PublicationQuality → Option (List ℕ) → Option PublisherSettings
settings_with (Some d) (Some q) (Some e) = Some (record { destination = d; encoding = e; quality = q })
settings_with (Some d) (Some q) None = None
settings_with (Some d) None e = None
settings_with None q e = None

abbrev pub settings_of : PublicationForm → List ℕ → Option PublisherSettings
settings_of how encoding = settings_with (destination_of how.destination) (quality_of how) (text_in encoding)

abbrev pub published_with : Option PublisherSettings → Option KeyArg → Option Event
published_with (Some settings) (Some key) = Some (Pub key settings)
published_with (Some settings) None = None
published_with None key = None

abbrev pub publisher_of : KeyForm → PublicationForm → List ℕ → Option Event
publisher_of key how encoding = published_with (settings_of how encoding) (key_in key)

-- the events of a declared entity
abbrev pub undeclared_with : Option EntityKind → ℕ → Option Event
undeclared_with (Some kind) id = Some (Undeclare kind id)
undeclared_with None id = None

abbrev pub undeclared_of : ℕ → ℕ → Option Event
undeclared_of kind id = undeclared_with (entity_of kind) id

abbrev pub background_with : Option BackgroundKind → ℕ → Option Event
background_with (Some kind) id = Some (Background kind id)
background_with None id = None

abbrev pub background_of : ℕ → ℕ → Option Event
background_of kind id = background_with (background_kind_of kind) id

abbrev pub listened_with : Option ParentKind → ℕ → Option Event
listened_with (Some kind) id = Some (Listen kind id)
listened_with None id = None

abbrev pub listened_of : ℕ → ℕ → Option Event
listened_of kind id = listened_with (parent_of kind) id

abbrev pub status_with : Option ParentKind → ℕ → Option Event
status_with (Some kind) id = Some (Status kind id)
status_with None id = None

abbrev pub status_of : ℕ → ℕ → Option Event
status_of kind id = status_with (parent_of kind) id
