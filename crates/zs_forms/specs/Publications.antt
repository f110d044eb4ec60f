-- The events by which an application says a value of a key.
use Rattle.std.specs.Prelude.{ℕ, List, Option, None, Some}
use Rattle.zs_sample.specs.declared.locality.Locality.{Locality}
use Rattle.zs_events.specs.declared.event.Event.{Event}
use Rattle.zs_events.specs.declared.event.Event.TheVariants.{Publish, PublishBy}
use Rattle.zs_events.specs.declared.key_arg.KeyArg.{KeyArg}
use Rattle.zs_events.specs.declared.publication.PublicationQuality.{PublicationQuality}
use Rattle.zs_events.specs.declared.update.Update.{Update}
use Rattle.zs_forms.specs.Keys.{key_of}
use Rattle.zs_forms.specs.Quality.{destination_of, quality_of}
use Rattle.zs_forms.specs.Updates.{put_update, delete_update}
use Rattle.zs_forms.specs.declared.keys.KeyForm.{KeyForm}
use Rattle.zs_forms.specs.declared.quality.PublicationForm.{PublicationForm}
use Rattle.zs_forms.specs.declared.updates.ExtrasForm.{ExtrasForm}

-- a publication, where all that it needs is said
abbrev pub published : Option Locality → Option PublicationQuality → Option KeyArg → Option Update → Option Event
published (Some d) (Some q) (Some k) (Some u) = Some (Publish d k u q)
published (Some d) (Some q) (Some k) None = None
published (Some d) (Some q) None u = None
published (Some d) None k u = None
published None q k u = None

abbrev pub publication_of : KeyForm → PublicationForm → Option Update → Option Event
publication_of key how update =
    published (destination_of how.destination) (quality_of how) (key_of key.number key.text.now) update

-- a put on a key, and a deletion
abbrev pub put_of : KeyForm → List ℕ → PublicationForm → ExtrasForm → Option Event
put_of key payload how extras = publication_of key how (put_update payload extras)

abbrev pub delete_of : KeyForm → PublicationForm → ExtrasForm → Option Event
delete_of key how extras = publication_of key how (Some (delete_update extras))

-- the same by a publisher
abbrev pub published_by : ℕ → Option Update → Option Event
published_by id (Some u) = Some (PublishBy id u)
published_by id None = None

abbrev pub put_by_of : ℕ → List ℕ → ExtrasForm → Option Event
put_by_of id payload extras = published_by id (put_update payload extras)

abbrev pub delete_by_of : ℕ → ExtrasForm → Event
delete_by_of id extras = PublishBy id (delete_update extras)
