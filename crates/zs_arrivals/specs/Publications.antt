-- The publications of a history: those that a session's application made, and those that came in from the network.
use Rattle.std.specs.Prelude.{Bool, true, false, not, ◌&&◌, List, [], ◌∷◌, ◌++◌, map, filter, Option, Some, None}
use Rattle.zs_sample.specs.declared.sample_fields.SampleFields.{SampleFields}
use Rattle.zs_subscriptions.specs.Recipients.{has_network}
use Rattle.zs_events.specs.declared.event.Event.{Event}
use Rattle.zs_events.specs.declared.turn.Refusal.{Refusal}
use Rattle.zs_model.specs.declared.settings.Settings.{Settings}
use Rattle.zs_model.specs.Entry.{Entry, is_closed}
use Rattle.zs_model.specs.HeldKeys.{named_text}
use Rattle.zs_model.specs.Live.{live_pubs}
use Rattle.zs_model.specs.Causes.{refusal_of}
use Rattle.zs_model.specs.Past.{past_of}
use Rattle.zs_model.specs.Publications.{Publication}
use Rattle.zs_model.specs.Effects.{publication_of}

-- a publication, where the session is open and nothing refuses its event
abbrev pub unless_refused : Bool → Option Refusal → Option Publication → List Publication
unless_refused true refusal made = []
unless_refused false (Some refusal) made = []
unless_refused false None None = []
unless_refused false None (Some p) = p ∷ []

-- what an event publishes behind these accepted events
abbrev pub made_by : Settings → List Entry → Event → List Publication
made_by s past e = unless_refused (is_closed past) (refusal_of s past e) (publication_of (live_pubs past) (named_text past e) e)

-- all that the events of a history published, the newest first
abbrev pub publications : Settings → List Event → List Publication
publications s [] = []
publications s (e ∷ h) = made_by s (past_of s h) e ++ publications s h

-- whether a publication goes out to the network, and whether it came in from there
abbrev pub goes_out : Publication → Bool
goes_out p = p.local && has_network p.destination

abbrev pub came_in : Publication → Bool
came_in p = not p.local

-- the samples of publications
abbrev pub samples_of : List Publication → List SampleFields
samples_of made = map (λ p. p.sample) made

-- the samples that a session published for the network, and those that arrived from there, the newest first
abbrev pub published : Settings → List Event → List SampleFields
published s h = samples_of (filter goes_out (publications s h))

abbrev pub arrived : Settings → List Event → List SampleFields
arrived s h = samples_of (filter came_in (publications s h))
