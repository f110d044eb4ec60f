-- Who is handed the sample of a publication.
use Rattle.std.specs.Prelude.{◌≡◌, ℕ, ◌==◌, ◌&&◌, List, [], ◌∷◌, ◌++◌, map, filter, if◌then◌else◌}
use Rattle.std.specs.List.{flat_map}
use Rattle.zs_sample.specs.declared.sample_fields.SampleFields.{SampleFields}
use Rattle.zs_subscriptions.specs.declared.subscriber.SubRow.{SubRow}
use Rattle.zs_events.specs.declared.event.Event.{Event}
use Rattle.zs_events.specs.declared.turn.Effect.{Effect}
use Rattle.zs_events.specs.declared.turn.Effect.TheVariants.{Hand}
use Rattle.zs_events.specs.declared.turn.HandOver.TheVariants.{Sample as sample_for}
use Rattle.zs_events.specs.declared.turn.Kind.TheVariants.{Subscriber}
use Rattle.zs_model.specs.declared.settings.Settings.{Settings}
use Rattle.zs_model.specs.Live.{live_subs}
use Rattle.zs_model.specs.Past.{past_of}
use Rattle.zs_model.specs.Publications.{Publication, allows}
use Rattle.zs_model.specs.Effects.{effects}
use Rattle.zs_arrivals.specs.Publications.{made_by}

-- the sample that an effect hands to the subscriber of a number
abbrev pub sample_in : ℕ → Effect → List SampleFields
sample_in id (Hand (sample_for Subscriber number sample)) = if number == id then sample ∷ [] else []
sample_in id effect = []

-- all of them among effects, the first first
abbrev pub samples_to : ℕ → List Effect → List SampleFields
samples_to id [] = []
samples_to id (effect ∷ fx) = sample_in id effect ++ samples_to id fx

-- the sample of a publication for the subscriber of a number, where it is among these and is allowed it
abbrev pub handed_by : ℕ → List SubRow → Publication → List SampleFields
handed_by id rows p = map (λ row. p.sample) (filter (λ row. row.id == id && allows p row) rows)

-- what an event hands a subscriber is the sample of what it publishes, where that reaches the subscriber
abbrev pub SamplesFollowPublications : Type 0
SamplesFollowPublications =
    (s : Settings) (h : List Event) (e : Event) (id : ℕ)
    → samples_to id (effects s h e).effects ≡ flat_map (λ p. handed_by id (live_subs (past_of s h)) p) (made_by s (past_of s h) e)
