-- What gets of tokens are handed.
use Rattle.std.specs.Prelude.{◌≡◌, ℕ, ◌==◌, true, false, List, [], ◌∷◌, ◌++◌, filter, Option, Some, if◌then◌else◌}
use Rattle.std.specs.List.{flat_map}
use Rattle.zs_sample.specs.Reply.{Replied}
use Rattle.zs_tables.specs.LivelinessGets.{is_asking, is_over}
use Rattle.zs_tables.specs.Types.{LivelinessGet as TokensGet}
use Rattle.zs_query.specs.Gets.{timeout_error}
use Rattle.zs_events.specs.declared.event.Event.{Event}
use Rattle.zs_events.specs.declared.turn.Effect.{Effect}
use Rattle.zs_events.specs.declared.turn.Effect.TheVariants.{Hand}
use Rattle.zs_events.specs.declared.turn.HandOver.TheVariants.{Reply}
use Rattle.zs_events.specs.declared.turn.Kind.TheVariants.{LivelinessGet}
use Rattle.zs_events.specs.Kinds.{ToGets, Reaches, ToLiveliness, TellsToken, row_of}
use Rattle.zs_model.specs.declared.settings.Settings.{Settings}
use Rattle.zs_model.specs.Causes.{refusal_of}
use Rattle.zs_model.specs.Entry.{is_closed}
use Rattle.zs_model.specs.HeldKeys.{named_text}
use Rattle.zs_model.specs.LivelinessEffects.{token_reply}
use Rattle.zs_model.specs.Past.{past_of}
use Rattle.zs_model.specs.Tokens.{asking_now}
use Rattle.zs_model.specs.Effects.{effects}
use Rattle.zs_laws.specs.Handed.{accepted_alone}

-- the replies that effects hand to the get of tokens of a number, the first first
abbrev pub answered_at : ℕ → Effect → List Replied
answered_at n (Hand (Reply LivelinessGet number reply)) = if number == n then reply ∷ [] else []
answered_at n effect = []

abbrev pub answered_to : ℕ → List Effect → List Replied
answered_to n fx = flat_map (answered_at n) fx

-- the token, on a key of this text, that the network tells as an answer to the get of a number
abbrev pub answer_for : ℕ → ToLiveliness → Option (List ℕ) → List Replied
answer_for n (TellsToken id (Some interest)) (Some text) = if interest == n then token_reply text ∷ [] else []
answer_for n to text = []

-- the error that says so where a moment reaches the deadline of an open get
abbrev pub timeout_for : ℕ → List TokensGet → ToGets → List Replied
timeout_for n gets (Reaches moment) = if is_asking n (filter (is_over moment) gets) then timeout_error ∷ [] else []
timeout_for n gets to = []

-- an event hands an open get of tokens just these
abbrev pub TokensGetsAreHanded : Type 0
TokensGetsAreHanded =
    (s : Settings) (h : List Event) (e : Event) (n : ℕ) → is_asking n (asking_now s (past_of s h)) ≡ true
    → answered_to n (effects s h e).effects
    ≡ accepted_alone (refusal_of s (past_of s h) e) (is_closed (past_of s h))
    (answer_for n (row_of e).to_liveliness (named_text (past_of s h) e) ++ timeout_for n (asking_now s (past_of s h)) (row_of e).to_gets)

-- and one that is not open nothing
abbrev pub OthersAreAnsweredNothing : Type 0
OthersAreAnsweredNothing =
    (s : Settings) (h : List Event) (e : Event) (n : ℕ) → is_asking n (asking_now s (past_of s h)) ≡ false → answered_to n (effects s h e).effects ≡ []
