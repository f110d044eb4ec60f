-- The liveliness tokens that a side holds, and what it hears of the other's.
use Rattle.std.specs.Prelude.{ℕ, Bool, not, ◌==◌, List, [], ◌∷◌, ◌++◌, filter, Option, None, Some, option_map, bytes_eq, encode_utf8_all, if◌then◌else◌}
use Rattle.std.specs.List.{find}
use Rattle.zs_sample.specs.declared.sample_fields.SampleFields.{SampleFields}
use Rattle.zs_events.specs.declared.entity_kind.EntityKind.{EntityKind}
use Rattle.zs_events.specs.declared.entity_kind.EntityKind.TheVariants.{Token as token_kind}
use Rattle.zs_events.specs.declared.event.Event.{Event}
use Rattle.zs_events.specs.declared.event.Event.TheVariants.{Token as token_event, Undeclare}
use Rattle.zs_events.specs.declared.key_arg.KeyArg.{KeyArg}
use Rattle.zs_events.specs.declared.key_arg.KeyArg.TheVariants.{Text}
use Rattle.zs_events.specs.declared.turn.Answer.{Answer}
use Rattle.zs_events.specs.declared.turn.Answer.TheVariants.{Ok as accepted}
use Rattle.zs_events.specs.declared.turn.Effect.{Effect}
use Rattle.zs_events.specs.declared.turn.Effect.TheVariants.{Hand}
use Rattle.zs_events.specs.declared.turn.HandOver.{HandOver}
use Rattle.zs_events.specs.declared.turn.HandOver.TheVariants.{Sample as sample_for}
use Rattle.zs_events.specs.declared.turn.Kind.{Kind}
use Rattle.zs_events.specs.declared.turn.Kind.TheVariants.{LivelinessSubscriber}
use Rattle.zs_members.specs.Members.{Member, told, raised}
use Rattle.zs_members.specs.Names.{name_in}
use Rattle.zs_group_lines.specs.declared.tokens.Token.{Token}

-- without the token of that number
abbrev pub without : ℕ → List Token → List Token
without id tokens = filter (λ token. not (token.id == id)) tokens

-- the tokens that a side holds behind an event that was answered so: an accepted token is one more, one that was undeclared is gone
abbrev pub token_held : KeyArg → Answer → List Token → List Token
token_held (Text text) (accepted (Some number)) tokens = tokens ++ record { key = text; id = number } ∷ []
token_held key answer tokens = tokens

abbrev pub token_ended : EntityKind → ℕ → Answer → List Token → List Token
token_ended token_kind id (accepted number) tokens = without id tokens
token_ended kind id answer tokens = tokens

abbrev pub held_after : Event → Answer → List Token → List Token
held_after (token_event key) answer tokens = token_held key answer tokens
held_after (Undeclare kind id) answer tokens = token_ended kind id answer tokens
held_after e answer tokens = tokens

-- whether a token is on a key
abbrev pub is_on : List ℕ → Token → Bool
is_on key token = bytes_eq (encode_utf8_all token.key) key

-- the number of the oldest token on a key
abbrev pub oldest : List ℕ → List Token → Option ℕ
oldest key tokens = option_map (λ token. token.id) (find (is_on key) tokens)

-- a view behind what is handed to the liveliness subscriber of that number
abbrev pub heard_numbered : Kind → ℕ → ℕ → SampleFields → List Member → List Member
heard_numbered LivelinessSubscriber number id sample view = if number == id then told sample view else view
heard_numbered kind number id sample view = view

abbrev pub heard_item : ℕ → HandOver → List Member → List Member
heard_item id (sample_for kind number sample) view = heard_numbered kind number id sample view
heard_item id item view = view

abbrev pub heard_effect : ℕ → Effect → List Member → List Member
heard_effect id (Hand item) view = heard_item id item view
heard_effect id effect view = view

-- and behind effects, in their order
abbrev pub heard : ℕ → List Effect → List Member → List Member
heard id [] view = view
heard id (effect ∷ effects) view = heard id effects (heard_effect id effect view)

-- a view with one more of the name that a token's key stands for
abbrev pub raised_in : Option (List ℕ) → List Member → List Member
raised_in None view = view
raised_in (Some name) view = raised name view

-- a view with the tokens that a side holds itself
abbrev pub with_held : List Token → List Member → List Member
with_held [] view = view
with_held (token ∷ tokens) view = with_held tokens (raised_in (name_in (encode_utf8_all token.key)) view)
