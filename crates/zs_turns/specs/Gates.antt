-- Which gates an event opens and ends: what is said of it is read off its row.
use Rattle.std.specs.Prelude.{ℕ, Bool, true, false, List, [], ◌∷◌, ◌++◌, Option, Some, None, is_some, option_map}
use Rattle.std.specs.List.{flat_map}
use Rattle.std.specs.Option.{option_to_list}
use Rattle.zs_events.specs.declared.event.Event.{Event}
use Rattle.zs_events.specs.declared.turn.Answer.{Answer}
use Rattle.zs_events.specs.declared.turn.Answer.TheVariants.{Ok as accepted, Refused}
use Rattle.zs_events.specs.declared.turn.Effect.{Effect}
use Rattle.zs_events.specs.declared.turn.Effect.TheVariants.{Send, Hand, End, Matching}
use Rattle.zs_events.specs.declared.turn.Kind.{Kind}
use Rattle.zs_events.specs.declared.turn.Kind.TheVariants.{Publisher, Querier}
use Rattle.zs_events.specs.declared.turn.Turn.{Turn}
use Rattle.zs_events.specs.Kinds.{Row, Named, Draws, CancellationNumber, ToEntities, NoEntity, Declares, EndsEntity, ToGets, Cancels, row_of, asking_cancellation_token}
use Rattle.zs_posts.specs.declared.key.Key.{Key}
use Rattle.zs_posts.specs.declared.key.Key.TheVariants.{CancelToken, Of}
use Rattle.zs_posts.specs.declared.key.Name.{Name}

-- the gate of a publisher, a querier or a cancellation token that an event opens under the number that it draws
abbrev pub parent_opened : ToEntities → Draws → ℕ → Option Key
parent_opened (Declares Publisher) _ n = Some (Of Publisher n)
parent_opened (Declares Querier) _ n = Some (Of Querier n)
parent_opened NoEntity CancellationNumber n = Some (CancelToken n)
parent_opened _ _ _ = None

-- the gate of a handler, if an event came with one
abbrev pub handler_opened : Bool → Kind → ℕ → Option Key
handler_opened true kind n = Some (Of kind n)
handler_opened false kind n = None

-- the gate that an event opens under the number that it draws: its handler's, or else one for others to enter on their way
abbrev pub number_opens : Bool → Option Kind → Row → ℕ → Option Key
number_opens came (Some kind) row n = handler_opened came kind n
number_opens came None row n = parent_opened row.to_entities row.draws n

-- and that it opens by its answer
abbrev pub opened_key : Bool → Row → Answer → Option Key
opened_key came row (accepted (Some n)) = number_opens came row.handled row n
opened_key came row (accepted None) = None
opened_key came row (Refused refusal) = None

-- the gate of the publisher or querier behind which the handler of an event stands
abbrev pub parent_key : Option Kind → Option Named → Option Key
parent_key (Some kind) (Some parent) = Some (Of parent.kind parent.id)
parent_key (Some kind) None = None
parent_key None named = None

-- the gate of the cancellation token with which an event asks
abbrev pub token_key : Row → Option Key
token_key row = option_map (λ n. CancelToken n) (asking_cancellation_token row.to_gets row.to_liveliness)

-- a gate's name, with the gates that are entered before it
abbrev pub name_of : Row → ℕ → Key → Name
name_of row place key = record { key = key; parent = parent_key row.handled row.names; token = token_key row; place = place }

-- the name of the gate that an event opens, if it opens one
abbrev pub opened_name : Bool → Row → ℕ → Answer → Option Name
opened_name came row place answer = option_map (name_of row place) (opened_key came row answer)

-- the gate of a publisher, a querier or a cancellation token that an event ends
abbrev pub parent_ended : ToEntities → ToGets → Option Key
parent_ended (EndsEntity Publisher id) _ = Some (Of Publisher id)
parent_ended (EndsEntity Querier id) _ = Some (Of Querier id)
parent_ended NoEntity (Cancels token) = Some (CancelToken token)
parent_ended _ _ = None

-- and by its answer
abbrev pub gate_ended : Row → Answer → Option Key
gate_ended row (accepted number) = parent_ended row.to_entities row.to_gets
gate_ended row (Refused refusal) = None

-- the gate of the handler that an effect ends, if it ends one
abbrev pub effect_ends : Effect → List Key
effect_ends (End kind id) = Of kind id ∷ []
effect_ends (Send message) = []
effect_ends (Hand item) = []
effect_ends (Matching id matching) = []

-- those of the handlers that effects end, in order
abbrev pub ends_of : List Effect → List Key
ends_of fx = flat_map effect_ends fx

-- all gates that a turn ends
abbrev pub turn_ends : Row → Turn → List Key
turn_ends row turn = ends_of turn.effects ++ option_to_list (gate_ended row turn.answer)

-- The same by the event itself, under names that stay closed: whoever cites them needn't look into the rows of all events.
-- The name of the gate that an event opens by its answer, given whether it came with a handler
unfoldable pub opened_at : Bool → Event → ℕ → Answer → Option Name
opened_at came e place answer = opened_name came (row_of e) place answer

-- all gates that an event ends, whose turn it is
unfoldable pub ends_at : Event → Turn → List Key
ends_at e turn = turn_ends (row_of e) turn

-- whether an event may come with a handler
unfoldable pub takes_handler : Event → Bool
takes_handler e = is_some (row_of e).handled
