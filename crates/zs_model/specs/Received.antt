-- All that a session has sent, and what its receiver reads keys as.
use Rattle.std.specs.Prelude.{ℕ, ◌≡◌, ◌==◌, List, [], ◌∷◌, ◌++◌, Option, Some, None, option_map, if◌then◌else◌, encode_utf8_all, IsUtf8}
use Rattle.std.specs.List.{AllByRecursion}
use Rattle.std.specs.Option.{IfSome}
use Rattle.zs_wire.specs.declared.message.Message.{Message}
use Rattle.zs_wire.specs.declared.message.Message.TheVariants.{DeclareKeyExpr, UndeclareKeyExpr, DeclareSubscriber, DeclareQueryable, DeclareToken, UndeclareToken, Interest, Push, Request, Response}
use Rattle.zs_wire.specs.declared.interest.InterestWhat.TheVariants.{Queryables as of_queryables, Tokens as of_tokens}
use Rattle.zs_wire.specs.declared.interest.InterestWhat.{InterestWhat}
use Rattle.zs_wire.specs.declared.wire_expr.Mapping.{Mapping}
use Rattle.zs_wire.specs.declared.wire_expr.Mapping.TheVariants.{Sender, Receiver}
use Rattle.zs_wire.specs.declared.wire_expr.WireExpr.{WireExpr}
use Rattle.zs_events.specs.declared.event.Event.{Event}
use Rattle.zs_events.specs.declared.turn.Effect.{Effect}
use Rattle.zs_events.specs.declared.turn.Effect.TheVariants.{Send}
use Rattle.zs_model.specs.declared.settings.Settings.{Settings}
use Rattle.zs_model.specs.Entry.{Entry}
use Rattle.zs_model.specs.Groups.{share_text}
use Rattle.zs_model.specs.Effects.{effects}
use Rattle.zs_model.specs.HeldKeys.{named_text}
use Rattle.zs_model.specs.Values.{values_now}
use Rattle.zs_query.specs.Types.{QueryValue}
use Rattle.zs_query.specs.Unfinished.{value_at}
use Rattle.zs_events.specs.Kinds.{ToValues, AnswersError, row_of}

-- the messages among effects
abbrev pub messages_of : List Effect → List Message
messages_of [] = []
messages_of (Send message ∷ fx) = message ∷ messages_of fx
messages_of (effect ∷ fx) = messages_of fx

-- messages behind those that were sent before them; the newest comes first
abbrev pub sent_behind : List Message → List Message → List Message
sent_behind [] before = before
sent_behind (message ∷ later) before = sent_behind later (message ∷ before)

-- all messages that the events of a history sent
abbrev pub sent : Settings → List Event → List Message
sent s [] = []
sent s (e ∷ h) = sent_behind (messages_of (effects s h e).effects) (sent s h)

-- the text that a wire expression has, given what its number stands for: number 0 is no number
abbrev pub read_by : WireExpr → Option (List ℕ) → Option (List ℕ)
read_by wire front =
    if wire.scope == 0 then Some (encode_utf8_all wire.suffix) else option_map (λ text. text ++ encode_utf8_all wire.suffix) front

-- the sender's texts, where that is whose numbers a wire expression names: of the receiver's own its messages tell nothing
abbrev pub of_sender : Mapping → Option (List ℕ) → Option (List ℕ)
of_sender Sender front = front
of_sender Receiver front = None

-- what a number stands for, for a receiver of these messages: what it was told last, if that was not taken back since
abbrev pub number_text : ℕ → List Message → Option (List ℕ)
number_text n [] = None
number_text n (DeclareKeyExpr number wire ∷ before) =
    if number == n then read_by wire (of_sender wire.mapping (number_text wire.scope before)) else number_text n before
number_text n (UndeclareKeyExpr number ∷ before) = if number == n then None else number_text n before
number_text n (message ∷ before) = number_text n before

-- the text that a receiver of these messages reads a wire expression as
abbrev pub read_as : List Message → WireExpr → Option (List ℕ)
read_as before wire = read_by wire (of_sender wire.mapping (number_text wire.scope before))

-- the wire expression of a message, if it has one
abbrev pub wire_in : Message → Option WireExpr
wire_in (DeclareKeyExpr number wire) = Some wire
wire_in (DeclareSubscriber id wire) = Some wire
wire_in (DeclareQueryable id complete wire) = Some wire
wire_in (DeclareToken id wire interest) = Some wire
wire_in (UndeclareToken id wire interest) = wire
wire_in (Interest id mode what wire) = wire
wire_in (Push push) = Some push.wire
wire_in (Request request) = Some request.wire
wire_in (Response response) = Some response.wire
wire_in message = None

-- what the key of an interest has to be read as: that of an interest in tokens, or in queryables, is the event's
abbrev pub interest_means : Settings → InterestWhat → Option (List ℕ) → Option (List ℕ)
interest_means s of_tokens text = text
interest_means s of_queryables text = text
interest_means s what text = option_map (share_text s.aggregated_publishers) text

-- what the key of a message has to be read as, of an event on a key of this text: the declaration of a group names the text that
-- the group shares, which of queriers is their own, and each other message the key's
abbrev pub meant_by : Settings → Option (List ℕ) → Message → Option (List ℕ)
meant_by s text (DeclareSubscriber id wire) = option_map (share_text s.aggregated_subscribers) text
meant_by s text (Interest id mode what wire) = interest_means s what text
meant_by s text message = text

-- the text that an event's messages name: that of its key, and of an error that of its query's key, where these values are unfinished
abbrev pub spoken_by : List QueryValue → ToValues → Option (List ℕ) → Option (List ℕ)
spoken_by values (AnswersError value error) text = option_map (λ v. v.row.key.text) (value_at value values)
spoken_by values to text = text

abbrev pub spoken_text : List Entry → Event → Option (List ℕ)
spoken_text past e = spoken_by (values_now past) (row_of e).to_values (named_text past e)

-- each of these messages that has a wire expression is read so by a receiver of those before it
abbrev pub AreReadAs : Settings → Option (List ℕ) → List Message → List Message → Type 0
AreReadAs s text before [] = Unit {0}
AreReadAs s text before (message ∷ later) =
    IfSome (wire_in message) (λ wire. read_as before wire ≡ meant_by s text message) × AreReadAs s text (message ∷ before) later

-- the texts of aggregates are UTF-8, as each text of a program is
abbrev pub AreSpelled : Settings → Type 0
AreSpelled s = AllByRecursion (λ a. IsUtf8 a.text) s.aggregated_subscribers × AllByRecursion (λ a. IsUtf8 a.text) s.aggregated_publishers

-- the texts of these events' keys are UTF-8, as each text of a program is
abbrev pub AreUtf8 : List Entry → Type 0
AreUtf8 past = AllByRecursion (λ x. IfSome x.text IsUtf8) past
