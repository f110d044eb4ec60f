-- No event sends more than one message.
use Rattle.std.proofs.Common.{◌≡◌, ◌≤◌, ℕ, List, [], ◌∷◌, ◌++◌, Option, Some, None, sym, subst, arith, length}
use mathlib.Core.List.{append-nil}
use Rattle.zs_wire.specs.declared.message.Message.{Message}
use Rattle.zs_wire.specs.declared.message.Message.TheVariants.{Request as request_message}
use Rattle.zs_events.specs.declared.event.Event.{Event}
use Rattle.zs_events.specs.declared.event.Event.TheVariants.{Undeclare, Net, Get, QuerierGet, Reply as reply_event, ReplyErr, Finish}
use Rattle.zs_events.specs.declared.entity_kind.EntityKind.TheVariants.{Sub as sub_kind}
use Rattle.zs_events.specs.Kinds.{NamedKey, OwnKey, QuerierKey, Question, ToGets, NoGet, Asks, AsksBy, Answers, EndsSide, Reaches, EndsQuerier, Cancels, EndsAll, ToValues, row_of}
use Rattle.zs_model.specs.declared.publisher.PubRow.{PubRow}
use Rattle.zs_query.specs.Types.{QueryValue}
use Rattle.zs_model.specs.GetEffects.{asked_effects, request_effects}
use Rattle.zs_model.specs.ValueEffects.{Answering, value_effects}
use Rattle.zs_model.specs.declared.settings.Settings.{Settings}
use Rattle.zs_world.specs.declared.change.Decision.{Decision}
use Rattle.zs_world.specs.World.{World}
use Rattle.zs_model.specs.Entry.{Entry}
use Rattle.zs_model.specs.Past.{past_of}
use Rattle.zs_model.specs.Sends.{OwnKeys, wire_form, declaration_of, sends_of}
use Rattle.zs_model.specs.Effects.{to_gets_for, draws_of, answering, effects}
use Rattle.zs_world.specs.Decisions.{text_for, number_for, own_keys_at, known_at}
use Rattle.zs_standing.specs.Stands.{world_after}
use Rattle.zs_model.specs.Received.{messages_of}
use Rattle.zs_standing.proofs.Decisions.{cases}
use Rattle.zs_standing.proofs.Stands.{standing}
use Rattle.zs_laws.proofs.SentMessages.{same_messages, told_beside, value_cases, answered_by, told_by_event, all_messages}
use Rattle.zs_laws.proofs.Reading.{request_cases}
use Rattle.zs_laws.proofs.Sends.{announcement, announced_wire, retraction, entity_cases, sends_alone, ends_alone, sends_cases}
use Rattle.zs_events.specs.declared.turn.Effect.{Effect}

-- no event sends more than one message
one_sent : (k : OwnKeys) (pubs : List PubRow) (number : Option ℕ) (text : Option (List ℕ)) (e : Event) → length (messages_of (sends_of k pubs number text e)) ≤ 1
one_sent k pubs number text e =
    sends_cases (λ fx. length (messages_of fx) ≤ 1) (omega arith) k pubs number text e
    (λ n t drew named. omega arith) (λ n. omega arith) (omega arith) (λ t c named is sent. omega arith)

-- an event that sends of an entity sends nothing else
pub one_beside : (w : World) (number : Option ℕ) (text : Option (List ℕ)) (e : Event) → length (told_beside (known_at w) number text e) ≤ 1
one_beside w number text e =
    entity_cases (λ fx. length (messages_of sends ++ messages_of fx) ≤ 1)
    (subst (λ (ms : List Message). length ms ≤ 1) (sym (append-nil (messages_of sends))) (one_sent (own_keys_at w) w.entities.pubs number text e)) (known_at w) e number text
    (λ what id t key is named. alone (announcement what id (announced_wire (known_at w) what t key)) (sends_alone (own_keys_at w) w.entities.pubs number text e what is))
    (λ what id is. alone (retraction what id) (ends_alone (own_keys_at w) w.entities.pubs number text e what is))
  where
    sends : List Effect
    sends = sends_of (own_keys_at w) w.entities.pubs number text e

    alone : (m : Message) → sends ≡ [] → length (messages_of sends ++ (m ∷ [])) ≤ 1
    alone m none = subst (λ (fx : List Effect). length (messages_of fx ++ (m ∷ [])) ≤ 1) (sym none) (omega arith)

pub one_request : (default : ℕ) (k : OwnKeys) (key : NamedKey) (values : List QueryValue) (number : Option ℕ) (text : Option (List ℕ)) (q : Question)
    → length (messages_of (asked_effects default k key values number text q)) ≤ 1
one_request default k key values None None q = omega arith
one_request default k key values None (Some text) q = omega arith
one_request default k key values (Some number) None q = omega arith
one_request default k key values (Some number) (Some text) q =
    request_cases (λ (ms : List Message). length ms ≤ 1) (omega arith) default (wire_form k text (declaration_of k text key)) number q values (omega arith)

pub one_asked : (default : ℕ) (k : OwnKeys) (key : NamedKey) (values : List QueryValue) (number : Option ℕ) (text : Option (List ℕ)) (to : ToGets)
    → length (messages_of (request_effects default k key values number text to)) ≤ 1
one_asked default k key values number text (Asks q) = one_request default k key values number text q
one_asked default k key values number text NoGet = omega arith
one_asked default k key values number text (AsksBy id q) = omega arith
one_asked default k key values number text (Answers response) = omega arith
one_asked default k key values number text (EndsSide rid) = omega arith
one_asked default k key values number text (Reaches moment) = omega arith
one_asked default k key values number text (EndsQuerier id) = omega arith
one_asked default k key values number text (Cancels token) = omega arith
one_asked default k key values number text EndsAll = omega arith

pub one_answer : (a : Answering) (key : NamedKey) (drawn : List QueryValue) (text : Option (List ℕ)) (to : ToValues) → length (messages_of (value_effects a key drawn text to)) ≤ 1
one_answer a key drawn text to = value_cases (λ (ms : List Message). length ms ≤ 1) (omega arith) (λ r. omega arith) (λ rid. omega arith) a key drawn text to

-- one that sends an answer sends nothing else
pub alone_answered : (w : World) (number : Option ℕ) (text : Option (List ℕ)) (e : Event) → length (answered_by (known_at w) number text e ++ []) ≤ 1
alone_answered w number text e =
    subst (λ (ms : List Message). length ms ≤ 1) (sym (append-nil (answered_by (known_at w) number text e)))
    (one_answer (answering (known_at w)) (row_of e).key (draws_of (known_at w) number text e) text (row_of e).to_values)

-- and one that sends a request sends nothing else
pub one_event : (w : World) (number : Option ℕ) (text : Option (List ℕ)) (e : Event) → length (told_by_event (known_at w) number text e) ≤ 1
one_event w number text (Get key settings inquiry to) =
    let q : Question = record { settings = settings; inquiry = inquiry; querier = None } in
    subst (λ (ms : List Message). length ms ≤ 1) (sym (append-nil _)) (one_request w.settings.default_timeout (own_keys_at w) (OwnKey key) _ number text q)
one_event w number text (QuerierGet id inquiry to) =
    subst (λ (ms : List Message). length ms ≤ 1) (sym (append-nil _))
    (one_asked w.settings.default_timeout (own_keys_at w) (QuerierKey id) _ number text (to_gets_for (known_at w) (QuerierGet id inquiry to)))
one_event w number text (reply_event value key update quality) =
    alone_answered w number text (reply_event value key update quality)
one_event w number text (ReplyErr value error) = alone_answered w number text (ReplyErr value error)
one_event w number text (Finish value) = alone_answered w number text (Finish value)
one_event w number text (Net (request_message request)) = alone_answered w number text (Net (request_message request))
one_event w number text (Undeclare sub_kind id) = one_beside w number text (Undeclare sub_kind id)
one_event w number text e = one_beside w number text e

pub one_message : (s : Settings) (h : List Event) (e : Event) → length (messages_of (effects s h e).effects) ≤ 1
one_message s h e =
    let w = world_after s h in
    let P = λ (d : Decision) (past : List Entry). length (messages_of d.turn.effects) ≤ 1 in
    subst (λ (ms : List Message). length ms ≤ 1) (same_messages s w (past_of s h) e (standing s h))
    (cases w e (past_of s h) P (λ refusal number fx c. omega arith) (λ shut. omega arith)
    (λ unshut accepted.
    subst (λ (ms : List Message). length ms ≤ 1) (sym (all_messages w e)) (one_event w (number_for w e) (text_for w e) e)))
