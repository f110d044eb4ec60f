-- Each event is read as what was printed of it.
use Rattle.std.proofs.Common.{ℕ, ◌≡◌, true, false, List, [], ◌∷◌, Option, Some, None, option_map, refl, sym, ap, ◌∙◌, cond}
use Rattle.std.specs.Str.{is_utf8}
use Rattle.std.proofs.lemmas.Option.{same_Some}
use Rattle.zs_wire.specs.declared.message.Message.{Message}
use Rattle.zs_events.specs.declared.entity_kind.EntityKind.{EntityKind}
use Rattle.zs_events.specs.declared.entity_kind.EntityKind.TheVariants.{Sub as sub_kind, Pub as pub_kind, Queryable as queryable_kind, Querier as querier_kind, Listener as listener_kind, Token as token_kind, Lsub as lsub_kind}
use Rattle.zs_events.specs.declared.event.Event.{Event}
use Rattle.zs_events.specs.declared.event.Event.TheVariants.{Key, UndeclareKey, Sub, Pub, Queryable, Querier, Token, Lsub, Listen, Status, Undeclare, Background, Publish, PublishBy, CancelToken, Cancel, Get, QuerierGet, LivelinessGet, Reply as reply_event, ReplyErr, Share, Finish, Tick, Close, Net}
use Rattle.zs_sample.specs.declared.locality.Locality.{Locality}
use Rattle.zs_events.specs.declared.key_arg.KeyArg.{KeyArg}
use Rattle.zs_events.specs.declared.publication.PublicationQuality.{PublicationQuality}
use Rattle.zs_events.specs.declared.publication.ReplyQuality.{ReplyQuality}
use Rattle.zs_events.specs.declared.script_event.ScriptEvent.TheVariants.{Core}
use Rattle.zs_events.specs.declared.update.PushBody.{PushBody}
use Rattle.zs_events.specs.declared.update.PushBody.TheVariants.{Put, Delete}
use Rattle.zs_events.specs.declared.update.Update.{Update}
use Rattle.zs_wire.specs.declared.sample_kind.SampleKind.TheVariants.{Put as put_kind, Delete as delete_kind}
use Rattle.zs_parts.specs.Symbols.{u32_max, u64_max}
use Rattle.zs_parts.specs.Parts.{unnamed}
use Rattle.zs_script.specs.Plain.{is_plain}
use Rattle.zs_grammar.specs.Grammar.{update_of, key_parts, number_parts, sub_parts, pub_parts, pub_made, queryable_parts, querier_parts, querier_made, lsub_parts, parent_parts, undeclare_of, background_parts, publish_parts, publish_made, publish_by_parts, publish_by_made, get_parts, get_made, querier_get_parts, querier_get_made, liveliness_get_parts, reply_parts, reply_made, reply_error_parts, reply_error_made, event_of_fields, event_of}
use Rattle.zs_event_lines.specs.Sayable.{kept, gathered, gathered_push}
use Rattle.zs_event_lines.specs.Slots.{Slot, slots_fields, slots_say, slots_are_typed, Line, line_text, printed}
use Rattle.zs_event_lines.specs.Lines.{form_line, body_kind, publish_word, publish_by_word, reply_word, message_line, net_line, line_of, gathered_message, gathered_event}
use Rattle.zs_event_lines.specs.Laws.{are_typed, PrintedEventsAreRead}
use Rattle.zs_event_lines.proofs.FormsBack.{form-back}
use Rattle.zs_event_lines.proofs.LineTexts.{words_are_plain, line-says}
use Rattle.zs_event_lines.proofs.MessagesBack.{IsMessageBack, message-back}

-- the words of a line are plain, and where all of it can be said, its fields are read as this event
abbrev pub IsBack : Option Line → Event → Type 0
IsBack None event = Unit {0}
IsBack (Some line) event =
    (is_plain line.word ≡ true) × ((words_are_plain line.slots ≡ true)
    × (slots_say line.slots ≡ true → slots_are_typed line.slots ≡ true
    → event_of_fields (line.word ∷ slots_fields line.slots) ≡ Some (Core event)))

publish-back : (body : PushBody) (u : Update) (destination : Locality) (k : KeyArg) (q : PublicationQuality)
    → IsBack (Some (form_line (publish_word (body_kind body)) (publish_parts (body_kind body))
    (destination, (k, (body, (u.timestamp, (q, (u.source, (u.attachment, tt)))))))))
    (Publish destination k (update_of (unnamed (gathered_push body)) u.timestamp u.source (option_map gathered u.attachment)) q)
unfolding kept
publish-back (Put bytes text) u destination k q = (
  refl,
  (
    refl,
    λ s t. ap (option_map Core) (form-back (publish_parts put_kind) (publish_made put_kind)
        (destination, (k, (Put bytes text, (u.timestamp, (q, (u.source, (u.attachment, tt))))))) refl s t),
  ),
)
publish-back Delete u destination k q = (
  refl,
  (
    refl,
    λ s t. ap (option_map Core) (form-back (publish_parts delete_kind) (publish_made delete_kind)
        (destination, (k, (Delete, (u.timestamp, (q, (u.source, (u.attachment, tt))))))) refl s t),
  ),
)

publish-by-back : (body : PushBody) (u : Update) (id : ℕ)
    → IsBack (Some (form_line (publish_by_word (body_kind body)) (publish_by_parts (body_kind body))
    (id, (body, (u.timestamp, (u.source, (u.attachment, tt)))))))
    (PublishBy id (update_of (gathered_push body) u.timestamp u.source (option_map gathered u.attachment)))
unfolding kept
publish-by-back (Put bytes text) u id = (
  refl,
  (
    refl,
    λ s t. ap (option_map Core) (form-back (publish_by_parts put_kind) (publish_by_made put_kind)
        (id, (Put bytes text, (u.timestamp, (u.source, (u.attachment, tt))))) refl s t),
  ),
)
publish-by-back Delete u id = (
  refl,
  (
    refl,
    λ s t. ap (option_map Core) (form-back (publish_by_parts delete_kind) (publish_by_made delete_kind)
        (id, (Delete, (u.timestamp, (u.source, (u.attachment, tt))))) refl s t),
  ),
)

reply-back : (body : PushBody) (u : Update) (id : ℕ) (k : KeyArg) (q : ReplyQuality)
    → IsBack (Some (form_line (reply_word (body_kind body)) (reply_parts (body_kind body))
    (id, (k, (body, (u.timestamp, (q, (u.source, (u.attachment, tt)))))))))
    (reply_event id k (update_of (unnamed (gathered_push body)) u.timestamp u.source (option_map gathered u.attachment)) q)
unfolding kept
reply-back (Put bytes text) u id k q = (
  refl,
  (
    refl,
    λ s t. ap (option_map Core) (form-back (reply_parts put_kind) (reply_made put_kind)
        (id, (k, (Put bytes text, (u.timestamp, (q, (u.source, (u.attachment, tt))))))) refl s t),
  ),
)
reply-back Delete u id k q = (
  refl,
  (
    refl,
    λ s t. ap (option_map Core) (form-back (reply_parts delete_kind) (reply_made delete_kind)
        (id, (k, (Delete, (u.timestamp, (q, (u.source, (u.attachment, tt))))))) refl s t),
  ),
)

undeclare-back : (kind : EntityKind) (id : ℕ) → IsBack (line_of (Undeclare kind id)) (Undeclare kind id)
unfolding undeclare_of kept
undeclare-back sub_kind id = (refl, (refl, λ s t. ap (option_map Core) (form-back (number_parts u32_max) (Undeclare sub_kind) (id, tt) refl s t)))
undeclare-back pub_kind id = (refl, (refl, λ s t. ap (option_map Core) (form-back (number_parts u32_max) (Undeclare pub_kind) (id, tt) refl s t)))
undeclare-back queryable_kind id = (refl, (refl, λ s t. ap (option_map Core) (form-back (number_parts u32_max) (Undeclare queryable_kind) (id, tt) refl s t)))
undeclare-back querier_kind id = (refl, (refl, λ s t. ap (option_map Core) (form-back (number_parts u32_max) (Undeclare querier_kind) (id, tt) refl s t)))
undeclare-back listener_kind id = (refl, (refl, λ s t. ap (option_map Core) (form-back (number_parts u32_max) (Undeclare listener_kind) (id, tt) refl s t)))
undeclare-back token_kind id = (refl, (refl, λ s t. ap (option_map Core) (form-back (number_parts u32_max) (Undeclare token_kind) (id, tt) refl s t)))
undeclare-back lsub_kind id = (refl, (refl, λ s t. ap (option_map Core) (form-back (number_parts u32_max) (Undeclare lsub_kind) (id, tt) refl s t)))

net-back : (slots : Option (List Slot)) (message : Message) → IsMessageBack slots message → IsBack (net_line slots) (Net message)
net-back None message h = tt
net-back (Some slots) message h = (refl, (h.0, λ s t. ap (λ found. option_map Core (option_map Net found)) (h.1 s t)))

pub event-back : (event : Event) → IsBack (line_of event) (gathered_event event)
unfolding undeclare_of kept
event-back (Key k) = (refl, (refl, λ s t. ap (option_map Core) (form-back key_parts Key (k, tt) refl s t)))
event-back (UndeclareKey k) = (refl, (refl, λ s t. ap (option_map Core) (form-back key_parts UndeclareKey (k, tt) refl s t)))
event-back (Sub origin k to) = (refl, (refl, λ s t. ap (option_map Core) (form-back sub_parts Sub (origin, (k, (to, tt))) refl s t)))
event-back (Pub k settings) =
    (refl, (refl, λ s t. ap (option_map Core) (form-back pub_parts pub_made (settings.destination, (k, (settings.encoding, (settings.quality, tt)))) refl s t)))
event-back (Queryable origin flag k) =
    (refl, (refl, λ s t. ap (option_map Core) (form-back queryable_parts Queryable (origin, (flag, (k, tt))) refl s t)))
event-back (Querier k how) = (
  refl,
  (
    refl,
    λ s t. ap (option_map Core) (form-back querier_parts querier_made
        (how.destination, (k, (how.target, (how.consolidation, (how.timeout, (how.qos, (how.any_key, tt))))))) refl s t),
  ),
)
event-back (Token k) = (refl, (refl, λ s t. ap (option_map Core) (form-back key_parts Token (k, tt) refl s t)))
event-back (Lsub flag k) = (refl, (refl, λ s t. ap (option_map Core) (form-back lsub_parts Lsub (flag, (k, tt)) refl s t)))
event-back (Listen kind id) = (refl, (refl, λ s t. ap (option_map Core) (form-back parent_parts Listen (kind, (id, tt)) refl s t)))
event-back (Status kind id) = (refl, (refl, λ s t. ap (option_map Core) (form-back parent_parts Status (kind, (id, tt)) refl s t)))
event-back (Undeclare kind id) = undeclare-back kind id
event-back (Background kind id) =
    (refl, (refl, λ s t. ap (option_map Core) (form-back background_parts Background (kind, (id, tt)) refl s t)))
event-back (Publish destination k u q) = publish-back u.body u destination k q
event-back (PublishBy id u) = publish-by-back u.body u id
event-back CancelToken = (refl, (refl, λ s t. ap (option_map Core) (form-back [] CancelToken tt refl s t)))
event-back (Cancel id) = (refl, (refl, λ s t. ap (option_map Core) (form-back (number_parts u32_max) Cancel (id, tt) refl s t)))
event-back (Get k how i to) = (
  refl,
  (
    refl,
    λ s t. ap (option_map Core) (form-back get_parts get_made
        (how.destination, ((k, i.parameters), (how.target, (how.consolidation, (how.timeout, (i.value, (how.qos, (i.source, (i.attachment, (how.any_key, (i.cancellation_token, (to, tt))))))))))))
        refl s t),
  ),
)
event-back (QuerierGet id i to) = (
  refl,
  (
    refl,
    λ s t. ap (option_map Core) (form-back querier_get_parts querier_get_made
        (id, (i.parameters, (i.value, (i.source, (i.attachment, (i.cancellation_token, (to, tt))))))) refl s t),
  ),
)
event-back (LivelinessGet k time id to) =
    (refl, (refl, λ s t. ap (option_map Core) (form-back liveliness_get_parts LivelinessGet (k, (time, (id, (to, tt)))) refl s t)))
event-back (reply_event id k u q) = reply-back u.body u id k q
event-back (ReplyErr id v) =
    (refl, (refl, λ s t. ap (option_map Core) (form-back reply_error_parts reply_error_made (id, (v.payload, (v.encoding, tt))) refl s t)))
event-back (Share id) = (refl, (refl, λ s t. ap (option_map Core) (form-back (number_parts u32_max) Share (id, tt) refl s t)))
event-back (Finish id) = (refl, (refl, λ s t. ap (option_map Core) (form-back (number_parts u32_max) Finish (id, tt) refl s t)))
event-back (Tick now) = (refl, (refl, λ s t. ap (option_map Core) (form-back (number_parts u64_max) Tick (now, tt) refl s t)))
event-back Close = (refl, (refl, λ s t. ap (option_map Core) (form-back [] Close tt refl s t)))
event-back (Net message) = net-back (message_line message) (gathered_message message) (message-back message)

printed-back : (o : Option Line) (event : Event) (text : List ℕ) → IsBack o event → printed o ≡ Some text → is_utf8 text ≡ true
    → are_typed o ≡ true → event_of text ≡ Some (Core event)
printed-back None event text h same utf8 typed = cc
printed-back (Some line) event text h same utf8 typed =
    (elim (slots_say line.slots) as (λ b. slots_say line.slots ≡ b → cond b (Some (line_text line)) None ≡ Some text → event_of text ≡ Some (Core event)) [
      | true ↦ λ s is.
          let is_text : line_text line ≡ text = same_Some (line_text line) text is in
          rw (sym is_text) (line-says line event h.0 h.1.0 s (ap is_utf8 is_text ∙ utf8) (h.1.1 s typed))
      | false ↦ λ s is. cc
    ]) refl same

pub printed-events : PrintedEventsAreRead
printed-events event text same utf8 typed = printed-back (line_of event) (gathered_event event) text (event-back event) same utf8 typed
