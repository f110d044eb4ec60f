-- The lines of calls of which nothing is said but what their makers take.
use Rattle.std.specs.Prelude.{◌≡◌, ℕ, List, [], ◌∷◌, Some, option_map, codes, decimal}
use Rattle.std.specs.Str.{chars}
use Rattle.zs_keys.specs.Key.{Key}
use Rattle.zs_sample.specs.Selector.{Selected}
use Rattle.zs_events.specs.declared.entity_kind.ParentKind.{ParentKind}
use Rattle.zs_events.specs.declared.event.Event.{Event}
use Rattle.zs_printing.specs.Words.{bytes_text}
use Rattle.zs_event_lines.specs.Lines.{line_of}
use Rattle.zs_event_lines.specs.Shown.{key_text, parent_word, selector_text}
use Rattle.zs_event_lines.specs.Slots.{Line, slots_fields}
use Rattle.zs_turns.specs.Queries.{QuerySeen}
use Rattle.zs_cell.specs.Keys.{key_arg}
use Rattle.zs_cell.specs.Places.{SessionPlace}
use Rattle.zs_calls.specs.Gets.{session_get, session_get_event, querier_get, querier_get_event}
use Rattle.zs_calls.specs.Publications.{Deletes, on_key, published, put_of, session_put_event, session_delete_event, publisher_put_event, publisher_delete_event}
use Rattle.zs_calls.specs.Replies.{replied, replied_err, reply_put_event, reply_delete_event, reply_err_event}
use Rattle.zs_entities.specs.Builders.{new_subscriber, new_queryable, new_liveliness_subscriber, new_liveliness_get, new_listener, new_publisher, new_querier, subscriber_event, queryable_event, liveliness_subscriber_event, liveliness_get_event, listener_event, publisher_event, querier_event, token_event}

-- the fields of an event's line, if it has one: its word, and what stands behind it
abbrev pub fields_of : Line → List (List ℕ)
fields_of line = line.word ∷ slots_fields line.slots

abbrev pub HasFields : Event → List (List ℕ) → Type 0
HasFields e fields = option_map fields_of (line_of e) ≡ Some fields

-- the text of a key, as the session of that tag is given it
abbrev pub key_at : SessionPlace → Key → List ℕ
key_at session key = key_text (key_arg session.tag key)

-- what is published, asked and answered has the line without options, whatever the type of handlers
pub record CallsHaveLines (H : Type 0) : Type 0 where
  pub put : (s : SessionPlace) (k : Key) (bytes : List (List ℕ))
      → HasFields (session_put_event (published (on_key s k) (put_of bytes))) (codes "put" ∷ codes "any" ∷ key_at s k ∷ bytes_text bytes ∷ [])
  pub delete : (s : SessionPlace) (k : Key)
      → HasFields (session_delete_event (published (on_key s k) Deletes)) (codes "delete" ∷ codes "any" ∷ key_at s k ∷ [])
  pub publisher_put : (s : SessionPlace) (id : ℕ) (bytes : List (List ℕ))
      → HasFields (publisher_put_event (published (record { session = s; id = id }) (put_of bytes))) (codes "pput" ∷ decimal id ∷ bytes_text bytes ∷ [])
  pub publisher_delete : (s : SessionPlace) (id : ℕ)
      → HasFields (publisher_delete_event (published (record { session = s; id = id }) Deletes)) (codes "pdel" ∷ decimal id ∷ [])
  pub get : (s : SessionPlace) (selector : Selected)
      → HasFields (session_get_event (session_get {H = H} s selector)) (codes "get" ∷ codes "any" ∷ selector_text (key_arg s.tag selector.key) (chars selector.parameters) ∷ [])
  pub querier_get : (s : SessionPlace) (id : ℕ)
      → HasFields (querier_get_event (querier_get {H = H} s id)) (codes "qget" ∷ decimal id ∷ [])
  pub reply : (q : QuerySeen) (s : SessionPlace) (k : Key) (bytes : List (List ℕ))
      → HasFields (reply_put_event (replied q s k (put_of bytes))) (codes "reply" ∷ decimal q.value ∷ key_at s k ∷ bytes_text bytes ∷ [])
  pub reply_delete : (q : QuerySeen) (s : SessionPlace) (k : Key)
      → HasFields (reply_delete_event (replied q s k Deletes)) (codes "replydel" ∷ decimal q.value ∷ key_at s k ∷ [])
  pub reply_err : (q : QuerySeen) (s : SessionPlace) (bytes : List (List ℕ))
      → HasFields (reply_err_event (replied_err q s bytes)) (codes "replyerr" ∷ decimal q.value ∷ bytes_text bytes ∷ [])

-- and so has what is declared
pub record EntitiesHaveLines (H : Type 0) : Type 0 where
  pub subscriber : (s : SessionPlace) (k : Key)
      → HasFields (subscriber_event (new_subscriber {H = H} s k)) (codes "sub" ∷ codes "any" ∷ key_at s k ∷ [])
  pub publisher : (s : SessionPlace) (k : Key) → HasFields (publisher_event (new_publisher s k)) (codes "pub" ∷ codes "any" ∷ key_at s k ∷ [])
  pub queryable : (s : SessionPlace) (k : Key)
      → HasFields (queryable_event (new_queryable {H = H} s k)) (codes "queryable" ∷ codes "any" ∷ codes "partial" ∷ key_at s k ∷ [])
  pub querier : (s : SessionPlace) (k : Key) → HasFields (querier_event (new_querier s k)) (codes "querier" ∷ codes "any" ∷ key_at s k ∷ [])
  pub listener : (s : SessionPlace) (parent : ParentKind) (id : ℕ)
      → HasFields (listener_event (new_listener {H = H} s parent id)) (codes "listen" ∷ parent_word parent ∷ decimal id ∷ [])
  pub token : (s : SessionPlace) (k : Key) → HasFields (token_event (record { session = s; key = k })) (codes "token" ∷ key_at s k ∷ [])
  pub liveliness_subscriber : (s : SessionPlace) (k : Key)
      → HasFields (liveliness_subscriber_event (new_liveliness_subscriber {H = H} s k)) (codes "lsub" ∷ codes "live" ∷ key_at s k ∷ [])
  pub liveliness_get : (s : SessionPlace) (k : Key)
      → HasFields (liveliness_get_event (new_liveliness_get {H = H} s k)) (codes "lget" ∷ key_at s k ∷ [])

pub record CallsAreLines (H : Type 0) : Type 0 where
  pub calls : CallsHaveLines H
  pub entities : EntitiesHaveLines H
