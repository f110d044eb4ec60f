-- What a side takes by itself comes from its application: the events of lines, and the answers to queries.
use Rattle.std.proofs.Common.{◌≡◌, ℕ, List, [], ◌∷◌, ◌++◌, Bool, true, false, Option, Some, None, refl}
use Rattle.std.specs.Prelude.{if◌then◌else◌, ◌==◌, codes}
use Rattle.std.specs.Option.{IfSome}
use Rattle.std.specs.List.{AllByRecursion}
use Rattle.std.specs.Str.{bytes_eq}
use Rattle.zs_keys.specs.Matching.{intersects}
use Rattle.zs_wire.specs.declared.origin.Timestamp.{Timestamp}
use Rattle.zs_events.specs.declared.event.Event.{Event}
use Rattle.zs_events.specs.declared.update.PushBody.{PushBody}
use Rattle.zs_events.specs.declared.update.PushBody.TheVariants.{Put}
use Rattle.zs_events.specs.declared.turn.Effect.{Effect}
use Rattle.zs_events.specs.declared.turn.Effect.TheVariants.{Send, Hand, End, Matching}
use Rattle.zs_events.specs.declared.turn.HandOver.{HandOver}
use Rattle.zs_events.specs.declared.turn.HandOver.TheVariants.{Sample, Reply, Query}
use Rattle.zs_delivery.specs.Links.{is_net}
use Rattle.zs_store.specs.Store.{Write}
use Rattle.zs_keeping.specs.Answering.{reply_of, reply_if, replies_of, answers_of, item_answers, effect_answers, answers_to}
use Rattle.zs_parts.specs.Symbols.{payload_of}
use Rattle.zs_parts.specs.Options.{timestamp_of}
use Rattle.zs_replica_lines.specs.declared.line.ReplicaLine.{ReplicaLine}
use Rattle.zs_replica_lines.specs.declared.line.ReplicaLine.TheVariants.{Dump}
use Rattle.zs_replica_lines.specs.declared.line.ReplicaRefusal.{ReplicaRefusal}
use Rattle.zs_replica_lines.specs.Lines.{write_refusal, question_refusal, unless_refused, publication, question, write_line, put_at, put_of, delete_of, get_of, line_of, line_of_one, line_of_two, line_of_three, line_of_four}
use Rattle.zs_replica.specs.Behind.{IsOwnLine}

abbrev Own : List Event → Type 0
Own events = AllByRecursion (λ event. is_net event ≡ false) events

own_append : (xs ys : List Event) → Own xs → Own ys → Own (xs ++ ys)
own_append [] ys p q = q
own_append (x ∷ xs) ys p q = (p.0, own_append xs ys p.1 q)

own_if : (value : ℕ) (key : List ℕ) (w : Write) → Own (reply_if value key w)
own_if value key w = go (intersects key w.key)
  where
    go : (b : Bool) → Own (if b then reply_of value w ∷ [] else [])
    go true = (refl, tt)
    go false = tt

own_replies : (value : ℕ) (key : List ℕ) (store : List Write) → Own (replies_of value key store)
own_replies value key [] = tt
own_replies value key (w ∷ store) = own_append (reply_if value key w) (replies_of value key store) (own_if value key w) (own_replies value key store)

own_item : (id : ℕ) (store : List Write) (item : HandOver) → Own (item_answers id store item)
own_item id store (Sample kind number sample) = tt
own_item id store (Reply kind number reply) = tt
own_item id store (Query number value query) = go (number == id)
  where
    go : (b : Bool) → Own (if b then answers_of value query.key_expr.text store else [])
    go true = own_append (replies_of value query.key_expr.text store) _ (own_replies value query.key_expr.text store) (refl, tt)
    go false = tt

own_effect : (id : ℕ) (store : List Write) (effect : Effect) → Own (effect_answers id store effect)
own_effect id store (Send message) = tt
own_effect id store (Hand item) = own_item id store item
own_effect id store (End kind number) = tt
own_effect id store (Matching number matching) = tt

pub own_answers : (id : ℕ) (store : List Write) (effects : List Effect) → Own (answers_to id store effects)
own_answers id store [] = tt
own_answers id store (effect ∷ effects) =
    own_append (effect_answers id store effect) (answers_to id store effects) (own_effect id store effect) (own_answers id store effects)

own_unless : (o : Option ReplicaRefusal) (e : Event) → is_net e ≡ false → IsOwnLine (unless_refused o e)
own_unless None e own = own
own_unless (Some refusal) e own = tt

own_delete : (text : List ℕ) (time : Option Timestamp) → IfSome (delete_of text time) IsOwnLine
own_delete text None = tt
own_delete text (Some time) = own_unless (write_refusal text) _ refl

own_put : (text : List ℕ) (payload : Option (List (List ℕ))) (time : Option Timestamp) → IfSome (put_of text payload time) IsOwnLine
own_put text None time = tt
own_put text (Some payload) None = tt
own_put text (Some payload) (Some time) = own_unless (write_refusal text) _ refl

own_one : (b : Bool) → IfSome (if b then Some Dump else None) IsOwnLine
own_one true = tt
own_one false = tt

own_two : (b : Bool) (text : List ℕ) → IfSome (if b then Some (get_of text) else None) IsOwnLine
own_two true text = own_unless (question_refusal text) (question text) refl
own_two false text = tt

own_three : (b : Bool) (text time : List ℕ) → IfSome (if b then delete_of text (timestamp_of time) else None) IsOwnLine
own_three true text time = own_delete text (timestamp_of time)
own_three false text time = tt

own_four : (b : Bool) (text bytes time : List ℕ) → IfSome (if b then put_of text (payload_of bytes) (timestamp_of time) else None) IsOwnLine
own_four true text bytes time = own_put text (payload_of bytes) (timestamp_of time)
own_four false text bytes time = tt

-- so is the event of each line
pub own_line : (fields : List (List ℕ)) → IfSome (line_of fields) IsOwnLine
own_line [] = tt
own_line (word ∷ []) = own_one (bytes_eq word (codes "dump"))
own_line (word ∷ text ∷ []) = own_two (bytes_eq word (codes "get")) text
own_line (word ∷ text ∷ time ∷ []) = own_three (bytes_eq word (codes "del")) text time
own_line (word ∷ text ∷ bytes ∷ time ∷ []) = own_four (bytes_eq word (codes "put")) text bytes time
own_line (word ∷ text ∷ bytes ∷ time ∷ more ∷ fields) = tt
