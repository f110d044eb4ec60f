-- What the stores of two linked sessions have: entries at keys that are canonical texts, each key once.
use Rattle.std.proofs.Common.{◌≡◌, ℕ, zero, suc, Bool, true, false, List, [], ◌∷◌, ◌++◌, Option, Some, None, refl, sym, ◌∙◌, ap, subst, cond}
use Rattle.std.specs.Prelude.{◌==◌, drop, bytes_eq, encode_utf8_all, if◌then◌else◌}
use Rattle.std.specs.List.{AllByRecursion}
use Rattle.std.specs.Str.{all_scalars, IsUtf8}
use Rattle.std.proofs.lemmas.Str.{scalars-chars}
use Rattle.zs_keys.specs.Matching.{intersects}
use Rattle.zs_keys.specs.Text.{is_canonical}
use Rattle.zs_wire.specs.declared.message.Message.{Message}
use Rattle.zs_wire.specs.declared.origin.Timestamp.{Timestamp}
use Rattle.zs_events.specs.declared.event.Event.{Event}
use Rattle.zs_events.specs.declared.event.Event.TheVariants.{Publish, Get, Reply, Finish, Net}
use Rattle.zs_events.specs.declared.key_arg.KeyArg.TheVariants.{Text, Number, Declared}
use Rattle.zs_events.specs.declared.turn.Effect.{Effect}
use Rattle.zs_events.specs.declared.turn.Effect.TheVariants.{Send, Hand, End, Matching}
use Rattle.zs_events.specs.declared.turn.HandOver.{HandOver}
use Rattle.zs_events.specs.declared.turn.HandOver.TheVariants.{Sample as sample_for, Reply as reply_for, Query as query_for}
use Rattle.zs_events.specs.declared.update.PushBody.{PushBody}
use Rattle.zs_model.specs.declared.settings.Settings.{Settings}
use Rattle.zs_model.specs.Received.{AreSpelled}
use Rattle.zs_laws.specs.Spelled.{IsSpelled}
use Rattle.zs_delivery.specs.declared.side.LinkSide.{LinkSide}
use Rattle.zs_delivery.specs.declared.side.LinkSide.TheVariants.{A, B}
use Rattle.zs_delivery.specs.Linked.{Side, LinkLine, Take, Deliver, other, is_event, with_event, with_oldest, linked_after}
use Rattle.zs_delivery.specs.Links.{AreSpelledLines}
use Rattle.zs_arrivals.specs.Arrivals.{pushes}
use Rattle.zs_store.specs.Entry.{greatest}
use Rattle.zs_store.specs.Store.{Write, found, best}
use Rattle.zs_store.specs.Laws.{HoldsBest}
use Rattle.zs_store.proofs.Stores.{same_itself, same_key}
use Rattle.zs_keeping.specs.Answering.{reply_of, reply_if, replies_of, answers_of, item_answers, effect_answers, answers_to}
use Rattle.zs_replicas.specs.Written.{timed_write, written_by, written}
use Rattle.zs_replicas.specs.Replicas.{Starts, first_events, first_links, stored, IsReplicaEvent, AreReplicaLines, took, BothStore, StoresHoldWhatWasWritten}
use Rattle.zs_replica_gets.specs.Steps.{Step, Writes, Asks, Moves, writing, question, side_of, opposite, store_at, brought, all_taken, answers, behind, oldest_event, with_step, line_of, links_after, answerer, IsReplicaStep, AreReplicaSteps}
use Rattle.zs_replica_gets.specs.Gets.{took_at}
use Rattle.zs_replica_gets.proofs.Runs.{IsKey, IsText}

abbrev pub AreTexts : List Write → Type 0
AreTexts writes = AllByRecursion IsText writes

texts_append : (xs ys : List Write) → AreTexts xs → AreTexts ys → AreTexts (xs ++ ys)
texts_append [] ys first second = second
texts_append (x ∷ xs) ys first second = (first.0, texts_append xs ys first.1 second)

texts_drop : (n : ℕ) (xs : List Write) → AreTexts xs → AreTexts (drop n xs)
texts_drop zero xs all = all
texts_drop (suc n) [] all = tt
texts_drop (suc n) (x ∷ xs) all = texts_drop n xs all.1

texts_timed : (text : List ℕ) (body : PushBody) (time : Option Timestamp) → all_scalars text ≡ true → is_canonical (encode_utf8_all text) ≡ true → AreTexts (timed_write (encode_utf8_all text) body time)
texts_timed text body None scalar canonical = tt
texts_timed text body (Some time) scalar canonical =
    (record { utf8 = (text, (scalar, refl)); canonical = canonical }, tt)

module _ (keys : List ℕ) where
  texts_written : (e : Event) → IsReplicaEvent keys e → IsSpelled e → AreTexts (written_by e)
  texts_written (Publish destination (Text text) update quality) write spelled = texts_timed text update.body update.timestamp spelled write.canonical
  texts_written (Publish destination (Number number suffix) update quality) write spelled = absurd write
  texts_written (Publish destination (Declared text number prefix_len) update quality) write spelled = absurd write
  texts_written (Get key settings inquiry to) fine spelled = tt
  texts_written (Reply value key update quality) fine spelled = tt
  texts_written (Finish value) fine spelled = tt
  texts_written e fine spelled = absurd fine

  texts_given : (s : Settings) (messages : List Message) (side : Side) → AreTexts (written side.history) → AreTexts (written (with_oldest s messages side).history)
  texts_given s [] side all = all
  texts_given s (m ∷ messages) side all = go (is_event m)
    where
      go : (b : Bool) → AreTexts (written (if b then with_event s (Net m) side else side).history)
      go true = all
      go false = all

  texts_after : (s : Settings) (lines : List LinkLine) → AreReplicaLines keys lines → AreSpelledLines lines
      → AreTexts (written (linked_after s (lines ++ first_links keys)).a.history) × AreTexts (written (linked_after s (lines ++ first_links keys)).b.history)
  texts_after s [] fine spelled = (tt, tt)
  texts_after s (Take A e ∷ lines) fine spelled =
      let rest = texts_after s lines fine.1 spelled.1 in
      (texts_append (written_by e) (written (linked_after s (lines ++ first_links keys)).a.history) (texts_written e fine.0 spelled.0) rest.0, rest.1)
  texts_after s (Take B e ∷ lines) fine spelled =
      let rest = texts_after s lines fine.1 spelled.1 in
      (rest.0, texts_append (written_by e) (written (linked_after s (lines ++ first_links keys)).b.history) (texts_written e fine.0 spelled.0) rest.1)
  texts_after s (Deliver A ∷ lines) fine spelled =
      let w = linked_after s (lines ++ first_links keys) in
      let rest = texts_after s lines fine.1 spelled.1 in
      (rest.0, texts_given (other s) w.a.waiting w.b rest.1)
  texts_after s (Deliver B ∷ lines) fine spelled =
      let w = linked_after s (lines ++ first_links keys) in
      let rest = texts_after s lines fine.1 spelled.1 in
      (texts_given s w.b.waiting w.a rest.0, rest.1)

-- a key of a store is there
there_behind : (key : List ℕ) (w : Write) (ws : List Write) → (found key ws ≡ None → ⊥) → found key (w ∷ ws) ≡ None → ⊥
there_behind key w ws there = go (bytes_eq key w.key)
  where
    go : (b : Bool) → cond b (Some w.entry) (found key ws) ≡ None → ⊥
    go true none = cc
    go false none = there none

abbrev AreThere : List Write → List Write → Type 0
AreThere store ws = AllByRecursion (λ w. found w.key store ≡ None → ⊥) ws

all_behind : (w : Write) (store ws : List Write) → AreThere store ws → AreThere (w ∷ store) ws
all_behind w store [] all = tt
all_behind w store (x ∷ ws) all = (there_behind x.key w store all.0, all_behind w store ws all.1)

all_there : (store : List Write) → AreThere store store
all_there [] = tt
all_there (w ∷ ws) = (first, all_behind w ws ws (all_there ws))
  where
    first : found w.key (w ∷ ws) ≡ None → ⊥
    first none = let never : Some w.entry ≡ None = ap (λ (b : Bool). cond b (Some w.entry) (found w.key ws)) (sym (same_itself w.key)) ∙ none in cc

-- so it was written, and is a text where all of these are
best_text : (key : List ℕ) (ws : List Write) → AreTexts ws → (best key ws ≡ None → ⊥) → IsKey key
best_text key [] all there = absurd (there refl)
best_text key (w ∷ ws) all there = go (bytes_eq key w.key) refl (λ later. best_text key ws all.1 later)
  where
    go : (b : Bool) → bytes_eq key w.key ≡ b → ((best key ws ≡ None → ⊥) → IsKey key) → IsKey key
    go true is rest = subst IsKey (sym (same_key key w.key is)) all.0
    go false is rest = rest (λ none. there (ap (λ (b : Bool). cond b (greatest w.entry (best key ws)) (best key ws)) is ∙ none))

store_texts : (writes store : List Write) → HoldsBest writes store → AreTexts writes → AreTexts store
store_texts writes store holds all = go store (all_there store)
  where
    go : (ws : List Write) → AreThere store ws → AreTexts ws
    go [] there = tt
    go (w ∷ ws) there = (best_text w.key writes all (λ none. there.0 (holds.best w.key ∙ none)), go ws there.1)

-- lines of replicas behind the first declarations
pub record Behind (keys : List ℕ) (links : List LinkLine) : Type 0 where
  pub lines : List LinkLine
  pub is : links ≡ lines ++ first_links keys
  pub replicas : AreReplicaLines keys lines
  pub spelled : AreSpelledLines lines

behind_take : (keys : List ℕ) (side : LinkSide) (e : Event) (links : List LinkLine) → Behind keys links → IsReplicaEvent keys e → IsSpelled e → Behind keys (Take side e ∷ links)
behind_take keys side e links behind replica spelled = record {
  lines = Take side e ∷ behind.lines;
  is = ap (λ (rest : List LinkLine). Take side e ∷ rest) behind.is;
  replicas = (replica, behind.replicas);
  spelled = (spelled, behind.spelled);
}

pub behind_deliver : (keys : List ℕ) (from : LinkSide) (links : List LinkLine) → Behind keys links → Behind keys (Deliver from ∷ links)
behind_deliver keys from links behind = record {
  lines = Deliver from ∷ behind.lines;
  is = ap (λ (rest : List LinkLine). Deliver from ∷ rest) behind.is;
  replicas = (tt, behind.replicas);
  spelled = (tt, behind.spelled);
}

-- answers from a store whose keys are texts
abbrev AreAnswers : List ℕ → List Event → Type 0
AreAnswers keys events = AllByRecursion (λ e. IsReplicaEvent keys e × IsSpelled e) events

answers_both : (keys : List ℕ) (xs ys : List Event) → AreAnswers keys xs → AreAnswers keys ys → AreAnswers keys (xs ++ ys)
answers_both keys [] ys first second = second
answers_both keys (x ∷ xs) ys first second = (first.0, answers_both keys xs ys first.1 second)

answer_if : (keys : List ℕ) (value : ℕ) (key : List ℕ) (w : Write) → IsText w → AreAnswers keys (reply_if value key w)
answer_if keys value key w text = go (intersects key w.key)
  where
    go : (b : Bool) → AreAnswers keys (if b then reply_of value w ∷ [] else [])
    go true = ((tt, scalars-chars w.key text.utf8), tt)
    go false = tt

answer_all : (keys : List ℕ) (value : ℕ) (key : List ℕ) (store : List Write) → AreTexts store → AreAnswers keys (replies_of value key store)
answer_all keys value key [] all = tt
answer_all keys value key (w ∷ store) all = answers_both keys (reply_if value key w) (replies_of value key store) (answer_if keys value key w all.0) (answer_all keys value key store all.1)

answer_item : (keys : List ℕ) (id : ℕ) (store : List Write) (item : HandOver) → AreTexts store → AreAnswers keys (item_answers id store item)
answer_item keys id store (sample_for kind number sample) all = tt
answer_item keys id store (reply_for kind number reply) all = tt
answer_item keys id store (query_for number value query) all = go (number == id)
  where
    go : (b : Bool) → AreAnswers keys (if b then answers_of value query.key_expr.text store else [])
    go true = answers_both keys (replies_of value query.key_expr.text store) _ (answer_all keys value query.key_expr.text store all) ((tt, tt), tt)
    go false = tt

answer_effect : (keys : List ℕ) (id : ℕ) (store : List Write) (effect : Effect) → AreTexts store → AreAnswers keys (effect_answers id store effect)
answer_effect keys id store (Send message) all = tt
answer_effect keys id store (Hand item) all = answer_item keys id store item all
answer_effect keys id store (End kind number) all = tt
answer_effect keys id store (Matching number matching) all = tt

answer_effects : (keys : List ℕ) (id : ℕ) (store : List Write) (effects : List Effect) → AreTexts store → AreAnswers keys (answers_to id store effects)
answer_effects keys id store [] all = tt
answer_effects keys id store (effect ∷ effects) all =
    answers_both keys (effect_answers id store effect) (answers_to id store effects) (answer_effect keys id store effect all) (answer_effects keys id store effects all)

behind_all : (keys : List ℕ) (side : LinkSide) (events : List Event) (links : List LinkLine) → Behind keys links → AreAnswers keys events → Behind keys (all_taken side events links)
behind_all keys side [] links behind all = behind
behind_all keys side (e ∷ events) links behind all = behind_all keys side events (Take side e ∷ links) (behind_take keys side e links behind all.0.0 all.0.1) all.1

module _ (law : StoresHoldWhatWasWritten) (keys : List ℕ) (utf8 : IsUtf8 keys) (s : Settings) (aggregates : AreSpelled s) (first : Starts s keys (first_events keys)) (second : Starts (other s) keys (first_events keys)) where
  both : (links : List LinkLine) → Behind keys links → BothStore s (linked_after s links).a (linked_after s links).b
  both links behind =
      subst (λ (ls : List LinkLine). BothStore s (linked_after s ls).a (linked_after s ls).b) (sym behind.is)
      (law s keys behind.lines utf8 aggregates first second behind.replicas behind.spelled)

  -- they are the greatest of what was taken
  pub holds : (links : List LinkLine) → Behind keys links → (side : LinkSide) → HoldsBest (took_at s side links) (store_at s side links)
  holds links behind A = (both links behind).of_a
  holds links behind B = (both links behind).of_b

  -- and at canonical texts
  pub texts : (links : List LinkLine) → Behind keys links → (side : LinkSide) → AreTexts (store_at s side links)
  texts links behind side = go side (subst (λ (ls : List LinkLine). AreTexts (written (linked_after s ls).a.history) × AreTexts (written (linked_after s ls).b.history)) (sym behind.is)
      (texts_after keys s behind.lines behind.replicas behind.spelled))
    where
      go : (x : LinkSide) → AreTexts (written (linked_after s links).a.history) × AreTexts (written (linked_after s links).b.history) → AreTexts (store_at s x links)
      go A all =
          store_texts (took (linked_after s links).a (linked_after s links).b) (stored s (linked_after s links).a.history) (both links behind).of_a
          (texts_append (written (linked_after s links).a.history) _ all.0 (texts_drop (pushes (linked_after s links).b.waiting) (written (linked_after s links).b.history) all.1))
      go B all =
          store_texts (took (linked_after s links).b (linked_after s links).a) (stored (other s) (linked_after s links).b.history) (both links behind).of_b
          (texts_append (written (linked_after s links).b.history) _ all.1 (texts_drop (pushes (linked_after s links).a.waiting) (written (linked_after s links).a.history) all.0))

  behind_taken : (side : LinkSide) (e : Event) (line : LinkLine) (links : List LinkLine) → Behind keys (line ∷ links) → Behind keys (behind s side (Some e) line links)
  behind_taken side e line links lines =
      behind_all keys side (answers s side (brought s side e links) (line ∷ links)) (line ∷ links) lines
      (answer_effects keys answerer (store_at s side (line ∷ links)) (brought s side e links) (texts (line ∷ links) lines side))

  -- a line of a step
  pub line_behind : (step : Step) (links : List LinkLine) → IsReplicaStep keys step → Behind keys links → Behind keys (line_of step ∷ links)
  line_behind (Writes side text update quality) links fine lines = behind_take keys side (writing text update quality) links lines fine.0 fine.1
  line_behind (Asks side text) links fine lines = behind_take keys side (question text) links lines tt fine
  line_behind (Moves from) links fine lines = behind_deliver keys from links lines

  behind_step : (step : Step) (links : List LinkLine) → IsReplicaStep keys step → Behind keys links → Behind keys (with_step s step links)
  behind_step (Writes side text update quality) links fine lines =
      behind_taken side (writing text update quality) (line_of (Writes side text update quality)) links (line_behind (Writes side text update quality) links fine lines)
  behind_step (Asks side text) links fine lines = behind_taken side (question text) (line_of (Asks side text)) links (line_behind (Asks side text) links fine lines)
  behind_step (Moves from) links fine lines = go (oldest_event (side_of from (linked_after s links)).waiting)
    where
      go : (o : Option Event) → Behind keys (behind s (opposite from) o (Deliver from) links)
      go None = behind_deliver keys from links lines
      go (Some e) = behind_taken (opposite from) e (Deliver from) links (behind_deliver keys from links lines)

  pub behind_steps : (h : List Step) → AreReplicaSteps keys h → Behind keys (links_after s keys h)
  behind_steps [] fine = record { lines = []; is = refl; replicas = tt; spelled = tt }
  behind_steps (step ∷ h) fine = behind_step step (links_after s keys h) fine.0 (behind_steps h fine.1)
