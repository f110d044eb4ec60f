-- What the stores have behind what the sides took and delivered.
use Rattle.std.proofs.Common.{◌≡◌, ℕ, ◌+◌, zero, suc, Bool, true, false, List, [], ◌∷◌, ◌++◌, length, Option, Some, None, refl, sym, ◌∙◌, ap, subst, cond, lit<}
use Rattle.std.specs.Prelude.{◌==◌, drop, codes, decimal, bytes_eq, encode_utf8_all, if◌then◌else◌}
use Rattle.std.specs.List.{AllByRecursion, flat_map}
use Rattle.std.specs.Str.{chars, all_scalars, IsUtf8}
use Rattle.std.proofs.lemmas.List.{append_assoc}
use Rattle.std.proofs.lemmas.Str.{scalars-chars, IsUtf8-from_ascii}
use Rattle.std.proofs.lemmas.Str.Ascii.{IsAscii-nil, IsAscii-cons}
use Rattle.zs_keys.specs.Matching.{intersects}
use Rattle.zs_wire.specs.declared.message.Message.{Message}
use Rattle.zs_wire.specs.declared.origin.Timestamp.{Timestamp}
use Rattle.zs_events.specs.declared.event.Event.{Event}
use Rattle.zs_events.specs.declared.event.Event.TheVariants.{Publish, Net}
use Rattle.zs_events.specs.declared.key_arg.KeyArg.TheVariants.{Text, Number, Declared}
use Rattle.zs_events.specs.declared.turn.Effect.{Effect}
use Rattle.zs_events.specs.declared.turn.Effect.TheVariants.{Send, Hand, End, Matching}
use Rattle.zs_events.specs.declared.turn.HandOver.{HandOver}
use Rattle.zs_events.specs.declared.turn.HandOver.TheVariants.{Sample, Reply, Query}
use Rattle.zs_events.specs.declared.turn.Turn.{Turn}
use Rattle.zs_events.specs.declared.update.PushBody.{PushBody}
use Rattle.zs_core.specs.Types.{Settings}
use Rattle.zs_core.specs.Received.{AreSpelled}
use Rattle.zs_session_cell.specs.Core.{turn_at}
use Rattle.zs_laws.specs.Spelled.{IsSpelled}
use Rattle.zs_driving.specs.Languages.{events_of}
use Rattle.zs_delivery.specs.declared.side.LinkSide.{LinkSide}
use Rattle.zs_delivery.specs.declared.side.LinkSide.TheVariants.{A, B}
use Rattle.zs_delivery.specs.Linked.{Side, LinkLine, Take, Deliver, other, is_event, with_event, with_oldest, linked_after}
use Rattle.zs_delivery.specs.Links.{AreSpelledLines}
use Rattle.zs_link.specs.declared.world.Delivered.{Delivered}
use Rattle.zs_link.specs.declared.world.Delivered.TheVariants.{Nothing, Dropped, Taken}
use Rattle.zs_link.specs.World.{delivery_from}
use Rattle.zs_store.specs.Entry.{greatest}
use Rattle.zs_store.specs.Store.{Write, found, best}
use Rattle.zs_arrivals.specs.Arrivals.{pushes}
use Rattle.zs_printing.specs.Printing.{line, answer_fields}
use Rattle.zs_replica_lines.specs.Shown.{ends_text}
use Rattle.zs_store.specs.Laws.{HoldsBest}
use Rattle.zs_store.proofs.Stores.{same_itself, same_key}
use Rattle.zs_keeping.specs.Keeping.{with_effects}
use Rattle.zs_keeping.specs.Answering.{reply_of, reply_if, replies_of, answers_of, item_answers, effect_answers, answers_to}
use Rattle.zs_replica_lines.specs.Lines.{all_keys}
use Rattle.zs_replica_lines.specs.declared.line.ReplicaLine.{ReplicaLine}
use Rattle.zs_replica_lines.specs.declared.line.ReplicaLine.TheVariants.{Take as take_line, Refuse, Dump}
use Rattle.zs_replicas.specs.Written.{timed_write, written_by, written}
use Rattle.zs_replicas.specs.Replicas.{Starts, first_events, first_links as begun, effects_at, stored, IsReplicaEvent, AreReplicaLines, took, BothStore, StoresHoldWhatWasWritten}
use Rattle.zs_replica.specs.Told.{Told, keeper, answerer, letter, opposite, kept, store_at, first_links, with_text, with_link, next_turn, with_taken, with_all, with_answers, with_effects_told, with_turn, with_said, with_delivered, with_oldest as oldest_told, with_many, with_moved, waiting_at}
use Rattle.zs_replica.specs.Language.{Said, To, Move, with_line, links_behind, replica_language}
use Rattle.zs_replica.specs.Laws.{took_at, BothHold, DumpsShowBest}
use Rattle.zs_replica.proofs.Saying.{IsAsked, IsSaid, all_said}

pub same_effects : (s : Settings) (h : List Event) (e : Event) → effects_at s h e ≡ (turn_at s h e).effects
unfolding effects_at turn_at
same_effects s h e = refl

-- what the hand-overs leave, in both words
pub same_kept : (s : Settings) (h : List Event) → stored s h ≡ kept s h
same_kept s [] = refl
same_kept s (e ∷ h) =
    ap (λ (effects : List Effect). with_effects keeper effects (stored s h)) (same_effects s h e)
    ∙ ap (λ (store : List Write). with_effects keeper (turn_at s h e).effects store) (same_kept s h)

-- writes at keys that are texts
abbrev AreUtf8 : List Write → Type 0
AreUtf8 writes = AllByRecursion (λ w. IsUtf8 w.key) writes

utf8_append : (xs ys : List Write) → AreUtf8 xs → AreUtf8 ys → AreUtf8 (xs ++ ys)
utf8_append [] ys first second = second
utf8_append (x ∷ xs) ys first second = (first.0, utf8_append xs ys first.1 second)

utf8_drop : (n : ℕ) (xs : List Write) → AreUtf8 xs → AreUtf8 (drop n xs)
utf8_drop zero xs all = all
utf8_drop (suc n) [] all = tt
utf8_drop (suc n) (x ∷ xs) all = utf8_drop n xs all.1

utf8_timed : (text : List ℕ) (body : PushBody) (time : Option Timestamp) → all_scalars text ≡ true → AreUtf8 (timed_write (encode_utf8_all text) body time)
utf8_timed text body None scalar = tt
utf8_timed text body (Some time) scalar = ((text, (scalar, refl)), tt)

utf8_written : (e : Event) → IsSpelled e → AreUtf8 (written_by e)
utf8_written (Publish destination (Text text) update quality) spelled = utf8_timed text update.body update.timestamp spelled
utf8_written (Publish destination (Number number suffix) update quality) spelled = tt
utf8_written (Publish destination (Declared text number prefix_len) update quality) spelled = tt
utf8_written e spelled = tt

utf8_given : (s : Settings) (messages : List Message) (side : Side) → AreUtf8 (written side.history) → AreUtf8 (written (with_oldest s messages side).history)
utf8_given s [] side all = all
utf8_given s (m ∷ messages) side all = go (is_event m)
  where
    go : (b : Bool) → AreUtf8 (written (if b then with_event s (Net m) side else side).history)
    go true = all
    go false = all

utf8_after : (s : Settings) (links : List LinkLine) → AreSpelledLines links → AreUtf8 (written (linked_after s links).a.history) × AreUtf8 (written (linked_after s links).b.history)
utf8_after s [] spelled = (tt, tt)
utf8_after s (Take A e ∷ links) spelled =
    let rest = utf8_after s links spelled.1 in
    (utf8_append (written_by e) (written (linked_after s links).a.history) (utf8_written e spelled.0) rest.0, rest.1)
utf8_after s (Take B e ∷ links) spelled =
    let rest = utf8_after s links spelled.1 in
    (rest.0, utf8_append (written_by e) (written (linked_after s links).b.history) (utf8_written e spelled.0) rest.1)
utf8_after s (Deliver A ∷ links) spelled =
    let rest = utf8_after s links spelled.1 in
    (rest.0, utf8_given (other s) (linked_after s links).a.waiting (linked_after s links).b rest.1)
utf8_after s (Deliver B ∷ links) spelled =
    let rest = utf8_after s links spelled.1 in
    (utf8_given s (linked_after s links).b.waiting (linked_after s links).a rest.0, rest.1)

-- a key of a store is there
there_behind : (key : List ℕ) (w : Write) (ws : List Write) → (found key ws ≡ None → ⊥) → found key (w ∷ ws) ≡ None → ⊥
there_behind key w ws there = go (bytes_eq key w.key)
  where
    go : (b : Bool) → cond b (Some w.entry) (found key ws) ≡ None → ⊥
    go true none = cc
    go false none = there none

abbrev AreThere : List Write → List Write → Type 0
AreThere store ws = AllByRecursion (λ w. found w.key store ≡ None → ⊥) ws

all_behind : (w : Write) (store ws : List Write) → AreThere store ws → AreThere (w ∷ store) ws
all_behind w store [] all = tt
all_behind w store (x ∷ ws) all = (there_behind x.key w store all.0, all_behind w store ws all.1)

all_there : (store : List Write) → AreThere store store
all_there [] = tt
all_there (w ∷ ws) = (first, all_behind w ws ws (all_there ws))
  where
    first : found w.key (w ∷ ws) ≡ None → ⊥
    first none = let never : Some w.entry ≡ None = ap (λ (b : Bool). cond b (Some w.entry) (found w.key ws)) (sym (same_itself w.key)) ∙ none in cc

-- so it was written, and is a text where all of these are
best_utf8 : (key : List ℕ) (ws : List Write) → AreUtf8 ws → (best key ws ≡ None → ⊥) → IsUtf8 key
best_utf8 key [] all there = absurd (there refl)
best_utf8 key (w ∷ ws) all there = go (bytes_eq key w.key) refl (λ later. best_utf8 key ws all.1 later)
  where
    go : (b : Bool) → bytes_eq key w.key ≡ b → ((best key ws ≡ None → ⊥) → IsUtf8 key) → IsUtf8 key
    go true is rest = subst IsUtf8 (sym (same_key key w.key is)) all.0
    go false is rest = rest (λ none. there (ap (λ (b : Bool). cond b (greatest w.entry (best key ws)) (best key ws)) is ∙ none))

store_utf8 : (writes store : List Write) → HoldsBest writes store → AreUtf8 writes → AreUtf8 store
store_utf8 writes store holds all = go store (all_there store)
  where
    go : (ws : List Write) → AreThere store ws → AreUtf8 ws
    go [] there = tt
    go (w ∷ ws) there = (best_utf8 w.key writes all (λ none. there.0 (holds.best w.key ∙ none)), go ws there.1)

-- lines of replicas behind the first declarations
pub record Behind (links : List LinkLine) : Type 0 where
  pub lines : List LinkLine
  pub is : links ≡ lines ++ first_links
  pub replicas : AreReplicaLines all_keys lines
  pub spelled : AreSpelledLines lines

behind_take : (side : LinkSide) (e : Event) (links : List LinkLine) → Behind links → IsReplicaEvent all_keys e → IsSpelled e → Behind (Take side e ∷ links)
behind_take side e links behind replica spelled = record {
  lines = Take side e ∷ behind.lines;
  is = ap (λ (rest : List LinkLine). Take side e ∷ rest) behind.is;
  replicas = (replica, behind.replicas);
  spelled = (spelled, behind.spelled);
}

behind_deliver : (from : LinkSide) (links : List LinkLine) → Behind links → Behind (Deliver from ∷ links)
behind_deliver from links behind = record {
  lines = Deliver from ∷ behind.lines;
  is = ap (λ (rest : List LinkLine). Deliver from ∷ rest) behind.is;
  replicas = (tt, behind.replicas);
  spelled = (tt, behind.spelled);
}

-- answers from a store whose keys are texts
abbrev AreAnswers : List Event → Type 0
AreAnswers events = AllByRecursion (λ e. IsReplicaEvent all_keys e × IsSpelled e) events

answers_append : (xs ys : List Event) → AreAnswers xs → AreAnswers ys → AreAnswers (xs ++ ys)
answers_append [] ys first second = second
answers_append (x ∷ xs) ys first second = (first.0, answers_append xs ys first.1 second)

answer_if : (value : ℕ) (key : List ℕ) (w : Write) → IsUtf8 w.key → AreAnswers (reply_if value key w)
answer_if value key w utf8 = go (intersects key w.key)
  where
    go : (b : Bool) → AreAnswers (if b then reply_of value w ∷ [] else [])
    go true = ((tt, scalars-chars w.key utf8), tt)
    go false = tt

answer_all : (value : ℕ) (key : List ℕ) (store : List Write) → AreUtf8 store → AreAnswers (replies_of value key store)
answer_all value key [] all = tt
answer_all value key (w ∷ store) all = answers_append (reply_if value key w) (replies_of value key store) (answer_if value key w all.0) (answer_all value key store all.1)

answer_item : (id : ℕ) (store : List Write) (item : HandOver) → AreUtf8 store → AreAnswers (item_answers id store item)
answer_item id store (Sample kind number sample) all = tt
answer_item id store (Reply kind number reply) all = tt
answer_item id store (Query number value query) all = go (number == id)
  where
    go : (b : Bool) → AreAnswers (if b then answers_of value query.key_expr.text store else [])
    go true = answers_append (replies_of value query.key_expr.text store) _ (answer_all value query.key_expr.text store all) ((tt, tt), tt)
    go false = tt

answer_effect : (id : ℕ) (store : List Write) (effect : Effect) → AreUtf8 store → AreAnswers (effect_answers id store effect)
answer_effect id store (Send message) all = tt
answer_effect id store (Hand item) all = answer_item id store item all
answer_effect id store (End kind number) all = tt
answer_effect id store (Matching number matching) all = tt

answer_effects : (id : ℕ) (store : List Write) (effects : List Effect) → AreUtf8 store → AreAnswers (answers_to id store effects)
answer_effects id store [] all = tt
answer_effects id store (effect ∷ effects) all =
    answers_append (effect_answers id store effect) (answers_to id store effects) (answer_effect id store effect all) (answer_effects id store effects all)

behind_all : (s : Settings) (number : ℕ) (side : LinkSide) (events : List Event) (t : Told) → Behind t.links → AreAnswers events → Behind (with_all s number side events t).links
behind_all s number side [] t behind all = behind
behind_all s number side (e ∷ events) t behind all = behind_all s number side events (with_taken s number side e t) (behind_take side e t.links behind all.0.0 all.0.1) all.1

module _ (law : StoresHoldWhatWasWritten) (utf8 : IsUtf8 all_keys) (s : Settings) (aggregates : AreSpelled s) (first : Starts s all_keys (first_events all_keys)) (second : Starts (other s) all_keys (first_events all_keys)) where
  stores : (links : List LinkLine) → Behind links → BothStore s (linked_after s links).a (linked_after s links).b
  stores links behind =
      subst (λ (ls : List LinkLine). BothStore s (linked_after s ls).a (linked_after s ls).b) (sym behind.is)
      (law s all_keys behind.lines utf8 aggregates first second behind.replicas behind.spelled)

  pub holds : (links : List LinkLine) → Behind links → (side : LinkSide) → HoldsBest (took_at s side links) (store_at s side links)
  holds links behind A = subst (HoldsBest (took (linked_after s links).a (linked_after s links).b)) (same_kept s (linked_after s links).a.history) (stores links behind).of_a
  holds links behind B = subst (HoldsBest (took (linked_after s links).b (linked_after s links).a)) (same_kept (other s) (linked_after s links).b.history) (stores links behind).of_b

  spelled_links : (lines : List LinkLine) → AreSpelledLines lines → AreSpelledLines (lines ++ first_links)
  spelled_links [] all = let scalar = scalars-chars all_keys utf8 in (scalar, (scalar, (scalar, (scalar, tt))))
  spelled_links (x ∷ lines) all = (all.0, spelled_links lines all.1)

  took_utf8 : (links : List LinkLine) → Behind links → (side : LinkSide) → AreUtf8 (took_at s side links)
  took_utf8 links behind side = go side (utf8_after s links (subst AreSpelledLines (sym behind.is) (spelled_links behind.lines behind.spelled)))
    where
      go : (x : LinkSide) → AreUtf8 (written (linked_after s links).a.history) × AreUtf8 (written (linked_after s links).b.history) → AreUtf8 (took_at s x links)
      go A both = utf8_append (written (linked_after s links).a.history) (drop (pushes (linked_after s links).b.waiting) (written (linked_after s links).b.history)) both.0
          (utf8_drop (pushes (linked_after s links).b.waiting) (written (linked_after s links).b.history) both.1)
      go B both = utf8_append (written (linked_after s links).b.history) (drop (pushes (linked_after s links).a.waiting) (written (linked_after s links).a.history)) both.1
          (utf8_drop (pushes (linked_after s links).a.waiting) (written (linked_after s links).a.history) both.0)

  behind_answers : (number : ℕ) (side : LinkSide) (effects : List Effect) (t : Told) → Behind t.links → Behind (with_answers s number side effects t).links
  behind_answers number side effects t behind =
      behind_all s number side (answers_to answerer (store_at s side t.links) effects) t behind
      (answer_effects answerer (store_at s side t.links) effects (store_utf8 (took_at s side t.links) (store_at s side t.links) (holds t.links behind side) (took_utf8 t.links behind side)))

  behind_delivered : (number : ℕ) (from : LinkSide) (d : Delivered) (t : Told) → Behind t.links → Behind (with_delivered s number from d t).links
  behind_delivered number from Nothing t behind = behind
  behind_delivered number from Dropped t behind = behind
  behind_delivered number from (Taken turn) t behind =
      behind_answers number (opposite from) turn.effects (with_text (ends_text number (letter (opposite from)) turn.effects) t) behind

  behind_many : (number : ℕ) (from : LinkSide) (count : ℕ) (t : Told) → Behind t.links → Behind (with_many s number from count t).links
  behind_many number from zero t behind = behind
  behind_many number from (suc n) t behind =
      let before = with_many s number from n t in
      behind_delivered number from (delivery_from s from (linked_after s before.links)) (with_link (Deliver from) before)
      (behind_deliver from before.links (behind_many number from n t behind))

  behind_line : (number : ℕ) (said : Said) (t : Told) → IsSaid said → Behind t.links → Behind (with_line s number said t).links
  behind_line number (To side (take_line e)) t asked behind =
      let turn = next_turn s side e t in
      behind_answers number side turn.effects (with_text (ends_text number (letter side) turn.effects) (with_text (line number (answer_fields turn.answer)) (with_link (Take side e) t)))
      (behind_take side e t.links behind asked.0 asked.1)
  behind_line number (To side (Refuse refusal)) t asked behind = behind
  behind_line number (To side Dump) t asked behind = behind
  behind_line number (Move from) t asked behind =
      behind_many number from (waiting_at s from t.links) (with_text (line number (codes "ok" ∷ decimal (waiting_at s from t.links) ∷ [])) t) behind

  pub behind_lines : (saids : List Said) → AllByRecursion IsSaid saids → Behind (links_behind s saids)
  behind_lines [] all = record { lines = []; is = refl; replicas = tt; spelled = tt }
  behind_lines (said ∷ h) all = behind_line (length h + 1) said (record { links = links_behind s h; text = [] }) all.0 (behind_lines h all.1)

  pub both_hold : (links : List LinkLine) → Behind links → BothHold s links
  both_hold links behind = record {
    each = holds links behind;
    same = λ idle_a idle_b.
        sym (same_kept s (linked_after s links).a.history)
        ∙ (stores links behind).same idle_a idle_b
        ∙ same_kept (other s) (linked_after s links).b.history;
  }

pub keys_utf8 : IsUtf8 all_keys
keys_utf8 =
    IsUtf8-from_ascii all_keys
    (IsAscii-cons 114 (codes "/**") (lit< tt) (IsAscii-cons 47 (codes "**") (lit< tt) (IsAscii-cons 42 (codes "*") (lit< tt) (IsAscii-cons 42 [] (lit< tt) IsAscii-nil))))

pub dumps_show : StoresHoldWhatWasWritten → DumpsShowBest
dumps_show law s rows aggregates first second =
    both_hold law keys_utf8 s aggregates first second (links_behind s (events_of (replica_language s) rows))
    (behind_lines law keys_utf8 s aggregates first second (events_of (replica_language s) rows) (all_said s rows))
