-- What a step makes of a caller.
use Rattle.std.proofs.Common.{◌≡◌, ◌∙◌, ℕ, ◌+◌, Bool, List, [], ◌∷◌, ◌++◌, length, Option, Some, None, is_some, true, false, not, cond, ap, sym, subst, refl, arith}
use Rattle.zs_events.specs.declared.event.Event.{Event}
use Rattle.zs_events.specs.declared.turn.Answer.{Answer}
use Rattle.zs_events.specs.declared.turn.Answer.TheVariants.{Ok as accepted, Refused as refused}
use Rattle.zs_events.specs.declared.turn.Turn.{Turn}
use Rattle.zs_events.specs.Turn.{was_refused}
use Rattle.zs_core.specs.Types.{Settings}
use Rattle.zs_session_cell.specs.declared.entry.Entry.{Entry}
use Rattle.zs_session_cell.specs.Core.{turn_at}
use Rattle.zs_session_cell.specs.Journals.{Follows, history}
use Rattle.zs_posts.specs.declared.key.Key.{Key}
use Rattle.zs_books.specs.Callers.{CallerSeen}
use Rattle.zs_held.specs.declared.asked.Asked.{Asked}
use Rattle.zs_held.specs.Held.{entered, receipt_of}
use Rattle.zs_held.specs.Numbers.{NumbersAreTold}
use Rattle.zs_held.specs.Receipts.{ReceiptSeen, asked_of}
use Rattle.zs_cell.specs.declared.error.SessionError.{SessionError}
use Rattle.zs_cell.specs.declared.error.SessionError.TheVariants.{Refused, OtherSession, NoMemory}
use Rattle.zs_cell.specs.Steps.{Took, Takes, TakesAndFinishes, Stops, IsNumbered, IsRefusal, asked_for}
use Rattle.zs_cell.specs.Works.{asked_at, back_at}

-- a journal has as many events as entries
history_longer : (before : List Event) (journal : List Entry) → length (history before journal) ≡ length journal + length before
history_longer before [] = omega arith
history_longer before (entry ∷ journal) = omega (arith, history_longer (entry.event ∷ before) journal)

pub history_long : (journal : List Entry) → length journal ≡ length (history [] journal)
history_long journal = omega (arith, history_longer [] journal)

-- the last turn of a journal that follows settings is that of its event under them, behind the events of the others
last_follows : (s : Settings) (before : List Event) (journal : List Entry) (entry : Entry) → Follows s before (journal ++ entry ∷ []) → entry.turn ≡ turn_at s (history before journal) entry.event
last_follows s before [] entry follows = follows.0
last_follows s before (first ∷ journal) entry follows = last_follows s (first.event ∷ before) journal entry follows.1

pub turn_follows : (s : Settings) (old new : List Entry) (event : Event) (turn : Turn) → Follows s [] new → new ≡ old ++ record { event = event; turn = turn } ∷ [] → turn ≡ turn_at s (history [] old) event
turn_follows s old new event turn follows is =
    last_follows s [] old (record { event = event; turn = turn }) (subst (λ (journal : List Entry). Follows s [] journal) is follows)

-- the receipt of an event that was taken is the caller's last
took : {old mid new : CallerSeen ReceiptSeen} {event : Event} {came : Bool} {turn : Turn} (s : Settings) (journal : List Entry) (asked : Option Asked) {receipt : ReceiptSeen}
    → turn ≡ turn_at s (history [] journal) event → receipt ≡ receipt_of event came turn (length journal) old.count → mid ≡ entered turn old
    → new ≡ record mid { last = Some (record receipt { asked = asked }) } → Took s old event came turn asked new
took {old} {mid} {new} {event} {came} {turn} s journal asked {receipt} turn_is is counted kept = record {
  before = history [] journal;
  turn_is = turn_is;
  caller_is =
      kept
      ∙ (ap (λ (m : CallerSeen ReceiptSeen). record m { last = Some (record receipt { asked = asked }) }) counted
      ∙ ap (λ (r : ReceiptSeen). record (entered turn old) { last = Some (record r { asked = asked }) })
      (is ∙ ap (λ (n : ℕ). receipt_of event came turn n old.count) (history_long journal)));
}

-- it says of the gate of a key what the session was asked for by the answer
asked_is : (answer : Answer) (key : Option Key) (held : Bool) (before : Option Asked) → before ≡ None → asked_at (not (was_refused answer)) key held before ≡ asked_for answer key held
asked_is answer key held before nothing = ap (λ (o : Option Asked). asked_at (not (was_refused answer)) key held o) nothing ∙ go (was_refused answer) key
  where
    go : (b : Bool) (k : Option Key) → asked_at (not b) k held None ≡ cond b None (asked_of k held)
    go true None = refl
    go true (Some k) = refl
    go false None = refl
    go false (Some k) = refl

-- the same by the answer of its turn
pub takes : {old mid new : CallerSeen ReceiptSeen} {event : Event} {came : Bool} {turn : Turn} {answer : Answer} (s : Settings) (journal : List Entry) (key : Option Key) (held : Bool) (receipt : ReceiptSeen)
    → turn ≡ turn_at s (history [] journal) event → receipt ≡ receipt_of event came turn (length journal) old.count → mid ≡ entered turn old
    → new ≡ record mid { last = Some (record receipt { asked = asked_at (not (was_refused turn.answer)) key held receipt.asked }) } → answer ≡ turn.answer
    → Takes s old event came answer (asked_for answer key held) new
takes {old} {mid} {new} {event} {came} {turn} {answer} s journal key held receipt turn_is is counted kept same = record {
  turn = turn;
  answer_is = sym same;
  took = took s journal (asked_for answer key held) turn_is is counted
      (kept ∙ ap (λ (o : Option Asked). record mid { last = Some (record receipt { asked = o }) })
      (asked_is turn.answer key held receipt.asked (ap (λ (r : ReceiptSeen). r.asked) is) ∙ ap (λ (a : Answer). asked_for a key held) (sym same)));
}

-- the turn of an event has a number where the law says so
pub numbered : (s : Settings) (h : List Event) (event : Event) (turn : Turn) → NumbersAreTold → turn ≡ turn_at s h event → IsNumbered event turn.answer
numbered s h event turn told is = go turn.answer (ap (λ (t : Turn). t.answer) is)
  where
    go : (answer : Answer) → answer ≡ (turn_at s h event).answer → IsNumbered event answer
    go (accepted number) same = told s h event number (sym same)
    go (refused refusal) same = tt

-- a refused event stops, with its refusal
pub stops : {s : Settings} {old new : CallerSeen ReceiptSeen} {event : Event} {came evicts : Bool} (answer : Answer) (key : Option Key) (held : Bool) (why : SessionError)
    → TakesAndFinishes s evicts old event came answer (asked_for answer key held) new → IsRefusal answer why → Stops s evicts old new event came why
stops {s} {old} {new} {event} {came} {evicts} answer key held (Refused refusal) by is = subst (λ (a : Answer). TakesAndFinishes s evicts old event came a (asked_for a key held) new) is by
stops answer key held NoMemory by is = absurd is
stops answer key held OtherSession by is = is

-- and its handler goes back
pub goes_back : {H : Type 0} (answer : Answer) (why : SessionError) (handler : Option H) → IsRefusal answer why → back_at answer handler ≡ handler
goes_back answer (Refused refusal) handler is = ap (λ (a : Answer). back_at a handler) is
goes_back answer NoMemory handler is = absurd is
goes_back answer OtherSession handler is = absurd is

-- none is there, where that is told
NoneBy : {A : Type 0} → Option A → Bool → Type 0
NoneBy o true = Unit {0}
NoneBy o false = o ≡ None

pub none_is : {A : Type 0} (o : Option A) → is_some o ≡ false → o ≡ None
unfolding NoneBy
none_is None is = refl
none_is (Some a) is = subst (NoneBy (Some a)) is tt
