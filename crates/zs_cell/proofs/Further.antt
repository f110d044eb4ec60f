-- Queries that come back and are given back.
use Rattle.std.proofs.Common.{◌≡◌, ◌∙◌, ◌⊎◌, inl, inr, ℕ, ◌+◌, Bool, List, [], ◌∷◌, ◌++◌, length, Option, Some, true, false, ap, sym, subst, refl, arith}
use Rattle.std.specs.Prelude.{Result, IfOk, IfErr, Ok as Done, Err as Failed}
use Rattle.zs_events.specs.declared.event.Event.{Event}
use Rattle.zs_events.specs.declared.event.Event.TheVariants.{Finish}
use Rattle.zs_events.specs.declared.turn.Answer.{Answer}
use Rattle.zs_events.specs.declared.turn.Answer.TheVariants.{Ok as accepted}
use Rattle.zs_hands.specs.declared.handed.Handed.{Handed}
use Rattle.zs_hands.specs.declared.handed.Handed.TheVariants.{Called, Evicted, Skipped}
use Rattle.zs_hands.specs.declared.handed.RanCall.{RanCall}
use Rattle.zs_hands.specs.Answers.{AreKept, IsKept, reports_of}
use Rattle.zs_core.specs.Types.{Settings}
use Rattle.zs_turns.specs.declared.item.Item.{Item}
use Rattle.zs_turns.specs.Queries.{QuerySeen}
use Rattle.zs_posts.specs.declared.key.Key.{Key}
use Rattle.zs_books.specs.Callers.{CallerSeen}
use Rattle.zs_held.specs.declared.asked.Asked.{Asked}
use Rattle.zs_held.specs.Held.{receipt_of}
use Rattle.zs_held.specs.Receipts.{ReceiptSeen}
use Rattle.zs_cell.specs.declared.error.SessionError.{SessionError}
use Rattle.zs_cell.specs.Further.{Adds, AddsFinishes, AddsSome, asks_queryables}
use Rattle.zs_cell.specs.Steps.{AcceptsFor, IsRefusal, TakesAndFinishes, Stops, Takes, asked_for}
use Rattle.zs_cell.specs.Works.{returned, returned_in}
use Rattle.zs_cell.proofs.Stepping.{stops}

-- no query
pub adds_none : {s : Settings} {old new : CallerSeen ReceiptSeen} → new ≡ old → AddsSome s old new
adds_none same = record { values = []; finishes = same }

-- one query
pub adds_one : {s : Settings} {old new : CallerSeen ReceiptSeen} (value : ℕ) → Adds s (Finish value) old new → AddsSome s old new
adds_one {s} {old} {new} value adds = record { values = value ∷ []; finishes = (new, (adds, refl)) }

-- one, or for want of memory none
pub adds_either : {s : Settings} {old new : CallerSeen ReceiptSeen} (value : ℕ) → (Adds s (Finish value) old new) ⊎ (new ≡ old) → AddsSome s old new
adds_either value (inl adds) = adds_one value adds
adds_either value (inr same) = adds_none same

-- some behind others
adds_all : (s : Settings) (vs ws : List ℕ) (old mid new : CallerSeen ReceiptSeen) → AddsFinishes s vs old mid → AddsFinishes s ws mid new → AddsFinishes s (vs ++ ws) old new
adds_all s [] ws old mid new same more = subst (λ (c : CallerSeen ReceiptSeen). AddsFinishes s ws c new) same more
adds_all s (v ∷ vs) ws old mid new (next, (adds, rest)) more = (next, (adds, adds_all s vs ws next mid new rest more))

pub adds_more : {s : Settings} {old mid new : CallerSeen ReceiptSeen} → AddsSome s old mid → AddsSome s mid new → AddsSome s old new
adds_more {s} {old} {mid} {new} first more = record { values = first.values ++ more.values; finishes = adds_all s first.values more.values old mid new first.finishes more.finishes }

-- the last receipt is what it was
pub all_keep : (s : Settings) (values : List ℕ) (old new : CallerSeen ReceiptSeen) → AddsFinishes s values old new → new.last ≡ old.last
all_keep s [] old new same = ap (λ (c : CallerSeen ReceiptSeen). c.last) same
all_keep s (v ∷ vs) old new (mid, (adds, rest)) = all_keep s vs mid new rest ∙ ap (λ (c : CallerSeen ReceiptSeen). c.last) adds.caller_is

pub keeps_last : {s : Settings} {old new : CallerSeen ReceiptSeen} → AddsSome s old new → new.last ≡ old.last
keeps_last {s} {old} {new} some = all_keep s some.values old new some.finishes

-- the event that was taken first, and the queries that were given back behind it
pub steps_of : {s : Settings} {old mid new : CallerSeen ReceiptSeen} {event : Event} {came : Bool} {answer : Answer} {asked : Option Asked} (evicts asks : Bool) → asks ≡ asks_queryables event
    → Takes s old event came answer asked mid → AddsSome s mid new → (evicts ≡ false → asks ≡ false → new ≡ mid) → TakesAndFinishes s evicts old event came answer asked new
steps_of {mid} false false is takes some kept = record { taken = mid; takes = takes; values = []; none_come_back = λ _ _. refl; finishes = kept refl refl }
steps_of {mid} true asks is takes some kept =
    record { taken = mid; takes = takes; values = some.values; none_come_back = λ no _. let wrong : true ≡ false = no in cc; finishes = some.finishes }
steps_of {mid} false true is takes some kept =
    record { taken = mid; takes = takes; values = some.values; none_come_back = λ _ no. let wrong : true ≡ false = is ∙ no in cc; finishes = some.finishes }

-- an accepted event, by its answer
pub accepts : {A E : Type 0} {s : Settings} {old new : CallerSeen ReceiptSeen} {event : Event} {came evicts : Bool} (answer : Answer) (key : Option Key) (waits : Bool) (result : Result A E) (number : A → Option ℕ) (held : A → Bool)
    → IfOk result (λ a. answer ≡ accepted (number a)) → IfOk result (λ a. held a ≡ waits) → TakesAndFinishes s evicts old event came answer (asked_for answer key waits) new
    → IfOk result (λ a. AcceptsFor s evicts old new event came (number a) key (held a))
accepts {A} {E} {s} {old} {new} {event} {came} {evicts} answer key waits (Done a) number held is same by =
    subst (λ (b : Bool). AcceptsFor s evicts old new event came (number a) key b) (sym same)
    (subst (λ (x : Answer). TakesAndFinishes s evicts old event came x (asked_for x key waits) new) is by)
accepts answer key waits (Failed e) number held is same by = tt

-- a refused one
pub refuses : {A E : Type 0} {s : Settings} {old new : CallerSeen ReceiptSeen} {event : Event} {came evicts : Bool} (answer : Answer) (key : Option Key) (waits : Bool) (result : Result A E) (why : E → SessionError)
    → IfErr result (λ e. IsRefusal answer (why e)) → TakesAndFinishes s evicts old event came answer (asked_for answer key waits) new → IfErr result (λ e. Stops s evicts old new event came (why e))
refuses answer key waits (Done a) why is by = tt
refuses answer key waits (Failed e) why is by = stops answer key waits (why e) by is

-- no query comes back in the report of a handler that keeps what it is given, where no call that was left out had one
none_in : {D : Type 0} (tag : ℕ) (report : Handed Item D) → IsKept report → returned_in tag false report ≡ []
none_in tag (Called done) kept = refl
none_in tag (Evicted item done) kept = absurd kept
none_in tag (Skipped item) kept = refl

pub none_back : {D : Type 0} (tag : ℕ) (rans : List (RanCall Item D)) → AreKept rans → returned tag false (reports_of rans) ≡ []
none_back tag [] kept = refl
none_back tag (ran ∷ more) kept = ap (λ (qs : List QuerySeen). qs ++ returned tag false (reports_of more)) (none_in tag ran.report kept.0) ∙ none_back tag more kept.1

-- nor where the event asks no queryables, as the flag tells
pub none_come : {D : Type 0} (tag : ℕ) (asks : Bool) (reports told : List (Handed Item D)) → reports ≡ told → asks ≡ false → returned tag false told ≡ [] → returned tag asks reports ≡ []
none_come tag asks reports told same so none =
    ap (λ (rs : List (Handed Item _)). returned tag asks rs) same ∙ (ap (λ (b : Bool). returned tag b told) so ∙ none)

-- the last receipt of a caller is that of the event that its call names
pub last_is : {s : Settings} {old new : CallerSeen ReceiptSeen} {event : Event} {came evicts : Bool} {answer : Answer} {asked : Option Asked} (steps : TakesAndFinishes s evicts old event came answer asked new)
    → new.last ≡ Some (record (receipt_of event came steps.takes.turn (length steps.takes.took.before) old.count) { asked = asked })
last_is {s} {old} {new} steps = all_keep s steps.values steps.taken new steps.finishes ∙ ap (λ (c : CallerSeen ReceiptSeen). c.last) steps.takes.took.caller_is

-- it counts one event more for each query that was given back
all_count : (s : Settings) (values : List ℕ) (old new : CallerSeen ReceiptSeen) → AddsFinishes s values old new → new.count ≡ old.count + length values
all_count s [] old new same = omega (arith, ap (λ (c : CallerSeen ReceiptSeen). c.count) same)
all_count s (v ∷ vs) old new (mid, (adds, rest)) = omega (arith, all_count s vs mid new rest, ap (λ (c : CallerSeen ReceiptSeen). c.count) adds.caller_is)

pub count_is : {s : Settings} {old new : CallerSeen ReceiptSeen} {event : Event} {came evicts : Bool} {answer : Answer} {asked : Option Asked} (steps : TakesAndFinishes s evicts old event came answer asked new)
    → new.count ≡ old.count + 1 + length steps.values
count_is {s} {old} {new} steps = omega (arith, all_count s steps.values steps.taken new steps.finishes, ap (λ (c : CallerSeen ReceiptSeen). c.count) steps.takes.took.caller_is)

-- a list with an element isn't empty
pub no_cons : {X : Type 0} {x : X} {xs : List X} → x ∷ xs ≡ [] → ⊥
no_cons {X} {x} {xs} is = let wrong : x ∷ xs ≡ [] = is in cc
