-- What stands of a get where a side is behind an event that changes nothing of it, or a message is taken out.
use Rattle.std.proofs.Common.{◌≡◌, ℕ, List, [], ◌∷◌, ◌++◌, Bool, true, false, Option, Some, None, refl, sym, ◌∙◌, ap, subst, arith}
use Rattle.std.specs.Prelude.{◌==◌, if◌then◌else◌}
use Rattle.std.specs.List.{AllByRecursion}
use Rattle.std.proofs.lemmas.Bool.Decides.{nat_tests}
use Rattle.zs_wire.specs.declared.message.Message.{Message}
use Rattle.zs_wire.specs.declared.request.Request.{Request}
use Rattle.zs_events.specs.declared.event.Event.{Event}
use Rattle.zs_events.specs.declared.turn.Answer.TheVariants.{Refused}
use Rattle.zs_events.specs.declared.turn.Refusal.{Refusal}
use Rattle.zs_events.specs.Turn.{answered as answered_turn}
use Rattle.zs_model.specs.declared.settings.Settings.{Settings}
use Rattle.zs_model.specs.Causes.{refusal_of}
use Rattle.zs_model.specs.Entry.{is_closed}
use Rattle.zs_model.specs.HeldKeys.{wire_text}
use Rattle.zs_model.specs.Past.{entry_of, past_of}
use Rattle.zs_model.specs.Effects.{effects_behind, effects}
use Rattle.zs_delivery.specs.Linked.{Side, LinkLine}
use Rattle.zs_store.specs.Store.{Write}
use Rattle.zs_replica_gets.specs.Asked.{Stage}
use Rattle.zs_replica_gets.proofs.Pasts.{Calm, Asking}
use Rattle.zs_replica_gets.proofs.Talk.{requests, responses_for, requests_append, responses_append, nothing_behind, IsRequest, IsKnown, known_append, InStage, Talk}

pub answer_refused : (s : Settings) (h : List Event) (e : Event) (refusal : Refusal) → refusal_of s (past_of s h) e ≡ Some refusal → (effects s h e).answer ≡ Refused refusal
answer_refused s h e refusal refused =
    ap (λ (o : Option Refusal). (if is_closed (past_of s h) then answered_turn o None [] else answered_turn o (entry_of s (past_of s h) e).number (effects_behind s (past_of s h) e)).answer) refused
    ∙ go (is_closed (past_of s h))
  where
    go : (c : Bool) → (if c then answered_turn (Some refusal) None [] else answered_turn (Some refusal) (entry_of s (past_of s h) e).number (effects_behind s (past_of s h) e)).answer ≡ Refused refusal
    go true = refl
    go false = refl

-- a message whose key is read
pub read_key : (s : Settings) (h : List Event) (r : Request) (known : IsRequest r) → wire_text (past_of s h) r.wire ≡ Some known.key
read_key s h r known = ap (wire_text (past_of s h)) known.is ∙ ap Some known.spelled

pub same_number : (n : ℕ) → (n == n) ≡ true
same_number n = grind (arith, nat_tests)

-- what is left of messages
pub head_of : {X : Type 0} (x y : X) (xs ys : List X) → x ∷ xs ≡ y ∷ ys → x ≡ y
head_of x y xs ys is = cc

pub tail_of : {X : Type 0} (x y : X) (xs ys : List X) → x ∷ xs ≡ y ∷ ys → xs ≡ ys
tail_of x y xs ys is = cc

abbrev pub side_with : List Event → List Message → Side
side_with h waiting = record { history = h; waiting = waiting }

module _ (s t : Settings) (keys : List ℕ) (mine theirs : List LinkLine → List Write) (n : ℕ) where
  abbrev Talks : Side → Side → Stage → Type 0
  Talks x y stage = Talk s t keys mine theirs x y n stage

  -- one side is behind an event that changes nothing of the get
  pub behind_here : (x x' y : Side) (stage : Stage) (talk : Talks x y stage) (ms : List Message) → Calm s keys x'.history [] → Asking s x'.history n talk.at talk.number
      → x'.waiting ≡ x.waiting ++ ms → requests n ms ≡ [] → AllByRecursion IsKnown ms → Talks x' y stage
  behind_here x x' y stage talk ms calm asks sent none known = record {
    at = talk.at;
    number = talk.number;
    here = calm;
    asks = asks;
    there = talk.there;
    known = subst (AllByRecursion IsKnown) (sym sent) (known_append x.waiting ms talk.known known);
    known_there = talk.known_there;
    state =
        subst (λ (reqs : List Request). InStage s t keys mine theirs n reqs (responses_for n y.waiting) talk.at talk.number stage)
        (sym (ap (requests n) sent ∙ requests_append n x.waiting ms ∙ ap (λ (more : List Request). requests n x.waiting ++ more) none ∙ nothing_behind (requests n x.waiting))) talk.state;
  }

  pub behind_there : (x y y' : Side) (stage : Stage) (talk : Talks x y stage) (ms : List Message) → Calm t keys y'.history []
      → y'.waiting ≡ y.waiting ++ ms → responses_for n ms ≡ [] → AllByRecursion IsKnown ms → Talks x y' stage
  behind_there x y y' stage talk ms calm sent none known = record {
    at = talk.at;
    number = talk.number;
    here = talk.here;
    asks = talk.asks;
    there = calm;
    known = talk.known;
    known_there = subst (AllByRecursion IsKnown) (sym sent) (known_append y.waiting ms talk.known_there known);
    state =
        subst (λ (ans : List Message). InStage s t keys mine theirs n (requests n x.waiting) ans talk.at talk.number stage)
        (sym (ap (responses_for n) sent ∙ responses_append n y.waiting ms ∙ ap (λ (more : List Message). responses_for n y.waiting ++ more) none ∙ nothing_behind (responses_for n y.waiting))) talk.state;
  }

  -- one side's oldest message is taken out
  pub without_here : (h : List Event) (m : Message) (later : List Message) (y : Side) (stage : Stage) → Talks (side_with h (m ∷ later)) y stage → requests n (m ∷ later) ≡ requests n later
      → Talks (side_with h later) y stage
  without_here h m later y stage talk same = record {
    at = talk.at;
    number = talk.number;
    here = talk.here;
    asks = talk.asks;
    there = talk.there;
    known = talk.known.1;
    known_there = talk.known_there;
    state = subst (λ (reqs : List Request). InStage s t keys mine theirs n reqs (responses_for n y.waiting) talk.at talk.number stage) same talk.state;
  }

  pub without_there : (x : Side) (h : List Event) (m : Message) (later : List Message) (stage : Stage) → Talks x (side_with h (m ∷ later)) stage → responses_for n (m ∷ later) ≡ responses_for n later
      → Talks x (side_with h later) stage
  without_there x h m later stage talk same = record {
    at = talk.at;
    number = talk.number;
    here = talk.here;
    asks = talk.asks;
    there = talk.there;
    known = talk.known;
    known_there = talk.known_there.1;
    state = subst (λ (ans : List Message). InStage s t keys mine theirs n (requests n x.waiting) ans talk.at talk.number stage) same talk.state;
  }
