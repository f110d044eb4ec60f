-- The tables of cancellation tokens are what the events tell.
use Rattle.std.proofs.Common.{◌≡◌, ◌+◌, ℕ, List, [], ◌∷◌, Bool, Option, Some, None, refl, ◌∙◌, ap}
use Rattle.std.specs.Prelude.{◌==◌, ◌||◌, if◌then◌else◌}
use Rattle.zs_subscriptions.specs.Ascending.{placed_by}
use Rattle.zs_events.specs.Kinds.{ToGets, Cancels, Row, row_of}
use Rattle.zs_model.specs.Entry.{Entry}
use Rattle.zs_model.specs.Cancelling.{Cancelling, draws_cancellation_token, next_cancellation_token, cancels, is_taken, is_any, is_among}
use Rattle.zs_model.proofs.Placing.{placed_any}

-- what the tables make of an event
abbrev pub taken_by : ToGets → List ℕ → List ℕ
taken_by (Cancels token) taken = placed_by (λ n. n) token taken
taken_by to taken = taken

abbrev pub cancelling_by : Row → Cancelling → Cancelling
cancelling_by row c = record { next = if draws_cancellation_token row.draws then c.next + 1 else c.next; taken = taken_by row.to_gets c.taken }

-- what they are behind a past
pub record AreCancelled (c : Cancelling) (past : List Entry) : Type 0 where
  pub next : c.next ≡ next_cancellation_token past
  pub taken : (token : ℕ) → is_among c.taken token ≡ is_taken token past

taken_step : (to : ToGets) (taken : List ℕ) (token : ℕ) (before : Bool) → is_among taken token ≡ before → is_among (taken_by to taken) token ≡ (cancels token to || before)
taken_step (Cancels other) taken token before is = placed_any token other taken ∙ ap (λ (b : Bool). (token == other) || b) is
taken_step to taken token before is = is

pub cancelled_more : (c : Cancelling) (past : List Entry) (x : Entry) → AreCancelled c past → AreCancelled (cancelling_by (row_of x.event) c) (x ∷ past)
cancelled_more c past x are = record {
  next = ap (λ (n : ℕ). if draws_cancellation_token (row_of x.event).draws then n + 1 else n) are.next;
  taken = λ token. taken_step (row_of x.event).to_gets c.taken token (is_taken token past) (are.taken token);
}

pub cancelled_opened : AreCancelled (record { next = 0; taken = [] }) []
cancelled_opened = record { next = refl; taken = λ token. refl }

-- so is whether an event asks with a token that was taken
pub any_told : (c : Cancelling) (past : List Entry) (o : Option ℕ) → AreCancelled c past → is_any (is_among c.taken) o ≡ is_any (λ token. is_taken token past) o
any_told c past None are = refl
any_told c past (Some token) are = are.taken token
