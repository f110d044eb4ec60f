-- The machine of a cancellation token: its handlers, whether they are taken, the next number, and the outcome of their run.
use Rattle.std.specs.Prelude.{◌≡◌, ℕ, ◌+◌, ◌≤◌, ◌==◌, Bool, true, false, not, List, [], ◌∷◌, ◌++◌, filter, Option, None, Some}
use Rattle.zs_cancel.specs.declared.entry.Entry.{Entry}
use Rattle.zs_cancel.specs.declared.outcome.Outcome.{Outcome}

-- what contracts see of a token's state
pub record Token (J : Type 0) : Type 0 where
  pub handlers : List (Entry J)
  pub taken : Bool
  pub next : ℕ
  pub outcome : Option Outcome

-- a call of a token's state, with its answer
pub data Call (J : Type 0) : Type 0 where
  -- `add` took the job
  add : J → Call J
  -- `remove` of this number
  remove : ℕ → Call J
  -- `begin` gave these handlers
  begin : List (Entry J) → Call J
  -- `finish` with this outcome
  finish : Outcome → Call J
  -- an `add` that handed its job back, a `begin` that gave none, a reading
  nothing : Call J

module _ {J : Type 0} where
  abbrev pub new_token : Token J
  new_token = record { handlers = []; taken = false; next = 0; outcome = None }

  -- the numbers ascend, from the first bound on and below the second
  abbrev pub Ascends : ℕ → List (Entry J) → ℕ → Type 0
  Ascends low [] high = low ≤ high
  Ascends low (e ∷ es) high = (low ≤ e.number) × Ascends (e.number + 1) es high

  -- the handlers but that of this number
  abbrev pub without : ℕ → List (Entry J) → List (Entry J)
  without number handlers = filter (λ e. not (e.number == number)) handlers

  -- the call leads from the first state to the second
  abbrev pub Step : Token J → Call J → Token J → Type 0
  Step old (add job) new =
      (old.taken ≡ false) × (new ≡ record old { handlers = old.handlers ++ record { number = old.next; job = job } ∷ []; next = old.next + 1 })
  Step old (remove number) new = new ≡ record old { handlers = without number old.handlers }
  Step old (begin handlers) new =
      (old.taken ≡ false) × (handlers ≡ old.handlers) × (new ≡ record old { handlers = []; taken = true })
  Step old (finish outcome) new = (old.taken ≡ true) × (old.outcome ≡ None) × (new ≡ record old { outcome = Some outcome })
  Step old nothing new = new ≡ old
