-- What the callers of a session count.
use Rattle.std.specs.Prelude.{◌≡◌, ℕ, ◌+◌, ◌≤◌, Option, None}

-- into how many parts each ledger of a session is cut
abbrev pub all_parts : ℕ
all_parts = 4294967296

-- the largest number by which the running program tells an amount
abbrev pub most : ℕ
most = 18446744073709551615

-- a share: how many parts it has, and its amount
pub record TallySeen : Type 0 where
  pub parts : ℕ
  pub count : ℕ

-- a book: its total
pub record AccountSeen : Type 0 where
  pub total : ℕ

-- the totals of the three ledgers of a session: its events, the messages that it sent, and those that were drained
pub record AccountsSeen : Type 0 where
  pub entries : ℕ
  pub sent : ℕ
  pub drained : ℕ

-- a caller: how many parts it has of each ledger, what it counts in them, and the last receipt that it was given
pub record CallerSeen (T : Type 0) : Type 0 where
  pub parts : ℕ
  pub count : ℕ
  pub sent : ℕ
  pub drained : ℕ
  pub last : Option T

module _ {T : Type 0} where
  -- the caller of a new session, with all parts
  abbrev pub new_caller : CallerSeen T
  new_caller = record { parts = all_parts; count = 0; sent = 0; drained = 0; last = None }

  -- a caller with another number of parts
  abbrev pub with_parts : ℕ → CallerSeen T → CallerSeen T
  with_parts parts caller = record caller { parts = parts }

  -- two callers in one, with the receipt of the first
  abbrev pub joined : CallerSeen T → CallerSeen T → CallerSeen T
  joined first second = record {
    parts = first.parts + second.parts;
    count = first.count + second.count;
    sent = first.sent + second.sent;
    drained = first.drained + second.drained;
    last = first.last;
  }

  -- a caller counts no more than the books do
  pub record IsWithin (caller : CallerSeen T) (books : AccountsSeen) : Type 0 where
    pub entries : caller.count ≤ books.entries
    pub sent : caller.sent ≤ books.sent
    pub drained : caller.drained ≤ books.drained

  -- a caller counts what the books do
  pub record IsAll (caller : CallerSeen T) (books : AccountsSeen) : Type 0 where
    pub entries : caller.count ≡ books.entries
    pub sent : caller.sent ≡ books.sent
    pub drained : caller.drained ≡ books.drained

-- the books of a new session
abbrev pub no_entries : AccountsSeen
no_entries = record { entries = 0; sent = 0; drained = 0 }
