-- A session with its three books.
use Rattle.std.specs.Prelude.{◌≡◌, ℕ, ◌+◌, ◌≤◌, ◌<◌, Bool, true, length, drop, None}
use Rattle.zs_events.specs.declared.event.Event.{Event}
use Rattle.zs_events.specs.declared.turn.Turn.{Turn}
use Rattle.zs_core.specs.Types.{Settings}
use Rattle.zs_books.specs.Callers.{AccountsSeen, CallerSeen, most}
use Rattle.zs_session_cell.specs.Journals.{SessionSeen, session_with}
use Rattle.zs_posts.specs.Settled.{PostsSeen}
use Rattle.zs_held.specs.Messages.{turn_messages, messages_of}
use Rattle.zs_held.specs.Receipts.{ReceiptSeen}

-- the session, and how many of its messages were drained
pub record HeldSeen (H : Type 0) : Type 0 where
  pub session : SessionSeen H
  pub drained : ℕ

module _ {H : Type 0} where
  -- the books count what the session did: its settings are those of the ledger, its entries are those of the journal, and its
  -- messages those that their turns sent; what waits to be drained is all of these but the first, which were drained
  pub record IsBooked (s : Settings) (session : SessionSeen H) (books : AccountsSeen) : Type 0 where
    pub settings_are : session.settings ≡ s
    pub keeps : session.exchange.keeps ≡ true
    pub entries_are : books.entries ≡ length session.journal
    pub sent_are : books.sent ≡ length (messages_of session.journal)
    pub within : books.drained ≤ books.sent
    pub outbox_is : session.exchange.outbox ≡ drop books.drained (messages_of session.journal)

  -- the same with other posts
  abbrev pub held_with : PostsSeen H → HeldSeen H → HeldSeen H
  held_with posts held = record held { session = session_with posts held.session }

  -- its messages can be told by a number of the running program
  abbrev pub AreFew : HeldSeen H → Type 0
  AreFew held = length (messages_of held.session.journal) < most

-- the receipt for an event, given how many entries the journal had and how many events the caller had counted
abbrev pub receipt_of : Event → Bool → Turn → ℕ → ℕ → ReceiptSeen
receipt_of event came turn entries count = record { place = entries + 1; count = count + 1; event = event; came = came; turn = turn; asked = None }

-- the books with one event more
abbrev pub counted : Turn → AccountsSeen → AccountsSeen
counted turn books = record books { entries = books.entries + 1; sent = books.sent + length (turn_messages turn) }

module _ {T : Type 0} where
  -- a caller that counts one event more, with the messages of its turn
  abbrev pub entered : Turn → CallerSeen T → CallerSeen T
  entered turn caller = record caller { count = caller.count + 1; sent = caller.sent + length (turn_messages turn) }

  -- a caller that counts so many drained messages more
  abbrev pub drained_by : ℕ → CallerSeen T → CallerSeen T
  drained_by messages caller = record caller { drained = caller.drained + messages }

module _ {H T : Type 0} where
  -- a caller counts as many events, sent messages and drained ones as the session does
  pub record CountsAll (caller : CallerSeen T) (held : HeldSeen H) : Type 0 where
    pub entries : caller.count ≡ length held.session.journal
    pub sent : caller.sent ≡ length (messages_of held.session.journal)
    pub drained : caller.drained ≡ held.drained
