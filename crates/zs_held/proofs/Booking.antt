-- The books of a session count what it does.
use Rattle.std.proofs.Common.{◌≡◌, ◌↔◌, ℕ, ◌+◌, ◌-◌, ◌≤◌, ◌<◌, true, is_some, IfNone, IfOk, OnErr, Result, Ok, Err, List, [], ◌∷◌, ◌++◌, length, drop, Option, Some, None, refl, sym, ap, ◌∙◌, subst, arith, flat_map}
use Rattle.std.specs.Option.{option_to_list}
use Rattle.std.proofs.lemmas.List.{length-append, drop-append-le, length-drop, drop-drop, append-nil}
use Rattle.std.proofs.lemmas.Grind.{flat_map-append}
use Rattle.zs_wire.specs.declared.message.Message.{Message}
use Rattle.zs_events.specs.declared.event.Event.{Event}
use Rattle.zs_events.specs.declared.turn.Turn.{Turn}
use Rattle.zs_core.specs.Types.{Settings}
use Rattle.zs_posts.specs.Calls.{CallSeen}
use Rattle.zs_turns.specs.declared.item.Item.{Item}
use Rattle.zs_exchange.specs.Exchange.{kept_messages}
use Rattle.zs_session_cell.specs.declared.entry.Entry.{Entry}
use Rattle.zs_session_cell.specs.Journals.{SessionSeen, Advances}
use Rattle.std.proofs.lemmas.Bool.{false≢true}
use Rattle.zs_books.specs.Callers.{AccountsSeen, CallerSeen, IsAll, most}
use Rattle.zs_held.specs.Messages.{turn_messages, messages_of}
use Rattle.zs_held.specs.Held.{HeldSeen, IsBooked, AreFew, CountsAll, counted}

-- the messages of a journal with one entry more
pub messages-snoc : (entries : List Entry) (entry : Entry) → messages_of (entries ++ entry ∷ []) ≡ messages_of entries ++ turn_messages entry.turn
messages-snoc entries entry =
    flat_map-append (λ (x : Entry). turn_messages x.turn) entries (entry ∷ []) ∙ ap (λ ms. messages_of entries ++ ms) (append-nil (turn_messages entry.turn))

module _ {H : Type 0} where
  -- with one event more
  pub booked-more : {s : Settings} {old new : SessionSeen H} {books more : AccountsSeen} {e : Event} {handler : Option H} {turn : Turn} {calls : List (CallSeen H Item)}
      → IsBooked s old books → Advances e handler old turn calls new
      → more ≡ record books { entries = books.entries + 1; sent = books.sent + length (turn_messages turn) }
      → IsBooked s new more
  booked-more {s} {old} {new} {books} {more} {e} {handler} {turn} {calls} b a is =
      let entry : Entry = record { event = e; turn = turn } in
      let messages : messages_of new.journal ≡ messages_of old.journal ++ turn_messages turn = ap messages_of a.journal_is ∙ messages-snoc old.journal entry in
      let keeps : new.exchange.keeps ≡ true = ap (λ x. x.keeps) a.carries.rest ∙ b.keeps in
      let sent : more.sent ≡ length (messages_of new.journal) =
      ap (λ m. m.sent) is ∙ (ap (λ n. n + length (turn_messages turn)) b.sent_are ∙ (sym (length-append (messages_of old.journal) (turn_messages turn)) ∙ sym (ap length messages))) in
      let drained : more.drained ≡ books.drained = ap (λ m. m.drained) is in
      let low : books.drained ≤ length (messages_of old.journal) = subst (λ n. books.drained ≤ n) b.sent_are b.within in
      let more_sent : more.sent ≡ books.sent + length (turn_messages turn) = ap (λ m. m.sent) is in
      let outbox : new.exchange.outbox ≡ drop books.drained (messages_of new.journal) =
      ap (λ x. x.outbox) a.carries.rest
      ∙ (ap (λ keeps. old.exchange.outbox ++ kept_messages keeps turn.effects) b.keeps
      ∙ (ap (λ ms. ms ++ turn_messages turn) b.outbox_is
      ∙ (sym (drop-append-le books.drained (messages_of old.journal) (turn_messages turn) low)
      ∙ ap (drop books.drained) (sym messages)))) in
      record {
        settings_are = a.settings_is ∙ b.settings_are;
        keeps = keeps;
        entries_are = ap (λ m. m.entries) is ∙ (ap (λ n. n + 1) b.entries_are ∙ (sym (length-append old.journal (entry ∷ [])) ∙ ap length (sym a.journal_is)));
        sent_are = sent;
        within = let within : books.drained ≤ books.sent = b.within in omega arith;
        outbox_is = outbox ∙ ap (λ n. drop n (messages_of new.journal)) (sym drained);
      }

-- what is left when the first one goes
pub drop-one : (n : ℕ) (all rest : List Message) (m : Message) → m ∷ rest ≡ drop n all → rest ≡ drop (n + 1) all
drop-one n all rest m is = ap (drop 1) is ∙ drop-drop 1 n all

pub room-for-one : (n : ℕ) (all rest : List Message) (m : Message) → m ∷ rest ≡ drop n all → n + 1 ≤ length all
room-for-one n all rest m is =
    let lengths : length (m ∷ rest) ≡ length all - n = ap length is ∙ length-drop n all in
    let one : length (m ∷ rest) ≡ length rest + 1 = omega arith in
    omega arith

module _ {H : Type 0} where
  -- with one message drained
  booked-one : {s : Settings} {old new : SessionSeen H} {books more : AccountsSeen} {message : Message} {outbox : List Message}
      → IsBooked s old books → message ∷ outbox ≡ old.exchange.outbox
      → new ≡ record old { exchange = record old.exchange { outbox = outbox } }
      → more ≡ record books { drained = books.drained + 1 }
      → IsBooked s new more
  booked-one {s} {old} {new} {books} {more} {message} {outbox} b first is books_are =
      let all = messages_of old.journal in
      let left : message ∷ outbox ≡ drop books.drained all = first ∙ b.outbox_is in
      let drained : more.drained ≡ books.drained + 1 = ap (λ m. m.drained) books_are in
      let sent : more.sent ≡ books.sent = ap (λ m. m.sent) books_are in
      let journal : new.journal ≡ old.journal = ap (λ x. x.journal) is in
      let room : books.drained + 1 ≤ length all = room-for-one books.drained all outbox message left in
      let within : books.drained + 1 ≤ books.sent = subst (λ n. books.drained + 1 ≤ n) (sym b.sent_are) room in
      record {
        settings_are = ap (λ x. x.settings) is ∙ b.settings_are;
        keeps = ap (λ x. x.exchange.keeps) is ∙ b.keeps;
        entries_are = ap (λ m. m.entries) books_are ∙ (b.entries_are ∙ ap length (sym journal));
        sent_are = sent ∙ (b.sent_are ∙ ap (λ j. length (messages_of j)) (sym journal));
        within = omega arith;
        outbox_is = ap (λ x. x.exchange.outbox) is
            ∙ (drop-one books.drained all outbox message left
            ∙ (ap (λ n. drop n all) (sym drained) ∙ ap (λ j. drop more.drained (messages_of j)) (sym journal)));
      }

  -- with none drained
  pub booked-same : {s : Settings} {old new : SessionSeen H} {books more : AccountsSeen}
      → IsBooked s old books → new ≡ old → more ≡ books → IsBooked s new more
  booked-same {s} {old} {new} {books} {more} b is books_are = subst (λ x. IsBooked s x more) (sym is) (subst (IsBooked s old) (sym books_are) b)

  -- as the outbox gives it
  pub booked-drained : {s : Settings} {old new : SessionSeen H} {books more : AccountsSeen} (message : Option Message)
      → IsBooked s old books → option_to_list message ++ new.exchange.outbox ≡ old.exchange.outbox
      → new ≡ record old { exchange = record old.exchange { outbox = new.exchange.outbox } }
      → more ≡ record books { drained = books.drained + length (option_to_list message) }
      → IsBooked s new more
  booked-drained {s} {old} {new} {books} {more} (Some message) b first is books_are = booked-one b first is books_are
  booked-drained {s} {old} {new} {books} {more} None b first is books_are =
      booked-same b
      (is ∙ ap (λ outbox. record old { exchange = record old.exchange { outbox = outbox } }) first)
      (books_are ∙ ap (λ n. record books { drained = n }) (omega arith))

  -- whoever counts all messages finds none exactly where all were drained
  pub none-left : {T : Type 0} {s : Settings} {old : SessionSeen H} {books : AccountsSeen} {caller : CallerSeen T} (message : Option Message) (outbox : List Message)
      → IsBooked s old books → IsAll caller books → option_to_list message ++ outbox ≡ old.exchange.outbox → IfNone message (old.exchange.outbox ≡ [])
      → (message ≡ None) ↔ (caller.sent ≡ caller.drained)
  none-left {T} {s} {old} {books} {caller} None outbox b all first none =
      let left : length (messages_of old.journal) - books.drained ≡ 0 = sym (length-drop books.drained (messages_of old.journal)) ∙ ap length (sym b.outbox_is ∙ none) in
      let sent : books.sent ≡ length (messages_of old.journal) = b.sent_are in
      let within : books.drained ≤ books.sent = b.within in
      let same : books.sent ≡ books.drained = omega arith in
      (λ _. all.sent ∙ (same ∙ sym all.drained), λ _. refl)
  none-left {T} {s} {old} {books} {caller} (Some message) outbox b all first none =
      let found : Some message ≡ None → ⊥ = λ is. false≢true (sym (ap is_some is)) in
      let room : books.drained + 1 ≤ length (messages_of old.journal) = room-for-one books.drained (messages_of old.journal) outbox message (first ∙ b.outbox_is) in
      let sent : books.sent ≡ length (messages_of old.journal) = b.sent_are in (
        λ is. absurd (found is),
        λ same.
            let equal : books.sent ≡ books.drained = sym all.sent ∙ (same ∙ all.drained) in
            absurd (omega arith),
      )

  -- whether or not an event was taken
  pub booked-result : {T E : Type 0} {s : Settings} {old new : SessionSeen H} {books more : AccountsSeen} (e : Event) (handler : Option H) (turn : T → Turn) (calls : T → List (CallSeen H Item)) (result : Result T E)
      → IsBooked s old books → IfOk result (λ given. Advances e handler old (turn given) (calls given) new) → IfOk result (λ given. more ≡ counted (turn given) books)
      → OnErr result (new ≡ old) → OnErr result (more ≡ books)
      → IsBooked s new more
  booked-result e handler turn calls (Ok given) b advances is same books_same = booked-more b advances is
  booked-result e handler turn calls (Err why) b advances is same books_same = booked-same b same books_same

  -- whoever counts what the session does counts what its books do, and the other way where the messages are few
  pub all_by_books : {T : Type 0} {s : Settings} {held : HeldSeen H} {books : AccountsSeen} {caller : CallerSeen T}
      → IsBooked s held.session books → held.drained ≡ books.drained → CountsAll caller held → IsAll caller books
  all_by_books {T} {s} {held} {books} {caller} b drained all =
      record { entries = all.entries ∙ sym b.entries_are; sent = all.sent ∙ sym b.sent_are; drained = all.drained ∙ drained }

  pub books_by_all : {T : Type 0} {s : Settings} {held : HeldSeen H} {books : AccountsSeen} {caller : CallerSeen T}
      → IsBooked s held.session books → held.drained ≡ books.drained → AreFew held → caller.count ≡ length held.session.journal
      → (books.sent < most → caller.sent ≡ books.sent) → (books.drained < most → caller.drained ≡ books.drained)
      → CountsAll caller held
  books_by_all {T} {s} {held} {books} {caller} b drained few entries sent lent =
      let sent_few : books.sent < most = subst (λ n. n < most) (sym b.sent_are) few in
      let within : books.drained ≤ books.sent = b.within in
      let drained_few : books.drained < most = omega arith in
      record { entries = entries; sent = sent sent_few ∙ b.sent_are; drained = lent drained_few ∙ sym drained }
