-- A journal with one entry more.
use Rattle.std.proofs.Common.{◌≡◌, List, [], ◌∷◌, ◌++◌, refl, sym, ap, ◌∙◌, subst}
use Rattle.zs_events.specs.declared.event.Event.{Event}
use Rattle.zs_events.specs.declared.turn.Turn.{Turn}
use Rattle.zs_core.specs.Types.{Settings}
use Rattle.zs_core.specs.World.{World}
use Rattle.zs_posts.specs.Settled.{PostsSeen}
use Rattle.zs_session_cell.specs.declared.entry.Entry.{Entry}
use Rattle.zs_session_cell.specs.Core.{turn_at, StandsFor, Stepped}
use Rattle.zs_session_cell.specs.Journals.{history, Follows, FlagsOf, IsKept}
use Rattle.zs_session_cell.proofs.Core.{step_turn, step_stands}

history_push : (before : List Event) (journal : List Entry) (entry : Entry) → history before (journal ++ entry ∷ []) ≡ entry.event ∷ history before journal
history_push before [] entry = refl
history_push before (one ∷ journal) entry = history_push (one.event ∷ before) journal entry

follows_push : (s : Settings) (before : List Event) (journal : List Entry) (entry : Entry) → Follows s before journal → entry.turn ≡ turn_at s (history before journal) entry.event → Follows s before (journal ++ entry ∷ [])
follows_push s before [] entry all is = (is, tt)
follows_push s before (one ∷ journal) entry all is = (all.0, follows_push s (one.event ∷ before) journal entry all.1 is)

module _ {H : Type 0} where
  -- what was kept is kept with an event that the core took
  pub kept_more : (old new : World) (s : Settings) (journal : List Entry) (entry : Entry) (posts now : PostsSeen H) → IsKept old s journal posts → Stepped old new entry.event entry.turn → FlagsOf (journal ++ entry ∷ []) now → IsKept new s (journal ++ entry ∷ []) now
  kept_more old new s journal entry posts now kept steps flags = record {
    stands = subst (StandsFor new s) (sym (history_push [] journal entry)) (step_stands old new entry.event entry.turn s (history [] journal) steps kept.stands);
    follows = follows_push s [] journal entry kept.follows (step_turn old new entry.event entry.turn s (history [] journal) steps kept.stands);
    flags = flags;
  }

  -- and it is kept where the posts alone change
  pub kept_posts : (w : World) (s : Settings) (journal : List Entry) (posts now : PostsSeen H) → IsKept w s journal posts → (FlagsOf journal posts → FlagsOf journal now) → IsKept w s journal now
  kept_posts w s journal posts now kept so = record { stands = kept.stands; follows = kept.follows; flags = so kept.flags }
