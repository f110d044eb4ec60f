-- The accepted events of a history, told by the events alone.
use Rattle.std.specs.Prelude.{Bool, true, false, List, [], ◌∷◌, Option, Some, None}
use Rattle.zs_events.specs.declared.event.Event.{Event}
use Rattle.zs_model.specs.declared.settings.Settings.{Settings}
use Rattle.zs_events.specs.declared.turn.Refusal.{Refusal}
use Rattle.zs_events.specs.Kinds.{row_of}
use Rattle.zs_model.specs.Entry.{Entry, is_closed}
use Rattle.zs_model.specs.HeldKeys.{named_text}
use Rattle.zs_model.specs.Counters.{drawn_number}
use Rattle.zs_model.specs.Causes.{refusal_of}

-- an event with what is resolved at its moment
abbrev pub entry_of : Settings → List Entry → Event → Entry
entry_of s past e = record {
  number = drawn_number s past (row_of e).draws (named_text past e);
  text = named_text past e;
  event = e;
}

-- the past with one more event, unless that was refused or the session was closed before it
abbrev pub with_entry : Option Refusal → Bool → Entry → List Entry → List Entry
with_entry (Some refusal) closed x past = past
with_entry None true x past = past
with_entry None false x past = x ∷ past

-- the past with an event behind it
abbrev pub past_with : Settings → Event → List Entry → List Entry
past_with s e past = with_entry (refusal_of s past e) (is_closed past) (entry_of s past e) past

-- the accepted events of a history up to its first close; both lists have the newest first
abbrev pub past_of : Settings → List Event → List Entry
past_of s [] = []
past_of s (e ∷ h) = past_with s e (past_of s h)
