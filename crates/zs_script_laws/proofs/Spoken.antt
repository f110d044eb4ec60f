-- What lines say is spelled with characters.
use Rattle.std.proofs.Common.{◌≡◌, [], ◌∷◌, Bool, true, false, Option, Some, None, refl}
use Rattle.std.specs.Prelude.{◌&&◌}
use Rattle.std.specs.List.{list_all}
use Rattle.zs_events.specs.declared.event.Event.{Event}
use Rattle.zs_events.specs.declared.script_event.ScriptEvent.{ScriptEvent}
use Rattle.zs_events.specs.declared.script_event.ScriptEvent.TheVariants.{Core, Recv}
use Rattle.zs_events.specs.declared.key_arg.KeyArg.{KeyArg}
use Rattle.zs_events.specs.declared.key_arg.KeyArg.TheVariants.{Text, Number, Declared}
use Rattle.zs_events.specs.Kinds.{NamedKey, NoKey, OwnKey, PublisherKey, QuerierKey, WireKey, row_of}
use Rattle.zs_laws.specs.Spelled.{IsSpelledArgument, IsSpelledName, IsSpelled, AllSpelled, SpelledFormsAreRead, SpelledSubscribersAreCovered}
use Rattle.zs_grammar.specs.Grammar.{event_of}
use Rattle.zs_script.specs.Plain.{is_field_text, is_plain_text, is_plain_named, is_plain_event}
use Rattle.zs_script.specs.Laws.{EventsArePlain}
use Rattle.zs_script_laws.specs.Spoken.{with_said, history_of, LinesAreSpelled, SentByLinesIsRead, SubscribersOfLinesAreCovered}

first_holds : (a b : Bool) → (a && b) ≡ true → a ≡ true
first_holds true b both = refl
first_holds false b both = cc

-- a plain key is spelled
spelled_argument : (key : KeyArg) → is_plain_named (OwnKey key) ≡ true → IsSpelledArgument key
spelled_argument (Text text) plain = first_holds _ (is_plain_text text) plain
spelled_argument (Number number suffix) plain = first_holds _ (is_plain_text suffix) plain
spelled_argument (Declared text number prefix_len) plain = first_holds _ (is_plain_text text) plain

spelled_name : (key : NamedKey) → is_plain_named key ≡ true → IsSpelledName key
spelled_name NoKey plain = tt
spelled_name (OwnKey key) plain = spelled_argument key plain
spelled_name (PublisherKey id) plain = tt
spelled_name (QuerierKey id) plain = tt
spelled_name (WireKey wire) plain = first_holds _ (is_plain_text wire.suffix) plain

spelled_event : (e : Event) → is_plain_event e ≡ true → IsSpelled e
spelled_event e plain = spelled_name (row_of e).key (first_holds (is_plain_named (row_of e).key) (list_all is_field_text (row_of e).texts) plain)

-- so is that of each line
pub lines_spelled : EventsArePlain → LinesAreSpelled
lines_spelled plain [] all = tt
lines_spelled plain (row ∷ rows) all = go (event_of row) refl (lines_spelled plain rows all.1)
  where
    go : (o : Option ScriptEvent) → event_of row ≡ o → AllSpelled (history_of rows) → AllSpelled (with_said o (history_of rows))
    go None is rest = rest
    go (Some (Recv kind id)) is rest = rest
    go (Some (Core e)) is rest = (spelled_event e (plain row (Core e) all.0 is), rest)

pub sent_read : EventsArePlain → SpelledFormsAreRead → SentByLinesIsRead
sent_read plain read s rows row e aggregates all is =
    read s (history_of rows) e aggregates (spelled_event e (plain row (Core e) all.0 is), lines_spelled plain rows all.1)

pub all_covered : EventsArePlain → SpelledSubscribersAreCovered → SubscribersOfLinesAreCovered
all_covered plain covered s rows aggregates all = covered s (history_of rows) aggregates (lines_spelled plain rows all)
