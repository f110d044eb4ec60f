-- The table of channels follows the script: it is behind all that was heard of it.
use Rattle.std.proofs.Common.{◌≡◌, ℕ, List, ◌∷◌, Option, Some, None, Result, Ok, Err, refl, sym, ap, ◌∙◌}
use Rattle.std.specs.Prelude.{OnOk, option_map}
use Rattle.zs_events.specs.declared.event.Event.{Event}
use Rattle.zs_events.specs.declared.received.Received.{Received}
use Rattle.zs_events.specs.declared.script_event.ScriptEvent.{ScriptEvent}
use Rattle.zs_events.specs.declared.script_event.ScriptEvent.TheVariants.{Core, Recv}
use Rattle.zs_events.specs.declared.turn.HandOver.{HandOver}
use Rattle.zs_events.specs.declared.turn.Kind.{Kind}
use Rattle.zs_events.specs.declared.turn.Turn.{Turn}
use Rattle.zs_core.specs.Types.{Settings}
use Rattle.zs_core.specs.Effects.{effects}
use Rattle.zs_channels.specs.Channel.{received, without_first}
use Rattle.zs_channels.specs.Told.{Declared, state, channel_of}
use Rattle.zs_channels.specs.Table.{Table, no_channels, channel_at, with_change, behind_all, table_after}
use Rattle.zs_channels.specs.Heard.{news_of_turn}
use Rattle.zs_channels.proofs.Following.{behind_all-append}
use Rattle.zs_channels.proofs.Telling.{told}
use Rattle.zs_session.specs.Heard.{core_of, heard, answer_of}

-- what holds whatever comes holds of a success
pub on_ok : {A E P : Type 0} (r : Result A E) → P → OnOk r P
on_ok (Ok a) p = p
on_ok (Err e) p = tt

-- channels that heard a turn
pub heard_turn : (s : Settings) (h : List ScriptEvent) (e : Event) (turn : Turn) (old new : Table HandOver) → turn ≡ effects s (core_of h) e
    → old ≡ table_after (heard s h) → new ≡ behind_all (news_of_turn e turn) old → new ≡ table_after (heard s (Core e ∷ h))
heard_turn s h e turn old new same before is =
    is
    ∙ (ap (λ t. behind_all (news_of_turn e turn) t) before
    ∙ (ap (λ (made : Turn). behind_all (news_of_turn e made) (table_after (heard s h))) same
    ∙ sym (behind_all-append (news_of_turn e (effects s (core_of h) e)) (heard s h) no_channels)))

-- one of which was read
pub heard_read : (s : Settings) (h : List ScriptEvent) (kind : Kind) (id : ℕ) (old new : Table HandOver) → old ≡ table_after (heard s h)
    → new ≡ with_change kind id without_first old → new ≡ table_after (heard s (Recv kind id ∷ h))
heard_read s h kind id old new before is = is ∙ ap (λ t. with_change kind id without_first t) before

both_maps : (o : Option (Declared HandOver)) → option_map received (option_map state o) ≡ option_map (λ d. received (state d)) o
both_maps None = refl
both_maps (Some d) = refl

-- what a read is answered
pub answer_is : (s : Settings) (h : List ScriptEvent) (kind : Kind) (id : ℕ) (table : Table HandOver) (answer : Option (Received HandOver)) → table ≡ table_after (heard s h)
    → answer ≡ option_map received (channel_at kind id table) → answer ≡ answer_of s h kind id
answer_is s h kind id table answer before is =
    is
    ∙ (ap (λ t. option_map received (channel_at kind id t)) before
    ∙ (ap (λ o. option_map received o) (told (heard s h) kind id) ∙ both_maps (channel_of kind id (heard s h))))
