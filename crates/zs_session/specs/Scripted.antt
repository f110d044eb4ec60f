-- What a session with its channels stands for.
use Rattle.std.specs.Prelude.{◌≡◌, ℕ, List, length}
use Rattle.zs_driving.specs.Tasks.{Rules}
use Rattle.zs_driving.specs.Languages.{rules_of}
use Rattle.zs_events.specs.declared.script_event.ScriptEvent.{ScriptEvent}
use Rattle.zs_core.specs.Types.{Settings}
use Rattle.zs_core.specs.Stands.{Stands}
use Rattle.zs_channels.specs.Table.{table_after}
use Rattle.zs_session.specs.Heard.{core_of, heard}
use Rattle.zs_session.specs.Script.{events_of, language}
use Rattle.zs_session.specs.declared.scripted.ScriptedSession.{ScriptedSession}

-- a session with its channels stands for settings and a history where the session stands for its events, and the
-- channels are those that heard all of it
abbrev pub StandsFor : ScriptedSession → Settings → List ScriptEvent → Type 0
StandsFor run s h = Stands run.state s (core_of h) × (run.channels ≡ table_after (heard s h))

-- a session prints by these rules, and took these lines, the newest first: each was an event, and it stands for them
pub record IsBehind (run : ScriptedSession) (r : Rules) (h : List (List ℕ)) : Type 0 where
  pub settings : Settings
  pub rules : r ≡ rules_of (language settings)
  pub each : length (events_of h) ≡ length h
  pub stands : StandsFor run settings (events_of h)
