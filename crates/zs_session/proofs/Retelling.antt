-- A run of the session by lines, told of the script.
use Rattle.std.proofs.Common.{◌≡◌, ℕ, List, [], Option, refl, sym, ◌∙◌, ap, subst}
use Rattle.std.specs.Prelude.{is_some, Result}
use Rattle.zs_driving.specs.declared.driving.Driven.{Driven}
use Rattle.zs_driving.specs.declared.errors.DriveError.{DriveError}
use Rattle.zs_driving.specs.Tasks.{Rules, Task, task_of}
use Rattle.zs_driving.specs.Languages.{rules_of}
use Rattle.zs_driving.specs.Driving.{Supply, Outlet, Drives as DrivesMachine, IsDone as IsDoneMachine}
use Rattle.zs_driving.proofs.Exits.{retold}
use Rattle.zs_core.specs.Types.{Settings}
use Rattle.zs_lines.specs.Lines.{lines}
use Rattle.zs_grammar.specs.Grammar.{event_of}
use Rattle.zs_session.specs.declared.scripted.ScriptedSession.{ScriptedSession}
use Rattle.zs_session.specs.Script.{script, text, language}
use Rattle.zs_session.specs.Scripted.{StandsFor, IsBehind}
use Rattle.zs_session.specs.Driving.{Drives, IsDone, task}
use Rattle.zs_core.specs.Received.{AreSpelled}
use Rattle.zs_session.specs.Telling.{Told, told}
use Rattle.zs_session.proofs.Lines.{lines_are, all_are}
use Rattle.zs_session.proofs.Scripts.{script_told}

-- what a session prints by
abbrev own : Settings → Task
own s = task_of (λ row. is_some (event_of row)) (rules_of (language s)) s.line_max s.turns

-- a new session prints by the language of its settings
pub rules_are : (s : Settings) (run : ScriptedSession) → StandsFor run s [] → rules_of (language run.state.settings) ≡ rules_of (language s)
rules_are s run stands = ap (λ w. rules_of (language w.settings)) stands.0

pub behind_none : (s : Settings) (run : ScriptedSession) → StandsFor run s [] → IsBehind run (rules_of (language run.state.settings)) []
behind_none s run stands = record { settings = s; rules = rules_are s run stands; each = refl; stands = stands }

done_told : (s : Settings) → AreSpelled s → (left left' : Option (List ℕ)) (Puts : List ℕ → Type 0) (Closed : List (List ℕ) → Type 0) (count : ℕ)
    → IsDoneMachine (own s) left left' Puts Closed count → IsDone s left left' Puts count
done_told s spelled left left' Puts Closed count d =
    let whole : d.output ≡ text s (script d.input) = d.whole ∙ all_are s (lines d.input) in
    record {
      input = d.input;
      output = d.output;
      source = d.source;
      spent = d.spent;
      good = d.good;
      sink = d.sink;
      whole = whole;
      tells = subst (λ (o : List ℕ). Told s (script d.input) (told o)) (sym whole) (script_told s d.input spelled);
      events = d.events;
    }

-- what a run by a session that stands for no event yet says of the script
pub drives_script : (s : Settings) (r : Rules) (Closed : List (List ℕ) → Type 0) (answer : Result Driven DriveError) (before after : Supply) (from to : Outlet) (Puts : List ℕ → Type 0)
    → r ≡ rules_of (language s) → AreSpelled s
    → DrivesMachine (task_of (λ row. is_some (event_of row)) r s.line_max s.turns) Closed answer before after from to Puts
    → Drives s answer before after from to Puts
drives_script s r Closed answer before after from to Puts rules spelled d =
    let P : Rules → Type 0 = λ x. DrivesMachine (task_of (λ row. is_some (event_of row)) x s.line_max s.turns) Closed answer before after from to Puts in
    let t = own s in
    retold t (task s).text (task s).whole Puts Puts (lines_are s) (all_are s) (λ output put. put)
    (IsDoneMachine t before.left after.left Puts Closed) (IsDone s before.left after.left Puts) answer before after from to
    (done_told s spelled before.left after.left Puts Closed) (subst P rules d)
