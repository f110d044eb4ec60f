-- What the machine owes for a row, from what became of the line that it is.
use Rattle.std.proofs.Common.{◌≡◌, ◌+◌, ℕ, suc, List, [], ◌∷◌, ◌++◌, true, Option, Some, None, refl, sym, ◌∙◌, ap, subst, length}
use Rattle.std.specs.Prelude.{is_some, Result}
use Rattle.std.specs.Option.{IfSome}
use Rattle.std.specs.String.{string_bytes}
use Rattle.zs_driving.specs.declared.driving.Driven.{Driven}
use Rattle.zs_driving.specs.declared.errors.DriveError.{DriveError}
use Rattle.zs_driving.specs.Tasks.{Rules, task_of}
use Rattle.zs_driving.specs.Driving.{Drives, Supply, Outlet}
use Rattle.zs_driving.specs.Languages.{text_of, events_of, rules_of}
use Rattle.zs_core.specs.Types.{Settings}
use Rattle.zs_core.specs.World.{World as Tables}
use Rattle.zs_events.specs.declared.event.Event.{Event}
use Rattle.zs_standing.proofs.Stands.{standing}
use Rattle.zs_session_cell.specs.Core.{StandsFor}
use Rattle.zs_delivery.specs.Linked.{LinkLine, Side, linked_after}
use Rattle.zs_link.specs.World.{LinkSeen, StandAs}
use Rattle.zs_groups.specs.declared.sides.Sides.{Sides}
use Rattle.zs_groups.specs.Told.{Told, first_links}
use Rattle.zs_groups.specs.Sides.{AreBehind, AreTold, Becomes}
use Rattle.zs_groups.specs.Language.{Said, said_of, with_line, line_text, links_behind, group_language, group_task, Goes}
use Rattle.zs_groups.specs.Behind.{IsBehind, TakesLine, from_nothing}

-- a line was taken from its empty text on, which was then added
pub takes_line : (said : Said) (number : ℕ) (old mid new : Sides) (before after : List ℕ) → mid ≡ record old { printed = mid.printed } → string_bytes mid.printed ≡ []
    → Becomes (λ s t. with_line s number said t) mid new → after ≡ before ++ string_bytes new.printed → TakesLine said number old new before after
takes_line said number old mid new before after rest empty becomes added = record {
  text = λ s links behind. added ∙ ap (λ (more : List ℕ). before ++ more) (becomes s (from_nothing links) (start s links behind)).text;
  stands = λ s links behind. (becomes s (from_nothing links) (start s links behind)).behind;
}
  where
    start : (s : Settings) (links : List LinkLine) → AreBehind old s links → AreTold mid s (from_nothing links)
    start s links behind = record {
      behind = subst (λ (x : Sides). AreBehind x s links) (sym rest) (record { world = behind.world; a = behind.a; b = behind.b });
      text = empty;
    }

-- of what a row may say
pub if_said : (o : Option Said) (P Q : Said → Type 0) → ((said : Said) → P said → Q said) → IfSome o P → IfSome o Q
if_said None P Q f p = tt
if_said (Some said) P Q f p = f said p

module _ (sides : Sides) (r : Rules) (h : List (List ℕ)) (number : ℕ) (before after : List ℕ) (behind : IsBehind sides r h) (number_is : number ≡ length h + 1) where
  pub took_text : (new : Sides) (row : List ℕ) → is_some (said_of row) ≡ true → IfSome (said_of row) (λ said. TakesLine said number sides new before after)
      → after ≡ before ++ r.line_text h row
  took_text new row taken takes =
      go (said_of row) taken takes ∙ ap (λ (rules : Rules). before ++ rules.line_text h row) (sym behind.rules)
    where
      go : (o : Option Said) → is_some o ≡ true → IfSome o (λ said. TakesLine said number sides new before after)
          → after ≡ before ++ text_of (group_language behind.settings) (events_of (group_language behind.settings) h) o
      go None so takes = cc
      go (Some said) so takes =
          takes.text behind.settings (links_behind behind.settings (events_of (group_language behind.settings) h)) behind.stands
          ∙ ap (λ (n : ℕ). before ++ line_text behind.settings (events_of (group_language behind.settings) h) n said)
          (number_is ∙ ap (λ (n : ℕ). n + 1) (sym behind.each))

  pub took_on : (new : Sides) (row : List ℕ) → is_some (said_of row) ≡ true → IfSome (said_of row) (λ said. TakesLine said number sides new before after)
      → IsBehind new r (row ∷ h)
  took_on new row taken takes = go (said_of row) refl taken takes
    where
      go : (o : Option Said) → said_of row ≡ o → is_some o ≡ true → IfSome o (λ said. TakesLine said number sides new before after) → IsBehind new r (row ∷ h)
      go None is so takes = cc
      go (Some said) is so takes =
          let s = behind.settings in
          let l = group_language s in
          let es = events_of l h in
          let more : events_of l (row ∷ h) ≡ said ∷ es = rw is refl in
          let place : number ≡ length es + 1 = number_is ∙ ap (λ (n : ℕ). n + 1) (sym behind.each) in
          record {
            settings = s;
            rules = behind.rules;
            each = ap length more ∙ ap (λ (n : ℕ). suc n) behind.each;
            stands =
                subst (λ (ls : List Said). AreBehind new s (links_behind s ls)) (sym more)
                (subst (λ (n : ℕ). AreBehind new s (with_line s n said (from_nothing (links_behind s es))).links) place
                (takes.stands s (links_behind s es) behind.stands));
          }

settings_are : (w : Tables) (s : Settings) (h : List Event) → StandsFor w s h → w.settings ≡ s
unfolding StandsFor
settings_are w s h stands = ap (λ (x : Tables). x.settings) stands ∙ (standing s h).settings

-- two sides that have declared what each declares first stand behind no lines
pub behind_none : (sides : Sides) (s : Settings) → AreBehind sides s first_links → IsBehind sides (rules_of (group_language sides.world.a.world.settings)) []
behind_none sides s new = record {
  settings = s;
  rules = ap (λ (t : Settings). rules_of (group_language t)) (settings_are sides.world.a.world s _ new.world.a.stands);
  each = refl;
  stands = new;
}

-- a run by the rules of one of two equal settings is one by those of the other
pub drives_sides : (sides : Sides) (s : Settings) (r : Result Driven DriveError) (before after : Supply) (from to : Outlet) (Puts : List ℕ → Type 0) → AreBehind sides s first_links
    → Drives (task_of (λ row. is_some (said_of row)) (rules_of (group_language sides.world.a.world.settings)) s.line_max s.turns) Goes r before after from to Puts
    → Drives (group_task s) Goes r before after from to Puts
drives_sides sides s r before after from to Puts new drives =
    subst (λ (x : Settings). Drives (task_of (λ row. is_some (said_of row)) (rules_of (group_language x)) s.line_max s.turns) Goes r before after from to Puts)
    (settings_are sides.world.a.world s _ new.world.a.stands) drives
