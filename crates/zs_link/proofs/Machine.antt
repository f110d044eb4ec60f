-- What a machine of linked sessions owes for a row, from what became of the line that it is.
use Rattle.std.proofs.Common.{◌≡◌, ◌+◌, ℕ, suc, List, [], ◌∷◌, ◌++◌, Bool, true, false, Option, Some, None, refl, sym, ◌∙◌, ap, subst, length}
use Rattle.std.specs.Prelude.{is_some, Result, Ok, Err, OnOk}
use Rattle.std.specs.Option.{IfSome}
use Rattle.zs_driving.specs.declared.driving.Driven.{Driven}
use Rattle.zs_driving.specs.declared.errors.DriveError.{DriveError}
use Rattle.zs_driving.specs.Tasks.{Rules, task_of}
use Rattle.zs_driving.specs.Driving.{Drives, Supply, Outlet}
use Rattle.zs_driving.specs.Languages.{text_of, events_of, rules_of}
use Rattle.zs_core.specs.Types.{Settings}
use Rattle.zs_session_cell.specs.Core.{StandsFor}
use Rattle.zs_events.specs.declared.event.Event.TheVariants.{Close}
use Rattle.zs_events.specs.declared.turn.Turn.{Turn}
use Rattle.zs_core.specs.World.{World as Tables}
use Rattle.zs_delivery.specs.declared.side.LinkSide.TheVariants.{A, B}
use Rattle.zs_delivery.specs.Linked.{LinkLine, Take, linked_after, with_line}
use Rattle.zs_link.specs.World.{LinkSeen, StandAs, AreNew, Takes, turn_for}
use Rattle.zs_link.specs.Mode.{link_line, link_language, line_text, end_text, side_text, link_task, Goes}
use Rattle.zs_link.specs.Machine.{IsBehind, TakesLine, TakesEnd}
use Rattle.zs_link.specs.declared.mode.LinkMachine.{LinkMachine}

module _ (machine : LinkMachine) (r : Rules) (h : List (List ℕ)) (number : ℕ) (before after : List ℕ) (behind : IsBehind machine r h) (number_is : number ≡ length h + 1) where
  pub took_text : (new : LinkSeen) (row : List ℕ) → is_some (link_line row) ≡ true → IfSome (link_line row) (λ said. TakesLine said number machine.world new before after)
      → after ≡ before ++ r.line_text h row
  took_text new row taken takes =
      let l = link_language behind.settings in
      let es = events_of l h in
      let place : number ≡ length es + 1 = number_is ∙ ap (λ (n : ℕ). n + 1) (sym behind.each) in
      go (link_line row) taken takes ∙ ap (λ (rules : Rules). before ++ rules.line_text h row) (sym behind.rules)
    where
      go : (o : Option LinkLine) → is_some o ≡ true → IfSome o (λ said. TakesLine said number machine.world new before after)
          → after ≡ before ++ text_of (link_language behind.settings) (events_of (link_language behind.settings) h) o
      go None so takes = cc
      go (Some said) so takes =
          takes.text behind.settings (linked_after behind.settings (events_of (link_language behind.settings) h)) behind.stands
          ∙ ap (λ (n : ℕ). before ++ line_text behind.settings n (linked_after behind.settings (events_of (link_language behind.settings) h)) said)
          (number_is ∙ ap (λ (n : ℕ). n + 1) (sym behind.each))

  pub took_on : (new : LinkMachine) (row : List ℕ) → is_some (link_line row) ≡ true → IfSome (link_line row) (λ said. TakesLine said number machine.world new.world before after)
      → IsBehind new r (row ∷ h)
  took_on new row taken takes = go (link_line row) refl taken takes
    where
      go : (o : Option LinkLine) → link_line row ≡ o → is_some o ≡ true → IfSome o (λ said. TakesLine said number machine.world new.world before after) → IsBehind new r (row ∷ h)
      go None is so takes = cc
      go (Some said) is so takes =
          let l = link_language behind.settings in
          let more : events_of l (row ∷ h) ≡ said ∷ events_of l h = rw is refl in
          record {
            settings = behind.settings;
            rules = behind.rules;
            each = ap length more ∙ ap (λ (n : ℕ). suc n) behind.each;
            stands =
                subst (λ (es : List LinkLine). StandAs new.world behind.settings (linked_after behind.settings es)) (sym more)
                (takes.stands behind.settings (linked_after behind.settings (events_of l h)) behind.stands);
          }

  pub took_end : TakesEnd number machine.world before after → after ≡ before ++ r.end_text h
  took_end takes =
      takes behind.settings (linked_after behind.settings (events_of (link_language behind.settings) h)) behind.stands
      ∙ ap (λ (n : ℕ). before ++ end_text behind.settings n (linked_after behind.settings (events_of (link_language behind.settings) h)))
      (number_is ∙ ap (λ (n : ℕ). n + 1) (sym behind.each))
      ∙ ap (λ (rules : Rules). before ++ rules.end_text h) (sym behind.rules)

-- both sides closed, the first before the second
pub takes_end : (number : ℕ) (before after : List ℕ) (old between new : LinkSeen) (first second : Turn) → Takes A Close old first between → Takes B Close between second new
    → after ≡ before ++ (side_text number A first ++ side_text number B second) → TakesEnd number old before after
takes_end number before after old between new first second one two is s w stand =
    let a = one s w stand in
    let b = two s (with_line s (Take A Close) w) a.1 in
    is
    ∙ ap (λ (turn : Turn). before ++ (side_text number A turn ++ side_text number B second)) a.0
    ∙ ap (λ (turn : Turn). before ++ (side_text number A (turn_for s A w Close) ++ side_text number B turn)) b.0

pub on_ok : {T E : Type 0} (r : Result T E) (P Q : Type 0) → (P → Q) → OnOk r P → OnOk r Q
on_ok (Ok x) P Q f p = f p
on_ok (Err e) P Q f p = tt

-- two new sessions stand behind no lines
pub settings_are : (w : Tables) (s : Settings) → StandsFor w s [] → w.settings ≡ s
unfolding StandsFor
settings_are w s stands = ap (λ (x : Tables). x.settings) stands

pub behind_none : (machine : LinkMachine) (s : Settings) → AreNew machine.world s → IsBehind machine (rules_of (link_language machine.world.a.world.settings)) []
behind_none machine s new = record {
  settings = s;
  rules = ap (λ (t : Settings). rules_of (link_language t)) (settings_are machine.world.a.world s new.a.stands);
  each = refl;
  stands = new;
}

-- a run by the rules of one of two equal settings is one by those of the other
pub drives_link : (s t : Settings) (r : Result Driven DriveError) (before after : Supply) (from to : Outlet) (Puts : List ℕ → Type 0) → t ≡ s
    → Drives (task_of (λ row. is_some (link_line row)) (rules_of (link_language t)) s.line_max s.turns) Goes r before after from to Puts
    → Drives (link_task s) Goes r before after from to Puts
drives_link s t r before after from to Puts same drives =
    subst (λ (x : Settings). Drives (task_of (λ row. is_some (link_line row)) (rules_of (link_language x)) s.line_max s.turns) Goes r before after from to Puts) same drives
