-- What two sides stand for behind one step more.
use Rattle.std.proofs.Common.{◌≡◌, ◌+◌, ◌<◌, ℕ, suc, arith, List, [], ◌∷◌, ◌++◌, Bool, true, false, refl, sym, ◌∙◌, ap, subst, length, take, get_or}
use Rattle.std.specs.Prelude.{if◌then◌else◌, Result, Ok, Err, OnOk}
use Rattle.std.specs.String.{string_bytes}
use Rattle.zs_wire.specs.declared.message.Message.{Message}
use Rattle.zs_events.specs.declared.event.Event.{Event}
use Rattle.zs_events.specs.declared.event.Event.TheVariants.{Net}
use Rattle.zs_events.specs.declared.turn.Turn.{Turn}
use Rattle.zs_core.specs.Types.{Settings}
use Rattle.zs_session_cell.specs.Core.{turn_at}
use Rattle.zs_delivery.specs.declared.side.LinkSide.{LinkSide}
use Rattle.zs_delivery.specs.declared.side.LinkSide.TheVariants.{A, B}
use Rattle.zs_delivery.specs.Linked.{Side, LinkLine, Take, Deliver, other, is_event, with_event, with_oldest, linked_after}
use Rattle.zs_link.specs.declared.world.Delivered.{Delivered}
use Rattle.zs_link.specs.declared.world.Delivered.TheVariants.{Nothing, Dropped, Taken}
use Rattle.zs_link.specs.World.{LinkSeen, StandAs, Takes, Delivers, delivered_of, delivery_from, waiting_of}
use Rattle.zs_group_lines.specs.declared.membership.Membership.{Membership}
use Rattle.zs_group_lines.specs.Membership.{hears, noted}
use Rattle.zs_groups.specs.declared.sides.Sides.{Sides}
use Rattle.zs_groups.specs.Told.{Told, kept, membership_at, opposite, with_link, with_text, next_turn, with_many, waiting_at}
use Rattle.zs_groups.specs.Sides.{AreBehind, AreTold, Becomes, member_in, noted_in, heard_delivered, TakesEvent, DeliversOldest}

-- a side took an event, and its membership noted that
pub takes_event : (side : LinkSide) (e : Event) (old new : Sides) (world : LinkSeen) (turn : Turn) → Takes side e old.world turn world
    → new ≡ noted_in side e turn (record old { world = world }) → TakesEvent side e old turn new
takes_event A e old new world turn takes is s t told =
    let step = takes s (linked_after s t.links) told.behind.world in (
      step.0,
      subst (λ (x : Sides). AreTold x s (with_link (Take A e) t)) (sym is) (record {
        behind = record {
          world = step.1;
          a = ap (noted e turn) told.behind.a ∙ ap (λ (now : Turn). noted e now (membership_at s A t.links)) step.0;
          b = told.behind.b;
        };
        text = told.text;
      }),
    )
takes_event B e old new world turn takes is s t told =
    let step = takes s (linked_after s t.links) told.behind.world in (
      step.0,
      subst (λ (x : Sides). AreTold x s (with_link (Take B e) t)) (sym is) (record {
        behind = record {
          world = step.1;
          a = told.behind.a;
          b = ap (noted e turn) told.behind.b ∙ ap (λ (now : Turn). noted e now (membership_at s B t.links)) step.0;
        };
        text = told.text;
      }),
    )

-- a membership behind a delivery
abbrev member_after : Delivered → Membership → Membership
member_after Nothing m = m
member_after Dropped m = m
member_after (Taken turn) m = hears turn.effects m

kept_oldest : (t : Settings) (ms : List Message) (y : Side) → kept t (with_oldest t ms y).history ≡ member_after (delivered_of t ms y.history) (kept t y.history)
kept_oldest t [] y = refl
kept_oldest t (m ∷ ms) y = go (is_event m)
  where
    go : (e : Bool) → kept t (if e then with_event t (Net m) y else y).history ≡ member_after (if e then Taken (turn_at t y.history (Net m)) else Dropped) (kept t y.history)
    go true = refl
    go false = refl

told_b : (d : Delivered) (x : Sides) (s : Settings) (t : Told) → StandAs x.world s (linked_after s t.links) → x.a ≡ membership_at s A t.links
    → member_after d x.b ≡ membership_at s B t.links → string_bytes x.printed ≡ t.text → AreTold (heard_delivered B d x) s t
told_b Nothing x s t w a b text = record { behind = record { world = w; a = a; b = b }; text = text }
told_b Dropped x s t w a b text = record { behind = record { world = w; a = a; b = b }; text = text }
told_b (Taken turn) x s t w a b text = record { behind = record { world = w; a = a; b = b }; text = text }

told_a : (d : Delivered) (x : Sides) (s : Settings) (t : Told) → StandAs x.world s (linked_after s t.links) → member_after d x.a ≡ membership_at s A t.links
    → x.b ≡ membership_at s B t.links → string_bytes x.printed ≡ t.text → AreTold (heard_delivered A d x) s t
told_a Nothing x s t w a b text = record { behind = record { world = w; a = a; b = b }; text = text }
told_a Dropped x s t w a b text = record { behind = record { world = w; a = a; b = b }; text = text }
told_a (Taken turn) x s t w a b text = record { behind = record { world = w; a = a; b = b }; text = text }

-- the oldest message of a side was delivered, and the membership of the other heard what that handed to it
pub delivers_oldest : (from : LinkSide) (old new : Sides) (world : LinkSeen) (d : Delivered) → Delivers from old.world d world
    → new ≡ heard_delivered (opposite from) d (record old { world = world }) → DeliversOldest from old d new
delivers_oldest A old new world d delivers is s t told =
    let w = linked_after s t.links in
    let step = delivers s w told.behind.world in (
      step.0,
      subst (λ (x : Sides). AreTold x s (with_link (Deliver A) t)) (sym is)
          (told_b d (record old { world = world }) s (with_link (Deliver A) t) step.1 told.behind.a
          (ap (member_after d) told.behind.b ∙ ap (λ (now : Delivered). member_after now (membership_at s B t.links)) step.0 ∙ sym (kept_oldest (other s) w.a.waiting w.b)) told.text),
    )
delivers_oldest B old new world d delivers is s t told =
    let w = linked_after s t.links in
    let step = delivers s w told.behind.world in (
      step.0,
      subst (λ (x : Sides). AreTold x s (with_link (Deliver B) t)) (sym is)
          (told_a d (record old { world = world }) s (with_link (Deliver B) t) step.1
          (ap (member_after d) told.behind.a ∙ ap (λ (now : Delivered). member_after now (membership_at s A t.links)) step.0 ∙ sym (kept_oldest s w.b.waiting w.a)) told.behind.b told.text),
    )

-- one step behind another
pub then_becomes : (f g : Settings → Told → Told) (old mid new : Sides) → Becomes f old mid → Becomes g mid new → Becomes (λ s t. g s (f s t)) old new
then_becomes f g old mid new one two s t told = two s (f s t) (one s t told)

-- a text was printed
pub prints : (text : List ℕ) (old new : Sides) → new ≡ record old { printed = new.printed } → string_bytes new.printed ≡ string_bytes old.printed ++ text
    → Becomes (λ s t. with_text text t) old new
prints text old new rest is s t told = record {
  behind = subst (λ (x : Sides). AreBehind x s t.links) (sym rest) (record { world = told.behind.world; a = told.behind.a; b = told.behind.b });
  text = is ∙ ap (λ (before : List ℕ). before ++ text) told.text;
}

-- an event was taken, and what was made of its turn
pub takes_then : (side : LinkSide) (e : Event) (f : Settings → Turn → Told → Told) (old mid new : Sides) (turn : Turn) → TakesEvent side e old turn mid
    → Becomes (λ s t. f s turn t) mid new → Becomes (λ s t. f s (next_turn s side e t) (with_link (Take side e) t)) old new
takes_then side e f old mid new turn takes becomes s t told =
    let step = takes s t told in
    subst (λ (made : Turn). AreTold new s (f s made (with_link (Take side e) t))) step.0 (becomes s (with_link (Take side e) t) step.1)

-- an event was taken, and nothing of it is told
pub takes_alone : (side : LinkSide) (e : Event) (old new : Sides) (turn : Turn) → TakesEvent side e old turn new → Becomes (λ s t. with_link (Take side e) t) old new
takes_alone side e old new turn takes s t told = (takes s t told).1

-- a message was delivered, and what was made of that
pub delivers_then : (from : LinkSide) (f : Settings → Delivered → Told → Told) (old mid new : Sides) (d : Delivered) → DeliversOldest from old d mid
    → Becomes (λ s t. f s d t) mid new → Becomes (λ s t. f s (delivery_from s from (linked_after s t.links)) (with_link (Deliver from) t)) old new
delivers_then from f old mid new d delivers becomes s t told =
    let step = delivers s t told in
    subst (λ (made : Delivered). AreTold new s (f s made (with_link (Deliver from) t))) step.0 (becomes s (with_link (Deliver from) t) step.1)

pub on_ok : {T E : Type 0} (r : Result T E) (P Q : Type 0) → (P → Q) → OnOk r P → OnOk r Q
on_ok (Ok x) P Q f p = f p
on_ok (Err e) P Q f p = tt

-- the membership of a side is what its history left
pub member_is : (side : LinkSide) (x : Sides) (s : Settings) (links : List LinkLine) → AreBehind x s links → member_in side x ≡ membership_at s side links
member_is A x s links behind = behind.a
member_is B x s links behind = behind.b

-- one message more was delivered
pub many_more : (from : LinkSide) (n : ℕ) (t : Told) → with_many from (n + 1) t ≡ with_link (Deliver from) (with_many from n t)
many_more from n t = ap (λ (k : ℕ). with_many from k t) (one_behind n)
  where
    one_behind : (n : ℕ) → n + 1 ≡ suc n
    one_behind n = omega arith

-- how many messages of a side wait is what its history left
pub waiting_is : (from : LinkSide) (x : Sides) (s : Settings) (links : List LinkLine) → AreBehind x s links → length (waiting_of from x.world) ≡ waiting_at s from links
waiting_is A x s links behind = ap length behind.world.a.waits
waiting_is B x s links behind = ap length behind.world.b.waits
