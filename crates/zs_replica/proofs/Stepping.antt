-- The lines of a run are steps of two linked stores, and what is printed of gets is what these hand them.
use Rattle.std.proofs.Common.{◌≡◌, ℕ, ◌+◌, zero, suc, Bool, true, false, List, [], ◌∷◌, ◌++◌, length, Some, None, refl, sym, ◌∙◌, ap, subst}
use Rattle.std.specs.Prelude.{codes, decimal, if◌then◌else◌}
use Rattle.std.specs.List.{AllByRecursion}
use Rattle.std.proofs.lemmas.List.{append_assoc}
use Rattle.zs_wire.specs.declared.message.Message.{Message}
use Rattle.zs_events.specs.declared.event.Event.{Event}
use Rattle.zs_events.specs.declared.event.Event.TheVariants.{Net}
use Rattle.zs_events.specs.declared.turn.Effect.{Effect}
use Rattle.zs_events.specs.declared.turn.Turn.{Turn}
use Rattle.zs_core.specs.Types.{Settings}
use Rattle.zs_core.specs.Received.{AreSpelled}
use Rattle.zs_session_cell.specs.Core.{turn_at}
use Rattle.zs_driving.specs.Languages.{events_of}
use Rattle.zs_delivery.specs.declared.side.LinkSide.{LinkSide}
use Rattle.zs_delivery.specs.declared.side.LinkSide.TheVariants.{A, B}
use Rattle.zs_delivery.specs.Linked.{LinkLine, Take, Deliver, other, is_event, linked_after}
use Rattle.zs_link.specs.declared.world.Delivered.TheVariants.{Dropped, Taken}
use Rattle.zs_link.specs.World.{turn_for, delivered_of}
use Rattle.zs_store.specs.Store.{Write}
use Rattle.zs_keeping.specs.Answering.{answers_to}
use Rattle.zs_printing.specs.Printing.{line, answer_fields}
use Rattle.zs_replica_lines.specs.declared.line.ReplicaLine.TheVariants.{Take as take_line, Refuse, Dump}
use Rattle.zs_replica_lines.specs.Lines.{all_keys}
use Rattle.zs_replica_lines.specs.Shown.{effect_text, ends_text}
use Rattle.zs_replicas.specs.Replicas.{Starts, first_events}
use Rattle.zs_replica_gets.specs.Steps.{Step, Moves, actor, brought, all_taken, all_brought, behind, brought_by, oldest_event, with_step, step_effects, links_after, AreReplicaSteps, store_at as its_store}
use Rattle.zs_replica.specs.Told.{Told, answerer, letter, opposite, store_at, with_text, with_link, next_turn, with_taken, with_all, with_effects_told, with_said, with_delivered, with_oldest, with_many, waiting_at}
use Rattle.zs_replica.specs.Language.{Said, To, Move, replica_language, with_line, links_behind}
use Rattle.zs_replica_gets.specs.Gets.{Answers, GetsHandTheNewest, RequestsAreAnswered}
use Rattle.zs_replica.specs.Gets.{moves, steps_of, steps_behind, head_text, steps_text, GetsGo, Prints, GetsShowNewest, LinesPrintGets}
use Rattle.zs_replica.proofs.Dumps.{same_effects, same_kept, keys_utf8}
use Rattle.zs_replica.proofs.Saying.{IsSaid, all_said}

-- the turn of a side's event brings about what the laws say
brings : (s : Settings) (side : LinkSide) (e : Event) (links : List LinkLine) → brought s side e links ≡ (turn_for s side (linked_after s links) e).effects
brings s A e links = same_effects s (linked_after s links).a.history e
brings s B e links = same_effects (other s) (linked_after s links).b.history e

same_store : (s : Settings) (side : LinkSide) (links : List LinkLine) → its_store s side links ≡ store_at s side links
same_store s A links = same_kept s (linked_after s links).a.history
same_store s B links = same_kept (other s) (linked_after s links).b.history

ends_both : (number : ℕ) (side : List ℕ) (xs ys : List Effect) → ends_text number side (xs ++ ys) ≡ ends_text number side xs ++ ends_text number side ys
ends_both number side [] ys = refl
ends_both number side (x ∷ xs) ys =
    ap (λ (rest : List ℕ). effect_text number side x ++ rest) (ends_both number side xs ys) ∙ sym (append_assoc (effect_text number side x) (ends_text number side xs) (ends_text number side ys))

-- what a side's events make of what is told
pub record Tells (t : Told) (links : List LinkLine) (text : List ℕ) : Type 0 where
  pub links_are : t.links ≡ links
  pub text_is : t.text ≡ text

all_tell : (s : Settings) (number : ℕ) (side : LinkSide) (es : List Event) (t : Told)
    → Tells (with_all s number side es t) (all_taken side es t.links) (t.text ++ ends_text number (letter side) (all_brought s side es t.links))
all_tell s number side [] t = record { links_are = refl; text_is = sym (nothing_more t.text) }
  where
    nothing_more : (xs : List ℕ) → xs ++ [] ≡ xs
    nothing_more [] = refl
    nothing_more (x ∷ xs) = ap (λ (rest : List ℕ). x ∷ rest) (nothing_more xs)
all_tell s number side (e ∷ es) t =
    let more = with_taken s number side e t in
    let rest = all_tell s number side es more in
    record {
      links_are = rest.links_are;
      text_is =
          rest.text_is
          ∙ ap (λ (fx : List Effect). (t.text ++ ends_text number (letter side) fx) ++ ends_text number (letter side) (all_brought s side es (Take side e ∷ t.links))) (sym (brings s side e t.links))
          ∙ append_assoc t.text (ends_text number (letter side) (brought s side e t.links)) (ends_text number (letter side) (all_brought s side es (Take side e ∷ t.links)))
          ∙ ap (λ (more : List ℕ). t.text ++ more) (sym (ends_both number (letter side) (brought s side e t.links) (all_brought s side es (Take side e ∷ t.links))));
    }

-- the same of an event's effects, and the answers to their queries
effects_tell : (s : Settings) (number : ℕ) (side : LinkSide) (fx : List Effect) (t : Told)
    → Tells (with_effects_told s number side fx t) (all_taken side (answers_to answerer (its_store s side t.links) fx) t.links)
    (t.text ++ ends_text number (letter side) (fx ++ all_brought s side (answers_to answerer (its_store s side t.links) fx) t.links))
effects_tell s number side fx t =
    let more = with_text (ends_text number (letter side) fx) t in
    subst (λ (store : List Write). Tells (with_effects_told s number side fx t) (all_taken side (answers_to answerer store fx) t.links)
    (t.text ++ ends_text number (letter side) (fx ++ all_brought s side (answers_to answerer store fx) t.links))) (sym (same_store s side t.links))
    (let all = all_tell s number side (answers_to answerer (store_at s side t.links) fx) more in
    record {
      links_are = all.links_are;
      text_is =
          all.text_is
          ∙ append_assoc t.text (ends_text number (letter side) fx) (ends_text number (letter side) (all_brought s side (answers_to answerer (store_at s side t.links) fx) t.links))
          ∙ ap (λ (more : List ℕ). t.text ++ more) (sym (ends_both number (letter side) fx (all_brought s side (answers_to answerer (store_at s side t.links) fx) t.links)));
    })

-- an event of a line
said_tells : (s : Settings) (number : ℕ) (side : LinkSide) (e : Event) (t : Told)
    → Tells (with_said s number side e t) (behind s side (Some e) (Take side e) t.links)
    (t.text ++ (line number (answer_fields (turn_for s side (linked_after s t.links) e).answer) ++ ends_text number (letter side) (brought_by s side (Some e) (Take side e) t.links)))
said_tells s number side e t =
    let turn = next_turn s side e t in
    let more = with_text (line number (answer_fields turn.answer)) (with_link (Take side e) t) in
    subst (λ (fx : List Effect). Tells (with_effects_told s number side turn.effects more) (all_taken side (answers_to answerer (its_store s side (Take side e ∷ t.links)) fx) (Take side e ∷ t.links))
    (t.text ++ (line number (answer_fields turn.answer) ++ ends_text number (letter side) (fx ++ all_brought s side (answers_to answerer (its_store s side (Take side e ∷ t.links)) fx) (Take side e ∷ t.links))))) (sym (brings s side e t.links))
    (let told = effects_tell s number side turn.effects more in
    record {
      links_are = told.links_are;
      text_is = told.text_is ∙ append_assoc t.text (line number (answer_fields turn.answer)) _;
    })

-- the oldest message
moved_tells : (s : Settings) (number : ℕ) (from : LinkSide) (t : Told)
    → Tells (with_oldest s number from t) (with_step s (Moves from) t.links) (t.text ++ ends_text number (letter (actor (Moves from))) (step_effects s (Moves from) t.links))
moved_tells s number from t = by_side from
  where
    nothing_more : (xs : List ℕ) → xs ≡ xs ++ []
    nothing_more [] = refl
    nothing_more (x ∷ xs) = ap (λ (rest : List ℕ). x ∷ rest) (nothing_more xs)

    taken : (from to : LinkSide) (e : Event) (turn : Turn) → brought s to e t.links ≡ turn.effects
        → Tells (with_effects_told s number to turn.effects (with_link (Deliver from) t)) (behind s to (Some e) (Deliver from) t.links) (t.text ++ ends_text number (letter to) (brought_by s to (Some e) (Deliver from) t.links))
    taken from to e turn is =
        subst (λ (fx : List Effect). Tells (with_effects_told s number to turn.effects (with_link (Deliver from) t)) (all_taken to (answers_to answerer (its_store s to (Deliver from ∷ t.links)) fx) (Deliver from ∷ t.links))
        (t.text ++ ends_text number (letter to) (fx ++ all_brought s to (answers_to answerer (its_store s to (Deliver from ∷ t.links)) fx) (Deliver from ∷ t.links)))) (sym is)
        (effects_tell s number to turn.effects (with_link (Deliver from) t))

    by_message : (from to : LinkSide) (r : Settings) (h : List Event) (waiting : List Message) → ((e : Event) → brought s to e t.links ≡ (turn_at r h e).effects) → opposite from ≡ to
        → Tells (with_delivered s number from (delivered_of r waiting h) (with_link (Deliver from) t)) (behind s to (oldest_event waiting) (Deliver from) t.links)
        (t.text ++ ends_text number (letter to) (brought_by s to (oldest_event waiting) (Deliver from) t.links))
    by_message from to r h [] is same = record { links_are = refl; text_is = nothing_more t.text }
    by_message from to r h (m ∷ later) is same = go (is_event m)
      where
        go : (b : Bool)
            → Tells (with_delivered s number from (if b then Taken (turn_at r h (Net m)) else Dropped) (with_link (Deliver from) t)) (behind s to (if b then Some (Net m) else None) (Deliver from) t.links)
            (t.text ++ ends_text number (letter to) (brought_by s to (if b then Some (Net m) else None) (Deliver from) t.links))
        go false = record { links_are = refl; text_is = nothing_more t.text }
        go true =
            subst (λ (x : LinkSide). Tells (with_effects_told s number x (turn_at r h (Net m)).effects (with_link (Deliver from) t)) (behind s to (Some (Net m)) (Deliver from) t.links)
            (t.text ++ ends_text number (letter to) (brought_by s to (Some (Net m)) (Deliver from) t.links))) (sym same)
            (taken from to (Net m) (turn_at r h (Net m)) (is (Net m)))

    by_side : (from : LinkSide)
        → Tells (with_oldest s number from t) (with_step s (Moves from) t.links) (t.text ++ ends_text number (letter (actor (Moves from))) (step_effects s (Moves from) t.links))
    by_side A = by_message A B (other s) (linked_after s t.links).b.history (linked_after s t.links).a.waiting (λ e. brings s B e t.links) refl
    by_side B = by_message B A s (linked_after s t.links).a.history (linked_after s t.links).b.waiting (λ e. brings s A e t.links) refl

-- so many messages, behind other steps
many_tell : (s : Settings) (number : ℕ) (from : LinkSide) (count : ℕ) (before : List Step) (t : Told) → t.links ≡ links_after s all_keys before
    → Tells (with_many s number from count t) (links_after s all_keys (moves count from ++ before)) (t.text ++ steps_text s number (moves count from) before)
many_tell s number from zero before t is = record { links_are = is; text_is = nothing_more t.text }
  where
    nothing_more : (xs : List ℕ) → xs ≡ xs ++ []
    nothing_more [] = refl
    nothing_more (x ∷ xs) = ap (λ (rest : List ℕ). x ∷ rest) (nothing_more xs)
many_tell s number from (suc n) before t is =
    let rest = many_tell s number from n before t is in
    let one = moved_tells s number from (with_many s number from n t) in
    record {
      links_are = one.links_are ∙ ap (with_step s (Moves from)) rest.links_are;
      text_is =
          one.text_is
          ∙ (λ i. rest.text_is i ++ ends_text number (letter (actor (Moves from))) (step_effects s (Moves from) (rest.links_are i)))
          ∙ append_assoc t.text (steps_text s number (moves n from) before) (ends_text number (letter (actor (Moves from))) (step_effects s (Moves from) (links_after s all_keys (moves n from ++ before))));
    }

-- a line, behind others
said_steps : (s : Settings) (h : List Said) (number : ℕ) (said : Said) → IsSaid said → links_behind s h ≡ links_after s all_keys (steps_behind s h)
    → Tells (with_line s number said (record { links = links_behind s h; text = [] })) (links_after s all_keys (steps_of s said (links_behind s h) ++ steps_behind s h))
    (head_text s number said (links_behind s h) ++ steps_text s number (steps_of s said (links_behind s h)) (steps_behind s h))
said_steps s h number (To side (take_line e)) said is =
    let step = said.2 side in
    let links = links_behind s h in
    let told = said_tells s number side e (record { links = links; text = [] }) in
    subst (λ (steps : List Step). Tells (with_said s number side e (record { links = links; text = [] })) (links_after s all_keys (steps ++ steps_behind s h))
    (line number (answer_fields (turn_for s side (linked_after s links) e).answer) ++ steps_text s number steps (steps_behind s h))) (sym step.alone)
    (record {
      links_are =
          told.links_are
          ∙ (λ i. behind s (sym step.acts i) (sym (step.takes s links) i) (sym step.line i) links)
          ∙ ap (with_step s step.step) is;
      text_is =
          told.text_is
          ∙ (λ i. line number (answer_fields (turn_for s side (linked_after s links) e).answer)
          ++ ends_text number (letter (sym step.acts i)) (brought_by s (sym step.acts i) (sym (step.takes s links) i) (sym step.line i) links))
          ∙ ap (λ (before : List LinkLine). line number (answer_fields (turn_for s side (linked_after s links) e).answer) ++ ends_text number (letter (actor step.step)) (step_effects s step.step before)) is;
    })
said_steps s h number (To side (Refuse refusal)) said is = record { links_are = is; text_is = sym (nothing_more _) }
  where
    nothing_more : (xs : List ℕ) → xs ++ [] ≡ xs
    nothing_more [] = refl
    nothing_more (x ∷ xs) = ap (λ (rest : List ℕ). x ∷ rest) (nothing_more xs)
said_steps s h number (To side Dump) said is = record { links_are = is; text_is = sym (nothing_more _) }
  where
    nothing_more : (xs : List ℕ) → xs ++ [] ≡ xs
    nothing_more [] = refl
    nothing_more (x ∷ xs) = ap (λ (rest : List ℕ). x ∷ rest) (nothing_more xs)
said_steps s h number (Move from) said is =
    many_tell s number from (waiting_at s from (links_behind s h)) (steps_behind s h)
    (record { links = links_behind s h; text = line number (codes "ok" ∷ decimal (waiting_at s from (links_behind s h)) ∷ []) }) is

-- all lines
pub steps_are : (s : Settings) (saids : List Said) → AllByRecursion IsSaid saids → links_behind s saids ≡ links_after s all_keys (steps_behind s saids)
steps_are s [] all = refl
steps_are s (said ∷ h) all = (said_steps s h (length h + 1) said all.0 (steps_are s h all.1)).links_are

pub prints : (s : Settings) (h : List Said) (said : Said) (number : ℕ) → IsSaid said → AllByRecursion IsSaid h → Prints s h said number
prints s h said number one all = (said_steps s h number said one (steps_are s h all)).text_is

-- the steps are those of stores
replica_append : (xs ys : List Step) → AreReplicaSteps all_keys xs → AreReplicaSteps all_keys ys → AreReplicaSteps all_keys (xs ++ ys)
replica_append [] ys first second = second
replica_append (x ∷ xs) ys first second = (first.0, replica_append xs ys first.1 second)

moves_replica : (n : ℕ) (from : LinkSide) → AreReplicaSteps all_keys (moves n from)
moves_replica zero from = tt
moves_replica (suc n) from = (tt, moves_replica n from)

replica_of : (s : Settings) (said : Said) (links : List LinkLine) → IsSaid said → AreReplicaSteps all_keys (steps_of s said links)
replica_of s (To side (take_line e)) links said = let step = said.2 side in subst (AreReplicaSteps all_keys) (sym step.alone) (step.replica, tt)
replica_of s (To side (Refuse refusal)) links said = tt
replica_of s (To side Dump) links said = tt
replica_of s (Move from) links said = moves_replica (waiting_at s from links) from

replica_steps : (s : Settings) (saids : List Said) → AllByRecursion IsSaid saids → AreReplicaSteps all_keys (steps_behind s saids)
replica_steps s [] all = tt
replica_steps s (said ∷ h) all = replica_append (steps_of s said (links_behind s h)) (steps_behind s h) (replica_of s said (links_behind s h) all.0) (replica_steps s h all.1)

replica_rest : (later before : List Step) → AreReplicaSteps all_keys (later ++ before) → AreReplicaSteps all_keys before
replica_rest [] before all = all
replica_rest (x ∷ later) before all = replica_rest later before all.1

module _ (law : GetsHandTheNewest) (requests : RequestsAreAnswered) (s : Settings) (aggregates : AreSpelled s) (first : Starts s all_keys (first_events all_keys)) (second : Starts (other s) all_keys (first_events all_keys))
    (first_answers : Answers s all_keys) (second_answers : Answers (other s) all_keys) where
  pub gets_go : (saids : List Said) → AllByRecursion IsSaid saids → GetsGo s saids
  gets_go saids all = record {
    links = steps_are s saids all;
    goes = λ later before step n is.
        law s all_keys before step n keys_utf8 aggregates first second first_answers second_answers
        (replica_rest later (step ∷ before) (subst (AreReplicaSteps all_keys) is (replica_steps s saids all)));
    answers = λ later before from request waiting number is.
        requests s all_keys before from request waiting number keys_utf8 aggregates first second first_answers second_answers
        (replica_rest later (Moves from ∷ before) (subst (AreReplicaSteps all_keys) is (replica_steps s saids all))).1;
  }

pub gets_show : GetsHandTheNewest → RequestsAreAnswered → GetsShowNewest
gets_show law requests s rows aggregates first second first_answers second_answers =
    gets_go law requests s aggregates first second first_answers second_answers (events_of (replica_language s) rows) (all_said s rows)

pub lines_print : LinesPrintGets
lines_print s row rows said number is =
    prints s (events_of (replica_language s) rows) said number (subst (AllByRecursion IsSaid) is (all_said s (row ∷ rows))).0 (all_said s rows)
