use Rattle.std.proofs.Common.{◌≡◌, List, map, sym, ap, subst, Err}
use Rattle.std.specs.Prelude.{option_map}
use Rattle.std.specs.Arc.{arc_value}
use Rattle.zs_events.specs.declared.turn.Turn.{Turn}
use Rattle.zs_posts.specs.Calls.{CallSeen, call_seen}
use Rattle.zs_posts.proofs.Changes.{why_out}
use Rattle.zs_turns.specs.declared.item.Item.{Item}
use Rattle.zs_exchange.specs.Exchange.{Carries, Overdrawn}
use Rattle.zs_exchange.specs.Handlers.{NoneHeld}
use Rattle.zs_exchange.proofs.Carrying.{carried, none_full}
use Rattle.zs_exchange.proofs.Undoing.{are_of_room, may_settle}
use Rattle.zs_session_cell.specs.Cells.{CellSeen, Takes, IsFull}
use Rattle.zs_session_cell.proofs.Taking.{takes, is_full, takes_lents, takes_none, takes_gates, takes_bare, takes_room, no_calls}
use Rattle.zs_session_cell.proofs.state.CellState.take.Goals as goal

pub returns-in-Err-clause-full : goal.returns-in-Err-clause-full
returns-in-Err-clause-full g c = λ e.
    let handler = option_map arc_value c.args.handler.now in
    let x = c.self.inside.exchange in
    let drawn : Overdrawn c.args.event.now c.in-Ok.planned.turn handler c.args.place x = subst (λ (t : Turn). Overdrawn c.args.event.now t handler c.args.place x) c.get.ensures (c.in-Err.ensures.full (ap Err (why_out e))) in
    subst (λ (s : CellSeen g.row.H.Denot). IsFull c.args.event.now handler c.args.place s) c.self.view_is (is_full c.in-Ok.ensures.plans handler c.args.place x drawn)

pub returns-in-Err-clause-held : goal.returns-in-Err-clause-held
returns-in-Err-clause-held g c = λ e none.
    let handler = option_map arc_value c.args.handler.now in
    let x = c.self.inside.exchange in
    none_full c.args.event.now c.get.result.now handler c.args.place x (subst (λ (s : CellSeen g.row.H.Denot). NoneHeld handler s.exchange.posts) (sym c.self.view_is) none) (c.in-Err.ensures.full (ap Err (why_out e)))

pub undo-requires-clause-of_room : goal.undo-requires-clause-of_room
undo-requires-clause-of_room g c = are_of_room c.in-Ok-prepare.ensures.ok.begins

pub returns-in-Ok-apply-clause-ok : goal.returns-in-Ok-apply-clause-ok
returns-in-Ok-apply-clause-ok g c =
    let handler = option_map arc_value c.args.handler.now in
    let e = c.args.event.now in
    let place = c.args.place in
    let x = c.self.inside.exchange in
    let now = c.finish-hands.new.self in
    let turn = c.in-Ok.planned.turn in
    let calls = map call_seen c.in-Ok-prepare.made.calls.items in
    let first = carried c.in-Ok-prepare.ensures.ok now c.finish-hands.ensures.ends in
    let carries : Carries e turn handler place x calls now = subst (λ (t : Turn). Carries e t handler place x calls now) c.get.ensures first in
    let all = map call_seen c.finish-hands.result.calls.items in
    let same : calls ≡ all = sym (ap (λ cs. map call_seen cs.items) c.finish-hands.ensures.calls) in
    let carried_all : Carries e turn handler place x all now = subst (λ (cs : List (CallSeen g.row.H.Denot Item)). Carries e turn handler place x cs now) same carries in
    subst (λ (s : CellSeen g.row.H.Denot). Takes e handler place s turn all (record { world = c.apply.new.self; exchange = now })) c.self.view_is
    (takes c.in-Ok.ensures.plans handler place x now all c.apply.new.self c.in-Ok-apply.ensures.ok carried_all)

pub returns-in-Ok-apply-clause-lents : goal.returns-in-Ok-apply-clause-lents
returns-in-Ok-apply-clause-lents g c = takes_lents (returns-in-Ok-apply-clause-ok g c)

pub returns-in-Ok-apply-clause-none : goal.returns-in-Ok-apply-clause-none
returns-in-Ok-apply-clause-none g c = λ none. no_calls call_seen c.finish-hands.result.calls.items (takes_none (returns-in-Ok-apply-clause-ok g c) none)

pub returns-in-Ok-apply-clause-gates : goal.returns-in-Ok-apply-clause-gates
returns-in-Ok-apply-clause-gates g c = λ none. takes_gates (returns-in-Ok-apply-clause-ok g c) none

pub returns-in-Ok-apply-clause-waiting : goal.returns-in-Ok-apply-clause-waiting
returns-in-Ok-apply-clause-waiting g c = λ none all. takes_bare (returns-in-Ok-apply-clause-ok g c) none all

pub returns-in-Ok-apply-clause-room : goal.returns-in-Ok-apply-clause-room
returns-in-Ok-apply-clause-room g c = takes_room (returns-in-Ok-apply-clause-ok g c)
