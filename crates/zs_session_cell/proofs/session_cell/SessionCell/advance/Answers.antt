use Rattle.std.proofs.Common.{◌≡◌, ◌++◌, ◌∷◌, [], length, map, ap, ◌∙◌, Err}
use Rattle.std.specs.Prelude.{option_map}
use Rattle.std.specs.Arc.{arc_value}
use Rattle.zs_posts.specs.Calls.{call_seen}
use Rattle.zs_posts.proofs.Changes.{why_out}
use Rattle.zs_session_cell.proofs.Naming.{entry_of}
use Rattle.zs_session_cell.proofs.Taking.{takes_at, full_at, journal_now, kept_now, advances, overdrawn_in}
use Rattle.zs_session_cell.proofs.session_cell.SessionCell.advance.Goals as goal

pub returns-in-Err-take-clause-full : goal.returns-in-Err-take-clause-full
returns-in-Err-take-clause-full g c = λ e.
    let journal = c.self.inside.journal.items in
    overdrawn_in c.self.inside.settings journal journal c.self.inside.cell c.args.event.now (option_map arc_value c.args.handler.now) c.self.invariant c.args.self.now c.self.view_is
    (full_at c.get.ensures (ap length (c.as_slice.ensures.value ∙ c.in-Ok-reserve.ensures.items)) (c.in-Err-take.ensures.full (ap Err (why_out e))))

pub invariant_of-self-2 : goal.invariant_of-self-2
invariant_of-self-2 g c =
    let journal = c.self.inside.journal.items in
    let taken = c.in-Ok-take.taken in
    let items = c.push_reserved.new.self.items in
    let longer : items ≡ journal ++ entry_of c.args.event.now taken.turn ∷ [] = journal_now journal c.reserve.new.self.items items c.args.event.now c.in-Ok.kept taken.turn taken.copy c.in-Ok-reserve.ensures.items c.push_reserved.ensures.items c.in-Ok.ensures c.in-Ok-take.ensures.copy in
    kept_now c.self.inside.settings journal items c.self.inside.cell c.args.event.now (option_map arc_value c.args.handler.now) c.self.invariant c.take.new.self taken.turn (map call_seen taken.hands.calls.items) longer
    (takes_at c.get.ensures (ap length (c.as_slice.ensures.value ∙ c.in-Ok-reserve.ensures.items)) c.in-Ok-take.ensures.ok)

pub returns-clause-ok : goal.returns-clause-ok
returns-clause-ok g c =
    let journal = c.self.inside.journal.items in
    let taken = c.in-Ok-take.taken in
    let items = c.push_reserved.new.self.items in
    let longer : items ≡ journal ++ entry_of c.args.event.now taken.turn ∷ [] = journal_now journal c.reserve.new.self.items items c.args.event.now c.in-Ok.kept taken.turn taken.copy c.in-Ok-reserve.ensures.items c.push_reserved.ensures.items c.in-Ok.ensures c.in-Ok-take.ensures.copy in
    advances c.self.inside.settings journal items c.self.inside.cell c.args.event.now (option_map arc_value c.args.handler.now) c.self.invariant c.take.new.self taken.turn (map call_seen taken.hands.calls.items) c.args.self.now c.self.view_is longer
    (takes_at c.get.ensures (ap length (c.as_slice.ensures.value ∙ c.in-Ok-reserve.ensures.items)) c.in-Ok-take.ensures.ok)
