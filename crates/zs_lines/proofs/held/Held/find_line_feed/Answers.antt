use Rattle.std.proofs.Common.{arith, sym, ◌∙◌}
use Rattle.zs_lines.proofs.Cuts.{all_clear, none_on, some_on}
use Rattle.zs_lines.proofs.held.Held.find_line_feed.Goals as goal

pub invariant_of-self : goal.invariant_of-self
invariant_of-self c =
    let h = c.self.inside in
    let clear = all_clear h.bytes.items h.start h.searched (omega arith) (omega arith) (omega arith) (rw (c.behind.ensures, c.deref.ensures.value) at (sym c.in_default.is ∙ c.position_of.ensures)) in
    (omega arith, omega arith, omega arith)

pub returns-in_default-clause-place : goal.returns-in_default-clause-place
returns-in_default-clause-place c =
    let h = c.self.inside in
    let none = none_on h.bytes.items h.start h.searched (omega arith) (omega arith) (omega arith) (rw (c.behind.ensures, c.deref.ensures.value) at (sym c.in_default.is ∙ c.position_of.ensures)) in
    rw (sym c.self.view_is) none

pub returns-clause-place : goal.returns-clause-place
returns-clause-place c =
    let h = c.self.inside in
    let some = some_on h.bytes.items h.start h.searched c.in-Some.place (omega arith) (omega arith) (omega arith) (rw (c.behind.ensures, c.deref.ensures.value) at (sym c.in-Some.is ∙ c.position_of.ensures)) in
    rw (sym c.self.view_is) some
