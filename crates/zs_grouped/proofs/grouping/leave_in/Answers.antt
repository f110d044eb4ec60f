use Rattle.std.proofs.Common.{◌≡◌, Some, ap, sym, ◌∙◌}
use Rattle.std.specs.Prelude.{map, option_map}
use Rattle.zs_grouped.specs.declared.group_row.GroupRow.{GroupRow}
use Rattle.zs_grouped.specs.Grouped.{grouped}
use Rattle.zs_grouped.proofs.GroupLemmas.{have_not, left_none, left_some, left_last, left_has, with_others, written_some, removed_some, number_left_none, number_left_last, number_left_some}
use Rattle.zs_grouped.proofs.grouping.leave_in.Goals as goal

pub returns-in_default-clause-last : goal.returns-in_default-clause-last
returns-in_default-clause-last c = number_left_none c.args.text.now c.args.id c.args.rows.now.entries c.in_default.ensures.value

pub returns-in_default-clause-rows : goal.returns-in_default-clause-rows
returns-in_default-clause-rows c = left_none c.args.text.now c.args.id c.args.rows.now.entries c.requires (have_not c.args.text.now c.args.rows.now.entries c.in_default.ensures.value)

pub returns-then-is_alone-clause-last : goal.returns-then-is_alone-clause-last
returns-then-is_alone-clause-last c =
    c.number_of.ensures
    ∙ (ap (option_map (λ (row : GroupRow). row.number)) (c.remove.ensures.value ∙ sym c.in-Some.ensures.value)
    ∙ number_left_last c.args.text.now c.args.id c.in-Some.row.now c.args.rows.now.entries c.in-Some.ensures.value c.if-is_alone.ensures)

pub returns-then-is_alone-clause-rows : goal.returns-then-is_alone-clause-rows
returns-then-is_alone-clause-rows c =
    ap (map grouped) c.remove.ensures.entries ∙ left_last c.args.text.now c.args.id c.in-Some.row.now c.args.rows.now.entries c.len-in_order.ensures.ordered c.requires c.in-Some.ensures.value c.if-is_alone.ensures

pub returns-then-is_alone-clause-members : goal.returns-then-is_alone-clause-members
returns-then-is_alone-clause-members c = rw c.remove.ensures.entries (removed_some c.args.text.now c.args.rows.now.entries c.requires)

pub returns-clause-last : goal.returns-clause-last
returns-clause-last c = number_left_some c.args.text.now c.args.id c.in-Some.row.now c.args.rows.now.entries c.in-Some.ensures.value c.if-is_alone.ensures

pub returns-clause-rows : goal.returns-clause-rows
returns-clause-rows c =
    let row = c.in-Some-get_mut.row.now in
    let new = c.leave_row.new.row in
    let found = c.in-Some-get_mut.ensures.value in
    let once : Some c.in-Some.row.now ≡ Some row = c.in-Some.ensures.value ∙ sym found in
    ap (map grouped) (c.get_mut.follows.holds new).0
    ∙ left_some c.args.text.now c.args.id row new c.args.rows.now.entries c.len-in_order.ensures.ordered c.requires found c.leave_row.ensures (with_others c.args.id c.in-Some.row.now row once c.if-is_alone.ensures)

pub returns-clause-members : goal.returns-clause-members
returns-clause-members c =
    let row = c.in-Some-get_mut.row.now in
    let new = c.leave_row.new.row in
    let once : Some c.in-Some.row.now ≡ Some row = c.in-Some.ensures.value ∙ sym c.in-Some-get_mut.ensures.value in
    rw (c.get_mut.follows.holds new).0
    (written_some c.args.text.now new c.args.rows.now.entries c.requires (left_has c.args.id row new c.leave_row.ensures (with_others c.args.id c.in-Some.row.now row once c.if-is_alone.ensures)))
