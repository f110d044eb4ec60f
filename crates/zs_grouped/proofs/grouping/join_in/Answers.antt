use Rattle.std.proofs.Common.{List, String, Global, refl, ap, sym, subst, ◌∙◌, arith}
use Rattle.std.proofs.lemmas.Bool.Decides.{nat_tests}
use Rattle.std.specs.Prelude.{map}
use Rattle.std.specs.BTreeMap.{BTreeMap, insert_entry}
use Rattle.zs_grouped.specs.declared.group_row.GroupRow.{GroupRow}
use Rattle.zs_grouped.specs.Grouped.{grouped, AreGroups}
use Rattle.zs_grouped.proofs.GroupLemmas.{key_cmp, on_ok, on_err, group_there, group_absent, joins, makes, same_groups, kept_some, placed_some}
use Rattle.zs_grouped.proofs.grouping.join_in.Goals as goal

pub returns-in-Some-clause-first : goal.returns-in-Some-clause-first
returns-in-Some-clause-first c = rw (group_there c.args.text.now c.in-Some.row.now c.args.rows.now.entries c.in-Some.ensures.value) c.push_member.ensures.first

pub returns-in-Some-clause-ok : goal.returns-in-Some-clause-ok
returns-in-Some-clause-ok c =
    let new = c.push_member.new.row in
    on_ok c.push_member.result (λ is. ap (map grouped) (c.get_mut.follows.holds new).0 ∙ joins c.args.text.now c.args.id c.in-Some.row.now new c.args.rows.now.entries c.len-in_order.ensures.ordered c.in-Some.ensures.value is) c.push_member.ensures.ok

pub returns-in-Some-clause-err : goal.returns-in-Some-clause-err
returns-in-Some-clause-err c =
    let new = c.push_member.new.row in
    on_err c.push_member.result (λ is. ap (map grouped) (c.get_mut.follows.holds new).0 ∙ same_groups c.args.text.now c.in-Some.row.now new c.args.rows.now.entries c.in-Some.ensures.value is) c.push_member.ensures.err

pub returns-in-Some-clause-members : goal.returns-in-Some-clause-members
returns-in-Some-clause-members c =
    let new = c.push_member.new.row in
    rw (c.get_mut.follows.holds new).0 (kept_some c.push_member.result c.args.text.now c.args.id c.in-Some.row.now new c.args.rows.now.entries c.push_member.ensures.ok c.push_member.ensures.err c.requires c.in-Some.ensures.value)

pub returns-clause-first : goal.returns-clause-first
returns-clause-first c = rw (group_absent c.args.text.now c.args.rows.now.entries c.in_default.ensures.value) refl

pub returns-clause-ok : goal.returns-clause-ok
returns-clause-ok c =
    let key = c.in_ok-key.key in
    let row = c.in_ok-row.row in
    let put = c.in_ok-insert.ensures.entries ∙ ap (λ (rows : BTreeMap (String Global) GroupRow). insert_entry key_cmp rows.entries key row) c.get_mut.follows.holds-at-none in
    ap (map grouped) put ∙ makes key c.args.text.now c.args.id row c.args.rows.now.entries c.in_ok-key.ensures.ok c.in_default.ensures.value c.in_ok-row.ensures.number c.in_ok-row.ensures.members

pub returns-clause-members : goal.returns-clause-members
returns-clause-members c =
    let key = c.in_ok-key.key in
    let row = c.in_ok-row.row in
    let put = c.in_ok-insert.ensures.entries ∙ ap (λ (rows : BTreeMap (String Global) GroupRow). insert_entry key_cmp rows.entries key row) c.get_mut.follows.holds-at-none in
    subst (λ (es : List (String Global × GroupRow)). AreGroups es) (sym put)
    (placed_some key row c.args.rows.now.entries c.requires (rw c.in_ok-row.ensures.members (grind (arith, nat_tests))))
