use Rattle.std.proofs.Common.{◌-◌, refl, map, sym, ap, ◌∙◌, subst}
use Rattle.std.specs.Map.{remove_entry}
use Rattle.zs_members.specs.Members.{lowered, member_of}
use Rattle.zs_members.proofs.Counting.{more_left}
use Rattle.zs_members.proofs.Mapped.{AreSome, is_text, put_less, put_same, take_last, take_none, some_set, some_removed, is_more, is_last}
use Rattle.zs_members.proofs.view.View.lower.Goals as goal

pub returns-in_default : goal.returns-in_default
returns-in_default c =
    ap (λ m. map member_of m.entries) c.get_mut.follows.holds-at-none
    ∙ (sym (take_none c.args.name.now c.self.inside.counts.entries (sym c.in_default.ensures.value))
    ∙ ap (lowered c.args.name.now) c.self.view_is)

pub invariant_of-self-then-count-gt1 : goal.invariant_of-self-then-count-gt1
invariant_of-self-then-count-gt1 c =
    let old = c.in-Some.count.now in
    subst AreSome (sym (c.get_mut.follows.holds (old - 1)).0)
    (some_set c.args.name.now (old - 1) c.self.inside.counts.entries c.self.invariant (more_left old (is_more old c.if-count-gt1.true)))

pub returns-then-count-gt1 : goal.returns-then-count-gt1
returns-then-count-gt1 c =
    let old = c.in-Some.count.now in
    ap (map member_of) (c.get_mut.follows.holds (old - 1)).0
    ∙ (put_less c.args.name.now old (old - 1) c.self.inside.counts.entries (sym c.in-Some.ensures.value) (is_more old c.if-count-gt1.true) refl
    ∙ ap (lowered c.args.name.now) c.self.view_is)

pub invariant_of-self-2 : goal.invariant_of-self-2
invariant_of-self-2 c =
    let old = c.in-Some.count.now in
    let rows = c.self.inside.counts.entries in
    let same = (c.get_mut.follows.holds old).0 ∙ put_same c.args.name.now old rows (sym c.in-Some.ensures.value) in
    subst AreSome (sym c.remove.ensures.entries) (some_removed c.args.name.now _ (subst AreSome (sym same) c.self.invariant))

pub returns : goal.returns
returns c =
    let old = c.in-Some.count.now in
    let name = c.args.name.now in
    let rows = c.self.inside.counts.entries in
    let there = sym c.in-Some.ensures.value in
    let same = (c.get_mut.follows.holds old).0 ∙ put_same name old rows there in
    ap (map member_of) (c.remove.ensures.entries ∙ ap (remove_entry (is_text name)) same)
    ∙ (take_last name old rows there (is_last old c.if-count-gt1.false)
    ∙ ap (lowered name) c.self.view_is)
