use Rattle.std.proofs.Common.{◌≡◌, ◌+◌, ◌<◌, ℕ, Some, map, sym, ap, ◌∙◌, subst}
use Rattle.std.specs.Prelude.{unwrap_or}
use Rattle.zs_members.specs.Members.{count_of, raised, member_of}
use Rattle.zs_members.proofs.Mapped.{AreSome, count_row, ascend_rows, put_more, put_same, some_found, some_set, in_both, then_ok, then_err, still_some}
use Rattle.zs_members.proofs.view.View.raise.Goals as goal

pub add-requires : goal.add-requires
add-requires c =
    ap (λ m. count_of c.args.name.now (map member_of m.entries)) c.get_mut.follows.holds-at-none
    ∙ (sym (count_row c.args.name.now c.self.inside.counts.entries) ∙ ap (λ o. unwrap_or o 0) (sym c.in_default.ensures.value))

pub invariant_of-self-2 : goal.invariant_of-self-2
invariant_of-self-2 c =
    let rows = c.self.inside.counts.entries in
    let name = c.args.name.now in
    let old = c.in-Some.count.now in
    let new = c.raise_count.new.count in
    let some : 0 < old = some_found name old rows c.self.invariant (sym c.in-Some.ensures.value) in
    let now : 0 < new =
    in_both (new ≡ old + 1) (new ≡ old) (0 < new) c.raise_count.result c.raise_count.ensures.ok c.raise_count.ensures.err
    (still_some old new some) (λ same. subst (λ n. 0 < n) (sym same) some) in
    subst AreSome (sym (c.get_mut.follows.holds new).0) (some_set name new rows c.self.invariant now)

pub returns-clause-ok : goal.returns-clause-ok
returns-clause-ok c =
    let rows = c.self.inside.counts.entries in
    let name = c.args.name.now in
    let old = c.in-Some.count.now in
    let new = c.raise_count.new.count in
    let there = sym c.in-Some.ensures.value in
    then_ok (new ≡ old + 1) (map member_of (c.get_mut.follows.lender new).entries ≡ raised name c.args.self.now) c.raise_count.result c.raise_count.ensures.ok
    (λ is. ap (map member_of) (c.get_mut.follows.holds new).0
    ∙ (put_more name old new rows there (some_found name old rows c.self.invariant there) (ascend_rows rows c.get_mut.ensures.ordered) is
    ∙ ap (raised name) c.self.view_is))

pub returns-clause-err : goal.returns-clause-err
returns-clause-err c =
    let rows = c.self.inside.counts.entries in
    let name = c.args.name.now in
    let old = c.in-Some.count.now in
    let new = c.raise_count.new.count in
    then_err (new ≡ old) (map member_of (c.get_mut.follows.lender new).entries ≡ c.args.self.now) c.raise_count.result c.raise_count.ensures.err
    (λ is. ap (map member_of) ((c.get_mut.follows.holds new).0 ∙ put_same name new rows (sym c.in-Some.ensures.value ∙ ap Some (sym is)))
    ∙ c.self.view_is)
