use Rattle.std.proofs.Common.{◌≡◌, map, Some, None, sym, ap, ◌∙◌, subst, cond, Bool}
use Rattle.std.specs.Prelude.{IfOk}
use Rattle.std.specs.Option.{option_map}
use Rattle.zs_store.specs.declared.merged.Merged.TheVariants.{Kept, Replaced}
use Rattle.zs_store.specs.Entry.{seen}
use Rattle.zs_store.specs.Store.{found, merged, outcome, write_of}
use Rattle.zs_store.proofs.Mapped.{found_row, ascend_rows, put_over, put_same, stays, when_err}
use Rattle.zs_store.proofs.store.Store.merge.Goals as goal

pub add-requires : goal.add-requires
add-requires c =
    let text = c.as_str.result.now in
    ap (λ m. found c.args.key.now.text (map write_of m.entries)) c.get_mut.follows.holds-at-none
    ∙ (ap (λ k. found k (map write_of c.self.inside.entries.entries)) (sym c.as_str.ensures.text)
    ∙ (sym (found_row text c.self.inside.entries.entries) ∙ ap (option_map seen) (sym c.in_default.ensures.value)))

pub returns-in_default-clause-answer : goal.returns-in_default-clause-answer
returns-in_default-clause-answer c =
    let text = c.as_str.result.now in
    let none : found c.args.key.now.text c.args.self.now ≡ None =
    ap (found c.args.key.now.text) (sym c.self.view_is)
    ∙ (ap (λ k. found k (map write_of c.self.inside.entries.entries)) (sym c.as_str.ensures.text)
    ∙ (sym (found_row text c.self.inside.entries.entries) ∙ ap (option_map seen) (sym c.in_default.ensures.value))) in
    subst (λ o. IfOk c.add.result (λ answer. answer ≡ outcome o (seen c.args.entry))) (sym none) c.add.ensures.answer

pub returns-in_err-below-clause-err : goal.returns-in_err-below-clause-err
returns-in_err-below-clause-err c =
    when_err c.from_residual.result
    (ap (map write_of) ((c.get_mut.follows.holds c.in-Some.old.now).0
    ∙ put_same c.as_str.result.now c.in-Some.old.now c.self.inside.entries.entries (sym c.in-Some.ensures.value))
    ∙ c.self.view_is)

pub returns-clause-answer : goal.returns-clause-answer
returns-clause-answer c =
    let text = c.as_str.result.now in
    let there : found c.args.key.now.text c.args.self.now ≡ Some (seen c.in-Some.old.now) =
    ap (found c.args.key.now.text) (sym c.self.view_is)
    ∙ (ap (λ k. found k (map write_of c.self.inside.entries.entries)) (sym c.as_str.ensures.text)
    ∙ (sym (found_row text c.self.inside.entries.entries) ∙ ap (option_map seen) (sym c.in-Some.ensures.value))) in
    c.replace.ensures.answer
    ∙ (ap (λ (b : Bool). cond b Replaced Kept) c.in_ok-below.ensures
    ∙ sym (ap (λ o. outcome o (seen c.args.entry)) there))

pub returns-clause-store : goal.returns-clause-store
returns-clause-store c =
    let text = c.as_str.result.now in
    let rows = c.self.inside.entries.entries in
    let old = c.in-Some.old.now in
    let new = c.args.entry in
    ap (map write_of) (c.get_mut.follows.holds c.replace.new.old).0
    ∙ (put_over text old new c.replace.new.old rows (sym c.in-Some.ensures.value) (ascend_rows rows c.get_mut.ensures.ordered)
    (ap seen c.replace.ensures.entry ∙ stays c.in_ok-below.below old new c.in_ok-below.ensures)
    ∙ (ap (λ k. merged (record { key = k; entry = seen new }) (map write_of rows)) c.as_str.ensures.text
    ∙ ap (merged (record { key = c.args.key.now.text; entry = seen new })) c.self.view_is))
