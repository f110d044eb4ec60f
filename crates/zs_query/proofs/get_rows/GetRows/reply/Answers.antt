use Rattle.std.proofs.Common.{◌≡◌, None, Some, refl, sym, ap, ◌∙◌, subst}
use Rattle.std.specs.Prelude.{ℕ, List, Option}
use Rattle.zs_rows.specs.Rows.{rows_of}
use Rattle.zs_query.specs.declared.open_get.OpenGet.{OpenGet}
use Rattle.zs_query.specs.Gets.{get_at, with_get, named, peek_at, replied}
use Rattle.zs_query.specs.GetRows.{keys_of, AreIndexed}
use Rattle.zs_query.proofs.Getting.{row_taken, on_ok, on_err, if_ok}
use Rattle.zs_query.proofs.Indexed.{indexed_with, gets_found, gets_none, gets_changed, gets_same}
use Rattle.zs_query.proofs.get_rows.GetRows.reply.Goals as goal

pub returns-in_default-clause-answer : goal.returns-in_default-clause-answer
returns-in_default-clause-answer c =
    let none : get_at c.args.number c.args.self.now ≡ None = ap (get_at c.args.number) (sym c.self.view_is) ∙ (sym (gets_found c.args.number c.self.inside.rows c.self.inside.marks c.self.invariant) ∙ sym c.in_default.ensures.value) in
    rw none refl

pub returns-in_default-clause-ok : goal.returns-in_default-clause-ok
returns-in_default-clause-ok c =
    (ap rows_of c.find_mut.follows.holds-at-none ∙ sym (gets_none c.args.number (replied c.args.reply) c.self.inside.rows c.self.invariant.numbered (sym c.in_default.ensures.value)))
    ∙ ap (with_get c.args.number (replied c.args.reply)) c.self.view_is

pub invariant_of-self-2 : goal.invariant_of-self-2
invariant_of-self-2 c =
    let get = c.in-Some.get.now in
    let row = row_taken c.take.result c.args.reply get c.take.new.self c.take.ensures.ok c.take.ensures.err in
    subst (λ (rows : List (ℕ × OpenGet)). AreIndexed rows c.self.inside.marks) (sym (c.find_mut.follows.holds c.take.new.self).0)
    (indexed_with c.args.number get c.take.new.self c.self.inside.rows c.self.inside.marks c.self.invariant (sym c.in-Some.ensures.value) (ap keys_of row))

pub returns-clause-answer : goal.returns-clause-answer
returns-clause-answer c =
    let found : get_at c.args.number c.args.self.now ≡ Some c.in-Some.get.now = ap (get_at c.args.number) (sym c.self.view_is) ∙ (sym (gets_found c.args.number c.self.inside.rows c.self.inside.marks c.self.invariant) ∙ sym c.in-Some.ensures.value) in
    if_ok c.take.result _ _ (ap (λ (o : Option OpenGet). named (peek_at o c.args.reply) c.args.reply) (sym found)) c.take.ensures.answer

pub returns-clause-ok : goal.returns-clause-ok
returns-clause-ok c =
    let get = c.in-Some.get.now in
    on_ok c.take.result (λ (is : c.take.new.self ≡ replied c.args.reply get).
    ap rows_of (c.find_mut.follows.holds c.take.new.self).0
    ∙ (gets_changed c.args.number (replied c.args.reply) get c.take.new.self c.self.inside.rows c.self.inside.marks c.self.invariant (sym c.in-Some.ensures.value) is
    ∙ ap (with_get c.args.number (replied c.args.reply)) c.self.view_is)) c.take.ensures.ok

pub returns-clause-err : goal.returns-clause-err
returns-clause-err c =
    let get = c.in-Some.get.now in
    on_err c.take.result (λ (is : c.take.new.self ≡ get).
    ap rows_of (c.find_mut.follows.holds c.take.new.self).0
    ∙ (ap rows_of (gets_same c.args.number get c.take.new.self c.self.inside.rows c.self.inside.marks c.self.invariant (sym c.in-Some.ensures.value) is)
    ∙ c.self.view_is)) c.take.ensures.err
