use Rattle.std.proofs.Common.{◌≡◌, None, Some, true, false, sym, refl, ap, ◌∙◌}
use Rattle.zs_query.specs.declared.side.Side.{Side}
use Rattle.zs_query.specs.Gets.{get_at, with_get, without_get, wants, other_side, less_final}
use Rattle.zs_query.proofs.gets.Gets.note_final.Goals as goal

pub returns-in_default : goal.returns-in_default
returns-in_default c =
    let none : get_at c.args.number c.args.self.now ≡ None = ap (get_at c.args.number) (sym c.self.view_is) ∙ sym c.in_default.ensures in
    rw none refl

pub returns-then-not-wants : goal.returns-then-not-wants
returns-then-not-wants c =
    let get = c.in-Some.get.now in
    let found : get_at c.args.number c.args.self.now ≡ Some get = ap (get_at c.args.number) (sym c.self.view_is) ∙ sym c.in-Some.ensures in
    let unwanted : wants c.args.side get.row ≡ false = sym c.wants.ensures ∙ c.if-not-wants.true in
    rw (found, unwanted) refl

pub returns-then-wants : goal.returns-then-wants
returns-then-wants c =
    let get = c.in-Some.get.now in
    let found : get_at c.args.number c.args.self.now ≡ Some get = ap (get_at c.args.number) (sym c.self.view_is) ∙ sym c.in-Some.ensures in
    let wanted : wants c.args.side get.row ≡ true = sym c.wants.ensures ∙ c.if-not-wants.false in
    let other : wants (other_side c.args.side) get.row ≡ true = ap (λ (s : Side). wants s get.row) (sym c.other.ensures) ∙ (sym c.wants-2.ensures ∙ c.if-wants.true) in
    rw (found, wanted, other) (c.lessen.ensures ∙ ap (with_get c.args.number (less_final c.args.side)) c.self.view_is)

pub returns : goal.returns
returns c =
    let get = c.in-Some.get.now in
    let found : get_at c.args.number c.args.self.now ≡ Some get = ap (get_at c.args.number) (sym c.self.view_is) ∙ sym c.in-Some.ensures in
    let wanted : wants c.args.side get.row ≡ true = sym c.wants.ensures ∙ c.if-not-wants.false in
    let other : wants (other_side c.args.side) get.row ≡ false = ap (λ (s : Side). wants s get.row) (sym c.other.ensures) ∙ (sym c.wants-2.ensures ∙ c.if-wants.false) in
    rw (found, wanted, other) (c.end_get-open.ensures.gets ∙ ap (without_get c.args.number) c.self.view_is)
