use Rattle.std.proofs.Common.{◌≡◌, true, refl, sym, ap, ◌∙◌, true≢false}
use Rattle.std.specs.Prelude.{is_some}
use Rattle.zs_rows.specs.Rows.{row_at}
use Rattle.zs_liveliness.proofs.Asking.{asking_at, number_there, stands_of, indexed_as, indexed_over, gets_over}
use Rattle.zs_liveliness.proofs.asking_gets.AskingGets.write_over.Goals as goal

pub unreachable-requires : goal.unreachable-requires
unreachable-requires c =
    let some : is_some (row_at c.args.get.number c.self.inside.gets) ≡ true = asking_at c.args.get.number c.self.inside.gets c.self.inside.marks _ c.self.invariant c.self.view_is ∙ c.requires in
    true≢false (sym some ∙ sym (ap is_some c.in_default.ensures))

pub renew-requires-clause-stands : goal.renew-requires-clause-stands
renew-requires-clause-stands c = rw c.keys_of.ensures (stands_of c.args.get.number c.in-Some.old.now c.self.inside.gets c.self.inside.marks c.self.invariant c.in-Some.ensures)

pub renew-requires-clause-same : goal.renew-requires-clause-same
renew-requires-clause-same c = rw (c.keys_of-2.ensures, c.keys_of.ensures) (number_there c.args.get.number c.in-Some.old.now c.self.inside.gets c.self.inside.marks c.self.invariant c.in-Some.ensures)

pub invariant_of-self : goal.invariant_of-self
invariant_of-self c = indexed_as c.self.inside.gets c.self.inside.marks c.renew.new.self c.in_err-renew.ensures.err c.self.invariant

pub unreachable-requires-in_default-find_mut : goal.unreachable-requires-in_default-find_mut
unreachable-requires-in_default-find_mut c =
    let some : is_some (row_at c.args.get.number c.self.inside.gets) ≡ true = asking_at c.args.get.number c.self.inside.gets c.self.inside.marks _ c.self.invariant c.self.view_is ∙ c.requires in
    true≢false (sym some ∙ sym (ap is_some c.in_default-find_mut.ensures.value))

pub invariant_of-self-2 : goal.invariant_of-self-2
invariant_of-self-2 c =
    let some : is_some (row_at c.args.get.number c.self.inside.gets) ≡ true = asking_at c.args.get.number c.self.inside.gets c.self.inside.marks _ c.self.invariant c.self.view_is ∙ c.requires in
    indexed_over c.args.get.number c.args.get c.self.inside.gets _ c.self.inside.marks c.renew.new.self c.self.invariant refl (c.find_mut.follows.holds c.args.get).0 ((c.find_mut.follows.holds c.args.get).1 some) (rw c.keys_of-2.ensures at c.in_ok-renew.ensures.ok)

pub returns-clause-ok : goal.returns-clause-ok
returns-clause-ok c = gets_over c.args.get.number c.args.get c.in-Some.old.now c.self.inside.gets _ c.self.inside.marks c.args.self.now c.self.invariant c.self.view_is c.in-Some.ensures refl (c.find_mut.follows.holds c.args.get).0
