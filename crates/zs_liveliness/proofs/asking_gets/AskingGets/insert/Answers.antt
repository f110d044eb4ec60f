use Rattle.std.proofs.Common.{◌≡◌, false, ◌∙◌}
use Rattle.std.specs.Prelude.{is_some}
use Rattle.zs_rows.specs.Rows.{row_at}
use Rattle.zs_liveliness.specs.Asking.{IsFree}
use Rattle.zs_liveliness.proofs.Asking.{asking_at, free_of, indexed_as, indexed_put, same_again, gets_put}
use Rattle.zs_liveliness.proofs.asking_gets.AskingGets.insert.Goals as goal

pub note-requires : goal.note-requires
note-requires c =
    let unused = asking_at c.args.get.number c.self.inside.gets c.self.inside.marks _ c.self.invariant c.self.view_is ∙ c.requires in
    rw c.keys_of-keys.ensures (free_of c.args.get.number c.self.inside.gets c.self.inside.marks c.self.invariant unused)

pub invariant_of-self : goal.invariant_of-self
invariant_of-self c = indexed_as c.self.inside.gets c.self.inside.marks c.note.new.self c.in_err-note.ensures.err c.self.invariant

pub insert-requires : goal.insert-requires
insert-requires c = rw c.keys_of-keys.ensures (asking_at c.args.get.number c.self.inside.gets c.self.inside.marks _ c.self.invariant c.self.view_is ∙ c.requires)

pub invariant_of-self-in-Err : goal.invariant_of-self-in-Err
invariant_of-self-in-Err c =
    let unused : is_some (row_at c.keys_of-keys.result.number c.self.inside.gets) ≡ false = rw c.keys_of-keys.ensures (asking_at c.args.get.number c.self.inside.gets c.self.inside.marks _ c.self.invariant c.self.view_is ∙ c.requires) in
    let free : IsFree c.keys_of-keys.result.number c.self.inside.marks = free_of c.keys_of-keys.result.number c.self.inside.gets c.self.inside.marks c.self.invariant unused in
    rw c.in-Err.ensures.err (indexed_as c.self.inside.gets c.self.inside.marks c.forget.new.self (same_again c.keys_of-keys.result c.self.inside.marks c.note.new.self c.forget.new.self free c.in_ok-note.ensures.ok c.forget.ensures) c.self.invariant)

pub returns-in-Err-clause-err : goal.returns-in-Err-clause-err
returns-in-Err-clause-err c = rw c.in-Err.ensures.err c.self.view_is

pub invariant_of-self-in_default : goal.invariant_of-self-in_default
invariant_of-self-in_default c =
    let unused : is_some (row_at c.keys_of-keys.result.number c.self.inside.gets) ≡ false = rw c.keys_of-keys.ensures (asking_at c.args.get.number c.self.inside.gets c.self.inside.marks _ c.self.invariant c.self.view_is ∙ c.requires) in
    indexed_put c.keys_of-keys.result c.args.get c.self.inside.gets c.insert.new.self c.self.inside.marks c.note.new.self c.keys_of-keys.ensures c.self.invariant unused c.in_default.ensures.rows c.in_default.ensures.found c.in_default.ensures.ascending c.in_ok-note.ensures.ok

pub returns-clause-ok : goal.returns-clause-ok
returns-clause-ok c = gets_put c.keys_of-keys.result c.args.get c.self.inside.gets c.insert.new.self c.self.inside.marks c.args.self.now c.keys_of-keys.ensures c.self.invariant c.self.view_is c.requires c.in_default.ensures.rows
