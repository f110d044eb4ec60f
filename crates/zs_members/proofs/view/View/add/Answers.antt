use Rattle.std.proofs.Common.{◌≡◌, map, sym, ap, ◌∙◌, subst}
use Rattle.std.specs.String.{string_bytes}
use Rattle.zs_members.specs.Members.{count_of, raised, member_of}
use Rattle.zs_members.proofs.Mapped.{AreSome, put_new, some_put, when_ok, no_ok}
use Rattle.zs_members.proofs.view.View.add.Goals as goal
use Rattle.zs_members.proofs.view.View.add.Goals.{in-Ok, in-Err}

pub invariant_of-self : goal.invariant_of-self
invariant_of-self c =
    elim c.match-insert.branch [
      | in-Ok w ↦ subst AreSome (sym w.in-Ok.ensures.entries) (some_put c.in_ok-name.name c.self.inside.counts.entries c.self.invariant)
      | in-Err w ↦ subst AreSome (sym w.in-Err.ensures.err) c.self.invariant
    ]

pub returns-clause-ok : goal.returns-clause-ok
returns-clause-ok c =
    let rows = c.self.inside.counts.entries in
    let name = c.in_ok-name.name in
    let is : string_bytes name ≡ c.args.name.now = c.in_ok-name.ensures.ok in
    let absent : count_of (string_bytes name) (map member_of rows) ≡ 0 = ap (λ n. count_of n (map member_of rows)) is ∙ (ap (count_of c.args.name.now) c.self.view_is ∙ c.requires) in
    let stored : Type 0 = map member_of c.insert.new.self.entries ≡ raised c.args.name.now c.args.self.now in
    elim c.match-insert.branch [
      | in-Ok w ↦ when_ok c.match-insert.result
          (ap (map member_of) w.in-Ok.ensures.entries
          ∙ (put_new name rows absent
          ∙ (ap (λ n. raised n (map member_of rows)) is
          ∙ ap (raised c.args.name.now) c.self.view_is)))
      | in-Err w ↦ no_ok stored c.match-insert.result _ w.result-is
    ]
