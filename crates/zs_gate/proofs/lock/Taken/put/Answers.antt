use Rattle.std.proofs.Common.{◌∷◌, Some, rules, sym, ap, ◌∙◌, subst}
use Rattle.atomic_table.specs.Table.{rest}
use Rattle.zs_gate.proofs.Locking.{put_allowed}
use Rattle.zs_gate.proofs.lock.Taken.put.Goals as goal

pub swap-requires : goal.swap-requires
swap-requires g c =
    let has = ap (λ m. m.1) c.exchange-out.ensures.3 ∙ ap (λ held. (0, Some c.args.value) ∷ rest held) c.self.invariant.1 in
    let fact = subst (λ k. g.F.Fact.holds k c.args.value) (sym (ap (λ l. l.key) (c.lock.view_is ∙ c.self.view_is))) c.requires in
    (search rules, search rules, put_allowed g.F.Fact.holds _ _ _ _ c.args.value has fact)
