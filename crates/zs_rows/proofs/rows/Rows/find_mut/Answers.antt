use Rattle.std.proofs.Common.{◌∙◌, ap, refl}
use Rattle.zs_rows.proofs.Finding.{found, written, rewritten, ascends}
use Rattle.zs_rows.proofs.rows.Rows.find_mut.Goals as goal

pub returns : goal.returns
returns g c =
    let up = ascends c.self.inside.rows.entries c.get_mut.ensures.ordered in
    rw (← c.self.view_is) (
      (refl, λ w. ((c.get_mut.follows.holds w).0 ∙ written c.args.number w c.self.inside.rows.entries up, λ there. rw ((c.get_mut.follows.holds w).0 ∙ written c.args.number w c.self.inside.rows.entries up) (rewritten c.args.number w c.self.inside.rows.entries there)), ap (λ m. m.entries) c.get_mut.follows.holds-at-none),
      record { writes_back = tt; value = c.get_mut.ensures.value ∙ found c.args.number c.self.inside.rows.entries; ascending = up },
    )
