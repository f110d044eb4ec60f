use Rattle.std.proofs.Common.{ℕ, List, length, ap, ◌∙◌}
use Rattle.zs_grouped.proofs.GroupLemmas.{members_in, members_found}
use Rattle.zs_grouped.proofs.grouping.members_in.Goals as goal

pub returns-in-Some : goal.returns-in-Some
returns-in-Some c = c.len.ensures.len ∙ ap (λ (ids : List ℕ). length ids) (ap members_in c.in-Some.ensures.value ∙ members_found c.args.text.now c.args.rows.now.entries)

pub returns-in-None : goal.returns-in-None
returns-in-None c = ap (λ (ids : List ℕ). length ids) (ap members_in c.in-None.ensures.value ∙ members_found c.args.text.now c.args.rows.now.entries)
