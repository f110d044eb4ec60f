use Rattle.std.proofs.Common.{◌≡◌, ℕ, List, true, false, [], ◌∷◌, None, Some, sym, ap, ◌∙◌}
use Rattle.std.specs.Prelude.{nat_lt}
use Rattle.zs_tables.specs.Matching.{Candidate, status, count_of}
use Rattle.zs_tables.specs.Listeners.{listed}
use Rattle.zs_tables.proofs.Moving.{status_counted}
use Rattle.zs_events.specs.Kinds.{parent_kind_of}
use Rattle.zs_world.specs.declared.change.Change.TheVariants.{Nothing}
use Rattle.zs_world.specs.World.{World, present_at}
use Rattle.zs_model.specs.Listeners.{listening}
use Rattle.zs_model.specs.Matching.{as_number}
use Rattle.zs_world.specs.Decisions.{decision_of}
use Rattle.zs_announcing.proofs.Listening.{status_missing, status_there}
use Rattle.zs_announcing.proofs.matching.decide_status.Goals as goal

pub returns-in_default : goal.returns-in_default
returns-in_default c =
    let w = c.args.world.now in
    let none : listening w.entities.pubs w.entities.queriers 0 (parent_kind_of c.args.parent) c.args.id ≡ [] = sym c.in_ok-row.ensures ∙ ap listed c.in_default.is in
    c.refused.ensures ∙ sym (status_missing w c.args.parent c.args.id 0 none)

pub returns : goal.returns
returns c =
    let w = c.args.world.now in
    let row = c.in-Some.row in
    let there : listening w.entities.pubs w.entities.queriers 0 (parent_kind_of c.args.parent) c.args.id ≡ row ∷ [] = sym c.in_ok-row.ensures ∙ ap listed c.in-Some.is in
    let many : c.in_ok-count.count ≡ count_of (present_at w) row = c.in_ok-count.ensures ∙ ap (λ (cs : List Candidate). count_of cs row) c.present.ensures in
    let is : c.as_number.result ≡ as_number (status (present_at w) row) = c.as_number.ensures ∙ ap as_number (ap (nat_lt 0) many ∙ sym (status_counted (present_at w) row)) in
    c.quiet.ensures ∙ ap (λ (n : ℕ). decision_of None (Some n) [] Nothing) is ∙ sym (status_there w c.args.parent c.args.id row there)
