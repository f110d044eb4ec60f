use Rattle.std.proofs.Common.{◌≡◌, ◌≢◌, ◌<◌, List, sym, ap, subst, ◌∙◌}
use Rattle.std.specs.Prelude.{map}
use Rattle.std.specs.List.{AllByRecursion}
use Rattle.zs_tables.specs.declared.listener.ListenerRow.{ListenerRow}
use Rattle.zs_tables.specs.declared.listener.Listener.{Listener}
use Rattle.zs_tables.specs.Matching.{Candidate, count_of}
use Rattle.zs_world.specs.World.{World, present_at}
use Rattle.zs_entity_tables.proofs.Counted.{rows_under}
use Rattle.zs_world.proofs.Hearing.{first_unmatched, first_matched}
use Rattle.zs_hearing.proofs.listeners.hear_first.Goals as goal

pub returns-then-count-eq0 : goal.returns-then-count-eq0
returns-then-count-eq0 c =
    let w = c.args.world.now in
    let id : c.args.row.now.id ≡ c.world.inside.next_entity = c.requires.0 ∙ sym (ap (λ (v : World). v.counters.entity) c.world.view_is) in
    let seen : map (λ (l : Listener). l.row) c.world.inside.matching.listeners ≡ w.matching.listeners = ap (λ (v : World). v.matching.listeners) c.world.view_is in
    let under = subst (λ (rows : List ListenerRow). AllByRecursion (λ (r : ListenerRow). r.id < c.args.row.now.id) rows) seen
    (rows_under c.world.inside.next_entity c.args.row.now.id c.world.inside.matching.listeners id c.world.invariant.listening) in
    let many : c.in_ok-count.count ≡ count_of (present_at w) c.args.row.now = c.in_ok-count.ensures ∙ ap (λ (cs : List Candidate). count_of cs c.args.row.now) c.present.ensures in
    let zero : c.in_ok-count.count ≡ 0 = cc in
    first_unmatched c.args.effects.now w.matching.listeners c.args.row.now (present_at w) c.in_ok-count.count many under zero

pub returns : goal.returns
returns c =
    let w = c.args.world.now in
    let id : c.args.row.now.id ≡ c.world.inside.next_entity = c.requires.0 ∙ sym (ap (λ (v : World). v.counters.entity) c.world.view_is) in
    let seen : map (λ (l : Listener). l.row) c.world.inside.matching.listeners ≡ w.matching.listeners = ap (λ (v : World). v.matching.listeners) c.world.view_is in
    let under = subst (λ (rows : List ListenerRow). AllByRecursion (λ (r : ListenerRow). r.id < c.args.row.now.id) rows) seen
    (rows_under c.world.inside.next_entity c.args.row.now.id c.world.inside.matching.listeners id c.world.invariant.listening) in
    let many : c.in_ok-count.count ≡ count_of (present_at w) c.args.row.now = c.in_ok-count.ensures ∙ ap (λ (cs : List Candidate). count_of cs c.args.row.now) c.present.ensures in
    let some : c.in_ok-count.count ≢ 0 = c.if-count-eq0.false in
    rw (first_matched w.matching.listeners c.args.row.now (present_at w) c.in_ok-count.count many under some) c.push.ensures.ok
