use Rattle.std.proofs.Common.{◌≡◌, ◌++◌, sym, subst}
use Rattle.std.specs.Prelude.{OnOk}
use Rattle.zs_events.specs.declared.turn.Effect.{Effect}
use Rattle.zs_turns.specs.Calls.{wanted_by, held_of}
use Rattle.zs_turns.proofs.calls.add_wanted.Goals as goal

pub returns-in-Matching : goal.returns-in-Matching
returns-in-Matching g c =
    subst (λ (fx : Effect). OnOk c.add_matching.result (c.add_matching.new.all.items ≡ c.args.all.now.items ++ held_of c.args.posts.now.rows (wanted_by c.args.tag fx))) (sym c.in-Matching.is) (c.add_matching.ensures c.args.tag)
