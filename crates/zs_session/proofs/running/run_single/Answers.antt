use Rattle.std.proofs.Common.{refl, sym}
use Rattle.std.specs.Prelude.{Err, map}
use Rattle.std.specs.String.{string_bytes}
use Rattle.zs_driving.specs.declared.errors.DriveError.TheVariants.{NoMemory}
use Rattle.zs_driving.specs.Driving.{Outlet, Supply}
use Rattle.zs_driving.proofs.Exits.{unstarted}
use Rattle.zs_session.specs.Driving.{task}
use Rattle.zs_session.proofs.Soaking.{not_both}
use Rattle.zs_session.proofs.running.run_single.Goals as goal

pub returns-in-Some-clause-runs : goal.returns-in-Some-clause-runs
returns-in-Some-clause-runs g c = λ s found. absurd (not_both (map string_bytes c.args.words.now) c.in-Some.soak s (sym c.in-Some.ensures.named) found)

pub returns-in-Err-clause-runs : goal.returns-in-Err-clause-runs
returns-in-Err-clause-runs g c =
    let before : Supply = record {
      left = g.S.Source.left c.args.source.now;
      reads = g.S.Source.reads c.args.source.now;
      pieces = g.S.Source.pieces c.args.source.now;
      faults = g.S.Source.faults c.args.source.now;
    } in
    let from : Outlet = record { written = g.K.Sink.written c.args.sink.now; faults = g.K.Sink.faults c.args.sink.now } in
    λ s found. record {
      answer = Err NoMemory;
      status_is = c.conclude.ensures.status;
      drives = unstarted (task s) _ refl before from;
      completes = λ input holds valid read write. refl;
      complains = c.conclude.ensures.complains;
    }
