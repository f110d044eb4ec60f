use Rattle.std.proofs.Common.{refl}
use Rattle.std.specs.Prelude.{Err}
use Rattle.zs_driving.specs.declared.errors.DriveError.TheVariants.{NoMemory}
use Rattle.zs_driving.specs.Driving.{Outlet, Supply}
use Rattle.zs_driving.proofs.Exits.{unstarted}
use Rattle.zs_link.specs.Mode.{link_task}
use Rattle.zs_session.specs.Running.{Links}
use Rattle.zs_session.proofs.running.run_link.Goals as goal

pub returns-in-Err-clause-links : goal.returns-in-Err-clause-links
unfolding Links
returns-in-Err-clause-links g c =
    let before : Supply = record {
      left = g.S.Source.left c.args.source.now;
      reads = g.S.Source.reads c.args.source.now;
      pieces = g.S.Source.pieces c.args.source.now;
      faults = g.S.Source.faults c.args.source.now;
    } in
    let from : Outlet = record { written = g.K.Sink.written c.args.sink.now; faults = g.K.Sink.faults c.args.sink.now } in
    λ s found. record {
      answer = Err NoMemory;
      status_is = c.conclude.ensures.status;
      drives = unstarted (link_task s) _ refl before from;
      completes = λ input holds valid read write. refl;
      complains = c.conclude.ensures.complains;
    }
