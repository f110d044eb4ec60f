use Rattle.std.proofs.Common.{ap, ◌∙◌}
use Rattle.zs_exchange.specs.Begun.{closed}
use Rattle.zs_exchange.proofs.beginning.begin.Goals as goal

pub returns-in-Err-clause-full : goal.returns-in-Err-clause-full
returns-in-Err-clause-full g c = λ e. record { opened = c.open.new.posts; opens = c.in-Ok.ensures.opens; drawn = c.in-Err.ensures.full e }

pub returns-in-Err-clause-err : goal.returns-in-Err-clause-err
returns-in-Err-clause-err g c = c.close.ensures ∙ (ap (closed c.args.name) c.in-Err.ensures.err ∙ c.in-Ok.ensures.closes)
