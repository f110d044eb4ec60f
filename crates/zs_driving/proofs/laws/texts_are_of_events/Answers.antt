use Rattle.zs_driving.proofs.Languages.{texts_are}
use Rattle.zs_driving.proofs.laws.texts_are_of_events.Goals as goal

pub returns : goal.returns
returns g c = texts_are
