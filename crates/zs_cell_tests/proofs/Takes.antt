-- A subscriber comes with a handler.
use Rattle.std.proofs.Common.{◌≡◌, true, ap}
use Rattle.zs_events.specs.declared.chan.Chan.{Chan}
use Rattle.zs_events.specs.declared.event.Event.{Event}
use Rattle.zs_events.specs.declared.event.Event.TheVariants.{Sub}
use Rattle.zs_events.specs.declared.key_arg.KeyArg.{KeyArg}
use Rattle.zs_sample.specs.declared.locality.Locality.{Locality}
use Rattle.zs_turns.specs.Gates.{takes_handler}

pub sub_takes : (origin : Locality) (key : KeyArg) (to : Chan) (e : Event) → e ≡ Sub origin key to → takes_handler e ≡ true
unfolding takes_handler
sub_takes origin key to e is = ap takes_handler is
