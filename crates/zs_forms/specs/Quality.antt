-- What the numbers of a publication's form say.
use Rattle.std.specs.Prelude.{ℕ, ◌==◌, if◌then◌else◌, Bool, not, nat_le, Option, None, Some}
use Rattle.zs_sample.specs.declared.locality.Locality.{Locality}
use Rattle.zs_sample.specs.declared.locality.Locality.TheVariants.{Any, SessionLocal, Remote}
use Rattle.zs_wire.specs.declared.quality.CongestionControl.{CongestionControl}
use Rattle.zs_wire.specs.declared.quality.CongestionControl.TheVariants.{Drop, Block}
use Rattle.zs_wire.specs.declared.quality.QoSType.{QoSType}
use Rattle.zs_events.specs.declared.publication.PublicationQuality.{PublicationQuality}
use Rattle.zs_forms.specs.declared.quality.QosForm.{QosForm}
use Rattle.zs_forms.specs.declared.quality.PublicationForm.{PublicationForm}

-- whose subscribers are handed it, or whose publications are taken
abbrev pub destination_of : ℕ → Option Locality
destination_of n =
    if n == 0 then Some Any else
    if n == 1 then Some SessionLocal else
    if n == 2 then Some Remote else None

-- a priority, where 0 is the usual one
abbrev pub priority_of : ℕ → Option ℕ
priority_of n = if n == 0 then Some 5 else if nat_le n 7 then Some n else None

-- what happens where a queue is full
abbrev pub congestion_of : Bool → CongestionControl
congestion_of blocks = if blocks then Block else Drop

abbrev pub qos_with : Option ℕ → Bool → Bool → Option QoSType
qos_with (Some p) blocks express = Some (record { priority = p; congestion = congestion_of blocks; express = express })
qos_with None blocks express = None

abbrev pub qos_of : QosForm → Option QoSType
qos_of f = qos_with (priority_of f.priority) f.blocks f.express

abbrev pub quality_with : Option QoSType → Bool → Option PublicationQuality
quality_with (Some qos) best_effort = Some (record { qos = qos; reliable = not best_effort })
quality_with None best_effort = None

abbrev pub quality_of : PublicationForm → Option PublicationQuality
quality_of f = quality_with (qos_of f.qos) f.best_effort
