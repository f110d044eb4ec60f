-- Who made something, and when, in plain numbers.
use Rattle.std.specs.Prelude.{ℕ, ◌+◌, ◌*◌, ◌/◌, ◌%◌, if◌then◌else◌, true, false, Option, None, Some}
use Rattle.zs_wire.specs.declared.origin.Timestamp.{Timestamp}
use Rattle.zs_wire.specs.declared.origin.EntityGlobalId.{EntityGlobalId}
use Rattle.zs_wire.specs.declared.origin.SourceInfo.{SourceInfo}
use Rattle.zs_forms.specs.declared.origins.TimestampForm.{TimestampForm}
use Rattle.zs_forms.specs.declared.origins.EntityForm.{EntityForm}
use Rattle.zs_forms.specs.declared.origins.SourceForm.{SourceForm}

-- the number of two halves of 64 bits, and its halves
abbrev pub whole : ℕ → ℕ → ℕ
whole high low = high * 18446744073709551616 + low

abbrev pub high : ℕ → ℕ
high number = number / 18446744073709551616

abbrev pub low : ℕ → ℕ
low number = number % 18446744073709551616

-- what a form says, if it says something
abbrev pub timestamp_of : TimestampForm → Option Timestamp
timestamp_of f = if f.is_known then Some (record { time = f.time; id = whole f.id_high f.id_low }) else None

abbrev pub entity_of : EntityForm → Option EntityGlobalId
entity_of f = if f.is_known then Some (record { zid = whole f.zid_high f.zid_low; eid = f.eid }) else None

abbrev pub source_with : Option EntityGlobalId → ℕ → Option SourceInfo
source_with (Some id) sn = Some (record { source_id = id; source_sn = sn })
source_with None sn = None

abbrev pub source_of : SourceForm → Option SourceInfo
source_of f = source_with (entity_of f.id) f.sn

-- the form of something, or of nothing: then all of it is 0
abbrev pub timestamp_form : Option Timestamp → TimestampForm
timestamp_form (Some t) = record { is_known = true; time = t.time; id_high = high t.id; id_low = low t.id }
timestamp_form None = record { is_known = false; time = 0; id_high = 0; id_low = 0 }

abbrev pub entity_form : Option EntityGlobalId → EntityForm
entity_form (Some e) = record { is_known = true; zid_high = high e.zid; zid_low = low e.zid; eid = e.eid }
entity_form None = record { is_known = false; zid_high = 0; zid_low = 0; eid = 0 }

abbrev pub source_form : Option SourceInfo → SourceForm
source_form (Some s) = record { id = entity_form (Some s.source_id); sn = s.source_sn }
source_form None = record { id = entity_form None; sn = 0 }
