-- The settings of the second session.
use Rattle.zs_core.specs.Types.{Settings}
use Rattle.zs_core.specs.Settings.{default_settings}

-- those of the first session, but with another identifier and tag
abbrev pub there_settings : Settings
there_settings = record default_settings { zid = 2; tag = 2 }
