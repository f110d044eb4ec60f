-- The settings that C gives.
use Rattle.std.specs.Prelude.{ℕ, ◌+◌, ◌*◌, []}
use Rattle.zs_core.specs.Types.{Settings}
use Rattle.zs_c.specs.declared.settings.SettingsForm.{SettingsForm}

-- the settings that a form says: its identifier's halves are joined, no declarations are aggregated, and as no input is read the
-- count of reads is the usual one
abbrev pub settings_of : SettingsForm → Settings
settings_of f = record {
  zid = f.zid_high * 18446744073709551616 + f.zid_low;
  tag = f.tag;
  entity_start = f.entity_start;
  key_start = f.key_start;
  query_start = f.query_start;
  aggregated_subscribers = [];
  aggregated_publishers = [];
  default_timeout = f.default_timeout;
  line_max = f.line_max;
  turns = 4294967296;
}

-- the form of the settings that a session has if nothing is said
abbrev pub default_form : SettingsForm
default_form = record {
  zid_high = 0;
  zid_low = 1;
  tag = 1;
  default_timeout = 10000;
  entity_start = 1;
  query_start = 0;
  line_max = 65536;
  key_start = 1;
}
