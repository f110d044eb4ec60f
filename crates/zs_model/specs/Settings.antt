use Rattle.std.specs.Prelude.{ℕ, [], Bool, not, nat_lt, nat_le, ◌==◌, ◌&&◌}
pub use Rattle.zs_model.specs.declared.settings.Settings.{Settings}

-- the last entity number, which no entity draws
abbrev pub last_entity : ℕ
last_entity = 4294967295

-- the last query number, which no get draws
abbrev pub last_query : ℕ
last_query = 4294967295

-- the last number of a declared key, which no key draws
abbrev pub last_key : ℕ
last_key = 65535

-- the settings where none are given: the session's identifier and tag are 1, it is entity 1, its first key number
-- is 1 and its first query number 0, no keys are aggregated, gets wait for 10 seconds, lines have at most 65536 bytes, and there are
-- 4294967296 reads
abbrev pub default_settings : Settings
default_settings = record {
  zid = 1;
  tag = 1;
  entity_start = 1;
  key_start = 1;
  query_start = 0;
  aggregated_subscribers = [];
  aggregated_publishers = [];
  default_timeout = 10000;
  line_max = 65536;
  turns = 4294967296;
}

-- settings that a session can be opened with
abbrev pub is_valid : Settings → Bool
is_valid s =
    not (s.zid == 0) && nat_lt s.entity_start last_entity && nat_le 1 s.key_start
    && nat_le 1 s.line_max && nat_le s.line_max 1048576 && nat_le 1 s.turns
