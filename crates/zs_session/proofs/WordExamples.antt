-- The settings that words give, at worked examples.
use Rattle.std.proofs.Common.{◌≡◌, [], ◌∷◌, Some, None, refl, codes}
use Rattle.std.specs.Str.{chars}
use Rattle.zs_keys.specs.Key.{undeclared}
use Rattle.zs_core.specs.Settings.{default_settings}
use Rattle.zs_session.specs.Words.{settings_of}

-- no words, and the mode alone
pub no_words : settings_of [] ≡ Some default_settings
no_words = refl

pub mode_alone : settings_of (codes "drive" ∷ []) ≡ Some default_settings
mode_alone = refl

-- all settings, in another order than their fields
all_settings : settings_of (codes "drive" ∷ codes "turns=9" ∷ codes "timeout=25" ∷ codes "line=100" ∷ codes "key=7" ∷ codes "query=3" ∷ codes "entity=0" ∷ codes "tag=0" ∷ codes "zid=fF" ∷ [])
    ≡ Some (record {
      zid = 255;
      tag = 0;
      entity_start = 0;
      key_start = 7;
      query_start = 3;
      aggregated_subscribers = [];
      aggregated_publishers = [];
      default_timeout = 25;
      line_max = 100;
      turns = 9;
    })
all_settings = refl

-- a word that is none, a mode that is none, a setting before the mode, and the mode twice
bad_word : settings_of (codes "drive" ∷ codes "line" ∷ []) ≡ None
bad_word = refl

bad_mode : settings_of (codes "link" ∷ []) ≡ None
bad_mode = refl

early_setting : settings_of (codes "line=9" ∷ codes "drive" ∷ []) ≡ None
early_setting = refl

mode_twice : settings_of (codes "drive" ∷ codes "drive" ∷ []) ≡ None
mode_twice = refl

-- a setting twice, a value with a zero that could go, a number that its type does not have, and a setting that is not
-- valid
setting_twice : settings_of (codes "drive" ∷ codes "tag=1" ∷ codes "line=9" ∷ codes "tag=1" ∷ []) ≡ None
setting_twice = refl

leading_zero : settings_of (codes "drive" ∷ codes "turns=09" ∷ []) ≡ None
leading_zero = refl

too_great : settings_of (codes "drive" ∷ codes "key=65536" ∷ []) ≡ None
too_great = refl

not_valid : settings_of (codes "drive" ∷ codes "zid=0" ∷ []) ≡ None
not_valid = refl

-- aggregates of both kinds, each in the order of its words, one of them twice
aggregates : settings_of (codes "drive" ∷ codes "aggsub=b" ∷ codes "aggpub=c" ∷ codes "tag=1" ∷ codes "aggsub=a/**" ∷ codes "aggsub=b" ∷ [])
    ≡ Some (record default_settings {
      aggregated_subscribers = undeclared (codes "b") ∷ undeclared (codes "a/**") ∷ undeclared (codes "b") ∷ [];
      aggregated_publishers = undeclared (codes "c") ∷ [];
    })
unfolding chars lib.Utf8.encode
aggregates = refl

-- an aggregate that is no key expression, the empty one, and one with a tab
bad_aggregate : settings_of (codes "drive" ∷ codes "aggsub=b" ∷ codes "aggsub=a//b" ∷ []) ≡ None
unfolding chars lib.Utf8.encode
bad_aggregate = refl

empty_aggregate : settings_of (codes "drive" ∷ codes "aggpub=" ∷ []) ≡ None
unfolding chars lib.Utf8.encode
empty_aggregate = refl

broken_aggregate : settings_of (codes "drive" ∷ codes "aggpub=a\tb" ∷ []) ≡ None
unfolding chars lib.Utf8.encode
broken_aggregate = refl
