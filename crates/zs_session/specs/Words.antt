-- The words that a run is started with, and the settings that they give.
use Rattle.std.specs.Prelude.{ℕ, ◌==◌, Bool, false, not, ◌&&◌, ◌||◌, is_some, List, [], ◌∷◌, map, Option, Some, None, chars, codes, if◌then◌else◌}
use Rattle.std.specs.List.{filter_map, list_all}
use Rattle.std.specs.Str.{bytes_eq}
use Rattle.zs_keys.specs.Key.{undeclared}
use Rattle.zs_keys.specs.Text.{is_canonical}
use Rattle.zs_core.specs.Types.{Settings}
use Rattle.zs_core.specs.Settings.{default_settings, is_valid}
use Rattle.zs_parts.specs.Hexadecimal.{hex_of}
use Rattle.zs_script.specs.Plain.{is_plain_text}
use Rattle.zs_parts.specs.Symbols.{number_of, u16_max, u32_max, u64_max, after_prefix}

-- the second step, where the first one gave something
infixl 10 ◌>>=◌
abbrev pub ◌>>=◌ : {A B : Type 0} → Option A → (A → Option B) → Option B
None >>= f = None
Some x >>= f = f x

-- A setting is a word of a name, `=` and a value. No name has an `=`, so a word is cut at its first one.
abbrev pub gives_start : List ℕ → Bool
gives_start word =
    is_some (after_prefix (codes "zid=") word) || is_some (after_prefix (codes "tag=") word)
    || is_some (after_prefix (codes "entity=") word) || is_some (after_prefix (codes "key=") word)
    || is_some (after_prefix (codes "query=") word)

abbrev pub gives_limit : List ℕ → Bool
gives_limit word =
    is_some (after_prefix (codes "timeout=") word) || is_some (after_prefix (codes "line=") word)
    || is_some (after_prefix (codes "turns=") word)

abbrev pub gives_number : List ℕ → Bool
gives_number word = gives_start word || gives_limit word

abbrev pub gives_aggregate : List ℕ → Bool
gives_aggregate word = is_some (after_prefix (codes "aggsub=") word) || is_some (after_prefix (codes "aggpub=") word)

abbrev pub is_setting : List ℕ → Bool
is_setting word = gives_number word || gives_aggregate word

-- the values of the words that begin so
abbrev pub values : List ℕ → List (List ℕ) → List (List ℕ)
values name words = filter_map (after_prefix name) words

-- the first of those values and the words behind it, or none, told again as values
abbrev pub found : List ℕ → Option (List ℕ × List (List ℕ)) → List (List ℕ)
found name None = []
found name (Some (value, rest)) = value ∷ values name rest

-- the number that one setting is, from the values that words give it: none leaves the default, one has to have the
-- form, and more are bad
abbrev pub setting : (List ℕ → Option ℕ) → ℕ → List (List ℕ) → Option ℕ
setting form default [] = Some default
setting form default (value ∷ []) = form value
setting form default (value ∷ other ∷ more) = None

-- an aggregate: the text of a key expression that can stand in a field of a line
abbrev pub is_aggregate : List ℕ → Bool
is_aggregate text = is_plain_text (chars text) && is_canonical text

-- all values of that name are aggregates
abbrev pub are_aggregates : List ℕ → List (List ℕ) → Bool
are_aggregates name words = list_all is_aggregate (values name words)

-- the settings that words give but for their aggregates, valid or not
abbrev pub given : List (List ℕ) → Option Settings
given words = do
  zid ← setting hex_of default_settings.zid (values (codes "zid=") words)
  tag ← setting (number_of u64_max) default_settings.tag (values (codes "tag=") words)
  entity ← setting (number_of u32_max) default_settings.entity_start (values (codes "entity=") words)
  key ← setting (number_of u16_max) default_settings.key_start (values (codes "key=") words)
  query ← setting (number_of u32_max) default_settings.query_start (values (codes "query=") words)
  timeout ← setting (number_of u64_max) default_settings.default_timeout (values (codes "timeout=") words)
  line ← setting (number_of u32_max) default_settings.line_max (values (codes "line=") words)
  turns ← setting (number_of u64_max) default_settings.turns (values (codes "turns=") words)
  Some (record {
    zid = zid;
    tag = tag;
    entity_start = entity;
    key_start = key;
    query_start = query;
    aggregated_subscribers = [];
    aggregated_publishers = [];
    default_timeout = timeout;
    line_max = line;
    turns = turns;
  })

-- these settings, where a session can be opened with them
abbrev pub if_valid : Settings → Option Settings
if_valid s = if is_valid s then Some s else None

-- the settings with the aggregates that words give, as many of each kind as there are, in the order of the words
abbrev pub with_aggregates : List (List ℕ) → Settings → Settings
with_aggregates words s = record s {
  aggregated_subscribers = map undeclared (values (codes "aggsub=") words);
  aggregated_publishers = map undeclared (values (codes "aggpub=") words);
}

-- each word is a setting, and each aggregate is one
abbrev pub are_settings : List (List ℕ) → Bool
are_settings words = list_all is_setting words && are_aggregates (codes "aggsub=") words && are_aggregates (codes "aggpub=") words

-- The settings of a run by its words: there are none, or the first is `drive` and the others are settings. All other
-- words are bad, and so are those that give settings that are not valid.
abbrev pub settings_of : List (List ℕ) → Option Settings
settings_of [] = Some default_settings
settings_of (mode ∷ words) =
    if bytes_eq mode (codes "drive") && are_settings words
    then given words >>= if_valid >>= (λ s. Some (with_aggregates words s)) else None

-- settings from which the second of two linked sessions differs: it has the identifier 2 and the tag 2
abbrev pub is_apart : Settings → Bool
is_apart s = not (s.zid == 2) && not (s.tag == 2)

abbrev pub if_apart : Settings → Option Settings
if_apart s = if is_valid s && is_apart s then Some s else None

-- the words of linked sessions: the first is `link`
abbrev pub is_link : List (List ℕ) → Bool
is_link [] = false
is_link (mode ∷ words) = bytes_eq mode (codes "link")

-- the settings of linked sessions by their words: those behind `link` are settings, as behind `drive`
abbrev pub link_of : List (List ℕ) → Option Settings
link_of [] = None
link_of (mode ∷ words) =
    if bytes_eq mode (codes "link") && are_settings words
    then given words >>= if_apart >>= (λ s. Some (with_aggregates words s)) else None
