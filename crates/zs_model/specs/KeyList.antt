-- The keys of a list, wherever they lie.
use Rattle.std.specs.Prelude.{List, []}
use Rattle.zs_keys.specs.Key.{Key}
use Rattle.zs_model.specs.declared.key_list.Keys.{Keys}
use Rattle.zs_model.specs.declared.key_list.Keys.TheVariants.{Nothing, Many}

-- the keys, in order
abbrev pub keys_of : Keys → List Key
keys_of Nothing = []
keys_of (Many keys) = keys.items
