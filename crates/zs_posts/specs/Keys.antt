-- Whose gate a key stands for.
use Rattle.std.specs.Prelude.{Bool}
use Rattle.std.specs.declared.cmp.Ordering.{Ordering}
use Rattle.std.specs.BTreeMap.{is_at}
use Rattle.zs_posts.specs.declared.key.Key.{Key}
use Rattle.zs_posts.specs.contracts.key.KeyOrd.TheImpl.{ghosts}

-- the order of keys
abbrev pub key_order : Key → Key → Ordering
key_order = ghosts.cmp

-- whether the second key is the first
abbrev pub is_key : Key → Key → Bool
is_key k q = is_at (key_order k) q
