-- Liveliness tokens that the other side told, and the subscribers to them.
use Rattle.std.specs.Prelude.{◌&&◌, ◌||◌, Bool, not, ℕ, List, map, filter}
use Rattle.zs_keys.specs.Key.{Key}
use Rattle.zs_keys.specs.Matching.{intersects}
pub use Rattle.zs_keyed.specs.Ascending.{put_new}
use Rattle.zs_liveliness.specs.declared.remote_token.RemoteToken.{RemoteToken}
use Rattle.zs_liveliness.specs.declared.liveliness_sub.LivelinessSub.{LivelinessSub}

-- the keys of the tokens that a key meets, in the order of their numbers
abbrev pub met_keys : List ℕ → List RemoteToken → List Key
met_keys text tokens = map (λ t. t.key) (filter (λ t. intersects text t.key.text) tokens)

-- whether a subscriber hears of tokens, whatever its key: of one that was there before it only where it wants those
abbrev pub wants : Bool → LivelinessSub → Bool
wants before s = s.history || not before

-- whether it hears of a token on this text
abbrev pub hears : Bool → List ℕ → LivelinessSub → Bool
hears before text s = wants before s && intersects text s.key.text

-- the ids of the subscribers that do
abbrev pub hearers : Bool → List ℕ → List LivelinessSub → List ℕ
hearers before text subs = map (λ s. s.id) (filter (hears before text) subs)
