-- The keys of told tokens by their numbers: words that no public contract needs.
use Rattle.std.specs.Prelude.{ℕ, ◌==◌, List, [], ◌∷◌, ◌++◌, Option, Some, None}
use Rattle.std.specs.List.{find, flat_map}
use Rattle.zs_keys.specs.Key.{Key}
use Rattle.zs_liveliness.specs.declared.remote_token.RemoteToken.{RemoteToken}

-- the key of a token, if there is one
abbrev pub key_in : Option RemoteToken → List Key
key_in None = []
key_in (Some t) = t.key ∷ []

-- the keys of the tokens of these numbers
abbrev pub keys_at : List RemoteToken → List ℕ → List Key
keys_at tokens numbers = flat_map (λ number. key_in (find (λ t. t.number == number) tokens)) numbers
