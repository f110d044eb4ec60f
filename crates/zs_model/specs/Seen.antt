-- What is looked up for an event, and the tests of it.
use Rattle.std.specs.Prelude.{ℕ, Bool, false, not, ◌||◌, is_none, List, Option, Some, None, ◌&&◌}
use Rattle.zs_keys.specs.Text.{is_canonical}
use Rattle.zs_events.specs.Kinds.{NamedKey, OwnKey, WireKey, Row}

-- the text of its key, whether what it names can be named, whether what it claims of a number is so, whether the query value that it
-- names is unfinished, whether the cancellation token that it names was drawn, whether it asks with one that was taken, whether its
-- query takes no reply on its key, whether it lacks a number to draw, whether it means nothing here, and whether its key isn't looked at
pub record Sight : Type 0 where
  pub text : Option (List ℕ)
  pub lives : Bool
  pub claimed : Bool
  pub owed : Bool
  pub drawn : Bool
  pub cancelled : Bool
  pub disjoint : Bool
  pub lacks : Bool
  pub idle : Bool
  pub spared : Bool

-- an application's key that stands for no text
abbrev pub is_unheld : NamedKey → Option (List ℕ) → Bool
is_unheld (OwnKey key) text = is_none text
is_unheld key text = false

-- a key from the network that stands for no text
abbrev pub is_unresolved : NamedKey → Option (List ℕ) → Bool
is_unresolved (WireKey wire) text = is_none text
is_unresolved key text = false

-- a key that stands for a text which is no canonical key expression
abbrev pub is_bad : Option (List ℕ) → Bool
is_bad None = false
is_bad (Some text) = not (is_canonical text)

-- an event whose key is looked at and is no canonical key expression
abbrev pub is_bad_key : Sight → Bool
is_bad_key seen = not seen.spared && is_bad seen.text

-- an event that names a number which is not held, or not with the text that it claims, or what cannot be named, or a query value that
-- is not unfinished, or a cancellation token that was not drawn
abbrev pub is_not_found : Row → Sight → Bool
is_not_found row seen = not seen.drawn || not seen.owed || is_unheld row.key seen.text || not seen.lives || not seen.claimed

-- an event from the network with a number that stands for nothing, or that would tell of number 0
abbrev pub is_unknown : Row → Sight → Bool
is_unknown row seen = row.tells_zero || (not seen.spared && is_unresolved row.key seen.text)
