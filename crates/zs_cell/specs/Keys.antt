-- Keys, as a session is given them and gives them back.
use Rattle.std.specs.Prelude.{◌≡◌, ℕ, ◌==◌, ◌&&◌, Bool, true, false, not, nat_le, List, length, Option, Some, None, if◌then◌else◌}
use Rattle.std.specs.Str.{chars}
use Rattle.zs_keys.specs.Key.{Key}
use Rattle.zs_keys.specs.declared.declaration.Declared.{Declared}
use Rattle.zs_events.specs.declared.event.Event.TheVariants.{Key as declare_key}
use Rattle.zs_events.specs.declared.key_arg.KeyArg.{KeyArg}
use Rattle.zs_events.specs.declared.key_arg.KeyArg.TheVariants.{Text, Declared as declared_text}
use Rattle.zs_core.specs.Types.{Settings}
use Rattle.zs_books.specs.Callers.{CallerSeen}
use Rattle.zs_held.specs.Receipts.{ReceiptSeen}
use Rattle.zs_cell.specs.Steps.{Accepts}

-- a text with the number under which the session of that tag declared it, if it did
abbrev pub declared_arg : ℕ → List ℕ → Option Declared → KeyArg
declared_arg tag text None = Text text
declared_arg tag text (Some declared) =
    if declared.tag == tag then declared_text text declared.number declared.prefix_len else Text text

-- a key as the session of that tag is given it: a declaration of another session says nothing
abbrev pub key_arg : ℕ → Key → KeyArg
key_arg tag key = declared_arg tag (chars key.text) key.declaration

-- how a session of that tag declares a whole text under a number: numbers of keys have 16 bits
abbrev pub declaration_of : ℕ → List ℕ → ℕ → Option Declared
declaration_of tag text number = if nat_le number 65535 then Some (record { number = number; prefix_len = length text; tag = tag }) else None

-- the session took the declaration of a key and accepted it: the key comes back, declared under the number that was answered
pub record DeclaresKey (s : Settings) (evicts : Bool) (old new : CallerSeen ReceiptSeen) (tag : ℕ) (key made : Key) : Type 0 where
  pub number : ℕ
  pub accepts : Accepts s evicts old new (declare_key (key_arg tag key)) false (Some number)
  pub made_is : made ≡ record key { declaration = declaration_of tag key.text number }

-- whether a declaration is one of a whole text of that length, by a session of another tag
abbrev pub is_of_another : ℕ → ℕ → Option Declared → Bool
is_of_another tag len None = false
is_of_another tag len (Some declared) = (declared.prefix_len == len) && not (declared.tag == tag)

-- whether another session declared the whole key
abbrev pub is_foreign : ℕ → Key → Bool
is_foreign tag key = is_of_another tag (length key.text) key.declaration
