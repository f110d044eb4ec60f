-- The numbers of declared keys.
use Rattle.std.specs.Prelude.{◌≡◌, ℕ, ◌<◌, Bool, List, length, Some}
use Rattle.zs_keys.specs.Key.{Key}
use Rattle.zs_events.specs.declared.event.Event.{Event}
use Rattle.zs_events.specs.declared.event.Event.TheVariants.{Key as declare_key}
use Rattle.zs_events.specs.declared.key_arg.KeyArg.{KeyArg}
use Rattle.zs_events.specs.declared.turn.Answer.TheVariants.{Ok as accepted}
use Rattle.zs_model.specs.declared.settings.Settings.{Settings}
use Rattle.zs_model.specs.Settings.{last_key}
use Rattle.zs_model.specs.Effects.{effects}
use Rattle.zs_books.specs.Callers.{CallerSeen}
use Rattle.zs_held.specs.Receipts.{ReceiptSeen}
use Rattle.zs_cell.specs.Keys.{DeclaresKey}

-- the number that the declaration of a key is answered stands below the last
abbrev pub KeyNumbersAreSmall : Type 0
KeyNumbersAreSmall = (s : Settings) (h : List Event) (key : KeyArg) (n : ℕ) → (effects s h (declare_key key)).answer ≡ accepted (Some n) → n < last_key

-- so a key that a session declares comes back declared, as a whole, by that session, under the number that was answered
abbrev pub KeysComeBackDeclared : Type 0
KeysComeBackDeclared =
    (s : Settings) (evicts : Bool) (old new : CallerSeen ReceiptSeen) (tag : ℕ) (key made : Key) (declares : DeclaresKey s evicts old new tag key made)
    → made.declaration ≡ Some (record { number = declares.number; prefix_len = length key.text; tag = tag })
