-- A law over whole scripts.
use Rattle.std.specs.Prelude.{ℕ, List}
use Rattle.zs_core.specs.Types.{Settings}
use Rattle.zs_core.specs.Received.{AreSpelled}
use Rattle.zs_session.specs.Script.{script, text}
use Rattle.zs_session.specs.Telling.{Told, told}

-- the text of every script tells it, where the texts of the settings' aggregates are UTF-8, as those of keys are
abbrev pub TextTells : Type 0
TextTells = (s : Settings) (input : List ℕ) → AreSpelled s → Told s (script input) (told (text s (script input)))
