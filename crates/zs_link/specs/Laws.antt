-- Who is handed what is delivered, behind the lines of a run.
use Rattle.std.specs.Prelude.{◌≡◌, ℕ, true, List}
use Rattle.std.specs.List.{AllByRecursion}
use Rattle.zs_core.specs.Types.{Settings}
use Rattle.zs_core.specs.Received.{AreSpelled}
use Rattle.zs_script.specs.Plain.{has_no_line_feed}
use Rattle.zs_driving.specs.Languages.{events_of}
use Rattle.zs_delivery.specs.Linked.{linked_after}
use Rattle.zs_delivery.specs.Delivery.{BothHand}
use Rattle.zs_link.specs.Mode.{link_language}

-- rows as a run reads them: none has a line feed
abbrev pub AreRows : List (List ℕ) → Type 0
AreRows rows = AllByRecursion (λ row. has_no_line_feed row ≡ true) rows

-- behind the lines that rows are, the newest first, both sides hand out what is delivered. The texts of the settings' aggregates are UTF-8
abbrev pub LinesAreHanded : Type 0
LinesAreHanded =
    (s : Settings) (rows : List (List ℕ)) → AreSpelled s → AreRows rows
    → BothHand s (linked_after s (events_of (link_language s) rows)).a (linked_after s (events_of (link_language s) rows)).b
