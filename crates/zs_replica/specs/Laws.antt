-- What the stores have behind the lines of a run.
use Rattle.std.specs.Prelude.{◌≡◌, ℕ, List}
use Rattle.zs_core.specs.Types.{Settings}
use Rattle.zs_core.specs.Settings.{default_settings}
use Rattle.zs_core.specs.Received.{AreSpelled}
use Rattle.zs_driving.specs.Languages.{events_of}
use Rattle.zs_delivery.specs.declared.side.LinkSide.{LinkSide}
use Rattle.zs_delivery.specs.declared.side.LinkSide.TheVariants.{A, B}
use Rattle.zs_delivery.specs.Linked.{LinkLine, other, linked_after}
use Rattle.zs_arrivals.specs.Arrivals.{pushes}
use Rattle.zs_store.specs.Store.{Write}
use Rattle.zs_store.specs.Laws.{HoldsBest}
use Rattle.zs_replica_lines.specs.Lines.{all_keys}
use Rattle.zs_replicas.specs.Replicas.{Starts, first_events, took}
use Rattle.zs_replica.specs.Told.{side_of, opposite, store_at}
use Rattle.zs_replica.specs.Language.{replica_language, links_behind}

-- what a side took behind these: what its own application wrote, and what the other's did, but for the newest, whose pushes wait
abbrev pub took_at : Settings → LinkSide → List LinkLine → List Write
took_at s side links = took (side_of side (linked_after s links)) (side_of (opposite side) (linked_after s links))

-- each store has at each key the greatest entry of what its side took, and no other key; and where no push waits, both are equal
pub record BothHold (s : Settings) (links : List LinkLine) : Type 0 where
  pub each : (side : LinkSide) → HoldsBest (took_at s side links) (store_at s side links)
  pub same : pushes (side_of A (linked_after s links)).waiting ≡ 0 → pushes (side_of B (linked_after s links)).waiting ≡ 0 → store_at s A links ≡ store_at s B links

-- so it is behind the lines that any rows are. The texts of the settings' aggregates are spelled with characters
abbrev pub DumpsShowBest : Type 0
DumpsShowBest =
    (s : Settings) (rows : List (List ℕ)) → AreSpelled s → Starts s all_keys (first_events all_keys) → Starts (other s) all_keys (first_events all_keys)
    → BothHold s (links_behind s (events_of (replica_language s) rows))

-- so it is behind the lines of every run of the program
abbrev pub RunsShowBest : Type 0
RunsShowBest = (rows : List (List ℕ)) → BothHold default_settings (links_behind default_settings (events_of (replica_language default_settings) rows))
