-- What a run of the program says: its status stands for an answer of the drive, and its complaint is the one for it.
use Rattle.std.specs.Prelude.{◌≡◌, ◌⊎◌, ◌≤◌, ℕ, List, codes}
use Rattle.zs_keys.specs.Stream.{HasRisen, PutsOn}
use Rattle.zs_lines.specs.Writing.{PutsFrontOn}
use Rattle.zs_driving.specs.declared.errors.DriveError.{DriveError}
use Rattle.zs_driving.specs.Driving.{Outlet, Supply, IsDone as IsDoneBy}
use Rattle.zs_driving.specs.Languages.{events_of}
use Rattle.zs_driving.specs.Errors.{status_of, complaint_of}
use Rattle.zs_driving.specs.Statuses.{Complains, RunsTo}
use Rattle.zs_core.specs.Types.{Settings}
use Rattle.zs_delivery.specs.Linked.{linked_after}
use Rattle.zs_delivery.specs.Delivery.{BothHand}
use Rattle.zs_link.specs.Mode.{link_task, link_language, Goes}
use Rattle.zs_link.specs.Laws.{AreRows}
use Rattle.zs_session.specs.Driving.{IsDone, task}
use Rattle.zs_session.specs.Soak.{soak_report}
use Rattle.zs_session.specs.declared.soak.Soak.{Soak}

-- the complaint about words that are none of the program's
abbrev pub bad_words : List ℕ
bad_words = codes "bad words\n"

-- a status stands for an answer that the drive gives over that source and that sink
abbrev pub Runs : Settings → ℕ → Supply → Supply → Outlet → Outlet → Outlet → Outlet → Type 0
Runs s status before after from to heard heard' =
    RunsTo (task s) (IsDone s before.left after.left (λ output. PutsOn from.written output to.written)) status before after from to heard heard'

-- the same of a run of linked sessions. It is closed, as what is said of deliveries is, so that whoever calls a run doesn't look into it.
unfoldable pub Links : Settings → ℕ → Supply → Supply → Outlet → Outlet → Outlet → Outlet → Type 0
Links s status before after from to heard heard' =
    RunsTo (link_task s) (IsDoneBy (link_task s) before.left after.left (λ output. PutsOn from.written output to.written) Goes) status before after from to heard heard'

-- Behind any lines of linked sessions, the newest first: where the oldest message that waits is a push, it is that of an accepted
-- publication, and an open receiver hands its sample to exactly those subscribers that take it and meet its key.
unfoldable pub Hands : Settings → Type 0
Hands s = (rows : List (List ℕ)) → AreRows rows
    → BothHand s (linked_after s (events_of (link_language s) rows)).a (linked_after s (events_of (link_language s) rows)).b

-- a status of the mode that makes its script: 0 where its report was written, and else 7 or 8, with a front of it
pub record Soaks (soak : Soak) (status : ℕ) (from to heard heard' : Outlet) : Type 0 where
  pub is_one : (status ≡ 0) ⊎ ((status ≡ 7) ⊎ (status ≡ 8))
  pub whole : status ≡ 0 → PutsOn from.written (soak_report soak) to.written
  pub front : PutsFrontOn from.written (soak_report soak) to.written
  pub write_fault : status ≡ 7 → HasRisen from.faults to.faults
  pub sink_later : from.faults ≤ to.faults
  pub complains : (error : DriveError) → status ≡ status_of error → Complains heard heard' (complaint_of error)
