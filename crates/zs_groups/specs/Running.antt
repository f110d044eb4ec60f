-- What a run of the program says.
use Rattle.std.specs.Prelude.{ℕ, List, codes}
use Rattle.zs_keys.specs.Stream.{PutsOn}
use Rattle.zs_driving.specs.Driving.{Outlet, Supply, IsDone}
use Rattle.zs_driving.specs.Statuses.{RunsTo}
use Rattle.zs_core.specs.Types.{Settings}
use Rattle.zs_groups.specs.Language.{group_task, Goes}

-- the complaint about words
abbrev pub bad_words : List ℕ
bad_words = codes "bad words\n"

-- a status stands for an answer that the drive gives over that source and that sink
unfoldable pub Runs : Settings → ℕ → Supply → Supply → Outlet → Outlet → Outlet → Outlet → Type 0
Runs s status before after from to heard heard' =
    RunsTo (group_task s) (IsDone (group_task s) before.left after.left (λ output. PutsOn from.written output to.written) Goes) status before after from to heard heard'
