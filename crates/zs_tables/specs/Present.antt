-- How many match, counted apart: words that no public contract needs.
use Rattle.std.specs.Prelude.{ℕ, Bool, true, false, List, length, if◌then◌else◌}
use Rattle.std.specs.List.{count_by}
use Rattle.zs_keys.specs.Matching.{intersects}
use Rattle.zs_tables.specs.declared.listener.Sought.{Sought}
use Rattle.zs_tables.specs.declared.listener.Sought.TheVariants.{Subscribers, Queryables, CompleteQueryables}
use Rattle.zs_tables.specs.declared.listener.ListenerRow.{ListenerRow}
use Rattle.zs_subscriptions.specs.declared.subscriber.SubRow.{SubRow}
use Rattle.zs_tables.specs.declared.queryable.QueryableRow.{QueryableRow}
use Rattle.zs_subscriptions.specs.Recipients.{takes}
use Rattle.zs_tables.specs.Queryables.{answers_for}
use Rattle.zs_tables.specs.RemoteEntities.{RemoteEntities, answers}

-- of this session
abbrev pub own_sought : Sought → List ℕ → List SubRow → List QueryableRow → ℕ
own_sought Subscribers text subs queryables = count_by (λ row. intersects text row.key.text) subs
own_sought Queryables text subs queryables = count_by (answers_for false text) queryables
own_sought CompleteQueryables text subs queryables = count_by (answers_for true text) queryables

abbrev pub own_count : List SubRow → List QueryableRow → ListenerRow → ℕ
own_count subs queryables row = if takes true row.destination then own_sought row.sought row.key.text subs queryables else 0

-- of the other side
abbrev pub remote_sought : Sought → List ℕ → RemoteEntities → ℕ
remote_sought Subscribers text told = count_by (λ row. intersects row.key.text text) told.subs
remote_sought Queryables text told = count_by (answers false text) told.queryables
remote_sought CompleteQueryables text told = count_by (answers true text) told.queryables

abbrev pub remote_count : RemoteEntities → ListenerRow → ℕ
remote_count told row = if takes false row.destination then remote_sought row.sought row.key.text told else 0
