-- What a change of the cancellation tokens makes of them and of the gets.
use Rattle.zs_model.specs.Cancelling.{Cancelling}
use Rattle.std.specs.Prelude.{◌+◌}
use Rattle.zs_subscriptions.specs.Ascending.{placed_by}
use Rattle.zs_query.specs.GetTable.{Asking, without_cancellation_token}
use Rattle.zs_world.specs.declared.change.CancellationChange.{CancellationChange}
use Rattle.zs_world.specs.declared.change.CancellationChange.TheVariants.{Draw, Take}

-- the tokens behind a change of them, and the gets: those of a cancellation token that is taken end
abbrev pub cancelling_after : CancellationChange → Cancelling → Cancelling
cancelling_after Draw c = record c { next = c.next + 1 }
cancelling_after (Take cancellation_token) c = record c { taken = placed_by (λ n. n) cancellation_token c.taken }

abbrev pub asking_cancelled : CancellationChange → Asking → Asking
asking_cancelled Draw a = a
asking_cancelled (Take cancellation_token) a = without_cancellation_token cancellation_token a
