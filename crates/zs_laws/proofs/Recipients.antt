-- The list of a number is the test of every live subscriber.
use Rattle.std.proofs.Common.{◌≡◌, ℕ, List, Option, Some, None, refl, ◌∙◌, ap}
use Rattle.std.specs.Prelude.{option_map}
use Rattle.zs_keys.specs.Key.{Key as a_key}
use Rattle.zs_subscriptions.specs.declared.subscriber.SubRow.{SubRow}
use Rattle.zs_subscriptions.specs.Numbers.{key_at}
use Rattle.zs_subscriptions.specs.Recipients.{matches}
use Rattle.zs_world.specs.Keys.{numbers_for}
use Rattle.zs_model.specs.Past.{past_of}
use Rattle.zs_model.specs.HeldKeys.{mapped_text}
use Rattle.zs_standing.specs.Stands.{world_after}
use Rattle.zs_standing.specs.Laws.{ListsAreTests}
use Rattle.zs_standing.proofs.Keys.{mapped_is}
use Rattle.zs_standing.proofs.Stands.{standing}

by_text : (rows : List SubRow) (key : Option a_key)
    → option_map (λ (k : a_key). matches k.text rows) key ≡ option_map (λ (text : List ℕ). matches text rows) (option_map (λ (k : a_key). k.text) key)
by_text rows None = refl
by_text rows (Some key) = refl

pub lists_are_tests : ListsAreTests
lists_are_tests s h mapping n =
    by_text (world_after s h).entities.subs (key_at n (numbers_for mapping (world_after s h)))
    ∙ ap (option_map (λ (text : List ℕ). matches text (world_after s h).entities.subs)) (mapped_is (world_after s h) (past_of s h) mapping n (standing s h).known)
    ∙ ap (λ (rows : List SubRow). option_map (λ (text : List ℕ). matches text rows) (mapped_text mapping n (past_of s h))) (standing s h).live.subs.table
