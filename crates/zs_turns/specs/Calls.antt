-- Which handlers a turn calls, and with what.
use Rattle.std.specs.Prelude.{ℕ, is_some, List, [], ◌∷◌}
use Rattle.std.specs.List.{filter, flat_map}
use Rattle.zs_events.specs.declared.turn.Effect.{Effect}
use Rattle.zs_events.specs.declared.turn.Effect.TheVariants.{Send, Hand, End, Matching}
use Rattle.zs_events.specs.declared.turn.HandOver.{HandOver}
use Rattle.zs_events.specs.declared.turn.HandOver.TheVariants.{Sample, Reply, Query}
use Rattle.zs_events.specs.declared.turn.Kind.TheVariants.{Queryable, Listener}
use Rattle.zs_posts.specs.declared.key.Key.{Key}
use Rattle.zs_posts.specs.declared.key.Key.TheVariants.{Of}
use Rattle.zs_posts.specs.declared.call.Wanted.{Wanted}
use Rattle.zs_posts.specs.Calls.{handler_at}
use Rattle.zs_posts.specs.Posts.{Rows}
use Rattle.zs_turns.specs.declared.item.Item.{Item}
use Rattle.zs_turns.specs.declared.item.Item.TheVariants.{Sample as sample_item, Reply as reply_item, Query as query_item, Matching as matching_item}

-- whose handler is called with a hand-over
abbrev pub hand_key : HandOver → Key
hand_key (Sample kind id sample) = Of kind id
hand_key (Reply kind id reply) = Of kind id
hand_key (Query id value query) = Of Queryable id

-- what is handed with a hand-over of a session of this tag
abbrev pub hand_item : ℕ → HandOver → Item
hand_item tag (Sample kind id sample) = sample_item sample
hand_item tag (Reply kind id reply) = reply_item reply
hand_item tag (Query id value query) = query_item (record { data_of = query; value = value; tag = tag })

-- what is wanted of the handler that an effect calls
abbrev pub wanted_by : ℕ → Effect → List (Wanted Item)
wanted_by tag (Hand item) = record { key = hand_key item; item = hand_item tag item } ∷ []
wanted_by tag (Matching id matching) = record { key = Of Listener id; item = matching_item matching } ∷ []
wanted_by tag (Send message) = []
wanted_by tag (End kind id) = []

-- and of all handlers that effects call, in order
unfoldable pub wanted_of : ℕ → List Effect → List (Wanted Item)
wanted_of tag fx = flat_map (wanted_by tag) fx

module _ {H : Type 0} where
  -- what is wanted of handlers that are held
  abbrev pub held_of : Rows H → List (Wanted Item) → List (Wanted Item)
  held_of rows ws = filter (λ w. is_some (handler_at w.key rows)) ws

  -- and of those that one effect calls
  abbrev pub held_by : Rows H → ℕ → Effect → List (Wanted Item)
  held_by rows tag e = held_of rows (wanted_by tag e)
