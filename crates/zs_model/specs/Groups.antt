-- Which entities share one network declaration.
use Rattle.std.specs.Prelude.{ℕ, Bool, true, false, ◌&&◌, ◌==◌, length, bytes_eq, List, [], ◌∷◌, map, filter, Option, Some, None, option_map, unwrap_or, if◌then◌else◌}
use Rattle.std.specs.List.{find}
use Rattle.std.specs.Option.{option_or}
use Rattle.zs_keys.specs.Key.{Key}
use Rattle.zs_keys.specs.Matching.{includes}
use Rattle.zs_tables.specs.Groups.{AllGroups, Group, groups_of, members_of, number_of_group, joined, left}
use Rattle.zs_tables.specs.Types.{GroupKind, Subscribers, Publishers, Queriers}
use Rattle.zs_subscriptions.specs.Recipients.{has_network}
use Rattle.zs_subscriptions.specs.declared.subscriber.SubRow.{SubRow}
use Rattle.zs_wire.specs.declared.message.Message.{Message}
use Rattle.zs_wire.specs.declared.message.Message.TheVariants.{DeclareSubscriber, UndeclareSubscriber, Interest}
use Rattle.zs_wire.specs.declared.interest.InterestMode.TheVariants.{CurrentFuture, Final}
use Rattle.zs_wire.specs.declared.interest.InterestWhat.TheVariants.{Subscribers as of_subscribers, Queryables as of_queryables, Nothing as of_nothing}
use Rattle.zs_wire.specs.declared.wire_expr.WireExpr.{WireExpr}
use Rattle.zs_events.specs.declared.turn.Effect.{Effect}
use Rattle.zs_events.specs.declared.turn.Effect.TheVariants.{Send}
use Rattle.zs_model.specs.declared.publisher.PubRow.{PubRow}
use Rattle.zs_model.specs.declared.querier.QuerierRow.{QuerierRow}
use Rattle.zs_model.specs.declared.settings.Settings.{Settings}
use Rattle.zs_model.specs.Entry.{Entry}
use Rattle.zs_model.specs.Live.{live_subs, live_pubs, live_queriers}

-- the first of these keys that includes a key
abbrev pub aggregate_of : List Key → List ℕ → Option Key
aggregate_of aggregates text = find (λ a. includes a.text text) aggregates

-- the text by which entities on a key share a declaration: that of this one, else their own
abbrev pub share_text : List Key → List ℕ → List ℕ
share_text aggregates text = unwrap_or (option_map (λ a. a.text) (aggregate_of aggregates text)) text

-- what groups see of an entity: its number, whether the network is told of it, and the text of its key
pub record Shared : Type 0 where
  pub id : ℕ
  pub is_announced : Bool
  pub text : List ℕ

-- whether an entity shares the declaration of a text
abbrev pub shares : List Key → List ℕ → Shared → Bool
shares aggregates text x = x.is_announced && bytes_eq (share_text aggregates x.text) text

-- the numbers of the entities that share it
abbrev pub sharing : List Key → List ℕ → List Shared → List ℕ
sharing aggregates text xs = map (λ x. x.id) (filter (shares aggregates text) xs)

-- a subscriber, a publisher and a querier as groups see them
abbrev pub sub_shared : SubRow → Shared
sub_shared row = record { id = row.id; is_announced = has_network row.origin; text = row.key.text }

abbrev pub pub_shared : PubRow → Shared
pub_shared row = record { id = row.id; is_announced = has_network row.settings.destination; text = row.key.text }

abbrev pub querier_shared : QuerierRow → Shared
querier_shared row = record { id = row.id; is_announced = has_network row.settings.destination; text = row.key.text }

-- nobody
abbrev pub is_empty : List ℕ → Bool
is_empty [] = true
is_empty (id ∷ ids) = false

-- no groups of any kind
abbrev pub no_groups : AllGroups
no_groups = record { subscribers = []; publishers = []; queriers = [] }

-- an entity joins the group of its text, if the network is told of it, and leaves it
abbrev pub joined_by : List Key → Shared → List Group → List Group
joined_by aggregates x gs = if x.is_announced then joined (share_text aggregates x.text) x.id gs else gs

abbrev pub left_by : List Key → Shared → List Group → List Group
left_by aggregates x gs = if x.is_announced then left (share_text aggregates x.text) x.id gs else gs

-- so does one that is found
abbrev pub left_found : List Key → Option Shared → List Group → List Group
left_found aggregates None gs = gs
left_found aggregates (Some x) gs = left_by aggregates x gs

-- the aggregates of a kind: queriers share by their own keys alone
abbrev pub aggregates_of : GroupKind → Settings → List Key
aggregates_of Subscribers s = s.aggregated_subscribers
aggregates_of Publishers s = s.aggregated_publishers
aggregates_of Queriers s = []

-- the live entities of a kind as groups see them
abbrev pub live_shared : GroupKind → List Entry → List Shared
live_shared Subscribers past = map sub_shared (live_subs past)
live_shared Publishers past = map pub_shared (live_pubs past)
live_shared Queriers past = map querier_shared (live_queriers past)

-- the group of a text: the live entities of the kind that share its declaration
abbrev pub group : Settings → GroupKind → List ℕ → List Entry → List ℕ
group s kind text past = sharing (aggregates_of kind s) text (live_shared kind past)

-- its number: that of the first that joined it since it was last empty
abbrev pub group_number : Settings → GroupKind → List ℕ → List Entry → Option ℕ
group_number s kind text [] = None
group_number s kind text (x ∷ past) =
    if is_empty (group s kind text (x ∷ past)) then None else option_or (group_number s kind text past) x.number

-- what the groups of a kind are at a moment: their aggregates, and the members and the number of the group of a text
pub record Company : Type 0 where
  pub aggregates : List Key
  pub members : List ℕ → List ℕ
  pub number : List ℕ → Option ℕ

-- told by the events alone, and by the table
abbrev pub company_of : Settings → GroupKind → List Entry → Company
company_of s kind past = record {
  aggregates = aggregates_of kind s;
  members = λ text. group s kind text past;
  number = λ text. group_number s kind text past;
}

abbrev pub company_at : Settings → AllGroups → GroupKind → Company
company_at s gs kind = record {
  aggregates = aggregates_of kind s;
  members = λ text. members_of text (groups_of kind gs);
  number = λ text. number_of_group text (groups_of kind gs);
}

-- whether an entity that joins is the first of its group, which the network is told of
abbrev pub joins_first : Company → Shared → Bool
joins_first c x = x.is_announced && length (c.members (share_text c.aggregates x.text)) == 0

-- the number of the group that an entity leaves as its last member, if the network was told of it
abbrev pub last_number : Company → Shared → Option ℕ
last_number c x =
    if x.is_announced && length (c.members (share_text c.aggregates x.text)) == 1 then c.number (share_text c.aggregates x.text) else None

-- a message, where the test holds
abbrev pub sends_if : Bool → Message → List Effect
sends_if true message = Send message ∷ []
sends_if false message = []

abbrev pub last_sends : (ℕ → Message) → Option ℕ → List Effect
last_sends end None = []
last_sends end (Some number) = Send (end number) ∷ []

-- what is sent where an entity leaves, if it is there
abbrev pub leaving : Company → (ℕ → Message) → Option Shared → List Effect
leaving c end None = []
leaving c end (Some x) = last_sends end (last_number c x)

-- the end of a group's declaration
abbrev pub subscriber_end : ℕ → Message
subscriber_end number = UndeclareSubscriber number

abbrev pub interest_end : ℕ → Message
interest_end number = Interest number Final of_subscribers None

abbrev pub querier_end : ℕ → Message
querier_end number = Interest number Final of_nothing None

-- the declaration of a group of a kind, by its number and the form of its key, and its end
abbrev pub declaration_by : GroupKind → ℕ → WireExpr → Message
declaration_by Subscribers id wire = DeclareSubscriber id wire
declaration_by Publishers id wire = Interest id CurrentFuture of_subscribers (Some wire)
declaration_by Queriers id wire = Interest id CurrentFuture of_queryables (Some wire)

abbrev pub end_by : GroupKind → ℕ → Message
end_by Subscribers = subscriber_end
end_by Publishers = interest_end
end_by Queriers = querier_end
