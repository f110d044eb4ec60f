-- The sorts of entities, by number.
use Rattle.std.specs.Prelude.{ℕ, ◌==◌, if◌then◌else◌, Option, None, Some}
use Rattle.zs_events.specs.declared.entity_kind.EntityKind.{EntityKind}
use Rattle.zs_events.specs.declared.entity_kind.EntityKind.TheVariants as entity
use Rattle.zs_events.specs.declared.entity_kind.BackgroundKind.{BackgroundKind}
use Rattle.zs_events.specs.declared.entity_kind.BackgroundKind.TheVariants as background
use Rattle.zs_events.specs.declared.entity_kind.ParentKind.{ParentKind}
use Rattle.zs_events.specs.declared.entity_kind.ParentKind.TheVariants as parent
use Rattle.zs_events.specs.declared.turn.Kind.{Kind}
use Rattle.zs_events.specs.declared.turn.Kind.TheVariants.{Subscriber, LivelinessSubscriber, Publisher, Queryable, Querier, Token, Listener, Get, LivelinessGet}

-- the number of a sort
abbrev pub kind_number : Kind → ℕ
kind_number Subscriber = 1
kind_number LivelinessSubscriber = 2
kind_number Publisher = 3
kind_number Queryable = 4
kind_number Querier = 5
kind_number Token = 6
kind_number Listener = 7
kind_number Get = 8
kind_number LivelinessGet = 9

-- those that can be undeclared, by the same numbers
abbrev pub entity_of : ℕ → Option EntityKind
entity_of n =
    if n == 1 then Some entity.Sub else
    if n == 2 then Some entity.Lsub else
    if n == 3 then Some entity.Pub else
    if n == 4 then Some entity.Queryable else
    if n == 5 then Some entity.Querier else
    if n == 6 then Some entity.Token else
    if n == 7 then Some entity.Listener else None

-- those that can be left to themselves
abbrev pub background_of : ℕ → Option BackgroundKind
background_of n =
    if n == 1 then Some background.Sub else
    if n == 2 then Some background.Lsub else
    if n == 4 then Some background.Queryable else
    if n == 7 then Some background.Listener else None

-- and those whose matching can be asked for
abbrev pub parent_of : ℕ → Option ParentKind
parent_of n =
    if n == 3 then Some parent.Pub else
    if n == 5 then Some parent.Querier else None
