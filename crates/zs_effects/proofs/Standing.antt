-- What effects are read off stands in ascending order.
use Rattle.std.proofs.Common.{List}
use Rattle.zs_subscriptions.specs.Ascending.{Ascend}
use Rattle.zs_tables.specs.Types.{LivelinessGet as TokensGet, LivelinessSub}
use Rattle.zs_tables.specs.declared.queryable.QueryableRow.{QueryableRow}
use Rattle.zs_subscriptions.specs.declared.subscriber.SubRow.{SubRow}
use Rattle.zs_subscriptions.proofs.Ascending.{ascend_filter}
use Rattle.zs_query.specs.declared.open_get.OpenGet.{OpenGet}
use Rattle.zs_query.proofs.Hearing.{open_ascend}
use Rattle.zs_events.specs.declared.event.Event.{Event}
use Rattle.zs_events.specs.declared.turn.Kind.TheVariants.{Subscriber, Queryable, LivelinessSubscriber}
use Rattle.zs_model.specs.declared.settings.Settings.{Settings}
use Rattle.zs_model.specs.Gets.{asked}
use Rattle.zs_model.specs.Live.{declared, is_live}
use Rattle.zs_model.specs.Liveliness.{lsub_row}
use Rattle.zs_model.specs.Past.{past_of}
use Rattle.zs_model.specs.Queryables.{queryable_row}
use Rattle.zs_model.specs.Subscribers.{sub_row}
use Rattle.zs_model.specs.Effects.{Known, known_of}
use Rattle.zs_standing.proofs.Stands.{standing}
use Rattle.zs_effects.proofs.Rows.{askings_below}

-- the live subscribers, queryables and subscribers to liveliness, and the open gets, those of tokens too
pub record AreStanding (known : Known) : Type 0 where
  pub subs : Ascend (λ (row : SubRow). row.id) known.subs
  pub queryables : Ascend (λ (row : QueryableRow). row.id) known.queryables
  pub lsubs : Ascend (λ (row : LivelinessSub). row.id) known.watch.subs
  pub gets : Ascend (λ (g : OpenGet). g.row.number) known.gets
  pub asking : Ascend (λ (g : TokensGet). g.number) known.watch.gets

pub all_stand : (s : Settings) (h : List Event) → AreStanding (known_of s (past_of s h))
all_stand s h =
    let past = past_of s h in
    record {
      subs = ascend_filter (λ (row : SubRow). row.id) (λ row. is_live Subscriber row.id past) (declared sub_row past) (standing s h).live.subs.ascend;
      queryables = ascend_filter (λ (row : QueryableRow). row.id) (λ row. is_live Queryable row.id past) (declared queryable_row past) (standing s h).live.queryables.ascend;
      lsubs = ascend_filter (λ (row : LivelinessSub). row.id) (λ row. is_live LivelinessSubscriber row.id past) (declared lsub_row past) (standing s h).live.lsubs.ascend;
      gets = open_ascend (asked s past) (standing s h).asking.ascend;
      asking = (askings_below s h).ascend;
    }
