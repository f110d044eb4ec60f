-- Gets in the making, and the events that they are.
use Rattle.std.specs.Prelude.{ℕ, Bool, true, false, List, [], Option, Some, None}
use Rattle.std.specs.Str.{chars}
use Rattle.zs_wire.specs.declared.body.Value.{Value}
use Rattle.zs_wire.specs.declared.origin.SourceInfo.{SourceInfo}
use Rattle.zs_wire.specs.declared.quality.CongestionControl.TheVariants.{Block}
use Rattle.zs_wire.specs.declared.request.ConsolidationMode.TheVariants.{Auto}
use Rattle.zs_wire.specs.declared.request.QueryTarget.TheVariants.{BestMatching}
use Rattle.zs_sample.specs.Selector.{Selected}
use Rattle.zs_sample.specs.declared.locality.Locality.TheVariants.{Any}
use Rattle.zs_sample.specs.declared.query.ReplyKeyExpr.{ReplyKeyExpr}
use Rattle.zs_sample.specs.declared.query.ReplyKeyExpr.TheVariants.{Any as any_reply, MatchingQuery}
use Rattle.zs_events.specs.declared.chan.Chan.TheVariants.{Print}
use Rattle.zs_events.specs.declared.event.Event.{Event}
use Rattle.zs_events.specs.declared.event.Event.TheVariants.{Get, QuerierGet}
use Rattle.zs_events.specs.declared.inquiry.Inquiry.{Inquiry}
use Rattle.zs_events.specs.declared.inquiry.QuerySettings.{QuerySettings}
use Rattle.zs_events.specs.Updates.{default_encoding}
use Rattle.zs_cell.specs.Places.{SessionPlace}
use Rattle.zs_cell.specs.Keys.{key_arg}

-- a get of a session in the making: what it asks for, how it asks, what it tells, and who is handed the replies
pub record SessionGetSeen (H : Type 0) : Type 0 where
  pub session : SessionPlace
  pub selector : Selected
  pub settings : QuerySettings
  pub payload : Option (List (List ℕ))
  pub encoding : Option (List ℕ)
  pub source_info : Option SourceInfo
  pub attachment : Option (List (List ℕ))
  pub cancellation_token : Option ℕ
  pub handler : Option H

-- a get of a querier in the making
pub record QuerierGetSeen (H : Type 0) : Type 0 where
  pub session : SessionPlace
  pub id : ℕ
  pub parameters : List ℕ
  pub payload : Option (List (List ℕ))
  pub encoding : Option (List ℕ)
  pub source_info : Option SourceInfo
  pub attachment : Option (List (List ℕ))
  pub cancellation_token : Option ℕ
  pub handler : Option H

-- how a get asks where nothing is said
abbrev pub get_settings : QuerySettings
get_settings = record {
  destination = Any;
  target = BestMatching;
  consolidation = Auto;
  timeout = None;
  qos = record { priority = 5; congestion = Block; express = false };
  any_key = false;
}

-- whether replies are taken on any key, once that was said or not
abbrev pub takes_any : ReplyKeyExpr → Bool → Bool
takes_any any_reply before = true
takes_any MatchingQuery before = before

-- the value of a get: it has one where a payload or an encoding was given
abbrev pub value_of : Option (List (List ℕ)) → Option (List ℕ) → Option Value
value_of None None = None
value_of None (Some encoding) = Some (record { payload = []; encoding = encoding })
value_of (Some payload) None = Some (record { payload = payload; encoding = default_encoding })
value_of (Some payload) (Some encoding) = Some (record { payload = payload; encoding = encoding })

-- what a get asks, by what is said of it
abbrev pub inquiry_of : List ℕ → Option Value → Option SourceInfo → Option (List (List ℕ)) → Option ℕ → Inquiry
inquiry_of parameters value source attachment token =
    record { parameters = chars parameters; value = value; source = source; attachment = attachment; cancellation_token = token }

module _ {H : Type 0} where
  -- a get of which nothing else is said
  abbrev pub session_get : SessionPlace → Selected → SessionGetSeen H
  session_get session selector = record {
    session = session;
    selector = selector;
    settings = get_settings;
    payload = None;
    encoding = None;
    source_info = None;
    attachment = None;
    cancellation_token = None;
    handler = None;
  }

  abbrev pub querier_get : SessionPlace → ℕ → QuerierGetSeen H
  querier_get session id = record {
    session = session;
    id = id;
    parameters = [];
    payload = None;
    encoding = None;
    source_info = None;
    attachment = None;
    cancellation_token = None;
    handler = None;
  }

  -- what gets ask
  abbrev pub session_inquiry : SessionGetSeen H → Inquiry
  session_inquiry get =
      inquiry_of get.selector.parameters (value_of get.payload get.encoding) get.source_info get.attachment get.cancellation_token

  abbrev pub querier_inquiry : QuerierGetSeen H → Inquiry
  querier_inquiry get = inquiry_of get.parameters (value_of get.payload get.encoding) get.source_info get.attachment get.cancellation_token

  -- the events that gets are
  abbrev pub session_get_event : SessionGetSeen H → Event
  session_get_event get = Get (key_arg get.session.tag get.selector.key) get.settings (session_inquiry get) Print

  abbrev pub querier_get_event : QuerierGetSeen H → Event
  querier_get_event get = QuerierGet get.id (querier_inquiry get) Print
