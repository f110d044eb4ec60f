-- When each refusal holds, told by the events before: each cause by itself, and the order in which they are tried.
use Rattle.std.specs.Prelude.{Bool, true, false, ◌&&◌, ◌||◌, not, List, [], ◌∷◌, Option, Some, None, if◌then◌else◌}
use Rattle.zs_events.specs.declared.event.Event.{Event}
use Rattle.zs_model.specs.declared.settings.Settings.{Settings}
use Rattle.zs_events.specs.declared.turn.Refusal.{Refusal}
use Rattle.zs_events.specs.declared.turn.Refusal.TheVariants.{SessionClosedError, NotFound, UnknownScope, BadKeyExpr, QueryCancelled, ReplyDisjoint, NotDeclared, IdsExhausted, Ignored}
use Rattle.zs_events.specs.Kinds.{Speaker, Application, Network, Row, asking_cancellation_token, cancellation_token_named, row_of}
use Rattle.zs_model.specs.Entry.{Entry, is_closed}
use Rattle.zs_model.specs.HeldKeys.{is_claimed, named_text}
use Rattle.zs_model.specs.Live.{names_some, live_queryables, to_gets_of}
use Rattle.zs_model.specs.Cancelling.{next_cancellation_token, is_drawn, is_any, is_taken}
use Rattle.zs_model.specs.Counters.{lacks_number, next_value}
use Rattle.zs_model.specs.Values.{met_by, values_now, lacks_values}
use Rattle.zs_model.specs.Answers.{is_owed, is_disjoint}
use Rattle.zs_model.specs.Gets.{open_now, is_idle}
use Rattle.zs_model.specs.Tokens.{remote_tokens, is_spared, is_pointless}
use Rattle.zs_model.specs.Matching.{remote_subscribers, remote_queryables, ends_unknown}
use Rattle.zs_model.specs.Seen.{Sight, is_not_found, is_unknown, is_bad_key}

-- an event that only an open session takes
abbrev pub wants_open : Speaker → Bool
wants_open Application = true
wants_open speaker = false

-- a message from the network
abbrev pub is_net : Speaker → Bool
is_net Network = true
is_net speaker = false

-- whether a refusal's cause holds of an event of that row
abbrev pub holds : Bool → Row → Sight → Refusal → Bool
holds closed row seen SessionClosedError = closed && wants_open row.says
holds closed row seen NotFound = not closed && is_not_found row seen
holds closed row seen UnknownScope = not closed && is_unknown row seen
holds closed row seen BadKeyExpr = not closed && is_bad_key seen
holds closed row seen QueryCancelled = not closed && seen.cancelled
holds closed row seen ReplyDisjoint = not closed && seen.disjoint
holds closed row seen NotDeclared = not closed && row.gives_part
holds closed row seen IdsExhausted = not closed && seen.lacks
holds closed row seen Ignored = if closed then is_net row.says else seen.idle

-- what the past says of an event
abbrev pub past_sight : Settings → List Entry → Event → Sight
past_sight s past e = record {
  text = named_text past e;
  lives = names_some past (row_of e).names;
  claimed = is_claimed past (row_of e).claims (named_text past e);
  owed = is_owed (values_now past) (row_of e).to_values;
  drawn = is_drawn (next_cancellation_token past) (cancellation_token_named (row_of e).to_gets (row_of e).to_liveliness);
  cancelled = is_any (λ token. is_taken token past) (asking_cancellation_token (row_of e).to_gets (row_of e).to_liveliness);
  disjoint = is_disjoint (values_now past) (row_of e).to_values (named_text past e);
  lacks =
      lacks_values (next_value past) (met_by (live_queryables past) (to_gets_of past e) (row_of e).to_values (named_text past e))
      || lacks_number s past (row_of e).draws (named_text past e);
  idle = is_pointless (row_of e).to_liveliness || ends_unknown (remote_subscribers past) (remote_queryables past) (row_of e).to_matching || is_idle (open_now s past) (row_of e).to_gets (named_text past e);
  spared = is_spared (remote_tokens s past) (row_of e).to_liveliness;
}

-- whether a refusal's cause holds of an event, behind these accepted events
abbrev pub has_cause : Settings → List Entry → Event → Refusal → Bool
has_cause s past e refusal = holds (is_closed past) (row_of e) (past_sight s past e) refusal

-- the refusals in the order in which their causes are tried
abbrev pub in_order : List Refusal
in_order =
    SessionClosedError ∷ NotFound ∷ UnknownScope ∷ BadKeyExpr ∷ QueryCancelled ∷ ReplyDisjoint ∷ NotDeclared ∷ IdsExhausted ∷ Ignored ∷ []

-- the first that passes a test, if one does
abbrev pub first_that : (Refusal → Bool) → List Refusal → Option Refusal
first_that test [] = None
first_that test (refusal ∷ more) = if test refusal then Some refusal else first_that test more

-- why an event is refused, if it is: the first cause in order that holds
abbrev pub refusal_of : Settings → List Entry → Event → Option Refusal
refusal_of s past e = first_that (has_cause s past e) in_order
